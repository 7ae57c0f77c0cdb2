use Rattle.std.proofs.Common.{rules, sym, ◌≡◌}
use Rattle.fa_ledger.specs.declared.operation.Outcome.TheVariants.{Succeeds}
use Rattle.fa_tree.proofs.so_far.note_answered.Goals as goal

pub returns-in-List-Succeeds : goal.returns-in-List-Succeeds
returns-in-List-Succeeds c =
    let at = c.in-List-Succeeds in
    let done : at.field-0.outcome ≡ Succeeds at.entries = search rules in
    rw (sym c.operation-operation.ensures, at.is, done) c.note_entries.ensures
