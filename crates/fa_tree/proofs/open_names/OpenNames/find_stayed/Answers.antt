use Rattle.std.proofs.Common.{◌<◌, false, length, ap, arith}
use Rattle.std.specs.Fn.{FnReturnsAt}
use Rattle.fa_tree.proofs.TellingLemmas.{none_stayed}
use Rattle.fa_tree.proofs.open_names.OpenNames.find_stayed.Goals as goal

pub returns-clause-none : goal.returns-clause-none
returns-clause-none g c =
    let o = c.args.self.now in
    let long = ap length c.oldest-index-items.ensures in
    none_stayed o.directory o.at o.slots.now.table.entries (λ name. FnReturnsAt g.F.Fn c.args.is_sought name false) o.slots.now.members.table.entries o.slots.now.complete o.old_places o.later
    (λ k within. let done : k < c.loop-index.index-index = omega (arith, long) in c.loop-index.invariant k done)
