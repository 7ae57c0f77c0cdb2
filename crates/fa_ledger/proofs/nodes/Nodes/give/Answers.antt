use Rattle.std.proofs.Common.{take, arith}
use Rattle.std.proofs.lemmas.List.Folds.{list_any_at}
use Rattle.fa_ledger.specs.parts.Steps.{is_new}
use Rattle.fa_ledger.proofs.GivingLemmas.{name_new_before}
use Rattle.fa_ledger.proofs.nodes.Nodes.give.Goals as goal

pub give_one-requires-clause-room : goal.give_one-requires-clause-room
give_one-requires-clause-room c = λ new.
    let old = name_new_before c.args.at c.args.self.now.known.entries c.loop-name.self.known.entries (take c.loop-name.name-index c.args.names.now) _ c.loop-name.invariant.0 new in
    let room = c.loop-name.invariant.1 (list_any_at (is_new c.args.self.now.known.entries) c.args.names.now c.loop-name.name-index _ c.loop-name-test.true old) in
    omega (arith, room, c.loop-name-test.true)
