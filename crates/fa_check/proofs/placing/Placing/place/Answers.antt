use Rattle.std.proofs.Common.{◌∷◌, [], ◌++◌, List, subst}
use Rattle.std.specs.Prelude.{OnOk, IfErr}
use Rattle.fa_ledger.specs.declared.calls.Calls.{Calls}
use Rattle.fa_tree.specs.State.{TreeState}
use Rattle.fa_order.specs.declared.entry.Entry.{Entry}
use Rattle.fa_check.specs.Replays.{IsReplayed, NextFails}
use Rattle.fa_check.proofs.placing.Placing.place.Goals as goal

pub returns-clause-placed : goal.returns-clause-placed
returns-clause-placed c =
    subst (λ (calls : Calls). OnOk c.place_in.result ((first : TreeState) (es : List Entry) → IsReplayed calls first c.args.tree.now es c.args.self.now → IsReplayed calls first c.place_in.new.tree (es ++ c.args.entry ∷ []) c.place_in.new.self))
    c.new-replay.ensures c.place_in.ensures.placed

pub returns-clause-refused : goal.returns-clause-refused
returns-clause-refused c =
    subst (λ (calls : Calls). IfErr c.place_in.result (NextFails calls c.args.tree.now c.args.entry c.args.self.now)) c.new-replay.ensures c.place_in.ensures.refused
