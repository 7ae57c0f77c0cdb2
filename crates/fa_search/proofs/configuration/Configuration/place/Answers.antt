use Rattle.std.proofs.Common.{ap, ◌∙◌}
use Rattle.std.proofs.lemmas.Result.{err_from_is_err_and}
use Rattle.fa_tree.specs.State.{TreeState}
use Rattle.fa_search.specs.parts.Configurations.{PlainConfiguration}
use Rattle.fa_search.proofs.PlacedLemmas.{placed_steps, placed_refused, noted_placed}
use Rattle.fa_search.proofs.configuration.Configuration.place.Goals as goal

pub returns-in_err-step_in-clause-refused : goal.returns-in_err-step_in-clause-refused
returns-in_err-step_in-clause-refused c =
    let p = err_from_is_err_and c.from_residual.result c.from_residual.ensures.1 in
    let left : TreeState → PlainConfiguration = λ tree. record { placed = c.self.inside.placed.keys; tree = tree; entries = c.self.inside.entries.items } in
    rw (p.1, p.2)
    (placed_refused c.args.replay.now c.args.place c.args.entry c.requires c.args.self.now (left c.step_in.new.self) c.self.inside.tree c.in_err-step_in.field-0.0
    (ap (λ (x : PlainConfiguration). x.tree) c.self.view_is) (ap left c.in_err-step_in.ensures.unchanged ∙ c.self.view_is) c.in_err-step_in.ensures.refused)

pub returns-clause-placed : goal.returns-clause-placed
returns-clause-placed c = λ messages is.
    let stepped : PlainConfiguration = record { placed = c.self.inside.placed.keys; tree = c.step_in.new.self; entries = c.self.inside.entries.items } in
    noted_placed messages c.args.entry c.args.self.now stepped c.note.new.self c.self.inside.tree (ap (λ (x : PlainConfiguration). x.tree) c.self.view_is) (ap (λ (x : PlainConfiguration). x.placed) c.self.view_is)
    (ap (λ (x : PlainConfiguration). x.entries) c.self.view_is) (placed_steps c.args.replay.now c.args.place c.args.entry c.requires c.self.inside.tree c.step_in.new.self c.in_ok-step_in.ensures.steps messages is)
    c.in_ok-note.ensures.placed c.in_ok-note.ensures.entries c.in_ok-note.ensures.tree
