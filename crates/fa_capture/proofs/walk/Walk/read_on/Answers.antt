use Rattle.std.proofs.Common.{ap, sym, ◌∙◌, ◌++◌, List, ℕ}
use Rattle.fa_capture.specs.Walks.{PlainWalk}
use Rattle.fa_capture.proofs.ArrivalLemmas.{over_there}
use Rattle.fa_capture.proofs.walk.Walk.read_on.Goals as goal

pub returns-clause-read : goal.returns-clause-read
returns-clause-read c =
    let on = c.first_failure-code.ensures.read in (
      on,
      over_there c.self.inside.left.now on.over c.self-2.inside.left.now
          (ap (λ (w : PlainWalk). w.left) c.self.view_is ∙ on.left ∙ ap (λ (x : List ℕ). on.over ++ x) (sym (ap (λ (w : PlainWalk). w.left) c.self-2.view_is))),
    )
