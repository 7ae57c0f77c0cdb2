use Rattle.std.proofs.Common.{sym, subst, refl}
use Rattle.fa_capture.specs.Walks.{HaveRead}
use Rattle.fa_capture.specs.parts.Walks.{HasRead, walk_behind}
use Rattle.fa_capture.proofs.StopLemmas.{left_within, some_read, stops}
use Rattle.fa_capture.proofs.walk.Walk.into_stop.Goals as goal

pub overflow_sub-result : goal.overflow_sub-result
overflow_sub-result c =
    left_within c.args.bytes.now (walk_behind c.self.inside.so_far c.self.inside.left.now)
    (subst (HasRead c.args.bytes.now) (sym c.self.view_is) (some_read c.args.bytes.now c.args.self c.first_failure-code.new.self c.first_failure-code.ensures.read c.requires))

pub returns : goal.returns
returns c =
    stops c.args.bytes.now (walk_behind c.self.inside.so_far c.self.inside.left.now) _
    (subst (HasRead c.args.bytes.now) (sym c.self.view_is) (some_read c.args.bytes.now c.args.self c.first_failure-code.new.self c.first_failure-code.ensures.read c.requires)) refl refl refl refl
    (λ rs have. c.first_failure-code.ensures.fault c.args.bytes.now rs (subst (HaveRead c.args.bytes.now rs) c.self.view_is have))
