use Rattle.std.proofs.Common.{List, take, ap, subst, ◌∙◌}
use Rattle.std.proofs.lemmas.List.{take_all}
use Rattle.std.proofs.lemmas.Option.{slice_get-get_or}
use Rattle.fa_order.specs.declared.entry.Entry.{Entry}
use Rattle.fa_check.specs.Cuts.{AreLeft}
use Rattle.fa_check.proofs.CuttingLemmas.{on_none, next_stays, next_goes, all_cut}
use Rattle.fa_check.proofs.cutting.cut.Goals as goal
use Rattle.fa_check.proofs.cutting.cut.Goals.{in-Some+in_ok-push, in_default}

pub loop-entry-preserved : goal.loop-entry-preserved
loop-entry-preserved c = λ messages is.
    let m = c.args.messages in
    let xs = take c.end_of_front-end.result c.args.order.now in
    let n = c.loop-entry.entry-index in
    elim c.match-left_of.branch [
      | in-Some+in_ok-push w ↦
          next_stays messages m xs c.loop-entry.left.items c.match-left_of.left.items n _ w.in-Some.stays (slice_get-get_or xs n _ c.loop-entry-test.true)
          (w.in-Some.ensures.stays messages is) (ap (λ v. v.items) w.left-is ∙ w.in_ok-push.ensures.items) (c.loop-entry.invariant messages is)
      | in_default w ↦
          next_goes messages m xs c.loop-entry.left.items c.match-left_of.left.items n _ (slice_get-get_or xs n _ c.loop-entry-test.true)
          (on_none c.left_of.result _ c.left_of.ensures.goes w.in_default.not-Some messages is) (ap (λ v. v.items) w.left-is) (c.loop-entry.invariant messages is)
    ]

pub returns : goal.returns
returns c = λ messages is.
    let xs = take c.end_of_front-end.result c.args.order.now in
    all_cut messages c.args.messages c.args.order.now c.loop-entry.left.items c.end_of_front-end.result (c.end_of_front-end.ensures.exact messages is)
    (subst (λ (ys : List Entry). AreLeft messages c.args.messages ys c.loop-entry.left.items) (take_all c.loop-entry.entry-index xs c.loop-entry-test.false) (c.loop-entry.invariant messages is))
