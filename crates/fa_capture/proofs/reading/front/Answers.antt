use Rattle.std.proofs.Common.{sym, ap, subst, ◌∙◌, is_some, arith}
use Rattle.fa_capture.specs.Message.{recorded}
use Rattle.fa_capture.proofs.FrontLemmas.{IsKept, behind_more, front_wanted, front_to_end, front_to_fault}
use Rattle.fa_capture.proofs.reading.front.Goals as goal
use Rattle.fa_capture.proofs.reading.front.Goals.{else-loop-kept-test, then-loop-kept-test+in-Ok-None, then-loop-kept-test+in-Err}

pub loop-kept-preserved : goal.loop-kept-preserved
loop-kept-preserved c = record {
  within = omega arith;
  behind = behind_more c.args.bytes.now (recorded c.in-Ok-Some.field-0-0) c.loop-kept.kept c.loop-kept.records c.next.new.self c.loop-kept.invariant.behind (rw c.in-Ok-Some.field-0-is at c.in-Ok-Some.ensures.packet);
}

-- what the loop leaves
kept : (c : goal.After-left) → IsKept c.args.bytes.now c.args.messages c.loop-kept-test.records
kept c =
    let bytes = c.args.bytes.now in
    let wanted = c.args.messages in
    let walk = c.loop-kept.records in
    let behind = c.loop-kept.invariant.behind in
    elim c.loop-kept-test.branch [
      | else-loop-kept-test w ↦ subst (IsKept bytes wanted) (sym w.records-is) (front_wanted bytes c.loop-kept.kept wanted walk behind (omega (arith, w.loop-kept-test.false, c.loop-kept.invariant.within)))
      | then-loop-kept-test+in-Ok-None w ↦
          let none = ap is_some w.in-Ok-None.field-0-is in
          subst (IsKept bytes wanted) (sym (w.records-is ∙ w.in-Ok-None.ensures.still none))
          (front_to_end bytes c.loop-kept.kept wanted walk behind c.loop-kept.invariant.within (w.in-Ok-None.ensures.end none))
      | then-loop-kept-test+in-Err w ↦
          subst (IsKept bytes wanted) (sym (w.records-is ∙ w.in-Err.ensures.unchanged)) (front_to_fault bytes c.loop-kept.kept wanted w.in-Err.field-0 walk behind c.loop-kept.invariant.within w.in-Err.ensures.fault)
    ]

pub slice_bounds-result-count : goal.slice_bounds-result-count
slice_bounds-result-count c = rw c.left.ensures (kept c).0

pub returns-clause-kept : goal.returns-clause-kept
returns-clause-kept c = rw c.left.ensures (kept c).1
