use Rattle.std.proofs.Common.{◌+◌, sym, subst, arith}
use Rattle.std.proofs.lemmas.Option.{slice_get-get_or}
use Rattle.fa_check.proofs.CuttingLemmas.{IsEndSoFar, front_done, front_more}
use Rattle.fa_check.proofs.cutting.end_of_front.Goals as goal
use Rattle.fa_check.proofs.cutting.end_of_front.Goals.{then-is_answered_entry, else-is_answered_entry}

pub loop-place-preserved : goal.loop-place-preserved
loop-place-preserved c =
    let calls = c.args.calls.now in
    let m = c.args.messages in
    let es = c.args.order.now in
    let n = c.loop-place.place in
    elim c.if-is_answered_entry.branch [
      | then-is_answered_entry w ↦
          subst (IsEndSoFar calls m es (n + 1)) (sym w.end-is)
          (record {
            within = omega arith;
            exact = λ messages is. front_done messages m es n _ (slice_get-get_or es n _ c.loop-place-test.true) ((c.is_answered_entry.ensures messages is).0 w.if-is_answered_entry.true);
          })
      | else-is_answered_entry w ↦
          subst (IsEndSoFar calls m es (n + 1)) (sym w.end-is)
          (record {
            within = (let below = c.loop-place.invariant.within in omega (arith, below));
            exact = λ messages is.
                front_more messages m es n c.loop-place.end _ (slice_get-get_or es n _ c.loop-place-test.true)
                (λ done. let told = (c.is_answered_entry.ensures messages is).1 done in let other = w.if-is_answered_entry.false in absurd cc) (c.loop-place.invariant.exact messages is);
          })
    ]
