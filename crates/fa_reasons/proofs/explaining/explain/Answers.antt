use Rattle.std.specs.Prelude.{List, ℕ}
use Rattle.std.specs.Option.{option_copied}
use Rattle.std.proofs.Common.{refl, subst}
use Rattle.std.proofs.lemmas.Result.{IfOk-weaker}
use Rattle.fa_audit.specs.Verdict.{IsAnswer}
use Rattle.fa_reasons.proofs.explaining.explain.Goals as goal

pub returns-in-Some-clause-answer : goal.returns-in-Some-clause-answer
returns-in-Some-clause-answer c =
    rw c.in-Some.is
    (IfOk-weaker c.explain_order.result _ _ (λ told is. record { order = c.in-Some.order.now; used = refl; is_answer = is }) c.explain_order.ensures.answer)

pub returns-in_ok-order-in-None-clause-answer : goal.returns-in_ok-order-in-None-clause-answer
returns-in_ok-order-in-None-clause-answer c =
    rw c.in-None.is
    (IfOk-weaker c.explain_order-in-None.result _ _
    (λ told is. record {
      order = c.in_ok-order-in-None.order.items;
      used = c.in_ok-order-in-None.ensures.proposed c.args.capture.now (c.with_seed-parsed.ensures.same c.args.capture.now c.read_capture.ensures);
      is_answer = subst (λ (order : List ℕ). IsAnswer c.args.capture.now (option_copied c.args.tree) order told.answer) c.deref.ensures.value is;
    })
    c.explain_order-in-None.ensures.answer)

pub explain_order-requires-clause-read : goal.explain_order-requires-clause-read
explain_order-requires-clause-read c = c.with_seed-parsed.ensures.same c.args.capture.now c.read_capture.ensures

pub explain_order-requires-in-None-clause-read : goal.explain_order-requires-in-None-clause-read
explain_order-requires-in-None-clause-read c = c.with_seed-parsed.ensures.same c.args.capture.now c.read_capture.ensures
