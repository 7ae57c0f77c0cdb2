-- Cutting an order: what the parts of the call make, that there is one answer, and from the answer to what a run tells.
use Rattle.std.proofs.Common.{◌≡◌, ◌≢◌, ℕ, ◌≤◌, ◌⊎◌, inl, inr, refl, sym, ap, subst, ◌∙◌, List, length, Option, IfOk, IfErr, IsErrOf, Result, Ok, Err}
use Rattle.std.specs.Prelude.{OnOk, IsOk, Vec}
use Rattle.std.specs.declared.alloc.Global.{Global}
use Rattle.fa_capture.specs.Message.{Message}
use Rattle.fa_capture.proofs.CallerLemmas.{one_reading}
use Rattle.fa_ledger.specs.declared.calls.Calls.{Calls}
use Rattle.fa_ledger.specs.Passing.{IsFirstFault}
use Rattle.fa_order.specs.declared.entry.Entry.{Entry}
use Rattle.fa_order.specs.declared.error.TextError.{TextError}
use Rattle.fa_order.specs.declared.error.TextError.TheVariants as texts
use Rattle.fa_order.specs.Faults.{IsOrderFaultTold}
use Rattle.fa_order.specs.Order.{IsOrderText, order_text}
use Rattle.fa_order.proofs.CallerLemmas.{one_order_text, one_order_fault, order_text_has_no_fault}
use Rattle.fa_check.specs.declared.verdict.Verdict.{Verdict}
use Rattle.fa_check.specs.Cuts.{IsCut}
use Rattle.fa_check.proofs.CallerLemmas.{cut_is_one}
use Rattle.fa_audit.specs.declared.protocol.Broken.{Broken}
use Rattle.fa_audit.specs.declared.protocol.Broken.TheVariants as broken
use Rattle.fa_audit.specs.declared.running.RunFault.{RunFault}
use Rattle.fa_audit.specs.declared.running.TheConstants.{MAX_TEXT_INPUT_BYTES}
use Rattle.fa_audit.specs.declared.verdict.AuditError.{AuditError}
use Rattle.fa_audit.specs.declared.verdict.AuditError.TheVariants as errors
use Rattle.fa_audit.specs.declared.verdict.CutError.{CutError}
use Rattle.fa_audit.specs.declared.verdict.CutError.TheVariants.{Fault, OrderText, Memory}
use Rattle.fa_audit.specs.Verdict.{ExactlyRefused}
use Rattle.fa_audit.specs.Line.{IsCoded}
use Rattle.fa_audit.specs.CutOrders.{IsCuttable, IsCutText, IsUncutAtLine, IsCutAnswer, IsCutTold, IsCutFrom, answer_of_uncut}
use Rattle.fa_audit.specs.Laws.{OneCutAnswer}
use Rattle.fa_audit.specs.Run.{AreBytesOf}
use Rattle.fa_audit.specs.parts.Answers.{AreCallsOf, IsCaptureRefused, IsNoCut, cut_refused, cut_text_refused, text_answered}
use Rattle.fa_audit.proofs.CodedLemmas.{fault_coded}
use Rattle.fa_audit.proofs.OneAnswer.{one_first_fault, good_no_fault, one_good_capture}

-- ---- the parts of the call

-- the text of what is left
pub text_left : (capture order : List ℕ) (m : ℕ) (calls : Calls) (es left : List Entry) (text : List ℕ) → (of : AreCallsOf capture calls) → IsOrderText order es → IsCut of.messages m es left → IsOrderText text left → IsCutText capture order m text
text_left capture order m calls es left text of read is_cut spelled = record {
  messages = of.messages;
  entries = es;
  left = left;
  good = of.good;
  order_text = read;
  is_cut = is_cut;
  spelled = spelled;
}

-- a capture that is refused
pub capture_no_cut : (capture order : List ℕ) (b : Broken) → IsCaptureRefused capture b → IsNoCut capture order (cut_refused b)
capture_no_cut capture order (broken.Fault at code) fault = fault
capture_no_cut capture order broken.Memory fault = tt

-- an order text that is refused, behind a good capture
pub order_no_cut : (capture order : List ℕ) (calls : Calls) (error : TextError) → AreCallsOf capture calls → IsOrderFaultTold order error → IsNoCut capture order (cut_text_refused error)
order_no_cut capture order calls (texts.Line line) of fault = record { messages = of.messages; good = of.good; fault = fault }
order_no_cut capture order calls texts.Memory of fault = tt

-- the code that is told has a text
pub no_cut_coded : (capture order : List ℕ) (error : CutError) → IsNoCut capture order error → IfOk (answer_of_uncut error) IsCoded
no_cut_coded capture order (Fault at code) fault = fault_coded capture at code fault
no_cut_coded capture order (OrderText line) fault = tt
no_cut_coded capture order Memory fault = tt

-- ---- what may be cut, and its faults, exclude one another

-- where there is something to cut, the capture has no fault
cuttable_no_fault : (capture order : List ℕ) (at code : ℕ) → IsCuttable capture order → IsFirstFault capture at code → ⊥
cuttable_no_fault capture order at code is fault = good_no_fault one_reading capture is.messages at code is.good fault

-- nor has the order text
cuttable_no_line : (capture order : List ℕ) (line : ℕ) → IsCuttable capture order → IsUncutAtLine capture order line → ⊥
cuttable_no_line capture order line is fault = order_text_has_no_fault order is.entries line is.text fault.fault

-- where the order text has a fault, the capture has none
line_no_fault : (capture order : List ℕ) (line at code : ℕ) → IsUncutAtLine capture order line → IsFirstFault capture at code → ⊥
line_no_fault capture order line at code is fault = good_no_fault one_reading capture is.messages at code is.good fault

-- what is cut may be
pub cut_cuttable : (capture order : List ℕ) (m : ℕ) (text : List ℕ) → IsCutText capture order m text → IsCuttable capture order
cut_cuttable capture order m text is = record { messages = is.messages; entries = is.entries; good = is.good; text = is.order_text }

-- ---- what the call answers

module _ {T : Type 0} (capture order : List ℕ) where
  -- what may be cut is, or memory was refused
  pub cuttable_answered : (result : Result T CutError) → IfErr result (IsNoCut capture order) → IsCuttable capture order → IsOk result ⊎ IsErrOf result Memory
  cuttable_answered (Ok text) none is = inl refl
  cuttable_answered (Err (Fault at code)) none is = absurd (cuttable_no_fault capture order at code is none)
  cuttable_answered (Err (OrderText line)) none is = absurd (cuttable_no_line capture order line is none)
  cuttable_answered (Err Memory) none is = inr refl

  -- a fault of the capture is answered exactly where it is there
  pub exactly_no_capture : (result : Result T CutError) (at code : ℕ) → OnOk result (IsCuttable capture order) → IfErr result (IsNoCut capture order)
      → ExactlyRefused result Memory (Fault at code) (IsFirstFault capture at code)
  exactly_no_capture (Ok text) at code is none = record {
    only = λ same. absurd cc;
    always = λ fault. absurd (cuttable_no_fault capture order at code is fault);
  }
  exactly_no_capture (Err (Fault place told)) at code is none = record {
    only = λ same. let told_is : Fault place told ≡ Fault at code = cc in subst (IsNoCut capture order) told_is none;
    always = λ fault.
        let same : (place ≡ at) × (told ≡ code) = one_first_fault one_reading capture place told at code none fault in
        let first : place ≡ at = same.0 in
        let second : told ≡ code = same.1 in
        inl cc;
  }
  exactly_no_capture (Err (OrderText line)) at code is none = record {
    only = λ same. absurd cc;
    always = λ fault. absurd (line_no_fault capture order line at code none fault);
  }
  exactly_no_capture (Err Memory) at code is none = record {
    only = λ same. absurd cc;
    always = λ fault. inr refl;
  }

  -- so is a fault of the order text
  pub exactly_no_order : (result : Result T CutError) (line : ℕ) → OnOk result (IsCuttable capture order) → IfErr result (IsNoCut capture order)
      → ExactlyRefused result Memory (OrderText line) (IsUncutAtLine capture order line)
  exactly_no_order (Ok text) line is none = record {
    only = λ same. absurd cc;
    always = λ fault. absurd (cuttable_no_line capture order line is fault);
  }
  exactly_no_order (Err (Fault place told)) line is none = record {
    only = λ same. absurd cc;
    always = λ fault. absurd (line_no_fault capture order line place told fault none);
  }
  exactly_no_order (Err (OrderText other)) line is none = record {
    only = λ same. let told_is : OrderText other ≡ OrderText line = cc in subst (IsNoCut capture order) told_is none;
    always = λ fault. let same : other ≡ line = one_order_fault order other line none.fault fault.fault in inl cc;
  }
  exactly_no_order (Err Memory) line is none = record {
    only = λ same. absurd cc;
    always = λ fault. inr refl;
  }

-- ---- one answer

-- the text of what is left is one, since the cut is
one_cut_text : (capture order : List ℕ) (m : ℕ) (text other : List ℕ) → IsCutText capture order m text → IsCutText capture order m other → text ≡ other
one_cut_text capture order m text other x y =
    let messages : x.messages ≡ y.messages = one_good_capture one_reading capture x.messages y.messages x.good y.good in
    let entries : x.entries ≡ y.entries = one_order_text order x.entries y.entries x.order_text y.order_text in
    let moved : IsCut y.messages m y.entries x.left =
    subst (λ (es : List Entry). IsCut y.messages m es x.left) entries (subst (λ (c : List Message). IsCut c m x.entries x.left) messages x.is_cut) in
    let left : x.left ≡ y.left = cut_is_one y.messages m y.entries x.left y.left moved y.is_cut in
    x.spelled.spelled ∙ ap (λ (es : List Entry). order_text es) left ∙ sym y.spelled.spelled

pub one_cut_answer : OneCutAnswer
one_cut_answer capture order m (Ok text) (Ok other) a b = ap (λ (t : List ℕ). Ok t) (one_cut_text capture order m text other a b)
one_cut_answer capture order m (Ok text) (Err (Fault at code)) a b = absurd (cuttable_no_fault capture order at code (cut_cuttable capture order m text a) b)
one_cut_answer capture order m (Ok text) (Err (OrderText line)) a b = absurd (cuttable_no_line capture order line (cut_cuttable capture order m text a) b)
one_cut_answer capture order m (Err (Fault at code)) (Ok text) a b = absurd (cuttable_no_fault capture order at code (cut_cuttable capture order m text b) a)
one_cut_answer capture order m (Err (Fault at code)) (Err (Fault place told)) a b =
    let same : (at ≡ place) × (code ≡ told) = one_first_fault one_reading capture at code place told a b in
    let first : at ≡ place = same.0 in
    let second : code ≡ told = same.1 in
    cc
one_cut_answer capture order m (Err (Fault at code)) (Err (OrderText line)) a b = absurd (line_no_fault capture order line at code b a)
one_cut_answer capture order m (Err (OrderText line)) (Ok text) a b = absurd (cuttable_no_line capture order line (cut_cuttable capture order m text b) a)
one_cut_answer capture order m (Err (OrderText line)) (Err (Fault at code)) a b = absurd (line_no_fault capture order line at code a b)
one_cut_answer capture order m (Err (OrderText line)) (Err (OrderText other)) a b =
    ap (λ (n : ℕ). Err (OrderText n)) (one_order_fault order line other a.fault b.fault)
one_cut_answer capture order m (Err Memory) b a _ = absurd a
one_cut_answer capture order m a (Err Memory) _ b = absurd b

-- ---- what a run tells

-- each answer says what holds of the capture and the order, or memory was refused
pub cut_answered : (capture order : List ℕ) (m : ℕ) (result : Result (Vec ℕ Global) CutError)
    → IfOk result (λ text. IsCutText capture order m text.items) → IfErr result (IsNoCut capture order)
    → IsErrOf result Memory ⊎ IsCutAnswer capture order m (text_answered result)
cut_answered capture order m (Ok text) left none = inr left
cut_answered capture order m (Err (Fault at code)) left none = inr none
cut_answered capture order m (Err (OrderText line)) left none = inr none
cut_answered capture order m (Err Memory) left none = inl refl

-- an answer of the audit that is told is not that memory was refused, so that of the cut is not either
pub uncut_told : (result : Result ℕ RunFault) (left : Result (Vec ℕ Global) CutError) (error : CutError) (answer : Result Verdict AuditError)
    → left ≡ Err error → answer ≡ answer_of_uncut error → OnOk result (answer ≢ Err errors.Memory) → OnOk result (left ≢ Err Memory)
uncut_told (Ok status) left error answer is told answered = λ same. (let memory : error ≡ Memory = cc in absurd (answered (told ∙ ap answer_of_uncut memory)))
uncut_told (Err fault) left error answer is told answered = tt

-- a told answer is none that memory was refused, so it is that of the cut
pub cut_from : (result : Result ℕ RunFault) (capture order old new : Option (List ℕ)) (c o : List ℕ) (m : ℕ) (left : Result (Vec ℕ Global) CutError)
    → AreBytesOf capture c → AreBytesOf order o → length o ≤ MAX_TEXT_INPUT_BYTES
    → IsErrOf left Memory ⊎ IsCutAnswer c o m (text_answered left)
    → IfOk result (IsCutTold (text_answered left) old new) → OnOk result (left ≢ Err Memory)
    → IfOk result (IsCutFrom capture order m old new)
cut_from (Ok status) capture order old new c o m left hc ho lo (inl refused) told answered = absurd (answered refused)
cut_from (Ok status) capture order old new c o m left hc ho lo (inr is_answer) told answered =
    record {
      capture_bytes = c;
      order_bytes = o;
      answer = text_answered left;
      capture_read = hc;
      order_read = record { whole = ho; within = lo };
      is_answer = is_answer;
      told = told;
    }
cut_from (Err fault) capture order old new c o m left hc ho lo given told answered = tt
