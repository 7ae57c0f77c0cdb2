-- A capture, a tree text or none and an order text have one answer at most.
use Rattle.std.proofs.Common.{◌≡◌, ℕ, ◌<◌, ◌⊎◌, List, length, take, Option, Some, None, Result, Ok, Err, sym, ap, subst, ◌∙◌, inl, inr, arith}
use Rattle.std.specs.Prelude.{slice_get}
use Rattle.std.proofs.lemmas.Bool.{cases_lt}
use Rattle.std.proofs.lemmas.Option.{slice_get_within, same_Some}
use Rattle.fa_capture.specs.declared.fault.CaptureFault.{CaptureFault}
use Rattle.fa_capture.specs.Checks.{FirstFailure}
use Rattle.fa_capture.specs.Message.{Message}
use Rattle.fa_capture.specs.Reading.{OneReading}
use Rattle.fa_ledger.specs.Passing.{message_checks, EachPasses, IsGoodCapture, IsMessageFault, IsFramingFault, IsFirstFault}
use Rattle.fa_tree.specs.State.{TreeState}
use Rattle.fa_order.specs.declared.entry.Entry.{Entry}
use Rattle.fa_order.specs.Order.{IsOrderText}
use Rattle.fa_tree_text.specs.TreeText.{IsTreeFault}
use Rattle.fa_check.specs.declared.verdict.Verdict.{Verdict}
use Rattle.fa_check.specs.declared.verdict.Verdict.TheVariants.{Legal, Fault, NotShown}
use Rattle.fa_check.specs.Verdicts.{IsVerdict}
use Rattle.fa_audit.specs.declared.verdict.AuditError.{AuditError}
use Rattle.fa_audit.specs.declared.verdict.AuditError.TheVariants.{OrderText, TreeText, Memory}
use Rattle.fa_audit.specs.Verdict.{IsGivenTree, IsLegal, IsNotShown, IsTreeTextAtFault}
use Rattle.fa_audit.specs.Laws.{OneAnswer}
use Rattle.fa_capture.proofs.CallerLemmas.{no_failure, one_failure, one_reading}
use Rattle.fa_order.proofs.CallerLemmas.{one_order_text, one_order_fault, order_text_has_no_fault}
use Rattle.fa_tree_text.proofs.CallerLemmas.{one_tree_text, one_tree_fault, tree_text_has_no_fault}
use Rattle.fa_check.proofs.CallerLemmas.{verdict_is_one}

-- ---- captures

-- a message that passes is at no fault
pub passes_no_fault : (c : List Message) (n at code : ℕ) → EachPasses c n → at < n → IsMessageFault c at code → ⊥
passes_no_fault c n at code passes below f =
    no_failure (message_checks (take at c) f.message) code (passes at f.message below f.there) f.fails

-- where all messages pass there is none at fault
pub all_pass_no_fault : (c : List Message) (at code : ℕ) → EachPasses c (length c) → IsMessageFault c at code → ⊥
all_pass_no_fault c at code passes f = passes_no_fault c (length c) at code passes (slice_get_within c at f.message f.there) f

-- a message at fault fails one check first
same_message_fault : (c : List Message) (at code told : ℕ) → IsMessageFault c at code → IsMessageFault c at told → code ≡ told
same_message_fault c at code told f g =
    let here : slice_get c at ≡ Some f.message = f.there in
    let there : slice_get c at ≡ Some g.message = g.there in
    let same : f.message ≡ g.message = cc in
    one_failure (message_checks (take at c) g.message) code told (subst (λ (m : Message). FirstFailure (message_checks (take at c) m) code) same f.fails) g.fails

-- the first message at fault and its code are one
pub one_message_fault : (c : List Message) (at code place told : ℕ) → IsMessageFault c at code → IsMessageFault c place told → (at ≡ place) × (code ≡ told)
one_message_fault c at code place told f g =
    elim (cases_lt at place) [
      | inl before ↦ absurd (passes_no_fault c place at code g.passes before f)
      | inr far ↦ elim (cases_lt place at) [
        | inl before ↦ absurd (passes_no_fault c at place told f.passes before g)
        | inr near ↦
            let same : at ≡ place = omega (arith, far, near) in
            (same, same_message_fault c place code told (subst (λ (k : ℕ). IsMessageFault c k code) same f) g)
      ]
    ]

-- the framing fault and its code are one
pub one_framing_fault : (c : List Message) (framing : Option CaptureFault) (at code place told : ℕ) → IsFramingFault c framing at code → IsFramingFault c framing place told → (at ≡ place) × (code ≡ told)
one_framing_fault c framing at code place told f g =
    let same : ◌≡◌ {A = CaptureFault} (record { whole = at; code = code }) (record { whole = place; code = told }) =
    same_Some (record { whole = at; code = code }) (record { whole = place; code = told }) (sym f.there ∙ g.there) in
    (ap (λ (x : CaptureFault). x.whole) same, ap (λ (x : CaptureFault). x.code) same)

-- a capture has one first fault at most
pub one_first_fault : OneReading → (capture : List ℕ) (at code place told : ℕ) → IsFirstFault capture at code → IsFirstFault capture place told → (at ≡ place) × (code ≡ told)
one_first_fault one capture at code place told f g =
    let same : (f.messages ≡ g.messages) × (f.framing ≡ g.framing) = one capture f.messages g.messages f.framing g.framing f.read g.read in
    let fault : IsMessageFault g.messages at code ⊎ IsFramingFault g.messages g.framing at code =
    subst (λ (o : Option CaptureFault). IsMessageFault g.messages at code ⊎ IsFramingFault g.messages o at code) same.1
    (subst (λ (c : List Message). IsMessageFault c at code ⊎ IsFramingFault c f.framing at code) same.0 f.fault) in
    elim fault [
      | inl message ↦ elim g.fault [
        | inl too ↦ one_message_fault g.messages at code place told message too
        | inr framing ↦ absurd (all_pass_no_fault g.messages at code framing.passes message)
      ]
      | inr framing ↦ elim g.fault [
        | inl message ↦ absurd (all_pass_no_fault g.messages place told framing.passes message)
        | inr too ↦ one_framing_fault g.messages g.framing at code place told framing too
      ]
    ]

-- a good capture has none
pub good_no_fault : OneReading → (capture : List ℕ) (c : List Message) (at code : ℕ) → IsGoodCapture capture c → IsFirstFault capture at code → ⊥
good_no_fault one capture c at code good f =
    let same : (f.messages ≡ c) × (f.framing ≡ None) = one capture f.messages c f.framing None f.read good.read in
    elim f.fault [
      | inl message ↦ all_pass_no_fault c at code good.good (subst (λ (x : List Message). IsMessageFault x at code) same.0 message)
      | inr framing ↦
          let here : f.framing ≡ Some (record { whole = at; code = code }) = framing.there in
          let none : f.framing ≡ None = same.1 in
          absurd cc
    ]

-- a good capture holds one list of messages
pub one_good_capture : OneReading → (capture : List ℕ) (c d : List Message) → IsGoodCapture capture c → IsGoodCapture capture d → c ≡ d
one_good_capture one capture c d good too = (one capture c d None None good.read too.read).0

-- ---- the given tree

-- one tree is given at most
pub one_given : (tree : Option (List ℕ)) (first other : TreeState) → IsGivenTree tree first → IsGivenTree tree other → first ≡ other
one_given None first other given too = given ∙ sym too
one_given (Some text) first other given too = one_tree_text text first other given too

-- a tree text that gives a tree has no fault
pub given_no_fault : (tree : Option (List ℕ)) (first : TreeState) (capture : List ℕ) (line : ℕ) → IsGivenTree tree first → IsTreeTextAtFault capture tree line → ⊥
given_no_fault None first capture line given f = (let handed_in : ◌≡◌ {A = Option (List ℕ)} None (Some f.text) = f.handed_in in absurd cc)
given_no_fault (Some text) first capture line given f =
    let same : text ≡ f.text = same_Some text f.text f.handed_in in
    tree_text_has_no_fault text first line given (subst (λ (x : List ℕ). IsTreeFault x line) (sym same) f.fault)

-- ---- verdicts on orders

-- The capture is good, the texts are in their grammar, and this is the verdict on the order.
record IsJudged (capture : List ℕ) (tree : Option (List ℕ)) (order : List ℕ) (verdict : Verdict) : Type 0 where
  pub messages : List Message
  pub first : TreeState
  pub entries : List Entry
  pub good : IsGoodCapture capture messages
  pub given : IsGivenTree tree first
  pub text : IsOrderText order entries
  pub told : IsVerdict messages first entries verdict

judged_legal : (capture : List ℕ) (tree : Option (List ℕ)) (order : List ℕ) (messages placed left : ℕ) → IsLegal capture tree order messages placed left → IsJudged capture tree order (Legal messages placed left)
judged_legal capture tree order messages placed left a =
    record {
      messages = a.messages;
      first = a.first;
      entries = a.entries;
      good = a.good;
      given = a.given;
      text = a.text;
      told = record {
        legal = record { good = a.good.good; valid = a.valid; last = a.last; run = a.run };
        messages_are = a.count_is;
        placed_are = a.placed_are;
        left_are = a.left_are;
      };
    }

judged_not_shown : (capture : List ℕ) (tree : Option (List ℕ)) (order : List ℕ) (entry at code : ℕ) → IsNotShown capture tree order entry at code → IsJudged capture tree order (NotShown entry at code)
judged_not_shown capture tree order entry at code a =
    record { messages = a.messages; first = a.first; entries = a.entries; good = a.good; given = a.given; text = a.text; told = a.fault }

-- an order has one verdict at most
one_judged : (capture : List ℕ) (tree : Option (List ℕ)) (order : List ℕ) (a b : Verdict) → IsJudged capture tree order a → IsJudged capture tree order b → a ≡ b
one_judged capture tree order a b x y =
    let messages : x.messages ≡ y.messages = one_good_capture one_reading capture x.messages y.messages x.good y.good in
    let first : x.first ≡ y.first = one_given tree x.first y.first x.given y.given in
    let entries : x.entries ≡ y.entries = one_order_text order x.entries y.entries x.text y.text in
    let moved : IsVerdict y.messages y.first y.entries a =
    subst (λ (es : List Entry). IsVerdict y.messages y.first es a) entries
    (subst (λ (t : TreeState). IsVerdict y.messages t x.entries a) first
    (subst (λ (c : List Message). IsVerdict c x.first x.entries a) messages x.told)) in
    verdict_is_one y.messages y.first y.entries a b moved y.told

-- ---- answers

-- the same fault of the capture
fault_same : (at code place told : ℕ) → (at ≡ place) × (code ≡ told) → ◌≡◌ {A = Result Verdict AuditError} (Ok (Fault at code)) (Ok (Fault place told))
fault_same at code place told same =
    let first : at ≡ place = same.0 in
    let second : code ≡ told = same.1 in
    cc

-- the same verdict
verdict_same : (a b : Verdict) → a ≡ b → ◌≡◌ {A = Result Verdict AuditError} (Ok a) (Ok b)
verdict_same a b same = ap (λ (v : Verdict). Ok v) same

-- a tree text has one fault at most
pub tree_fault_same : (capture : List ℕ) (tree : Option (List ℕ)) (line other : ℕ) → IsTreeTextAtFault capture tree line → IsTreeTextAtFault capture tree other → line ≡ other
tree_fault_same capture tree line other a b =
    let same : a.text ≡ b.text = same_Some a.text b.text (sym a.handed_in ∙ b.handed_in) in
    one_tree_fault b.text line other (subst (λ (x : List ℕ). IsTreeFault x line) same a.fault) b.fault

pub one_answer : OneAnswer
one_answer capture tree order (Ok (Legal messages placed left)) (Ok (Legal others entries rest)) a b =
    verdict_same (Legal messages placed left) (Legal others entries rest) (one_judged capture tree order (Legal messages placed left) (Legal others entries rest) (judged_legal capture tree order messages placed left a) (judged_legal capture tree order others entries rest b))
one_answer capture tree order (Ok (Legal messages placed left)) (Ok (Fault place told)) a b =
    absurd (good_no_fault one_reading capture a.messages place told a.good b)
one_answer capture tree order (Ok (Legal messages placed left)) (Ok (NotShown nth place told)) a b =
    verdict_same (Legal messages placed left) (NotShown nth place told) (one_judged capture tree order (Legal messages placed left) (NotShown nth place told) (judged_legal capture tree order messages placed left a) (judged_not_shown capture tree order nth place told b))
one_answer capture tree order (Ok (Legal messages placed left)) (Err (TreeText other)) a b =
    absurd (given_no_fault tree a.first capture other a.given b)
one_answer capture tree order (Ok (Legal messages placed left)) (Err (OrderText other)) a b =
    absurd (order_text_has_no_fault order a.entries other a.text b.fault)
one_answer capture tree order (Ok (Fault at code)) (Ok (Legal others entries rest)) a b =
    absurd (good_no_fault one_reading capture b.messages at code b.good a)
one_answer capture tree order (Ok (Fault at code)) (Ok (Fault place told)) a b =
    fault_same at code place told (one_first_fault one_reading capture at code place told a b)
one_answer capture tree order (Ok (Fault at code)) (Ok (NotShown nth place told)) a b =
    absurd (good_no_fault one_reading capture b.messages at code b.good a)
one_answer capture tree order (Ok (Fault at code)) (Err (TreeText other)) a b =
    absurd (good_no_fault one_reading capture b.messages at code b.good a)
one_answer capture tree order (Ok (Fault at code)) (Err (OrderText other)) a b =
    absurd (good_no_fault one_reading capture b.messages at code b.good a)
one_answer capture tree order (Ok (NotShown entry at code)) (Ok (Legal others entries rest)) a b =
    verdict_same (NotShown entry at code) (Legal others entries rest) (one_judged capture tree order (NotShown entry at code) (Legal others entries rest) (judged_not_shown capture tree order entry at code a) (judged_legal capture tree order others entries rest b))
one_answer capture tree order (Ok (NotShown entry at code)) (Ok (Fault place told)) a b =
    absurd (good_no_fault one_reading capture a.messages place told a.good b)
one_answer capture tree order (Ok (NotShown entry at code)) (Ok (NotShown nth place told)) a b =
    verdict_same (NotShown entry at code) (NotShown nth place told) (one_judged capture tree order (NotShown entry at code) (NotShown nth place told) (judged_not_shown capture tree order entry at code a) (judged_not_shown capture tree order nth place told b))
one_answer capture tree order (Ok (NotShown entry at code)) (Err (TreeText other)) a b =
    absurd (given_no_fault tree a.first capture other a.given b)
one_answer capture tree order (Ok (NotShown entry at code)) (Err (OrderText other)) a b =
    absurd (order_text_has_no_fault order a.entries other a.text b.fault)
one_answer capture tree order (Err (TreeText line)) (Ok (Legal others entries rest)) a b =
    absurd (given_no_fault tree b.first capture line b.given a)
one_answer capture tree order (Err (TreeText line)) (Ok (Fault place told)) a b =
    absurd (good_no_fault one_reading capture a.messages place told a.good b)
one_answer capture tree order (Err (TreeText line)) (Ok (NotShown nth place told)) a b =
    absurd (given_no_fault tree b.first capture line b.given a)
one_answer capture tree order (Err (TreeText line)) (Err (TreeText other)) a b =
    ap (λ (n : ℕ). Err (TreeText n)) (tree_fault_same capture tree line other a b)
one_answer capture tree order (Err (TreeText line)) (Err (OrderText other)) a b =
    absurd (given_no_fault tree b.first capture line b.given a)
one_answer capture tree order (Err (OrderText line)) (Ok (Legal others entries rest)) a b =
    absurd (order_text_has_no_fault order b.entries line b.text a.fault)
one_answer capture tree order (Err (OrderText line)) (Ok (Fault place told)) a b =
    absurd (good_no_fault one_reading capture a.messages place told a.good b)
one_answer capture tree order (Err (OrderText line)) (Ok (NotShown nth place told)) a b =
    absurd (order_text_has_no_fault order b.entries line b.text a.fault)
one_answer capture tree order (Err (OrderText line)) (Err (TreeText other)) a b =
    absurd (given_no_fault tree a.first capture other a.given b)
one_answer capture tree order (Err (OrderText line)) (Err (OrderText other)) a b =
    ap (λ (n : ℕ). Err (OrderText n)) (one_order_fault order line other a.fault b.fault)
one_answer capture tree order (Err Memory) b a _ = absurd a
one_answer capture tree order a (Err Memory) _ b = absurd b
