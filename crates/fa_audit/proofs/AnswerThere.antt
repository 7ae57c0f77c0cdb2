-- The audit, a proposal and a cut have never no answer, by what each stands on: the capture is good or has a first fault, the tree
-- text is in its grammar or at fault, and so is the order text.
use Rattle.std.proofs.Common.{◌≡◌, ℕ, zero, suc, ◌≤◌, ◌⊎◌, List, length, take, Option, Some, None, Ok, Err, refl, sym, subst, ◌∙◌, inl, inr, arith}
use Rattle.std.specs.Prelude.{◌<◌, All, slice_get}
use Rattle.std.proofs.lemmas.Bool.{cases_lt}
use Rattle.std.proofs.lemmas.Option.{same_Some}
use Rattle.fa_capture.specs.declared.fault.CaptureFault.{CaptureFault}
use Rattle.fa_capture.specs.declared.limits.TheConstants.{MAX_MESSAGES}
use Rattle.fa_capture.specs.Message.{Message}
use Rattle.fa_capture.specs.Reading.{IsReading}
use Rattle.fa_capture.proofs.CallerLemmas.{checks_either, reading_is_there}
use Rattle.fa_ledger.specs.Passing.{message_checks, Passes, EachPasses, AreGood, IsGoodCapture, IsFirstFault, IsMessageFault}
use Rattle.fa_ledger.proofs.CallerLemmas.{element_at}
use Rattle.fa_tree.specs.State.{TreeState}
use Rattle.fa_tree.specs.Building.{empty_tree}
use Rattle.fa_order.proofs.CallerLemmas.{order_text_or_fault, each_order_has_one_text}
use Rattle.fa_tree_text.proofs.CallerLemmas.{tree_text_or_fault}
use Rattle.fa_check.specs.declared.verdict.Verdict.TheVariants.{Fault}
use Rattle.fa_check.proofs.CallerLemmas.{verdict_is_there, cut_is_there, cut_in_range}
use Rattle.fa_propose.proofs.CallerLemmas.{proposal_is_there, proposal_in_range}
use Rattle.fa_audit.specs.declared.judge.TheConstants.{ROOT_BITS}
use Rattle.fa_audit.specs.declared.verdict.AuditError.TheVariants.{OrderText, TreeText}
use Rattle.fa_audit.specs.declared.verdict.CutError.TheVariants as cuts
use Rattle.fa_audit.specs.declared.verdict.StartError.TheVariants as starts
use Rattle.fa_audit.specs.Verdict.{IsGivenTree, IsTreeTextAtFault}
use Rattle.fa_audit.specs.Laws.{AnswerIsThere, ProposalAnswerIsThere, CutAnswerIsThere}
use Rattle.fa_audit.proofs.AuditLemmas.{verdict_told}

-- ---- messages

-- one message more that passes
passes_more : (c : List Message) (n : ℕ) (m : Message) → EachPasses c n → slice_get c n ≡ Some m → Passes (take n c) m → EachPasses c (suc n)
passes_more c n m each there passes i x below here =
    elim (cases_lt i n) [
      | inl before ↦ each i x before here
      | inr not_before ↦
          let place : n ≡ i = omega (arith, below, not_before) in
          let moved : slice_get c i ≡ Some m = subst (λ k. slice_get c k ≡ Some m) place there in
          let same : m ≡ x = same_Some m x (sym moved ∙ here) in
          subst (λ y. Passes (take i c) y) same (subst (λ k. Passes (take k c) m) place passes)
    ]

-- the first n messages pass, or one of them is the first that does not
pass_or_fault : (c : List Message) (n : ℕ) → n ≤ length c → ((EachPasses c n ⊎ ((at code : ℕ) × IsMessageFault c at code)) → ⊥) → ⊥
pass_or_fault c zero within neither = neither (inl (λ i m below there. absurd (omega (arith, below))))
pass_or_fault c (suc n) within neither =
    pass_or_fault c n (omega (arith, within)) (λ before. elim before [
      | inr fault ↦ neither (inr fault)
      | inl each ↦
          let message = element_at c n within in
          checks_either (message_checks (take n c) message.0) (λ either. elim either [
            | inl passes ↦ neither (inl (passes_more c n message.0 each message.1 passes))
            | inr fails ↦ neither (inr (n, fails.0, record { message = message.0; there = message.1; passes = each; fails = fails.1 }))
          ])
    ])

-- ---- what is handed in

-- all messages pass, and the framing has no fault, or it has one
passed_or_fault : (capture : List ℕ) (c : List Message) (framing : Option CaptureFault) → IsReading capture c framing → AreGood c
    → (IsGoodCapture capture c → ⊥) → ((at code : ℕ) → IsFirstFault capture at code → ⊥) → ⊥
passed_or_fault capture c None read passes not_good no_fault = not_good (record { read = read; good = passes })
passed_or_fault capture c (Some f) read passes not_good no_fault =
    no_fault f.whole f.code (record { messages = c; framing = Some f; read = read; fault = inr (record { there = refl; passes = passes }) })

-- a capture of bytes is good, or it has a first fault
good_or_fault : (capture : List ℕ) → All (λ b. b < 256) capture → ((c : List Message) → IsGoodCapture capture c → ⊥)
    → ((at code : ℕ) → IsFirstFault capture at code → ⊥) → ⊥
good_or_fault capture small not_good no_fault =
    let read = reading_is_there capture small in
    pass_or_fault read.0 (length read.0) (omega arith) (λ either. elim either [
      | inl passes ↦ passed_or_fault capture read.0 read.1 read.2 passes (not_good read.0) no_fault
      | inr fault ↦ no_fault fault.0 fault.1 (record { messages = read.0; framing = read.1; read = read.2; fault = inl fault.2 })
    ])

-- where it is good, a tree is given, or the tree text is at fault
tree_or_fault : (capture : List ℕ) (c : List Message) → IsGoodCapture capture c → (tree : Option (List ℕ))
    → ((first : TreeState) → IsGivenTree tree first → ⊥) → ((line : ℕ) → IsTreeTextAtFault capture tree line → ⊥) → ⊥
tree_or_fault capture c good None not_given no_fault = not_given (empty_tree ROOT_BITS) refl
tree_or_fault capture c good (Some text) not_given no_fault =
    tree_text_or_fault text (λ either. elim either [
      | inl first ↦ not_given first.0 first.1
      | inr fault ↦ no_fault fault.0 (record { messages = c; text = text; good = good; handed_in = refl; fault = fault.1 })
    ])

-- so many messages a good capture has at most
messages_few : (capture : List ℕ) (c : List Message) → IsGoodCapture capture c → length c ≤ MAX_MESSAGES
messages_few capture c good = subst (λ (ms : List Message). length ms ≤ MAX_MESSAGES) good.read.1 good.read.2.records.framed.count

-- ---- answers

pub answer_is_there : AnswerIsThere
answer_is_there capture tree order small none =
    good_or_fault capture small
    (λ c good. tree_or_fault capture c good tree
    (λ first given. order_text_or_fault order (λ either. elim either [
      | inl text ↦ verdict_is_there c first text.0 good.good (λ verdict is. none (Ok verdict) (verdict_told capture tree order c first text.0 verdict good given text.1 is))
      | inr fault ↦ none (Err (OrderText fault.0)) (record { messages = c; first = first; good = good; given = given; fault = fault.1 })
    ]))
    (λ line fault. none (Err (TreeText line)) fault))
    (λ at code fault. none (Ok (Fault at code)) fault)

pub proposal_answer_is_there : ProposalAnswerIsThere
proposal_answer_is_there capture tree small none =
    good_or_fault capture small
    (λ c good. tree_or_fault capture c good tree
    (λ first given. proposal_is_there c first good.good (λ es proposal.
    let text = each_order_has_one_text es (proposal_in_range c first es (messages_few capture c good) proposal) in
    none (Ok text.text)
    (record { messages = c; first = first; entries = es; good = good; given = given; proposal = proposal; spelled = text.is_text })))
    (λ line fault. none (Err (starts.TreeText line)) fault))
    (λ at code fault. none (Err (starts.Fault at code)) fault)

pub cut_answer_is_there : CutAnswerIsThere
cut_answer_is_there capture order m small none =
    good_or_fault capture small
    (λ c good. order_text_or_fault order (λ either. elim either [
      | inl text ↦ cut_is_there c m text.0 good.good (λ left is.
          let spelled = each_order_has_one_text left (cut_in_range c m text.0 left text.1.in_range is) in
          none (Ok spelled.text)
          (record { messages = c; entries = text.0; left = left; good = good; order_text = text.1; is_cut = is; spelled = spelled.is_text }))
      | inr fault ↦ none (Err (cuts.OrderText fault.0)) (record { messages = c; good = good; fault = fault.1 })
    ]))
    (λ at code fault. none (Err (cuts.Fault at code)) fault)
