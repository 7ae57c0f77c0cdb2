-- What is kept of calls that are placed: the answers that wait, and how many are placed.
use Rattle.std.proofs.Common.{◌≡◌, ℕ, ◌+◌, ◌^◌, ◌<◌, ◌≤◌, Bool, true, false, List, length, set, Option, Some, None, refl, sym, ap, subst, ◌∙◌, inl, inr, arith}
use Rattle.std.specs.Prelude.{◌↔◌, slice_get, is_some}
use Rattle.std.proofs.lemmas.Bool.{cases_lt, cases_eq}
use Rattle.std.proofs.lemmas.List.{length-set}
use Rattle.std.proofs.lemmas.Option.{slice_get_within, same_Some}
use Rattle.fa_capture.specs.declared.codes.TheConstants.{EARLIER_NOT_PLACED, CHOICE_NOT_ALLOWED}
use Rattle.fa_capture.specs.Checks.{FirstFailure, AllHold}
use Rattle.fa_capture.specs.Message.{Message}
use Rattle.fa_capture.proofs.CallerLemmas.{get_set_same, get_set_other, get_set_back}
use Rattle.fa_ledger.specs.Passing.{AreGood}
use Rattle.fa_ledger.specs.Calls.{PlainAnswer, PlainCall, AreCalls}
use Rattle.fa_ledger.specs.Choices.{Allows}
use Rattle.fa_order.specs.declared.entry.Entry.{Entry}
use Rattle.fa_check.specs.declared.placing.Placing.{Placing}
use Rattle.fa_check.specs.declared.unplaced_answers.UnplacedAnswers.{UnplacedAnswers}
use Rattle.fa_check.specs.Marks.{IsSet, IsUnset, AreUnset, IsFirstSet, count_set}
use Rattle.fa_check.specs.Replays.{IsCallOf, IsAnswerAt, AnswersUnplaced, IsPlacing}
use Rattle.fa_check.specs.parts.Placing.{AreAnswers, place_checks}
use Rattle.fa_check.proofs.MarkLemmas.{set_or_unset, not_both, count_below, count_more, count_none}
use Rattle.fa_check.proofs.GoodLemmas as good_says

-- ---- options

-- what is some is one
pub some_of : {X : Type 0} (o : Option X) → is_some o ≡ true → (x : X) × (o ≡ Some x)
some_of None is = absurd cc
some_of (Some x) is = (x, refl)

-- and what is not is none
pub not_some : {X : Type 0} (o : Option X) → is_some o ≡ false → o ≡ None
not_some None is = refl
not_some (Some x) is = absurd cc

-- what no case fits is none
pub none_of : {X : Type 0} (o : Option X) → ((x : X) → o ≡ Some x → ⊥) → o ≡ None
none_of None other = refl
none_of (Some x) other = absurd (other x refl)

-- ---- the answers of the first calls

-- there is a mark for each message, and those of the answers of the first calls are set
pub record AreAnswersOf (calls : List PlainCall) (messages n : ℕ) (marks : List Bool) : Type 0 where
  pub wide : length marks ≡ messages
  pub answers : (q : ℕ) → IsSet marks q ↔ ((place : ℕ) × (place < n) × IsAnswerAt calls place q)

-- of no calls
pub answers_none : (calls : List PlainCall) (messages : ℕ) (marks : List Bool) → AreUnset messages marks → AreAnswersOf calls messages 0 marks
answers_none calls messages marks none = record {
  wide = none.sized;
  answers = λ q. ((λ is. absurd (none.none q is)), (λ answer. absurd (omega (arith, answer.1))));
}

-- of one more, which has no answer
pub answers_kept : (calls : List PlainCall) (messages n : ℕ) (marks : List Bool) (call : PlainCall) → slice_get calls n ≡ Some call → call.answer ≡ None → AreAnswersOf calls messages n marks → AreAnswersOf calls messages (n + 1) marks
answers_kept calls messages n marks call there none so_far = record {
  wide = so_far.wide;
  answers = λ q. (
    (λ is. let answer = (so_far.answers q).0 is in (answer.0, omega (arith, answer.1), answer.2)),
    (λ answer. elim (cases_lt answer.0 n) [
      | inl before ↦ (so_far.answers q).1 (answer.0, before, answer.2)
      | inr behind ↦
          let here : answer.0 ≡ n = omega (arith, answer.1, behind) in
          let stands : slice_get calls n ≡ Some answer.2.0 = subst (λ k. slice_get calls k ≡ Some answer.2.0) here answer.2.2 in
          let same : answer.2.0 ≡ call = same_Some answer.2.0 call (sym stands ∙ there) in
          let clash : Some answer.2.1 ≡ None = sym answer.2.3 ∙ ap (λ (x : PlainCall). x.answer) same ∙ none in
          absurd cc
    ]),
  );
}

-- of one more, which has one
pub answers_more : (calls : List PlainCall) (messages n : ℕ) (marks : List Bool) (call : PlainCall) (answer : PlainAnswer) → slice_get calls n ≡ Some call → call.answer ≡ Some answer → answer.at < messages
    → AreAnswersOf calls messages n marks → AreAnswersOf calls messages (n + 1) (set marks answer.at true)
answers_more calls messages n marks call answer there has within so_far = record {
  wide = length-set marks answer.at true ∙ so_far.wide;
  answers = λ q. elim (cases_eq q answer.at) [
    | inl same ↦ (
      (λ is. (n, omega arith, (call, answer, there, has, sym same))),
      (λ found. subst (IsSet (set marks answer.at true)) (sym same) (get_set_same marks answer.at true (omega (arith, within, so_far.wide)))),
    )
    | inr other ↦ (
      (λ is. let found = (so_far.answers q).0 (get_set_back marks answer.at q true true other is) in (found.0, omega (arith, found.1), found.2)),
      (λ found. elim (cases_lt found.0 n) [
        | inl before ↦ get_set_other marks answer.at q true true other ((so_far.answers q).1 (found.0, before, found.2))
        | inr behind ↦
            let here : found.0 ≡ n = omega (arith, found.1, behind) in
            let stands : slice_get calls n ≡ Some found.2.0 = subst (λ k. slice_get calls k ≡ Some found.2.0) here found.2.2 in
            let same : found.2.0 ≡ call = same_Some found.2.0 call (sym stands ∙ there) in
            let answers : Some found.2.1 ≡ Some answer = sym found.2.3 ∙ ap (λ (x : PlainCall). x.answer) same ∙ has in
            let one : found.2.1 ≡ answer = same_Some found.2.1 answer answers in
            absurd (other (sym found.2.4 ∙ ap (λ (x : PlainAnswer). x.at) one))
      ]),
    )
  ];
}

-- of all
pub answers_all : (calls : List PlainCall) (messages n : ℕ) (marks : List Bool) → length calls ≤ n → AreAnswersOf calls messages n marks → AreAnswers calls marks
answers_all calls messages n marks all so_far q = (
  (λ is. let answer = (so_far.answers q).0 is in (answer.0, answer.2)),
  (λ answer. let within = slice_get_within calls answer.0 answer.1.0 answer.1.2 in (so_far.answers q).1 (answer.0, omega (arith, within, all), answer.1)),
)

-- ---- before any entry

-- all answers wait
pub all_wait : (calls : List PlainCall) (placed waiting : List Bool) → AreUnset (length calls) placed → AreAnswers calls waiting → (q : ℕ) → IsSet waiting q ↔ AnswersUnplaced calls placed q
all_wait calls placed waiting none answers q = (
  (λ is.
      let answer = (answers q).0 is in
      let within = slice_get_within calls answer.0 answer.1.0 answer.1.2 in
      (answer.0, answer.1, elim (set_or_unset placed answer.0 (omega (arith, within, none.sized))) [ inl is_set ↦ absurd (none.none answer.0 is_set) | inr is_unset ↦ is_unset ])),
  (λ answer. (answers q).1 (answer.0, answer.1)),
)

-- so the fields agree
pub none_placed : (calls : List PlainCall) (messages : ℕ) (s : Placing) → AreUnset (length calls) s.marks.items → length s.waiting.answers.items ≡ messages → length s.waiting.answers.items < 2 ^ 32
    → AreAnswers calls s.waiting.answers.items → IsFirstSet s.waiting.answers.items s.waiting.front → s.count ≡ 0 → IsPlacing calls messages s
none_placed calls messages s none wide few answers front zero_placed = record {
  sized = none.sized;
  wide = wide;
  few = omega (arith, wide, few);
  waiting = all_wait calls s.marks.items s.waiting.answers.items none answers;
  front = front;
  counted = zero_placed ∙ sym (count_none s.marks.items none.none);
}

-- ---- one more call is placed

module _ (calls : List PlainCall) (messages : ℕ) (good : ∥ ((c : List Message) × AreGood c × (messages ≡ length c) × AreCalls c calls) ∥₁) where
  -- the answer of a call
  answer_there : (place k q : ℕ) (call : PlainCall) → slice_get calls place ≡ Some call → (answer : IsAnswerAt calls k q) → k ≡ place → call.answer ≡ Some answer.1
  answer_there place k q call there answer here =
      let stands : slice_get calls place ≡ Some answer.0 = subst (λ n. slice_get calls n ≡ Some answer.0) here answer.2 in
      let same : call ≡ answer.0 = same_Some call answer.0 (sym there ∙ stands) in
      ap (λ (x : PlainCall). x.answer) same ∙ answer.3

  -- a mark that stays unset is of another call
  other_place : (placed : List Bool) (place k : ℕ) → IsUnset placed place → IsUnset (set placed place true) k → k ≡ place → ⊥
  other_place placed place k was is same =
      let within = slice_get_within placed place false was in
      not_both (set placed place true) place (get_set_same placed place true within) (subst (IsUnset (set placed place true)) same is)

  -- a call that has no answer
  pub waits_still : (placed waiting : List Bool) (place : ℕ) (call : PlainCall) → slice_get calls place ≡ Some call → call.answer ≡ None → IsUnset placed place
      → ((q : ℕ) → IsSet waiting q ↔ AnswersUnplaced calls placed q) → (q : ℕ) → IsSet waiting q ↔ AnswersUnplaced calls (set placed place true) q
  waits_still placed waiting place call there none left so_far q =
      let other : (k : ℕ) → IsAnswerAt calls k q → k ≡ place → ⊥ = λ k answer same.
      let clash : None ≡ Some answer.1 = sym none ∙ answer_there place k q call there answer same in
      absurd cc in (
        (λ is. let answer = (so_far q).0 is in (answer.0, answer.1, get_set_other placed place answer.0 true false (other answer.0 answer.1) answer.2)),
        (λ answer. (so_far q).1 (answer.0, answer.1, get_set_back placed place answer.0 true false (other answer.0 answer.1) answer.2)),
      )

  -- a call that has one
  pub waits_less : (placed waiting : List Bool) (place : ℕ) (call : PlainCall) (answer : PlainAnswer) → slice_get calls place ≡ Some call → call.answer ≡ Some answer → IsUnset placed place
      → ((q : ℕ) → IsSet waiting q ↔ AnswersUnplaced calls placed q) → (q : ℕ) → IsSet (set waiting answer.at false) q ↔ AnswersUnplaced calls (set placed place true) q
  waits_less placed waiting place call answer there has left so_far q =
      let own : IsAnswerAt calls place answer.at = (call, answer, there, has, refl) in
      let within : answer.at < length waiting = slice_get_within waiting answer.at true ((so_far answer.at).1 (place, own, left)) in (
        (λ is. elim (cases_eq q answer.at) [
          | inl same ↦ absurd (not_both (set waiting answer.at false) answer.at (subst (IsSet (set waiting answer.at false)) same is) (get_set_same waiting answer.at false within))
          | inr other ↦
              let found = (so_far q).0 (get_set_back waiting answer.at q false true other is) in
              let apart : found.0 ≡ place → ⊥ = λ same.
              let here : call.answer ≡ Some found.1.1 = answer_there place found.0 q call there found.1 same in
              let one : found.1.1 ≡ answer = same_Some found.1.1 answer (sym here ∙ has) in
              other (sym found.1.4 ∙ ap (λ (x : PlainAnswer). x.at) one) in
              (found.0, found.1, get_set_other placed place found.0 true false apart found.2)
        ]),
        (λ found.
            let apart = other_place placed place found.0 left found.2 in
            let before : IsSet waiting q = (so_far q).1 (found.0, found.1, get_set_back placed place found.0 true false apart found.2) in
            let other : q ≡ answer.at → ⊥ = λ same. apart (good_says.one_answered calls messages good found.0 place answer.at (subst (IsAnswerAt calls found.0) same found.1) own) in
            get_set_other waiting answer.at q false true other before),
      )

  -- the count of those that are placed has room
  pub count_fits : (s : Placing) (place : ℕ) → IsPlacing calls messages s → IsUnset s.marks.items place → s.count + 1 < 2 ^ 32
  count_fits s place shape left =
      let below = count_below s.marks.items place left in
      let few = good_says.few_calls calls messages good in
      omega (arith, below, few, shape.sized, shape.counted, shape.few)

  -- the fields agree once one more is placed that has no answer
  pub placed_still : (s t : Placing) (place : ℕ) (call : PlainCall) → slice_get calls place ≡ Some call → call.answer ≡ None → IsUnset s.marks.items place → IsPlacing calls messages s
      → t.marks.items ≡ set s.marks.items place true → t.waiting ≡ s.waiting → t.count ≡ s.count + 1 → IsPlacing calls messages t
  placed_still s t place call there none left shape marked same counted = record {
    sized = ap length marked ∙ length-set s.marks.items place true ∙ shape.sized;
    wide = ap (λ (w : UnplacedAnswers). length w.answers.items) same ∙ shape.wide;
    few = shape.few;
    waiting = λ q.
        subst (λ (w : UnplacedAnswers). IsSet w.answers.items q ↔ AnswersUnplaced calls t.marks.items q) (sym same)
        (subst (λ ms. IsSet s.waiting.answers.items q ↔ AnswersUnplaced calls ms q) (sym marked)
        (waits_still s.marks.items s.waiting.answers.items place call there none left shape.waiting q));
    front = subst (λ (w : UnplacedAnswers). IsFirstSet w.answers.items w.front) (sym same) shape.front;
    counted = counted ∙ ap (λ n. n + 1) shape.counted ∙ sym (count_more s.marks.items place left) ∙ ap count_set (sym marked);
  }

  -- and that has one
  pub placed_less : (s t : Placing) (place : ℕ) (call : PlainCall) (answer : PlainAnswer) → slice_get calls place ≡ Some call → call.answer ≡ Some answer → IsUnset s.marks.items place → IsPlacing calls messages s
      → t.marks.items ≡ set s.marks.items place true → t.waiting.answers.items ≡ set s.waiting.answers.items answer.at false → IsFirstSet t.waiting.answers.items t.waiting.front
      → t.count ≡ s.count + 1 → IsPlacing calls messages t
  placed_less s t place call answer there has left shape marked removed front counted = record {
    sized = ap length marked ∙ length-set s.marks.items place true ∙ shape.sized;
    wide = ap length removed ∙ length-set s.waiting.answers.items answer.at false ∙ shape.wide;
    few = shape.few;
    waiting = λ q.
        subst (λ ws. IsSet ws q ↔ AnswersUnplaced calls t.marks.items q) (sym removed)
        (subst (λ ms. IsSet (set s.waiting.answers.items answer.at false) q ↔ AnswersUnplaced calls ms q) (sym marked)
        (waits_less s.marks.items s.waiting.answers.items place call answer there has left shape.waiting q));
    front = front;
    counted = counted ∙ ap (λ n. n + 1) shape.counted ∙ sym (count_more s.marks.items place left) ∙ ap count_set (sym marked);
  }

  -- ---- the checks of an entry's place

  -- a call that is not placed is not, wherever its number is looked for
  unplaced : (placed : List Bool) (place at : ℕ) → IsCallOf calls place at → IsUnset placed place → (k : ℕ) → IsCallOf calls k at → IsUnset placed k
  unplaced placed place at found left k other =
      subst (IsUnset placed) (good_says.one_place calls messages good place k found.0 other.0 found.1 other.1 (found.2 ∙ sym other.2)) left

  -- an answer before the request waits
  pub fails_early : (s : Placing) (e : Entry) (place : ℕ) → IsPlacing calls messages s → IsCallOf calls place e.at → IsUnset s.marks.items place → s.waiting.front < e.at
      → FirstFailure (place_checks calls s.marks.items e) EARLIER_NOT_PLACED
  fails_early s e place shape found left early =
      let below = good_says.asked_below calls messages good place found.0 found.1 in
      let first : IsSet s.waiting.answers.items s.waiting.front = shape.front.there (omega (arith, early, below, found.2, shape.wide)) in
      inr ((place, found), inr (unplaced s.marks.items place e.at found left, inl ((λ hold. let above = hold s.waiting.front ((shape.waiting s.waiting.front).0 first) in omega (arith, above, early)), refl)))

  -- no answer before the request waits
  pub none_early : (s : Placing) (at : ℕ) → IsPlacing calls messages s → at ≤ s.waiting.front → (q : ℕ) → AnswersUnplaced calls s.marks.items q → at ≤ q
  none_early s at shape late q waits =
      elim (cases_lt q s.waiting.front) [
        | inl before ↦ absurd (not_both s.waiting.answers.items q ((shape.waiting q).1 waits) (shape.front.before q before))
        | inr behind ↦ omega (arith, late, behind)
      ]

  -- the choice is not allowed
  pub fails_choice : (s : Placing) (e : Entry) (place : ℕ) → IsPlacing calls messages s → (found : IsCallOf calls place e.at) → IsUnset s.marks.items place → e.at ≤ s.waiting.front → (Allows found.0 e.wrote → ⊥)
      → FirstFailure (place_checks calls s.marks.items e) CHOICE_NOT_ALLOWED
  fails_choice s e place shape found left late refused =
      inr ((place, found), inr (unplaced s.marks.items place e.at found left, inr (none_early s e.at shape late, inl ((λ hold. refused (hold place found.0 found.1 found.2)), refl))))

  -- all hold
  pub place_holds : (s : Placing) (e : Entry) (place : ℕ) → IsPlacing calls messages s → (found : IsCallOf calls place e.at) → IsUnset s.marks.items place → e.at ≤ s.waiting.front → Allows found.0 e.wrote
      → AllHold (place_checks calls s.marks.items e)
  place_holds s e place shape found left late allowed = (
    (place, found),
    (
      unplaced s.marks.items place e.at found left,
      (
        none_early s e.at shape late,
        (
          (λ k call there asked.
              let same : place ≡ k = good_says.one_place calls messages good place k found.0 call found.1 there (found.2 ∙ sym asked) in
              let here : slice_get calls k ≡ Some found.0 = subst (λ n. slice_get calls n ≡ Some found.0) same found.1 in
              subst (λ x. Allows x e.wrote) (same_Some found.0 call (sym here ∙ there)) allowed),
          tt,
        ),
      ),
    ),
  )
