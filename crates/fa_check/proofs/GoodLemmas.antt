-- Calls that are those of some good messages: what holds of them whichever messages these are.
use Rattle.std.proofs.Common.{◌≡◌, ℕ, ◌<◌, ◌≤◌, List, length, Some, inl, inr, arith}
use Rattle.std.proofs.Math.Logic.{∥∥₁_elim}
use Rattle.std.specs.Prelude.{slice_get}
use Rattle.std.proofs.lemmas.Bool.{cases_lt, cases_eq}
use Rattle.fa_capture.specs.Message.{Message}
use Rattle.fa_ledger.specs.Passing.{AreGood}
use Rattle.fa_ledger.specs.Calls.{PlainCall, AreCalls}
use Rattle.fa_check.specs.Replays.{IsAnswerAt}
use Rattle.fa_check.proofs.MessageLemmas as messages_say

module _ (calls : List PlainCall) (messages : ℕ) (good : ∥ ((c : List Message) × AreGood c × (messages ≡ length c) × AreCalls c calls) ∥₁) where
  -- what no messages refuse is not refused
  not_refused : ((c : List Message) → messages ≡ length c → AreCalls c calls → ⊥) → ⊥
  not_refused refused = ∥∥₁_elim good (λ x y. absurd x) (λ some. refused some.0 some.2 some.3)

  -- answers are messages
  pub answer_below : (place q : ℕ) → IsAnswerAt calls place q → q < messages
  answer_below place q answer =
      elim (cases_lt q messages) [
        | inl below ↦ below
        | inr far ↦ absurd (not_refused (λ c counted are. let within = messages_say.answer_within c calls are place q answer in omega (arith, within, counted, far)))
      ]

  -- and so are requests
  pub asked_below : (place : ℕ) (call : PlainCall) → slice_get calls place ≡ Some call → call.asked < messages
  asked_below place call there =
      elim (cases_lt call.asked messages) [
        | inl below ↦ below
        | inr far ↦ absurd (not_refused (λ c counted are. let within = messages_say.asked_within c calls are place call there in omega (arith, within, counted, far)))
      ]

  -- there are no more calls than messages
  pub few_calls : length calls ≤ messages
  few_calls =
      elim (cases_lt messages (length calls)) [
        | inl fewer ↦ absurd (not_refused (λ c counted are. let within = messages_say.calls_within c calls are in omega (arith, within, counted, fewer)))
        | inr enough ↦ enough
      ]

  -- calls with the same number stand at one place
  pub one_place : (i j : ℕ) (a b : PlainCall) → slice_get calls i ≡ Some a → slice_get calls j ≡ Some b → a.asked ≡ b.asked → i ≡ j
  one_place i j a b first second same =
      elim (cases_eq i j) [
        | inl equal ↦ equal
        | inr other ↦ absurd (not_refused (λ c counted are. other (messages_say.one_place c calls are i j a b first second same)))
      ]

  -- answers with the same number are of one call
  pub one_answered : (i j q : ℕ) → IsAnswerAt calls i q → IsAnswerAt calls j q → i ≡ j
  one_answered i j q first second =
      elim (cases_eq i j) [
        | inl equal ↦ equal
        | inr other ↦ absurd (not_refused (λ c counted are. other (messages_say.one_answered c calls are i j q first second)))
      ]

  -- calls stand by rising numbers
  pub asked_rise : (i j : ℕ) (a b : PlainCall) → i < j → slice_get calls i ≡ Some a → slice_get calls j ≡ Some b → a.asked < b.asked
  asked_rise i j a b before first second =
      elim (cases_lt a.asked b.asked) [
        | inl rises ↦ rises
        | inr falls ↦ absurd (not_refused (λ c counted are. let rises = messages_say.asked_rise c calls are i j a b before first second in omega (arith, rises, falls)))
      ]
