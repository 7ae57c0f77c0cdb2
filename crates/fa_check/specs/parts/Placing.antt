-- The checks of the next entry's place by the calls that are placed, and what is left after all entries.
use Rattle.std.specs.Prelude.{◌≡◌, ◌↔◌, ℕ, ◌≤◌, Bool, List, [], ◌∷◌, slice_get, Option, None, Some}
use Rattle.fa_capture.specs.declared.codes.TheConstants.{NO_TREE_REQUEST, PLACED_TWICE, EARLIER_NOT_PLACED, CHOICE_NOT_ALLOWED}
use Rattle.fa_ledger.specs.Calls.{PlainCall}
use Rattle.fa_ledger.specs.Choices.{Allows}
use Rattle.fa_order.specs.declared.entry.Entry.{Entry}
use Rattle.fa_check.specs.Marks.{IsSet, IsUnset}
use Rattle.fa_check.specs.Replays.{IsCallOf, IsAnswerAt, AnswersUnplaced}

-- ---- answers

-- the marks are set at the answers of these calls
abbrev pub AreAnswers : List PlainCall → List Bool → Type 0
AreAnswers calls marks = (q : ℕ) → IsSet marks q ↔ ((place : ℕ) × IsAnswerAt calls place q)

-- ---- the next entry

-- The checks of an entry's place where these calls are placed: a call has its number; it is not placed; each that was answered
-- before the request was sent is placed; and its choice is allowed.
abbrev pub place_checks : List PlainCall → (placed : List Bool) → Entry → List (ℕ × Type 0)
place_checks calls placed e =
    (NO_TREE_REQUEST, (place : ℕ) × IsCallOf calls place e.at)
    ∷ (PLACED_TWICE, (place : ℕ) → IsCallOf calls place e.at → IsUnset placed place)
    ∷ (EARLIER_NOT_PLACED, (q : ℕ) → AnswersUnplaced calls placed q → e.at ≤ q)
    ∷ (CHOICE_NOT_ALLOWED, (place : ℕ) (call : PlainCall) → slice_get calls place ≡ Some call → call.asked ≡ e.at → Allows call e.wrote)
    ∷ []

-- ---- after all entries

-- this is the least message number of an answered call that is not placed, if there is one
abbrev pub IsLeastLeft : List PlainCall → (placed : List Bool) → Option ℕ → Type 0
IsLeastLeft calls placed None = (q : ℕ) → AnswersUnplaced calls placed q → ⊥
IsLeastLeft calls placed (Some at) =
    ((place : ℕ) × (q : ℕ) × IsCallOf calls place at × IsAnswerAt calls place q × IsUnset placed place)
    × ((place q : ℕ) (call : PlainCall) → slice_get calls place ≡ Some call → IsAnswerAt calls place q → IsUnset placed place → at ≤ call.asked)
