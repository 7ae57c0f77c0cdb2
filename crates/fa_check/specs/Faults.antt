-- The first entry at fault of an order that is not legal.
use Rattle.std.specs.Prelude.{◌≡◌, ◌⊎◌, ℕ, ◌≤◌, ◌<◌, List, [], ◌∷◌, ◌++◌, length, Contains}
use Rattle.fa_capture.specs.declared.codes.TheConstants.{NO_TREE_REQUEST, PLACED_TWICE, EARLIER_NOT_PLACED, ANSWERED_LEFT_OUT, CHOICE_NOT_ALLOWED}
use Rattle.fa_capture.specs.Checks.{FirstFailure, AllHold}
use Rattle.fa_capture.specs.Message.{Message}
use Rattle.fa_bodies.specs.Dirents.{PlainDirent}
use Rattle.fa_session.specs.Answers.{IsAnsweredBy}
use Rattle.fa_ledger.specs.Calls.{PlainCall}
use Rattle.fa_tree.specs.State.{TreeState}
use Rattle.fa_tree.specs.Steps.{step_checks}
use Rattle.fa_order.specs.declared.entry.Entry.{Entry}
use Rattle.fa_check.specs.Orders.{IsTreeRequestAt, numbers, IsChoice}
use Rattle.fa_check.specs.Runs.{IsCallAt, Runs}

-- The checks of an entry's place after these entries, in their order. The third is against all answered tree requests.
abbrev pub order_checks : List Message → List Entry → Entry → List (ℕ × Type 0)
order_checks c earlier e =
    (NO_TREE_REQUEST, IsTreeRequestAt c e.at)
    ∷ (PLACED_TWICE, Contains (numbers earlier) e.at → ⊥)
    ∷ (EARLIER_NOT_PLACED, (p q : ℕ) → IsTreeRequestAt c p → IsAnsweredBy c p q → q < e.at → Contains (numbers earlier) p)
    ∷ (CHOICE_NOT_ALLOWED, IsChoice c e)
    ∷ []

-- each of these entries passes the checks of its place after those before it
abbrev pub EachPlaced : List Message → List Entry → Type 0
EachPlaced c es =
    (earlier later : List Entry) (e : Entry) → es ≡ earlier ++ e ∷ later → AllHold (order_checks c earlier e)

-- from this tree the step of the entry's call fails a check, and this is the code of the first
pub record StepFails (tree : TreeState) (c : List Message) (e : Entry) (code : ℕ) : Type 0 where
  pub call : PlainCall
  pub so_far : List PlainDirent
  pub of_request : IsCallAt c e.at call so_far
  pub fails : FirstFailure (step_checks tree call e.wrote so_far) code

-- The entry fails a check of its place after these entries, or it passes those and its step from this tree fails one;
-- with the first such code.
abbrev pub EntryFails : TreeState → List Message → List Entry → Entry → ℕ → Type 0
EntryFails tree c earlier e code =
    FirstFailure (order_checks c earlier e) code ⊎ (AllHold (order_checks c earlier e) × StepFails tree c e code)

-- The first entry that fails a check, with the first check that it fails: the entries before it are all placed and lead from
-- the first tree to another, and after them it fails a check of its place, or from that tree its step fails one.
pub record IsEntryAtFault (c : List Message) (first : TreeState) (es : List Entry) (entry at code : ℕ) : Type 0 where
  pub earlier : List Entry
  pub later : List Entry
  pub e : Entry
  pub tree : TreeState
  pub parts : es ≡ earlier ++ e ∷ later
  pub number : entry ≡ length earlier
  pub message : at ≡ e.at
  pub placed : EachPlaced c earlier
  pub run : Runs first tree c earlier
  pub fails : EntryFails tree c earlier e code

-- an answered tree request that these entries leave out
abbrev pub IsAnsweredUnplaced : List Message → List Entry → ℕ → Type 0
IsAnsweredUnplaced c es p = IsTreeRequestAt c p × ((q : ℕ) × IsAnsweredBy c p q) × (Contains (numbers es) p → ⊥)

-- All entries are placed and are a run, and the least answered tree request that they leave out is at fault.
pub record LeavesOut (c : List Message) (first : TreeState) (es : List Entry) (entry at code : ℕ) : Type 0 where
  pub tree : TreeState
  pub placed : EachPlaced c es
  pub run : Runs first tree c es
  pub number : entry ≡ length es
  pub told : code ≡ ANSWERED_LEFT_OUT
  pub left_out : IsAnsweredUnplaced c es at
  pub least : (p : ℕ) → IsAnsweredUnplaced c es p → at ≤ p

-- the first entry at fault, or after all entries the least answered request that they leave out
abbrev pub IsOrderAtFault : List Message → TreeState → List Entry → ℕ → ℕ → ℕ → Type 0
IsOrderAtFault c first es entry at code = IsEntryAtFault c first es entry at code ⊎ LeavesOut c first es entry at code
