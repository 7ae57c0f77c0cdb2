-- Entries that go on where some requests are done already: what is left of an order behind the entries that are placed.
use Rattle.std.specs.Prelude.{◌≡◌, ◌⊎◌, ℕ, ◌<◌, List, [], ◌∷◌}
use Rattle.fa_capture.specs.Message.{Message}
use Rattle.fa_session.specs.Answers.{IsAnsweredBy}
use Rattle.fa_tree.specs.State.{TreeState}
use Rattle.fa_order.specs.declared.entry.Entry.{Entry}
use Rattle.fa_check.specs.Orders.{IsTreeRequestAt, IsChoice}
use Rattle.fa_check.specs.Runs.{EntrySteps}

-- The entry may come next where these requests are done: it names a tree request that is not, each tree request that was answered before
-- that one was sent is done, and its choice is allowed.
pub record MayCome (c : List Message) (Done : ℕ → Type 0) (e : Entry) : Type 0 where
  pub tree_request : IsTreeRequestAt c e.at
  pub once : Done e.at → ⊥
  pub earlier : (p q : ℕ) → IsTreeRequestAt c p → IsAnsweredBy c p q → q < e.at → Done p
  pub choice : IsChoice c e

-- the request at p is among these, or this one
abbrev pub OrThis : (Done : ℕ → Type 0) → (this p : ℕ) → Type 0
OrThis Done this p = Done p ⊎ (this ≡ p)

-- The entries go on from one tree to another, where these requests are done: each may come next, and has a step.
abbrev pub GoesOn : List Message → (Done : ℕ → Type 0) → (old new : TreeState) → List Entry → Type 0
GoesOn c Done old new [] = new ≡ old
GoesOn c Done old new (e ∷ es) =
    (between : TreeState) × MayCome c Done e × EntrySteps old between c e × GoesOn c (OrThis Done e.at) between new es
