-- Which orders are valid. An order is a list of entries; each names a tree request by the number of its message, and says of
-- an unanswered WRITE how many bytes it wrote.
use Rattle.std.specs.Prelude.{◌≡◌, ◌≢◌, ℕ, ◌≤◌, List, map, All, AllPairs, Contains, Some, None}
use Rattle.fa_capture.specs.Message.{Message}
use Rattle.fa_bodies.specs.Requests.{PlainRequest}
use Rattle.fa_session.specs.Answers.{IsRequestAt, IsAnsweredBy, IsUnanswered}
use Rattle.fa_ledger.specs.Kinds.{IsTreeRequest}
use Rattle.fa_ledger.specs.Choices.{MayBePlaced}
use Rattle.fa_ledger.specs.Operations.{PlainOperation, operation_of}
use Rattle.fa_order.specs.declared.entry.Entry.{Entry}

-- message p is a tree request
abbrev pub IsTreeRequestAt : List Message → ℕ → Type 0
IsTreeRequestAt c p = (r : PlainRequest) × IsRequestAt c p r × IsTreeRequest r.body

-- the message numbers of the entries
abbrev pub numbers : List Entry → List ℕ
numbers es = map (λ e. e.at) es

-- the tree request at p is not answered, and this is its operation
abbrev pub IsUnansweredAs : List Message → (p : ℕ) → PlainOperation → Type 0
IsUnansweredAs c p o = IsUnanswered c p × ((r : PlainRequest) × IsRequestAt c p r × (operation_of r.body None ≡ Some o))

-- The choice of an entry that names a tree request is allowed: it carries no count where its request was answered; where it was not, the
-- request may be taken as done so. A request that only reads, and was not answered, may not be placed.
pub record IsChoice (c : List Message) (e : Entry) : Type 0 where
  pub answered : (q : ℕ) → IsAnsweredBy c e.at q → e.wrote ≡ None
  pub unanswered : (o : PlainOperation) → IsUnansweredAs c e.at o → MayBePlaced o e.wrote

-- The order is valid: it holds tree requests, each at most once, and all those that were answered; of two entries
-- the later one was not answered before the earlier one was sent; and each choice is allowed.
pub record IsValidOrder (c : List Message) (es : List Entry) : Type 0 where
  pub each : All (λ e. IsTreeRequestAt c e.at) es
  pub once : AllPairs (λ a b. a.at ≢ b.at) es
  pub complete : (p q : ℕ) → IsTreeRequestAt c p → IsAnsweredBy c p q → Contains (numbers es) p
  pub precedence : AllPairs (λ earlier later. (q : ℕ) → IsAnsweredBy c later.at q → earlier.at ≤ q) es
  pub choices : All (IsChoice c) es
