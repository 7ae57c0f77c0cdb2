-- An order cut at a message: what is left of it for the messages before that one.
use Rattle.std.specs.Prelude.{◌≡◌, ◌⊎◌, ℕ, ◌<◌, ◌≤◌, List, [], ◌∷◌, ◌++◌, All, Contains, Option, Some}
use Rattle.fa_capture.specs.Message.{Message}
use Rattle.fa_bodies.specs.Requests.{PlainRequest}
use Rattle.fa_bodies.specs.Replies.{PlainReply}
use Rattle.fa_session.specs.Answers.{IsAnsweredBy, IsRepliedAt}
use Rattle.fa_ledger.specs.declared.operation.Outcome.TheVariants.{Succeeds}
use Rattle.fa_ledger.specs.Kinds.{KeepsTree}
use Rattle.fa_ledger.specs.Operations.{PlainOperation, operation_of}
use Rattle.fa_ledger.specs.Operations.PlainAction.{Write}
use Rattle.fa_ledger.specs.Operations.PlainOperation.{Acts}
use Rattle.fa_tree.specs.State.{TreeState}
use Rattle.fa_order.specs.declared.entry.Entry.{Entry}
use Rattle.fa_check.specs.Orders.{IsTreeRequestAt, numbers}
use Rattle.fa_check.specs.Runs.{Runs}
use Rattle.fa_check.specs.Faults.{EachPlaced}

-- the request at p was answered before message m
abbrev pub IsAnsweredBefore : List Message → (m p : ℕ) → Type 0
IsAnsweredBefore c m p = (q : ℕ) × IsAnsweredBy c p q × (q < m)

-- the tree request at p was answered late, at message m or behind it, and this is its operation, with what came of it
abbrev pub IsAnsweredLate : List Message → (m p : ℕ) → PlainOperation → Type 0
IsAnsweredLate c m p o =
    (q : ℕ) × (r : PlainRequest) × (reply : PlainReply) × IsRepliedAt c q p r reply × (m ≤ q) × (operation_of r.body (Some reply) ≡ Some o)

-- what an entry carries when its request's answer is taken away: of a WRITE that succeeded the count of its answer, of any other what it
-- carried
abbrev pub wrote_without : PlainOperation → Option ℕ → Option ℕ
wrote_without (Acts (Write offset size payload (Succeeds count))) wrote = Some count
wrote_without other wrote = wrote

-- The entry goes: it names no tree request, or one that was answered late and leaves what is stored as it is.
abbrev pub Goes : List Message → (m : ℕ) → Entry → Type 0
Goes c m e =
    (IsTreeRequestAt c e.at → ⊥) ⊎ ((o : PlainOperation) × IsAnsweredLate c m e.at o × KeepsTree o)

-- The entry stays as it is: its request was not answered late, but before, or never.
abbrev pub StaysSame : List Message → (m : ℕ) → (e left : Entry) → Type 0
StaysSame c m e left = ((q : ℕ) → IsAnsweredBy c e.at q → q < m) × (left ≡ e)

-- The entry stays without its request's answer, which is late: with that the request may have changed what is stored.
abbrev pub StaysUnanswered : List Message → (m : ℕ) → (e left : Entry) → Type 0
StaysUnanswered c m e left =
    (o : PlainOperation) × IsAnsweredLate c m e.at o × (KeepsTree o → ⊥) × (left ≡ record { at = e.at; wrote = wrote_without o e.wrote })

-- the entry stays, and this is what is left of it
abbrev pub Stays : List Message → (m : ℕ) → (e left : Entry) → Type 0
Stays c m e left = IsTreeRequestAt c e.at × (StaysSame c m e left ⊎ StaysUnanswered c m e left)

-- what is left of these entries: each stays or goes
abbrev pub AreLeft : List Message → (m : ℕ) → (es left : List Entry) → Type 0
AreLeft c m [] left = left ≡ []
AreLeft c m (e ∷ es) left =
    (Goes c m e × AreLeft c m es left)
    ⊎ ((f : Entry) × (rest : List Entry) × (left ≡ f ∷ rest) × Stays c m e f × AreLeft c m es rest)

-- the entry names a tree request that was answered before message m
abbrev pub IsAnsweredEntry : List Message → (m : ℕ) → Entry → Type 0
IsAnsweredEntry c m e = IsTreeRequestAt c e.at × IsAnsweredBefore c m e.at

-- The order cut at message m: what is left of its front, which goes up to and with the last entry that names a tree request answered
-- before m, and is empty where there is none.
pub record IsCut (c : List Message) (m : ℕ) (es cut : List Entry) : Type 0 where
  pub front : List Entry
  pub behind : List Entry
  pub parts : es ≡ front ++ behind
  pub last : (front ≡ []) ⊎ ((earlier : List Entry) × (e : Entry) × (front ≡ earlier ++ e ∷ []) × IsAnsweredEntry c m e)
  pub none : All (λ e. IsAnsweredEntry c m e → ⊥) behind
  pub left : AreLeft c m front cut

-- The entries explain the replies before message m: each is placed rightly, they are a run from the first tree, and each tree
-- request that was answered before m is in one. Others may be left out; those that are in are judged by their replies, whenever
-- these came.
pub record Explains (c : List Message) (first : TreeState) (m : ℕ) (es : List Entry) : Type 0 where
  pub placed : EachPlaced c es
  pub last : TreeState
  pub run : Runs first last c es
  pub held : (p : ℕ) → IsTreeRequestAt c p → IsAnsweredBefore c m p → Contains (numbers es) p
