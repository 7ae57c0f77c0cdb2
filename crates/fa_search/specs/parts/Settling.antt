-- What a search holds, with the entries that lead to it, while a request is settled.
use Rattle.std.specs.Prelude.{◌≡◌, ◌⊎◌, ℕ, ◌<◌, ◌≤◌, List, [], ◌∷◌, ◌++◌, length, Contains, All, None, Vec}
use Rattle.std.specs.declared.alloc.Global.{Global}
use Rattle.fa_capture.specs.Message.{Message}
use Rattle.fa_tree.specs.State.{TreeState}
use Rattle.fa_tree.specs.Alike.{AreAlike}
use Rattle.fa_order.specs.declared.entry.Entry.{Entry}
use Rattle.fa_session.specs.Answers.{IsAnsweredBy}
use Rattle.fa_ledger.specs.declared.calls.Calls.{Calls}
use Rattle.fa_check.specs.Orders.{IsTreeRequestAt}
use Rattle.fa_check.specs.Runs.{EntrySteps}
use Rattle.fa_check.specs.Verdicts.{AreMessagesOf}
use Rattle.fa_search.specs.Searches.{IsStop, IsUsedFrom, IsLeastCode, ComesTo, IsRefusedFrom, EachComesTo, ComeToSoMany, IsExplainedUpTo, AreSerialBefore}
use Rattle.fa_search.specs.declared.coming.Alternatives.{Alternatives}
use Rattle.fa_search.specs.declared.searching.Progress.{Progress}
use Rattle.fa_search.specs.declared.searching.Ended.{Ended}
use Rattle.fa_search.specs.declared.searching.Ended.TheVariants.{Order, Stop, Spent}
use Rattle.fa_search.specs.parts.Flight.{IsFlight, CoversFrom}
use Rattle.fa_search.specs.parts.Placed.{IsPlacedIn, IsSameAs}
use Rattle.fa_search.specs.parts.Configurations.{PlainConfiguration, IsPending, IsReached, AreHeld, IsAheadIfKnown, AreSettling, AreSpent, IsWithout}

-- the entries that all have in common, and then its own, come to the configuration
abbrev pub IsTraced : List Message → (first : TreeState) → (common : List Entry) → (at : ℕ) → PlainConfiguration → Type 0
IsTraced c first common at x = (reached : IsReached c first at x) × (reached.entries ≡ common ++ x.entries)

-- these are held at the message, each traced
pub record AreHeldBy (c : List Message) (first : TreeState) (common : List Entry) (at : ℕ) (held : List PlainConfiguration) : Type 0 where
  pub are : AreHeld c first at held
  pub traced : (x : PlainConfiguration) → Contains held x → IsTraced c first common at x

-- the two lists while the request is settled, each configuration traced
pub record AreSettlingBy (c : List Message) (first : TreeState) (common : List Entry) (at asked : ℕ) (held work settled : List PlainConfiguration) : Type 0 where
  pub are : AreSettling c first at asked held work settled
  pub traced : (x : PlainConfiguration) → Contains work x ⊎ Contains settled x → IsTraced c first common at x

-- whatever is held, where the first two lists settle the request, the other two do
abbrev pub AreSettlingStill : Calls → (at asked : ℕ) → (work settled more further : List PlainConfiguration) → Type 0
AreSettlingStill calls at asked work settled more further =
    (c : List Message) (first : TreeState) (common : List Entry) (held : List PlainConfiguration) → AreMessagesOf calls c → AreSettlingBy c first common at asked held work settled
    → AreSettlingBy c first common at asked held more further

-- The request is settled: some that are held lead to these. Where it is placed in none, those that are left are all in which it is not.
pub record IsSettled (c : List Message) (first : TreeState) (common : List Entry) (at asked : ℕ) (left settled : List PlainConfiguration) : Type 0 where
  pub held : List PlainConfiguration
  pub work : List PlainConfiguration
  pub are_held : AreHeld c first at held
  pub settling : AreSettling c first at asked held work settled
  pub spent : AreSpent c at work work settled
  pub left_is : settled ≡ [] → left ≡ work
  pub traced : (x : PlainConfiguration) → Contains settled x → IsTraced c first common at x
  pub left_traced : (x : PlainConfiguration) → Contains left x → IsTraced c first common at x

-- These are left where a request is placed in none: no order goes past the message, entries come to each, and to no other tree, but for
-- openings of no use.
pub record AreLeft (c : List Message) (first : TreeState) (common : List Entry) (at : ℕ) (left : List PlainConfiguration) : Type 0 where
  pub stop : IsStop c first at
  pub some : 0 < length left
  pub each : (x : PlainConfiguration) → Contains left x → (asked : ℕ) × ComesTo c first at (common ++ x.entries) x.tree asked
  pub complete : (es : List Entry) (tree : TreeState) (request : ℕ) → ComesTo c first at es tree request
      → (x : PlainConfiguration) × Contains left x × AreAlike (IsUsedFrom c at) tree x.tree

-- each of these orders is the entries that all have in common, and then those of one of the configurations
abbrev pub EachLeadsTo : (common : List Entry) → (left : List PlainConfiguration) → List (Vec Entry Global) → Type 0
EachLeadsTo common left orders = All (λ order. (x : PlainConfiguration) × Contains left x × (order.items ≡ common ++ x.entries)) orders

-- no order goes past the message, and these come to it, of so many trees
pub record CameTo (c : List Message) (first : TreeState) (at : ℕ) (found : Alternatives) : Type 0 where
  pub stop : IsStop c first at
  pub orders : EachComesTo c first at found
  pub trees : ComeToSoMany c first at found.trees
  pub some : 0 < found.trees

-- The configuration is ahead of another, if the tree of that knows what was given, and what came to that comes to it.
pub record IsFurther (c : List Message) (at : ℕ) (old new : PlainConfiguration) : Type 0 where
  pub ahead : IsAheadIfKnown c at (Contains old.placed) old.tree new
  pub traced : (first : TreeState) (common : List Entry) → IsTraced c first common at old → IsTraced c first common at new

-- one of the two lists has what is ahead of this one, if its tree knows what was given
pub record IsIn (c : List Message) (at : ℕ) (x : PlainConfiguration) (work settled : List PlainConfiguration) : Type 0 where
  pub to : PlainConfiguration
  pub there : Contains work to ⊎ Contains settled to
  pub ahead : IsAheadIfKnown c at (Contains x.placed) x.tree to

-- the two lists grew at their ends
pub record AreGrown (work settled more further : List PlainConfiguration) : Type 0 where
  pub behind : List PlainConfiguration
  pub beside : List PlainConfiguration
  pub work_is : more ≡ work ++ behind
  pub settled_is : further ≡ settled ++ beside

-- the list with this configuration behind it, or as it was, where it has the same one, as far as openings count
abbrev pub IsPushedNew : (Counts : ℕ → Type 0) → (old : List PlainConfiguration) → (x : PlainConfiguration) → (new : List PlainConfiguration) → Type 0
IsPushedNew Counts old x new = (new ≡ old ++ x ∷ []) ⊎ ((new ≡ old) × ((y : PlainConfiguration) × Contains old y × IsSameAs Counts x y))

-- the configuration is pushed to those in which the request is placed, or to the others, unless they have the same one, as far as openings
-- count
abbrev pub IsPut : (Counts : ℕ → Type 0) → (asked : ℕ) → PlainConfiguration → (work settled more further : List PlainConfiguration) → Type 0
IsPut Counts asked x work settled more further =
    (Contains x.placed asked × (more ≡ work) × IsPushedNew Counts settled x further) ⊎ ((Contains x.placed asked → ⊥) × IsPushedNew Counts work x more × (further ≡ settled))

-- the message answers this tree request, and no other is in flight that an order may name
abbrev pub IsOnlyPending : List Message → (at asked : ℕ) → Type 0
IsOnlyPending c at asked = IsTreeRequestAt c asked × IsAnsweredBy c asked at × ((p : ℕ) → IsPending c at p → p ≡ asked)

-- the request, taken without a count, has no step from the configuration
abbrev pub HasNoStep : List Message → (asked : ℕ) → PlainConfiguration → Type 0
HasNoStep c asked x = (new : TreeState) → EntrySteps x.tree new c (record { at = asked; wrote = None }) → ⊥

-- The configuration was taken in: among those in which the request is placed, as it came, or with the request's step, which it had; or
-- among those that are left, where it had none.
pub data IsTakenIn (c : List Message) (asked : ℕ) (x : PlainConfiguration) (left settled more further : List PlainConfiguration) : Type 0 where
  WasPlaced : Contains x.placed asked → more ≡ left → further ≡ settled ++ x ∷ [] → IsTakenIn c asked x left settled more further
  GetsPlaced :
      (y : PlainConfiguration) → (Contains x.placed asked → ⊥) → IsPlacedIn c x (record { at = asked; wrote = None }) y → more ≡ left
      → further ≡ settled ++ y ∷ [] → IsTakenIn c asked x left settled more further
  StaysLeft : (Contains x.placed asked → ⊥) → HasNoStep c asked x → more ≡ left ++ x ∷ [] → further ≡ settled → IsTakenIn c asked x left settled more further

-- the request has a step from none of these
abbrev pub HaveNoStep : List Message → (asked : ℕ) → List PlainConfiguration → Type 0
HaveNoStep c asked those = (x : PlainConfiguration) → Contains those x → HasNoStep c asked x

-- the least code with which the request is refused from these
pub record IsLeastOf (c : List Message) (asked : ℕ) (those : List PlainConfiguration) (code : ℕ) : Type 0 where
  pub one : (x : PlainConfiguration) × Contains those x × IsRefusedFrom x.tree c asked code
  pub least : (x : PlainConfiguration) (other : ℕ) → Contains those x → IsRefusedFrom x.tree c asked other → code ≤ other

-- these are without the request, each with its entries
pub record AreWithoutBy (settled : List PlainConfiguration) (asked : ℕ) (held : List PlainConfiguration) : Type 0 where
  pub each : (y : PlainConfiguration) → Contains held y → (x : PlainConfiguration) × Contains settled x × IsWithout x asked y × (y.entries ≡ x.entries)
  pub all : (x : PlainConfiguration) → Contains settled x → (y : PlainConfiguration) × Contains held y × IsWithout x asked y

-- of these each is there once, or one that is the same, as far as openings count
pub record AreMerged (Counts : ℕ → Type 0) (old new : List PlainConfiguration) : Type 0 where
  pub each : (y : PlainConfiguration) → Contains new y → Contains old y
  pub all : (x : PlainConfiguration) → Contains old x → (y : PlainConfiguration) × Contains new y × IsSameAs Counts x y

-- A search behind the messages that came: what is in flight, and what is held, never nothing; one alone where requests came one after the other.
pub record IsSearching (c : List Message) (first : TreeState) (progress : Progress) : Type 0 where
  pub flight : IsFlight progress.tries.replay.list progress.flight
  pub held : AreHeldBy c first progress.common.items progress.flight.at progress.held.items
  pub some : 0 < length progress.held.items
  pub serial : AreSerialBefore c progress.flight.at → length progress.held.items ≤ 1

-- A search ended so before all messages were passed: no order is found there, and where none goes on it holds what is left, and has noted
-- which openings are of use.
abbrev pub EndsEarly : List Message → (first : TreeState) → Progress → Ended → Type 0
EndsEarly c first progress (Order order) = ⊥
EndsEarly c first progress (Stop at code) =
    IsStop c first at × IsLeastCode c first at code × AreLeft c first progress.common.items at progress.held.items × CoversFrom c at progress.flight.last_uses
EndsEarly c first progress (Spent at) = IsExplainedUpTo c first at × (AreSerialBefore c at → ⊥)

-- the order in which it ended, if it did in one, is such
abbrev pub IfOrder : Ended → (List Entry → Type 0) → Type 0
IfOrder (Order order) Such = Such order.items
IfOrder other Such = Unit {0}
