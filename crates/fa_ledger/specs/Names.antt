-- Node names: a node id with the reply since which it has been known, so that an id which is used again after it was
-- forgotten has another name (this profile). And which nodes a request names.
use Rattle.std.specs.Prelude.{◌≡◌, ℕ, suc, ◌<◌, ◌≤◌, ◌==◌, nat_lt, nat_le, Bool, false, ◌&&◌, ◌||◌, if◌then◌else◌, List, length, slice_get, take, Option, Some, option_map}
use Rattle.std.specs.Option.{option_map_or}
use Rattle.fa_bodies.specs.declared.requests.TheConstants.{ROOT_ID}
use Rattle.fa_bodies.specs.Requests.{PlainRequest}
use Rattle.fa_session.specs.Events.{PlainEvent}
use Rattle.fa_ledger.specs.declared.name.NodeName.{NodeName}
use Rattle.fa_ledger.specs.declared.name.NodeName.TheVariants.{Root, Given}
use Rattle.fa_ledger.specs.Sums.{least_below, each_below}
use Rattle.fa_ledger.specs.Mentions.{mentions}
use Rattle.fa_ledger.specs.Counts.{times_given, lookups_given, lookups_taken, IsCounted}

-- ---- names

-- the count of the node is positive after these events, as a test
abbrev pub is_counted : List PlainEvent → ℕ → Bool
is_counted es node = nat_lt (lookups_taken es node) (lookups_given es node)

-- event g gives the node
abbrev pub gives_at : List PlainEvent → ℕ → ℕ → Bool
gives_at es node g = option_map_or (λ e. nat_lt 0 (times_given node e)) (slice_get es g) false

-- event g gives the node, and its count stayed positive from there on
abbrev pub stays_from : List PlainEvent → ℕ → ℕ → Bool
stays_from es node g =
    gives_at es node g && each_below (suc (length es)) (λ r. nat_le r g || is_counted (take r es) node)

-- The name of a node after these events: the root's is its own; any other is named by the least event that gave it such
-- that its count stayed positive from there on. A node without such an event has none.
abbrev pub name_at : List PlainEvent → ℕ → Option NodeName
name_at es node =
    (if node == ROOT_ID then Some Root else option_map (λ g. Given g node) (least_below (length es) (stays_from es node)))

-- Event g gives the node, and its count is positive after each event from g on.
pub record IsCountedSince (es : List PlainEvent) (node g : ℕ) : Type 0 where
  pub event : PlainEvent
  pub there : slice_get es g ≡ Some event
  pub gives : 0 < times_given node event
  pub stays : (r : ℕ) → g < r → r ≤ length es → IsCounted (take r es) node

-- The name of a node in words that are no tests: of the events since which it is counted it has the least.
pub record IsNamedBy (es : List PlainEvent) (node g : ℕ) : Type 0 where
  pub since : IsCountedSince es node g
  pub least : (h : ℕ) → IsCountedSince es node h → g ≤ h

-- ---- what a request names

-- the nodes that a request names
abbrev pub nodes_named : PlainRequest → List ℕ
nodes_named r = (mentions r.body).names r.node
