-- What one event does to a node, to a key and to the calls.
use Rattle.std.specs.Prelude.{cond, ◌≡◌, ℕ, zero, suc, ◌+◌, ◌-◌, ◌<◌, ◌≤◌, ◌==◌, Bool, true, false, ◌||◌, ◌⊎◌, not, filter, nat_eq, if◌then◌else◌, List, [], ◌∷◌, ◌++◌, map, count_by, Option, None, Some, is_none, option_map}
use Rattle.std.specs.List.{list_any}
use Rattle.std.specs.Map.{lookup}
use Rattle.std.specs.Option.{option_map_or}
use Rattle.fa_bodies.specs.declared.requests.TheConstants.{ROOT_ID}
use Rattle.fa_bodies.specs.declared.handles.OpenOut.{OpenOut}
use Rattle.fa_bodies.specs.FlagBits.{atomic_o_trunc, fopen_direct_io}
use Rattle.fa_bodies.specs.Flags.{HasFlag, has_flag, init_bits, fopen_bits}
use Rattle.fa_bodies.specs.Requests.{PlainBody}
use Rattle.fa_bodies.specs.Requests.PlainBody.{Init, Open, Opendir, Create}
use Rattle.fa_bodies.specs.Replies.{PlainReply}
use Rattle.fa_bodies.specs.Replies.PlainReply.{Created, Opened, Listed, InitAnswer}
use Rattle.fa_ledger.specs.declared.giving.GivenNames.{GivenNames}
use Rattle.fa_ledger.specs.declared.giving.GivenNames.TheVariants.{Nothing, One, Several}
use Rattle.fa_ledger.specs.declared.handles.Handle.{Handle}
use Rattle.fa_ledger.specs.declared.key.HandleKind.TheVariants.{File, Directory}
use Rattle.fa_ledger.specs.declared.key.Key.{Key}
use Rattle.fa_ledger.specs.declared.name.NodeName.{NodeName}
use Rattle.fa_ledger.specs.declared.name.NodeName.TheVariants.{Root, Given}
use Rattle.fa_ledger.specs.declared.naming.Named.{Named}
use Rattle.fa_ledger.specs.declared.nodes.Lookups.{Lookups}
use Rattle.fa_ledger.specs.Counts.{total_taken}
use Rattle.fa_ledger.specs.Keys.{key_eq}
use Rattle.fa_ledger.specs.Calls.{PlainCall, PlainAnswer}
use Rattle.fa_ledger.specs.Operations.{PlainOperation}

-- the nodes that are named, as a list
abbrev pub named_list : Named → List ℕ
named_list named = named.node ∷ option_map_or (λ other. other ∷ []) named.other []

-- the reply is a listing
abbrev pub IsListedReply : PlainReply → Type 0
IsListedReply (Listed ds) = Unit {0}
IsListedReply other = ⊥

-- the names of the nodes that a reply gives
abbrev pub given_names_shown : GivenNames → List NodeName
given_names_shown Nothing = []
given_names_shown (One name) = name ∷ []
given_names_shown (Several names) = names.value.items

-- it is one name
abbrev pub IsOne : GivenNames → Type 0
IsOne (One name) = Unit {0}
IsOne other = ⊥

-- it is a list of names
abbrev pub IsSeveral : GivenNames → Type 0
IsSeveral (Several names) = Unit {0}
IsSeveral other = ⊥

-- the key that CREATE opens, and how, where the reply gives these
abbrev pub created_with : PlainBody → PlainReply → List NodeName → Option (Key × OpenOut)
created_with (Create flags mode umask name) (Created entry out) (given ∷ []) = Some (record { node = given; fh = out.fh; kind = File }, out)
created_with body reply given = None

-- the key that a success opens, and how, where its request named this node and the reply gives these
abbrev pub opened_with : NodeName → List NodeName → PlainBody → PlainReply → Option (Key × OpenOut)
opened_with node given (Open o) (Opened out) = Some (record { node = node; fh = out.fh; kind = File }, out)
opened_with node given (Opendir o) (Opened out) = Some (record { node = node; fh = out.fh; kind = Directory }, out)
opened_with node given (Create flags mode umask name) (Created entry out) = created_with (Create flags mode umask name) (Created entry out) given
opened_with node given body reply = None

-- both sides of INIT set FUSE_ATOMIC_O_TRUNC
abbrev pub SettlesTruncation : PlainBody → PlainReply → Type 0
SettlesTruncation (Init i) (InitAnswer n) = HasFlag (init_bits i.flags) atomic_o_trunc × HasFlag (init_bits n.flags) atomic_o_trunc
SettlesTruncation other reply = ⊥

-- a node that is given so often by the reply at this number
abbrev pub given_again : ℕ → ℕ → Option Lookups → Option Lookups
given_again at zero node = node
given_again at (suc n) None = Some (record { count = suc n; by = at })
given_again at (suc n) (Some l) = Some (record { count = l.count + suc n; by = l.by })

-- the name of a node that stands so, if it is known
abbrev pub named_by : ℕ → Option Lookups → Option NodeName
named_by id node = (if id == ROOT_ID then Some Root else option_map (λ l. Given l.by id) node)

-- the name of a node that stood so, once the reply at this number has given it
abbrev pub given_to : ℕ → ℕ → Option Lookups → NodeName
given_to id at node = Given (option_map_or (λ l. l.by) node at) id

-- the name is one of this node, as a test
abbrev pub is_named : ℕ → NodeName → Bool
is_named node Root = false
is_named node (Given by id) = id == node

-- how often names have this node
abbrev pub times_named : ℕ → List NodeName → ℕ
times_named node names = count_by (is_named node) names

-- the table has not the node of the name, as a test
abbrev pub is_new : List (ℕ × Lookups) → NodeName → Bool
is_new known Root = false
is_new known (Given by id) = is_none (lookup (nat_eq id) known)

-- the table has not the node of some of the names, as a test
abbrev pub some_new : List (ℕ × Lookups) → List NodeName → Bool
some_new known names = list_any (is_new known) names

-- how many lookups are left of a node
abbrev pub count_left : Option Lookups → ℕ
count_left node = option_map_or (λ l. l.count) node 0

-- a node with so many lookups less, and with so many more, even where none is left
abbrev pub lowered : ℕ → Option Lookups → Option Lookups
lowered n node = option_map (λ l. record { count = l.count - n; by = l.by }) node

abbrev pub raised : ℕ → Option Lookups → Option Lookups
raised n node = option_map (λ l. record { count = l.count + n; by = l.by }) node

-- a node, if a lookup is left of it
abbrev pub left_over : Option Lookups → Option Lookups
left_over None = None
left_over (Some l) = (if l.count == 0 then None else Some l)

-- a node in the table, of which items were taken that sum up to this, stays there if a lookup is left of it or none was taken
abbrev pub IsDropped : ℕ → Option Lookups → Option Lookups → Type 0
IsDropped taken old new = (new ≡ left_over old) ⊎ ((new ≡ old) × (taken ≡ 0))

-- the items of nodes other than the root, of which a forget takes nothing
abbrev pub but_root : List (ℕ × ℕ) → List (ℕ × ℕ)
but_root items = filter (λ item. not (item.0 == ROOT_ID)) items

-- no item takes more than is left of its node once the earlier items are taken
abbrev pub AreWithin : List (ℕ × Lookups) → List (ℕ × ℕ) → Type 0
AreWithin known items =
    (earlier later : List (ℕ × ℕ)) (node nlookup : ℕ) → items ≡ earlier ++ (node, nlookup) ∷ later
    → total_taken node earlier + nlookup ≤ count_left (lookup (nat_eq node) known)

-- a node of which so many lookups are taken back: it goes where none is left
abbrev pub IsTakenFrom : ℕ → Option Lookups → Option Lookups → Type 0
IsTakenFrom n None new = (n ≡ 0) × (new ≡ None)
IsTakenFrom n (Some l) None = n ≡ l.count
IsTakenFrom n (Some l) (Some m) = (0 < m.count) × (n + m.count ≡ l.count) × (m.by ≡ l.by)

-- a key that the answer to a request opens once more
abbrev pub opened_again : (asked : ℕ) → (direct : Bool) → Option Handle → Handle
opened_again asked direct None = record { openings = 1; name = asked; shared = false; direct = direct }
opened_again asked direct (Some h) =
    record { openings = h.openings + 1; name = h.name; shared = true; direct = h.direct || direct }

-- a success opens a key that is not open, as a test
abbrev pub opens_new : List (Key × Handle) → Option (Key × OpenOut) → Bool
opens_new opened which = option_map_or (λ w. is_none (lookup (key_eq w.0) opened)) which false

-- the keys that are open before and after the answer to a request opens this one, if any
abbrev pub IsOpenedBy : (asked : ℕ) → Option (Key × OpenOut) → List (Key × Handle) → List (Key × Handle) → Type 0
IsOpenedBy asked None old new = (other : Key) → lookup (key_eq other) new ≡ lookup (key_eq other) old
IsOpenedBy asked (Some which) old new =
    (other : Key) → lookup (key_eq other) new
    ≡ cond (key_eq which.0 other) (Some (opened_again asked (has_flag (fopen_bits which.1.open_flags) fopen_direct_io) (lookup (key_eq which.0) old)))
    (lookup (key_eq other) old)

-- a key of which one opening is closed: it goes where none is left
abbrev pub closed_once : Option Handle → Option Handle
closed_once None = None
closed_once (Some h) =
    (if h.openings == 1 then None else Some (record { openings = h.openings - 1; name = h.name; shared = h.shared; direct = h.direct }))

-- the call with this answer, which makes its operation this one
abbrev pub answered_by : PlainOperation → PlainAnswer → PlainCall → PlainCall
answered_by operation answer call = record {
  asked = call.asked;
  operation = operation;
  node = call.node;
  other = call.other;
  handle = call.handle;
  direct = call.direct;
  truncates = call.truncates;
  listing = call.listing;
  answer = Some answer;
}

-- the calls, where the one of this request has this answer, which makes its operation this one
abbrev pub with_answer : List PlainCall → ℕ → PlainOperation → PlainAnswer → List PlainCall
with_answer calls asked operation answer = map (λ call. (if call.asked == asked then answered_by operation answer call else call)) calls
