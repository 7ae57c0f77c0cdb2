-- Lookup counts: how often replies gave a node, and how many of these lookups were taken back (`nlookup` of struct
-- fuse_forget_in and struct fuse_forget_one of fuse.h). The root, FUSE_ROOT_ID, is always known.
use Rattle.std.specs.Prelude.{◌≡◌, ℕ, ◌+◌, ◌<◌, ◌==◌, ◌⊎◌, Bool, ◌||◌, if◌then◌else◌, List, [], ◌∷◌, ◌++◌, Option, Some, None, codes, filter, not, count_by}
use Rattle.std.specs.Str.{bytes_eq}
use Rattle.fa_bodies.specs.declared.entry.EntryOut.{EntryOut}
use Rattle.fa_bodies.specs.declared.requests.TheConstants.{ROOT_ID}
use Rattle.fa_bodies.specs.Dirents.{PlainDirent}
use Rattle.fa_bodies.specs.Requests.{PlainRequest, PlainBody}
use Rattle.fa_bodies.specs.Replies.{PlainReply}
use Rattle.fa_bodies.specs.Replies.PlainReply.{Entry, Created, Listed}
use Rattle.fa_session.specs.Events.{PlainEvent}
use Rattle.fa_session.specs.Events.PlainEvent.{Asked, Answered}
use Rattle.fa_ledger.specs.Mentions.{node_of, mentions}
use Rattle.fa_ledger.specs.Sums.{sum_of}

-- ---- what a reply gives

-- the name is `.` or `..`
abbrev pub is_dots : List ℕ → Bool
is_dots name = bytes_eq name (codes ".") || bytes_eq name (codes "..")

-- The node that an entry of a listing gives: none in a READDIR, nor where a READDIRPLUS gives 0, nor for `.` and `..`,
-- which the kernel does not look up (this profile, as the kernel).
abbrev pub nodes_of_entry : Option EntryOut → List ℕ → List ℕ
nodes_of_entry None name = []
nodes_of_entry (Some entry) name = (if is_dots name then [] else node_of entry)

-- the nodes that a listing gives, in the order of its entries
abbrev pub nodes_of_listing : List PlainDirent → List ℕ
nodes_of_listing [] = []
nodes_of_listing (d ∷ ds) = nodes_of_entry d.entry d.name ++ nodes_of_listing ds

-- the nodes that a reply to a request gives, in their order
abbrev pub nodes_given : PlainBody → PlainReply → List ℕ
nodes_given body (Entry entry) = (mentions body).gives entry
nodes_given body (Created entry out) = entry.nodeid ∷ []
nodes_given body (Listed ds) = nodes_of_listing ds
nodes_given body other = []

-- ---- what a request takes

-- what a request takes: a forget of the root takes nothing
abbrev pub request_takes : PlainRequest → List (ℕ × ℕ)
request_takes r = filter (λ item. not (item.0 == ROOT_ID)) ((mentions r.body).takes r.node)

-- how many lookups of a node these items take in all
abbrev pub total_taken : ℕ → List (ℕ × ℕ) → ℕ
total_taken node [] = 0
total_taken node (item ∷ items) = (if item.0 == node then item.1 else 0) + total_taken node items

-- ---- the count

-- how often an event gives the node
abbrev pub times_given : ℕ → PlainEvent → ℕ
times_given node (Answered at asked r reply) = count_by (λ given. given == node) (nodes_given r.body reply)
times_given node other = 0

-- how many lookups of the node an event takes
abbrev pub times_taken : ℕ → PlainEvent → ℕ
times_taken node (Asked at r) = total_taken node (request_takes r)
times_taken node other = 0

-- how often these events gave the node, and how many of its lookups they took
abbrev pub lookups_given : List PlainEvent → ℕ → ℕ
lookups_given es node = sum_of (λ before e. times_given node e) es

abbrev pub lookups_taken : List PlainEvent → ℕ → ℕ
lookups_taken es node = sum_of (λ before e. times_taken node e) es

-- after these events the count of the node is positive: fewer lookups were taken than given
abbrev pub IsCounted : List PlainEvent → ℕ → Type 0
IsCounted es node = lookups_taken es node < lookups_given es node

-- after these events the node is known: it is the root, or its count is positive
abbrev pub IsKnown : List PlainEvent → ℕ → Type 0
IsKnown es node = (node ≡ ROOT_ID) ⊎ IsCounted es node
