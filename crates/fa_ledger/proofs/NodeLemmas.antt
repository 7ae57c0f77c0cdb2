-- What one event does to a node: what is left of its lookups after the event, by what was before. And how node names and
-- the counts of a node tell of one another.
use Rattle.std.proofs.Common.{◌≡◌, ◌≢◌, ℕ, zero, suc, ◌+◌, ◌*◌, ◌<◌, ◌≤◌, ◌⊎◌, Bool, true, false, List, [], ◌∷◌, ◌++◌, length, take, Option, Some, None, refl, sym, ap, subst, ◌∙◌, inl, inr, arith, length-append}
use Rattle.std.specs.Prelude.{◌↔◌, ◌==◌, if◌then◌else◌, slice_get, map, option_map, count_by}
use Rattle.std.specs.Option.{option_map_or}
use Rattle.std.proofs.lemmas.Bool.{cases_lt}
use Rattle.std.proofs.lemmas.Bool.Decides.{nat_tests}
use Rattle.std.proofs.lemmas.Option.{slice_get_within}
use Rattle.std.proofs.lemmas.List.Sums.{count_by-le-length, sum_by-cons}
use Rattle.fa_capture.specs.declared.limits.TheConstants.{MAX_MESSAGES}
use Rattle.fa_capture.specs.Message.{Message}
use Rattle.fa_bodies.specs.declared.entry.EntryOut.{EntryOut}
use Rattle.fa_bodies.specs.declared.requests.TheConstants.{ROOT_ID}
use Rattle.fa_bodies.specs.Dirents.{PlainDirent}
use Rattle.fa_bodies.specs.Requests.{PlainRequest, PlainBody, IsRequestBody}
use Rattle.fa_bodies.specs.Requests.PlainBody.{Lookup, Forget, Getattr, Setattr, Readlink, Symlink, Mknod, Mkdir, Unlink, Rmdir, Rename, Link, Open, Read, Write, Release, Flush, Init, Opendir, Readdir, Releasedir, Create, BatchForget, Readdirplus, Rename2, Passed}
use Rattle.fa_bodies.specs.Replies.{PlainReply, IsSuccessBody}
use Rattle.fa_bodies.specs.Replies.PlainReply.{Refused, Empty, Entry, Created, Attributes, Opened, Written, Bytes, Listed, InitAnswer, Skipped}
use Rattle.fa_bodies.proofs.CallerLemmas.{length-entries}
use Rattle.fa_session.specs.Events.{PlainEvent, IsEvent}
use Rattle.fa_session.specs.Events.PlainEvent.{Asked, Answered, Notice}
use Rattle.fa_ledger.specs.declared.name.NodeName.{NodeName}
use Rattle.fa_ledger.specs.declared.name.NodeName.TheVariants.{Root, Given}
use Rattle.fa_ledger.specs.declared.nodes.Lookups.{Lookups}
use Rattle.fa_ledger.specs.Events.{AreEvents}
use Rattle.fa_ledger.specs.Sums.{sum_behind}
use Rattle.fa_ledger.specs.Mentions.{node_of, mentions}
use Rattle.fa_ledger.specs.Counts.{is_dots, nodes_of_entry, nodes_of_listing, nodes_given, times_given, times_taken, lookups_given, lookups_taken, IsKnown}
use Rattle.fa_ledger.specs.Names.{name_at}
use Rattle.fa_ledger.specs.Shows.{IsLookups, IsNodeOf}
use Rattle.fa_ledger.specs.parts.Steps.{is_named, given_again, count_left, IsTakenFrom}
use Rattle.fa_ledger.proofs.NameLemmas.{not_root}
use Rattle.fa_ledger.proofs.GrowthLemmas.{given_more, taken_more, counted_named, uncounted_unnamed, name_kept, name_new}
use Rattle.fa_ledger.proofs.EventLemmas.{element_at}

-- ---- the root

-- a node is the root or not
pub root_or_not : (node : ℕ) → (node ≡ ROOT_ID) ⊎ (node ≢ ROOT_ID)
root_or_not node =
    elim (node == ROOT_ID) as (λ b. (node == ROOT_ID) ≡ b → (node ≡ ROOT_ID) ⊎ (node ≢ ROOT_ID)) [
      | true ↦ λ test. inl (grind (arith, nat_tests, test))
      | false ↦ λ test. inr (λ root. grind (arith, nat_tests, test, root))
    ] refl

-- the root has its own name
root_named : (es : List PlainEvent) (node : ℕ) → node ≡ ROOT_ID → name_at es node ≡ Some Root
root_named es node root = rw root refl

-- a node with lookups is not the root
lookups_not_root : (es : List PlainEvent) (node : ℕ) (l : Lookups) → IsLookups es node l → node ≢ ROOT_ID
lookups_not_root es node l is root =
    let named = is.named in
    let own = root_named es node root in
    absurd cc

-- ---- a node after one event more

-- a node with lookups that has some still keeps its name
lookups_kept : (es : List PlainEvent) (e : PlainEvent) (node : ℕ) (l m : Lookups) → IsLookups es node l → m.by ≡ l.by → 0 < m.count → lookups_taken (es ++ e ∷ []) node + m.count ≡ lookups_given (es ++ e ∷ []) node
    → IsLookups (es ++ e ∷ []) node m
lookups_kept es e node l m is same some left =
    let other = lookups_not_root es node l is in
    record {
      some = some;
      left = left;
      named = name_kept es e node l.by other is.named (omega (arith, some, left)) ∙ ap (λ g. Some (Given g node)) (sym same);
    }

-- a node that the event gives so often has so many lookups more
pub node_given : (es : List PlainEvent) (e : PlainEvent) (node n : ℕ) (x : Option Lookups) → times_given node e ≡ n → times_taken node e ≡ 0 → (0 < n → node ≢ ROOT_ID) → IsNodeOf es node x
    → IsNodeOf (es ++ e ∷ []) node (given_again (length es) n x)
node_given es e node zero None gives takes other is = omega (arith, is, gives, takes, given_more es e node, taken_more es e node)
node_given es e node zero (Some l) gives takes other is =
    lookups_kept es e node l l is refl is.some (omega (arith, is.left, gives, takes, given_more es e node, taken_more es e node))
node_given es e node (suc n) None gives takes other is =
    let left : lookups_taken (es ++ e ∷ []) node + suc n ≡ lookups_given (es ++ e ∷ []) node = omega (arith, is, gives, takes, given_more es e node, taken_more es e node) in
    record {
      some = omega arith;
      left = left;
      named = name_new es e node (other (omega arith)) (λ counted. omega (arith, counted, is)) (omega (arith, left));
    }
node_given es e node (suc n) (Some l) gives takes other is =
    lookups_kept es e node l (record { count = l.count + suc n; by = l.by }) is refl (omega arith) (omega (arith, is.left, gives, takes, given_more es e node, taken_more es e node))

-- a node of which the event takes so many lookups has so many less
pub node_taken : (es : List PlainEvent) (e : PlainEvent) (node n : ℕ) (x y : Option Lookups) → times_given node e ≡ 0 → times_taken node e ≡ n → IsTakenFrom n x y → IsNodeOf es node x → IsNodeOf (es ++ e ∷ []) node y
node_taken es e node n None y gives takes from is =
    let still : lookups_taken (es ++ e ∷ []) node ≡ lookups_given (es ++ e ∷ []) node = omega (arith, is, gives, takes, from.0, given_more es e node, taken_more es e node) in
    subst (λ o. IsNodeOf (es ++ e ∷ []) node o) (sym from.1) still
node_taken es e node n (Some l) None gives takes from is = omega (arith, is.left, gives, takes, from, given_more es e node, taken_more es e node)
node_taken es e node n (Some l) (Some m) gives takes from is =
    lookups_kept es e node l m is from.2 from.0 (omega (arith, is.left, gives, takes, from.1, given_more es e node, taken_more es e node))

-- a node that the event neither gives nor takes stays as it was
pub node_kept : (es : List PlainEvent) (e : PlainEvent) (node : ℕ) (x : Option Lookups) → times_given node e ≡ 0 → times_taken node e ≡ 0 → IsNodeOf es node x → IsNodeOf (es ++ e ∷ []) node x
node_kept es e node x gives takes is = node_given es e node zero x gives takes (λ some. absurd (omega (arith, some))) is

-- ---- names

-- the name of a node, by what stands for it
pub name_of_node : (es : List PlainEvent) (node : ℕ) (x : Option Lookups) → IsNodeOf es node x → name_at es node ≡ (if node == ROOT_ID then Some Root else option_map (λ l. Given l.by node) x)
name_of_node es node None is =
    elim (root_or_not node) [
      | inl root ↦ rw root refl
      | inr other ↦
          let none : name_at es node ≡ None = uncounted_unnamed es node other (λ counted. omega (arith, counted, is)) in
          let bare : (if node == ROOT_ID then Some Root else None) ≡ None = rw (not_root node other) refl in
          none ∙ sym bare
    ]
name_of_node es node (Some l) is =
    let other = lookups_not_root es node l is in
    let same : (if node == ROOT_ID then Some Root else Some (Given l.by node)) ≡ Some (Given l.by node) = rw (not_root node other) refl in
    is.named ∙ sym same

-- a node with a name is known
pub known_named : (es : List PlainEvent) (node : ℕ) (name : NodeName) → name_at es node ≡ Some name → IsKnown es node
known_named es node name named =
    elim (root_or_not node) [
      | inl root ↦ inl root
      | inr other ↦ elim (cases_lt (lookups_taken es node) (lookups_given es node)) [
        | inl counted ↦ inr counted
        | inr not_counted ↦ let none = uncounted_unnamed es node other (λ counted. omega (arith, counted, not_counted)) in absurd cc
      ]
    ]

-- a node without a name is not known
pub unknown_unnamed : (es : List PlainEvent) (node : ℕ) → name_at es node ≡ None → IsKnown es node → ⊥
unknown_unnamed es node none known =
    elim (root_or_not node) [
      | inl root ↦ let own = root_named es node root in absurd cc
      | inr other ↦ elim known [
        | inl root ↦ other root
        | inr counted ↦ let named = counted_named es node other counted in let is = named.1 in absurd cc
      ]
    ]

-- ---- what may be taken

-- lookups may be taken, behind others, where as many are left
pub within_now : (es : List PlainEvent) (node : ℕ) (x : Option Lookups) (taken nlookup : ℕ) → IsNodeOf es node x
    → (lookups_taken es node + taken + nlookup ≤ lookups_given es node) ↔ (taken + nlookup ≤ option_map_or (λ l. l.count) x 0)
within_now es node None taken nlookup is = (λ within. omega (arith, within, is), λ within. omega (arith, within, is))
within_now es node (Some l) taken nlookup is = (λ within. omega (arith, within, is.left), λ within. omega (arith, within, is.left))

-- ---- how often a list of names has a node

-- names that are given to nodes have a node as often as these
pub names_counted : (nodes : List ℕ) (node : ℕ) (name_for : ℕ → NodeName) → ((n : ℕ) → (by : ℕ) × (name_for n ≡ Given by n)) → count_by (λ name. is_named node name) (map name_for nodes) ≡ count_by (λ n. n == node) nodes
names_counted [] node name_for each = refl
names_counted (n ∷ nodes) node name_for each =
    let later = names_counted nodes node name_for each in
    let one_if : Bool → ℕ = λ b. (if b then 1 else 0) in
    let same : is_named node (name_for n) ≡ (n == node) = rw ((each n).1) refl in
    omega (arith, later, ap one_if same, sum_by-cons (λ name. one_if (is_named node name)) (name_for n) (map name_for nodes), sum_by-cons (λ k. one_if (k == node)) n nodes)

-- ---- how often events give a node

-- an entry gives one node at most
node_one : (entry : EntryOut) → length (node_of entry) ≤ 1
node_one entry = elim (entry.nodeid == 0) as (λ b. length (if b then [] else entry.nodeid ∷ []) ≤ 1) [ true ↦ omega arith | false ↦ omega arith ]

-- an entry of a listing does too
entry_one : (entry : Option EntryOut) (name : List ℕ) → length (nodes_of_entry entry name) ≤ 1
entry_one None name = omega arith
entry_one (Some entry) name = elim (is_dots name) as (λ b. length (if b then [] else node_of entry) ≤ 1) [ true ↦ omega arith | false ↦ node_one entry ]

-- a listing gives as many nodes as it has entries, or less
listing_few : (ds : List PlainDirent) → length (nodes_of_listing ds) ≤ length ds
listing_few [] = omega arith
listing_few (d ∷ ds) = omega (arith, listing_few ds, entry_one d.entry d.name, length-append (nodes_of_entry d.entry d.name) (nodes_of_listing ds))

-- the entry of a success gives one node at most
name_one : (body : PlainBody) (entry : EntryOut) → length ((mentions body).gives entry) ≤ 1
name_one (Lookup name) entry = node_one entry
name_one (Forget nlookup) entry = omega arith
name_one (Getattr g) entry = omega arith
name_one (Setattr s) entry = omega arith
name_one Readlink entry = omega arith
name_one (Symlink name target) entry = omega arith
name_one (Mknod mode rdev umask name) entry = omega arith
name_one (Mkdir mode umask name) entry = omega arith
name_one (Unlink name) entry = omega arith
name_one (Rmdir name) entry = omega arith
name_one (Rename newdir old_name new_name) entry = omega arith
name_one (Link oldnodeid new_name) entry = omega arith
name_one (Open o) entry = omega arith
name_one (Read r) entry = omega arith
name_one (Write fh offset size write_flags lock_owner flags payload) entry = omega arith
name_one (Release r) entry = omega arith
name_one (Flush f) entry = omega arith
name_one (Init i) entry = omega arith
name_one (Opendir o) entry = omega arith
name_one (Readdir r) entry = omega arith
name_one (Releasedir r) entry = omega arith
name_one (Create flags mode umask name) entry = omega arith
name_one (BatchForget count items) entry = omega arith
name_one (Readdirplus r) entry = omega arith
name_one (Rename2 newdir flags old_name new_name) entry = omega arith
name_one Passed entry = omega arith

-- the listing of a reply is one
listed_same : (ds es : List PlainDirent) → Listed ds ≡ Listed es → ds ≡ es
listed_same ds es same = cc

-- A listing has fewer entries than bytes, and no more bytes than the 32 bits of the size that was asked for.
pub listed_few : (opcode : ℕ) (asked : PlainBody) (request body : List ℕ) (ds : List PlainDirent) → IsRequestBody opcode request asked → IsSuccessBody opcode asked body (Listed ds) → length ds ≤ 4294967295
listed_few opcode (Lookup name) request body ds is says = let clash = says.1 in absurd cc
listed_few opcode (Forget nlookup) request body ds is says = absurd says
listed_few opcode (Getattr g) request body ds is says = let clash = says.1 in absurd cc
listed_few opcode (Setattr s) request body ds is says = let clash = says.1 in absurd cc
listed_few opcode Readlink request body ds is says = absurd cc
listed_few opcode (Symlink name target) request body ds is says = let clash = says.1 in absurd cc
listed_few opcode (Mknod mode rdev umask name) request body ds is says = let clash = says.1 in absurd cc
listed_few opcode (Mkdir mode umask name) request body ds is says = let clash = says.1 in absurd cc
listed_few opcode (Unlink name) request body ds is says = let clash = says.0 in absurd cc
listed_few opcode (Rmdir name) request body ds is says = let clash = says.0 in absurd cc
listed_few opcode (Rename newdir old_name new_name) request body ds is says = let clash = says.0 in absurd cc
listed_few opcode (Link oldnodeid new_name) request body ds is says = let clash = says.1 in absurd cc
listed_few opcode (Open o) request body ds is says = let clash = says.1 in absurd cc
listed_few opcode (Read r) request body ds is says = let clash = says.0 in absurd cc
listed_few opcode (Write fh offset size write_flags lock_owner flags payload) request body ds is says = let clash = says.1 in absurd cc
listed_few opcode (Release r) request body ds is says = let clash = says.0 in absurd cc
listed_few opcode (Flush f) request body ds is says = let clash = says.0 in absurd cc
listed_few opcode (Init i) request body ds is says = let clash = says.1 in absurd cc
listed_few opcode (Opendir o) request body ds is says = let clash = says.1 in absurd cc
listed_few opcode (Readdir r) request body ds is says =
    let same : ds ≡ says.0 = listed_same ds says.0 says.1 in
    omega (arith, ap length same, length-entries says.0 false body [] says.2, says.3, is.1.3.3.0)
listed_few opcode (Releasedir r) request body ds is says = let clash = says.0 in absurd cc
listed_few opcode (Create flags mode umask name) request body ds is says = let clash = says.2 in absurd cc
listed_few opcode (BatchForget count items) request body ds is says = absurd says
listed_few opcode (Readdirplus r) request body ds is says =
    let same : ds ≡ says.0 = listed_same ds says.0 says.1 in
    omega (arith, ap length same, length-entries says.0 true body [] says.2, says.3, is.1.3.3.0)
listed_few opcode (Rename2 newdir flags old_name new_name) request body ds is says = let clash = says.0 in absurd cc
listed_few opcode Passed request body ds is says = let clash = says.0 in absurd cc

-- a success gives at most 2 ^ 32 nodes
given_few : (opcode : ℕ) (asked : PlainBody) (request body : List ℕ) (reply : PlainReply) → IsRequestBody opcode request asked → IsSuccessBody opcode asked body reply → length (nodes_given asked reply) ≤ 4294967296
given_few opcode asked request body (Refused error) is says = omega arith
given_few opcode asked request body Empty is says = omega arith
given_few opcode asked request body (Entry entry) is says = omega (arith, name_one asked entry)
given_few opcode asked request body (Created entry out) is says = omega arith
given_few opcode asked request body (Attributes a) is says = omega arith
given_few opcode asked request body (Opened o) is says = omega arith
given_few opcode asked request body (Written size) is says = omega arith
given_few opcode asked request body (Bytes payload) is says = omega arith
given_few opcode asked request body (Listed ds) is says = omega (arith, listing_few ds, listed_few opcode asked request body ds is says)
given_few opcode asked request body (InitAnswer n) is says = omega arith
given_few opcode asked request body Skipped is says = omega arith

-- a reply gives at most 2 ^ 32 nodes
pub reply_few : (before : List Message) (m : Message) (at asked : ℕ) (r : PlainRequest) (reply : PlainReply) → IsEvent before m (Answered at asked r reply) → length (nodes_given r.body reply) ≤ 4294967296
reply_few before m at asked r reply is =
    let request = is.1.outstanding.asked.2.1 in
    elim is.2.body [
      | inl success ↦ given_few r.opcode r.body request.body_bytes is.2.head.body_bytes reply request.body success.1
      | inr refused ↦
          let none : nodes_given r.body reply ≡ [] = rw refused.2 refl in
          omega (arith, ap length none)
    ]

-- an event gives a node at most 2 ^ 32 times
pub times_within : (before : List Message) (m : Message) (e : PlainEvent) (node : ℕ) → IsEvent before m e → times_given node e ≤ 4294967296
times_within before m (Asked at r) node is = omega arith
times_within before m (Answered at asked r reply) node is =
    omega (arith, count_by-le-length (λ given. given == node) (nodes_given r.body reply), reply_few before m at asked r reply is)
times_within before m (Notice at) node is = omega arith

-- where each of some events gives a node so often at most, all of them do
sum_within : (node : ℕ) (before es : List PlainEvent) → ((i : ℕ) (e : PlainEvent) → slice_get es i ≡ Some e → times_given node e ≤ 4294967296) → sum_behind (λ x e. times_given node e) before es ≤ length es * 4294967296
sum_within node before [] each = omega arith
sum_within node before (e ∷ es) each =
    let first : times_given node e ≤ 4294967296 = each 0 e refl in
    let later = sum_within node (before ++ e ∷ []) es (λ i f there. each (suc i) f there) in
    omega (arith, first, later)

-- all events give a node at most so often
pub given_within : (c : List Message) (es : List PlainEvent) (node : ℕ) → AreEvents c es → lookups_given es node ≤ length es * 4294967296
given_within c es node are =
    sum_within node [] es (λ i e there.
    let within : i < length es = slice_get_within es i e there in
    let message = element_at c i (omega (arith, within, are.counted)) in
    times_within (take i c) message.0 e node (are.each i message.0 e message.1 there))

-- ---- what is left

-- no more is left of a node than was given
pub left_within : (es : List PlainEvent) (node : ℕ) (x : Option Lookups) → IsNodeOf es node x → count_left x ≤ lookups_given es node
left_within es node None is = omega arith
left_within es node (Some l) is = omega (arith, is.left)

-- what is left of a node fits
pub left_few : (c : List Message) (es : List PlainEvent) (node : ℕ) (x : Option Lookups) → AreEvents c es → length c < MAX_MESSAGES → IsNodeOf es node x → count_left x < 18446744073709551616
left_few c es node x are below is =
    let few : length c < 16777216 = below in
    omega (arith, few, are.counted, left_within es node x is, given_within c es node are)
