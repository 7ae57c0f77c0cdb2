-- Where the ids of nodes stand in messages.
use Rattle.std.proofs.Common.{◌≡◌, ℕ, ◌<◌, ◌≤◌, arith, Bool, true, false, List, [], ◌∷◌, ◌++◌, length, Option, Some, refl, sym, ap, subst, ◌∙◌, inl, inr}
use Rattle.std.specs.Prelude.{◌^◌, ◌==◌, nat_lt, map, take, drop}
use Rattle.std.specs.Int.{w32, w64, cast_unsigned, from_le_bytes}
use Rattle.std.proofs.Math.Logic.{∥∥₁_elim}
use Rattle.std.proofs.Props.{props}
use Rattle.std.proofs.lemmas.Bool.Decides.{nat_tests}
use Rattle.std.proofs.lemmas.Nat.{from_le_bytes-to_le_bytes_8}
use Rattle.fa_bodies.specs.Fields.{le32, le64}
use Rattle.fa_bodies.specs.declared.entry.EntryOut.{EntryOut}
use Rattle.fa_bodies.specs.Requests.{PlainRequest, PlainBody, IsRequest}
use Rattle.fa_bodies.specs.Requests.PlainBody.{Lookup, Forget, Getattr, Setattr, Readlink, Symlink, Mknod, Mkdir, Unlink, Rmdir, Rename, Link, Open, Read, Write, Release, Flush, Init, Opendir, Readdir, Releasedir, Create, BatchForget, Readdirplus, Rename2, Passed}
use Rattle.fa_bodies.specs.Replies.{PlainReply, IsReply, IsEntryBody, IsSuccessBody}
use Rattle.fa_bodies.specs.Replies.PlainReply.{Refused, Empty, Entry, Created, Attributes, Opened, Written, Bytes, Listed, InitAnswer, Skipped}
use Rattle.fa_session.specs.Events.{PlainEvent}
use Rattle.fa_ledger.specs.declared.name.NodeName.{NodeName}
use Rattle.fa_ledger.specs.declared.name.NodeName.TheVariants.{Root, Given}
use Rattle.fa_ledger.specs.declared.giving.GivenNames.{GivenNames}
use Rattle.fa_ledger.specs.declared.giving.GivenNames.TheVariants.{Nothing, One, Several}
use Rattle.fa_ledger.specs.declared.nodes.Lookups.{Lookups}
use Rattle.fa_ledger.specs.Counts.{nodes_given}
use Rattle.fa_ledger.specs.Mentions.{mentions, node_with}
use Rattle.fa_ledger.specs.Names.{name_at}
use Rattle.fa_ledger.specs.parts.Ids.{id_in, IsGivenIn, IsIdIn}
use Rattle.fa_ledger.specs.parts.Steps.{given_to, given_names_shown, IsListedReply, IsOne}
use Rattle.fa_ledger.proofs.NamingLemmas.{not_root_named}

-- no number from 24 on is below 24
not_below : (n : ℕ) → 24 ≤ n → nat_lt n 24 ≡ false
not_below n long = grind (arith, nat_tests, long)

-- bytes that are enough have a number there
id_read : (bytes : List ℕ) → 24 ≤ length bytes → id_in bytes ≡ from_le_bytes w64 (take 8 (drop 16 bytes))
id_read bytes long = rw (not_below (length bytes) long) refl

-- behind two numbers of four bytes and one of eight it is the next number
id_behind : (a b unique id : ℕ) (rest : List ℕ) → id < 2 ^ 64 → id_in (le32 a ++ (le32 b ++ (le64 unique ++ (le64 id ++ rest)))) ≡ id
unfolding le32 le64
id_behind a b unique id rest fits =
    let bytes : List ℕ = le32 a ++ (le32 b ++ (le64 unique ++ (le64 id ++ rest))) in
    id_read bytes (omega arith) ∙ from_le_bytes-to_le_bytes_8 id fits

-- a request has that of its node there
request_id : (bytes : List ℕ) (r : PlainRequest) → IsRequest bytes r → id_in bytes ≡ r.node
request_id bytes r is =
    let len = is.header in
    let opcode = len.3 in
    let unique = opcode.3 in
    let node = unique.3 in
    let spelled : bytes ≡ le32 (length bytes) ++ (le32 r.opcode ++ (le64 r.unique ++ (le64 r.node ++ node.1))) =
    len.2 ∙ ap (λ (xs : List ℕ). le32 (length bytes) ++ xs) (opcode.2 ∙ ap (λ (xs : List ℕ). le32 r.opcode ++ xs) (unique.2 ∙ ap (λ (xs : List ℕ). le64 r.unique ++ xs) node.2)) in
    ap id_in spelled ∙ id_behind (length bytes) r.opcode r.unique r.node node.1 node.0

-- so it has that of the name of its node
pub name_there : (bytes : List ℕ) (r : PlainRequest) (es : List PlainEvent) (name : NodeName) → ∥ IsRequest bytes r ∥₁ → name_at es r.node ≡ Some name → IsIdIn bytes name
name_there bytes r es Root is named = tt
name_there bytes r es (Given by id) is named =
    ∥∥₁_elim is (hlevel props) (λ x. request_id bytes r x ∙ sym (not_root_named es r.node id by named).1)

-- ---- a reply

-- it has an entry with this node
abbrev HasNode : PlainReply → ℕ → Type 0
HasNode (Entry entry) id = entry.nodeid ≡ id
HasNode (Created entry out) id = entry.nodeid ≡ id
HasNode other id = ⊥

-- bytes that begin with this number
abbrev IsFront : List ℕ → ℕ → Type 0
IsFront body id = (after : List ℕ) × (id < 2 ^ 64) × (body ≡ le64 id ++ after)

same_reply : (reply other : PlainReply) (id : ℕ) → reply ≡ other → HasNode reply id → HasNode other id
same_reply reply other id same has = subst (λ (x : PlainReply). HasNode x id) same has

-- what such a reply says begins with the node's id
entry_front : (body : List ℕ) (reply : PlainReply) (id : ℕ) → HasNode reply id → IsEntryBody body reply → IsFront body id
entry_front body reply id has is = subst (IsFront body) (same_reply reply (Entry is.0) id is.1 has) (is.2.1, is.2.0, is.2.2)

said_front : (opcode : ℕ) (b : PlainBody) (body : List ℕ) (reply : PlainReply) (id : ℕ) → HasNode reply id → IsSuccessBody opcode b body reply → IsFront body id
said_front opcode (Lookup name) body reply id has is = entry_front body reply id has is
said_front opcode (Symlink name target) body reply id has is = entry_front body reply id has is
said_front opcode (Mknod mode rdev umask name) body reply id has is = entry_front body reply id has is
said_front opcode (Mkdir mode umask name) body reply id has is = entry_front body reply id has is
said_front opcode (Link oldnodeid new_name) body reply id has is = entry_front body reply id has is
said_front opcode (Create flags mode umask name) body reply id has is = subst (IsFront body) (same_reply reply (Created is.0 is.1) id is.2 has) (is.3.1, is.3.0, is.3.2)
said_front opcode (Forget nlookup) body reply id has is = absurd is
said_front opcode (BatchForget count items) body reply id has is = absurd is
said_front opcode (Getattr g) body reply id has is = absurd (same_reply reply (Attributes is.0) id is.1 has)
said_front opcode (Setattr s) body reply id has is = absurd (same_reply reply (Attributes is.0) id is.1 has)
said_front opcode Readlink body reply id has is = absurd (same_reply reply (Bytes body) id is has)
said_front opcode (Unlink name) body reply id has is = absurd (same_reply reply Empty id is.0 has)
said_front opcode (Rmdir name) body reply id has is = absurd (same_reply reply Empty id is.0 has)
said_front opcode (Rename newdir old_name new_name) body reply id has is = absurd (same_reply reply Empty id is.0 has)
said_front opcode (Rename2 newdir flags old_name new_name) body reply id has is = absurd (same_reply reply Empty id is.0 has)
said_front opcode (Release r) body reply id has is = absurd (same_reply reply Empty id is.0 has)
said_front opcode (Releasedir r) body reply id has is = absurd (same_reply reply Empty id is.0 has)
said_front opcode (Flush f) body reply id has is = absurd (same_reply reply Empty id is.0 has)
said_front opcode (Open o) body reply id has is = absurd (same_reply reply (Opened is.0) id is.1 has)
said_front opcode (Opendir o) body reply id has is = absurd (same_reply reply (Opened is.0) id is.1 has)
said_front opcode (Read r) body reply id has is = absurd (same_reply reply (Bytes body) id is.0 has)
said_front opcode (Write fh offset size write_flags lock_owner flags payload) body reply id has is = absurd (same_reply reply (Written is.0) id is.1 has)
said_front opcode (Readdir r) body reply id has is = absurd (same_reply reply (Listed is.0) id is.1 has)
said_front opcode (Readdirplus r) body reply id has is = absurd (same_reply reply (Listed is.0) id is.1 has)
said_front opcode (Init i) body reply id has is = absurd (same_reply reply (InitAnswer is.0) id is.1 has)
said_front opcode Passed body reply id has is = absurd (same_reply reply Skipped id is.0 has)

-- a reply that has a node has its id there
reply_id : (r : PlainRequest) (bytes : List ℕ) (reply : PlainReply) (id : ℕ) → HasNode reply id → IsReply r bytes reply → id_in bytes ≡ id
reply_id r bytes reply id has is =
    let len = is.head.header in
    let error = len.3 in
    let unique = error.3 in
    elim is.body [
      | inl success ↦
          let front : IsFront is.head.body_bytes id = said_front r.opcode r.body is.head.body_bytes reply id has success.1 in
          let spelled : bytes ≡ le32 (length bytes) ++ (le32 (cast_unsigned w32 is.error) ++ (le64 r.unique ++ (le64 id ++ front.0))) =
          len.2 ∙ ap (λ (xs : List ℕ). le32 (length bytes) ++ xs) (error.2 ∙ ap (λ (xs : List ℕ). le32 (cast_unsigned w32 is.error) ++ xs) (unique.2 ∙ ap (λ (xs : List ℕ). le64 r.unique ++ xs) (unique.3 ∙ front.2))) in
          ap id_in spelled ∙ id_behind (length bytes) (cast_unsigned w32 is.error) r.unique id front.0 front.1
      | inr refused ↦ absurd (same_reply reply (Refused is.error) id refused.2 has)
    ]

-- a name that a reply gives alone is that of its node
of_one : (id : ℕ) (name : NodeName) (f : ℕ → NodeName) → name ∷ [] ≡ map f (id ∷ []) → name ≡ f id
of_one id name f is = cc

with_one : (id : ℕ) (name : NodeName) (f : ℕ → NodeName) → name ∷ [] ≡ map f (node_with id) → name ≡ f id
with_one id name f is = elim (id == 0) as (λ (t : Bool). (id == 0) ≡ t → name ≡ f id) [
  | true ↦ λ zero. let none : name ∷ [] ≡ [] = is ∙ rw zero refl in absurd cc
  | false ↦ λ other. let one : name ∷ [] ≡ f id ∷ [] = is ∙ rw other refl in cc
] refl

gives_one : (b : PlainBody) (entry : EntryOut) (name : NodeName) (f : ℕ → NodeName) → name ∷ [] ≡ map f ((mentions b).gives entry) → name ≡ f entry.nodeid
gives_one (Lookup n) entry name f is = with_one entry.nodeid name f is
gives_one (Symlink n target) entry name f is = of_one entry.nodeid name f is
gives_one (Mknod mode rdev umask n) entry name f is = of_one entry.nodeid name f is
gives_one (Mkdir mode umask n) entry name f is = of_one entry.nodeid name f is
gives_one (Link oldnodeid n) entry name f is = of_one entry.nodeid name f is
gives_one other entry name f is = absurd cc

-- the node that a reply which is no listing gives alone, and its name
abbrev IsGivenAlone : PlainReply → NodeName → (ℕ → NodeName) → Type 0
IsGivenAlone reply name f = (id : ℕ) × HasNode reply id × (name ≡ f id)

given_alone : (b : PlainBody) (reply : PlainReply) (name : NodeName) (f : ℕ → NodeName) → (IsListedReply reply → ⊥) → name ∷ [] ≡ map f (nodes_given b reply) → IsGivenAlone reply name f
given_alone b (Entry entry) name f unlisted is = (entry.nodeid, refl, gives_one b entry name f is)
given_alone b (Created entry out) name f unlisted is = (entry.nodeid, refl, of_one entry.nodeid name f is)
given_alone b (Listed ds) name f unlisted is = absurd (unlisted tt)
given_alone b other name f unlisted is = absurd cc

-- so its message has the id
pub given_there : (r : PlainRequest) (bytes : List ℕ) (reply : PlainReply) (at : ℕ) (known : ℕ → Option Lookups) (given : GivenNames) → ∥ IsReply r bytes reply ∥₁ → (IsOne given → IsListedReply reply → ⊥)
    → given_names_shown given ≡ map (λ id. given_to id at (known id)) (nodes_given r.body reply) → IsGivenIn bytes given
given_there r bytes reply at known Nothing is unlisted named = tt
given_there r bytes reply at known (Several names) is unlisted named = tt
given_there r bytes reply at known (One name) is unlisted named =
    let alone = given_alone r.body reply name (λ id. given_to id at (known id)) (unlisted tt) named in
    let id : id_in bytes ≡ alone.0 = ∥∥₁_elim is (hlevel props) (λ x. reply_id r bytes reply alone.0 alone.1 x) in
    subst (IsIdIn bytes) (sym alone.2) id
