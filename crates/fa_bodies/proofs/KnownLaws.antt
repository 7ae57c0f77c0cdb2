-- A message that is known to be a request, or a reply to one.
use Rattle.std.proofs.Common.{◌≡◌, ℕ, ℤ, pos, ◌≤◌, List, [], ◌∷◌, length, Bool, Option, None, Some, refl, sym, subst, inl, arith}
use Rattle.std.specs.Prelude.{IsSome, IfNone}
use Rattle.std.proofs.Math.Logic.{∥∥₁_elim}
use Rattle.std.proofs.Props.{props}
use Rattle.fa_bodies.specs.declared.replies.Reply.{Reply}
use Rattle.fa_bodies.specs.declared.requests.RequestBody.{RequestBody}
use Rattle.fa_bodies.specs.Dirents.{PlainDirent, AreEntries, HoldsEntries}
use Rattle.fa_bodies.specs.Fields.{BeginsWith, IsSpelled}
use Rattle.fa_bodies.specs.Fields.Field.{U32, U64, Unread, Name}
use Rattle.fa_bodies.specs.Structs.{in_header, out_header}
use Rattle.fa_bodies.specs.Requests.{PlainRequest, PlainBody, IsRequest, IsRequestBody}
use Rattle.fa_bodies.specs.Replies.{PlainReply, IsReply, IsListedBody, IsSuccessBody, Says}
use Rattle.fa_bodies.specs.Replies.PlainReply.{Listed}
use Rattle.fa_bodies.proofs.BodyLaws.{body-one}
use Rattle.fa_bodies.proofs.FieldLaws.{length-fields}
use Rattle.fa_bodies.proofs.ListingLaws.{holds-one, whole-entries}
use Rattle.fa_bodies.proofs.ReplyLaws.{reply_found, reply_says, says_success}
use Rattle.fa_bodies.proofs.RequestLaws.{header-one, request_found, right_by_len}

squash : (A : Type 0) → IsProp ∥ A ∥₁
squash A = hlevel

-- ---- a request

-- what is read of its body is there
pub known_body_there : (opcode : ℕ) (body : List ℕ) → ∥ ((b : PlainBody) × IsRequestBody opcode body b) ∥₁
    → (found : Option RequestBody) → IfNone found ((b : PlainBody) → IsRequestBody opcode body b → ⊥) → IsSome found
known_body_there opcode body known None none = absurd (∥∥₁_elim known (λ x y. absurd x) (λ x. none x.0 x.1))
known_body_there opcode body known (Some b) none = refl

-- a body that is a name has a byte
pub ends_at_name : (opcode : ℕ) (body : List ℕ) → ((b : PlainBody) → IsRequestBody opcode body b → (name : List ℕ) × IsSpelled body (Name name ∷ []))
    → ∥ ((b : PlainBody) × IsRequestBody opcode body b) ∥₁ → 1 ≤ length body
ends_at_name opcode body named known =
    ∥∥₁_elim known (hlevel props) (λ x. let found = named x.0 x.1 in omega (arith, length-fields (Name found.0 ∷ []) body [] found.1))

-- a body that is some struct and a name
pub is_named : (opcode : ℕ) (body : List ℕ) (Such : Type 0) → ((b : PlainBody) → IsRequestBody opcode body b → Such)
    → ∥ ((b : PlainBody) × IsRequestBody opcode body b) ∥₁ → ∥ Such ∥₁
is_named opcode body Such named known = ∥∥₁_elim known (squash Such) (λ x. ∣ named x.0 x.1 ∣₁)

-- it has a header
pub known_asked_long : (bytes : List ℕ) → ∥ ((r : PlainRequest) × IsRequest bytes r) ∥₁ → 40 ≤ length bytes
known_asked_long bytes known =
    ∥∥₁_elim known (hlevel props) (λ x. omega (arith, length-fields (in_header (length bytes) x.0.opcode x.0.unique x.0.node) bytes x.1.body_bytes x.1.header))

module _ (bytes : List ℕ) (len opcode unique node : ℕ) (body : List ℕ) (header : BeginsWith bytes (in_header len opcode unique node) body) (known : ∥ ((r : PlainRequest) × IsRequest bytes r) ∥₁) where
  -- what stands behind the header is its body
  pub known_asked_body : ∥ ((b : PlainBody) × IsRequestBody opcode body b) ∥₁
  known_asked_body = ∥∥₁_elim known (squash ((b : PlainBody) × IsRequestBody opcode body b)) (λ x.
      let same = header-one bytes (length bytes) x.0.opcode x.0.unique x.0.node len opcode unique node x.1.body_bytes body x.1.header header in
      ∣ (x.0.body, rw (← same.opcodes, ← same.bodies) x.1.body) ∣₁)

  -- and what is read of both is the request
  pub known_asked : (read : PlainBody) → ((b : PlainBody) → IsRequestBody opcode body b → IsRequestBody opcode body read)
      → ∥ IsRequest bytes (record { unique = unique; node = node; opcode = opcode; body = read }) ∥₁
  known_asked read is = ∥∥₁_elim known (squash (IsRequest bytes (record { unique = unique; node = node; opcode = opcode; body = read }))) (λ x.
      let same = header-one bytes (length bytes) x.0.opcode x.0.unique x.0.node len opcode unique node x.1.body_bytes body x.1.header header in
      let there : IsRequestBody opcode body x.0.body = rw (← same.opcodes, ← same.bodies) x.1.body in
      let one : x.0.body ≡ read = body-one opcode body x.0.body read there (is x.0.body there) in
      ∣ request_found bytes len opcode unique node body read (right_by_len bytes (U32 x.0.opcode ∷ U64 x.0.unique ∷ U64 x.0.node ∷ Unread 16 ∷ []) x.1.body_bytes x.1.header) header (is x.0.body there) (rw (← one) x.1.limit) ∣₁)

-- ---- a reply

-- it has a header
pub known_long : (asked : PlainRequest) (bytes : List ℕ) → ∥ ((reply : PlainReply) × IsReply asked bytes reply) ∥₁ → 16 ≤ length bytes
known_long asked bytes known =
    ∥∥₁_elim known (hlevel props) (λ x. omega (arith, length-fields (out_header (length bytes) x.1.error asked.unique) bytes x.1.head.body_bytes x.1.head.header))

module _ (asked : PlainRequest) (bytes : List ℕ) (len : ℕ) (error : ℤ) (unique : ℕ) (body : List ℕ) (header : BeginsWith bytes (out_header len error unique) body) (known : ∥ ((reply : PlainReply) × IsReply asked bytes reply) ∥₁) where
  -- what is read of it is there
  pub known_there : (found : Option Reply) → IfNone found ((reply : PlainReply) → Says asked error body reply → ⊥) → IsSome found
  known_there None none = absurd (∥∥₁_elim known (λ x y. absurd x) (λ x. none x.0 (reply_says asked bytes len error unique body x.0 header x.1)))
  known_there (Some reply) none = refl

  -- and is the reply
  pub known_said : (reply : PlainReply) → Says asked error body reply → ∥ IsReply asked bytes reply ∥₁
  known_said reply says = ∥∥₁_elim known (squash (IsReply asked bytes reply)) (λ x. ∣ reply_found asked bytes (x.1.error, x.1.head) len error unique body reply header says ∣₁)

  -- the body of a listing is entries as a whole
  pub known_whole : (b : PlainBody) → asked.body ≡ b → (plus : Bool) (size : ℕ) → error ≡ pos 0
      → ((reply : PlainReply) → IsSuccessBody asked.opcode b body reply → IsListedBody plus size body reply)
      → ∥ ((ds : List PlainDirent) × AreEntries plus body ds []) ∥₁
  known_whole b is plus size zero to = ∥∥₁_elim known (squash ((ds : List PlainDirent) × AreEntries plus body ds [])) (λ x.
      let success : IsListedBody plus size body x.0 =
      to x.0 (subst (λ (body_of : PlainBody). IsSuccessBody asked.opcode body_of body x.0) is (says_success asked error body x.0 zero (reply_says asked bytes len error unique body x.0 header x.1))) in
      ∣ (success.0, success.2) ∣₁)

  -- a listing has the entries that its body holds
  pub known_listing : (b : PlainBody) → asked.body ≡ b → (plus : Bool) (size : ℕ) (listed : List PlainDirent) → error ≡ pos 0
      → ((reply : PlainReply) → IsSuccessBody asked.opcode b body reply → IsListedBody plus size body reply)
      → ((reply : PlainReply) → IsListedBody plus size body reply → IsSuccessBody asked.opcode b body reply)
      → HoldsEntries plus body listed → ∥ IsReply asked bytes (Listed listed) ∥₁
  known_listing b is plus size listed zero to from holds = ∥∥₁_elim known (squash (IsReply asked bytes (Listed listed))) (λ x.
      let success : IsListedBody plus size body x.0 =
      to x.0 (subst (λ (body_of : PlainBody). IsSuccessBody asked.opcode body_of body x.0) is (says_success asked error body x.0 zero (reply_says asked bytes len error unique body x.0 header x.1))) in
      let one : success.0 ≡ listed = holds-one plus body success.0 listed (whole-entries plus body success.0 success.2) holds in
      let same : IsSuccessBody asked.opcode b body (Listed listed) = from (Listed listed) (listed, refl, subst (λ (ds : List PlainDirent). AreEntries plus body ds []) one success.2, success.3) in
      let says : Says asked error body (Listed listed) = inl (zero, subst (λ (body_of : PlainBody). IsSuccessBody asked.opcode body_of body (Listed listed)) (sym is) same) in
      ∣ reply_found asked bytes (x.1.error, x.1.head) len error unique body (Listed listed) header says ∣₁)
