-- The checks of a request, and that bytes are at most one.
use Rattle.std.proofs.Common.{◌≡◌, ℕ, ◌≤◌, List, [], ◌∷◌, length, refl, subst, arith}
use Rattle.std.specs.Prelude.{◌↔◌}
use Rattle.fa_capture.specs.Checks.{FirstFailure, AllHold, checks_of}
use Rattle.fa_capture.proofs.CallerLemmas.{fails_behind, lifted_failure}
use Rattle.fa_bodies.specs.Fields.{Field, BeginsWith}
use Rattle.fa_bodies.specs.Fields.Field.{U32, U64, Unread}
use Rattle.fa_bodies.specs.Structs.{in_header}
use Rattle.fa_bodies.specs.Requests.{PlainBody, PlainRequest, IsRequestBody, IsWithinLimit, IsRequest, IsLengthRight, HasRequestHeader, length_checks, body_rules, request_checks}
use Rattle.fa_bodies.proofs.FieldLaws.{fields-one, length-fields}
use Rattle.fa_bodies.proofs.BodyLaws.{body-one, operation_of}

-- ---- the length

-- a message whose length is right says it in its first field
pub len_right : (bytes : List ℕ) (len : ℕ) (fs : List Field) (rest : List ℕ) → IsLengthRight bytes → BeginsWith bytes (U32 len ∷ fs) rest → len ≡ length bytes
len_right bytes len fs rest right p =
    let one = fields-one (U32 len ∷ []) (U32 (length bytes) ∷ []) bytes p.1 right.0 tt (p.0, p.1, p.2, refl) right.1 in
    let same : U32 len ∷ [] ≡ U32 (length bytes) ∷ [] = one.0 in
    cc

-- a message that begins with its length has the right length
pub right_by_len : (bytes : List ℕ) (fs : List Field) (rest : List ℕ) → BeginsWith bytes (U32 (length bytes) ∷ fs) rest → IsLengthRight bytes
right_by_len bytes fs rest p = (p.1, (p.0, p.1, p.2, refl))

-- ---- the header

-- two headers of one message are one
pub record SameHeader (opcode unique node opcode' unique' node' : ℕ) (body body' : List ℕ) : Type 0 where
  pub opcodes : opcode ≡ opcode'
  pub uniques : unique ≡ unique'
  pub nodes : node ≡ node'
  pub bodies : body ≡ body'

pub header-one : (bytes : List ℕ) (len opcode unique node len' opcode' unique' node' : ℕ) (body body' : List ℕ)
    → BeginsWith bytes (in_header len opcode unique node) body → BeginsWith bytes (in_header len' opcode' unique' node') body'
    → SameHeader opcode unique node opcode' unique' node' body body'
header-one bytes len opcode unique node len' opcode' unique' node' body body' p q =
    let one = fields-one (in_header len opcode unique node) (in_header len' opcode' unique' node') bytes body body' (refl, tt) p q in
    let same : in_header len opcode unique node ≡ in_header len' opcode' unique' node' = one.0 in
    record { opcodes = cc; uniques = cc; nodes = cc; bodies = one.1 }

-- ---- the checks

-- where the length is right, header and body make the request
pub request_found : (bytes : List ℕ) (len opcode unique node : ℕ) (body : List ℕ) (b : PlainBody)
    → IsLengthRight bytes → BeginsWith bytes (in_header len opcode unique node) body → IsRequestBody opcode body b → IsWithinLimit b
    → IsRequest bytes (record { unique = unique; node = node; opcode = opcode; body = b })
request_found bytes len opcode unique node body b right p h within =
    let same = len_right bytes len (U32 opcode ∷ U64 unique ∷ U64 node ∷ Unread 16 ∷ []) body right p in
    record { body_bytes = body; header = subst (λ (n : ℕ). BeginsWith bytes (in_header n opcode unique node) body) same p; body = h; limit = within }

-- what fails at the body is the first to fail of the request
pub request_fault : (bytes : List ℕ) (len opcode unique node : ℕ) (body : List ℕ) (code : ℕ)
    → AllHold (length_checks 40 bytes) → BeginsWith bytes (in_header len opcode unique node) body
    → FirstFailure (checks_of (λ Such. Such opcode body) body_rules) code → FirstFailure (request_checks bytes) code
request_fault bytes len opcode unique node body code hold p fails =
    let header : (Such : ℕ → List ℕ → Type 0) → Such opcode body → HasRequestHeader bytes Such =
    λ Such such. record { len = len; opcode = opcode; unique = unique; node = node; body_bytes = body; header = p; such = such } in
    let back : (Such : ℕ → List ℕ → Type 0) → HasRequestHeader bytes Such → Such opcode body =
    λ Such has.
    let same = header-one bytes has.len has.opcode has.unique has.node len opcode unique node has.body_bytes body has.header p in
    subst (λ (o : ℕ). Such o body) same.opcodes (subst (λ (x : List ℕ). Such has.opcode x) same.bodies has.such) in
    fails_behind (length_checks 40 bytes) (checks_of (HasRequestHeader bytes) body_rules) code hold
    (lifted_failure (λ Such. Such opcode body) (HasRequestHeader bytes) (λ Such. (header Such, back Such)) body_rules code fails)

-- ---- the laws

pub request-one : (bytes : List ℕ) (a b : PlainRequest) → IsRequest bytes a → IsRequest bytes b → a ≡ b
request-one bytes a b p q =
    let same = header-one bytes (length bytes) a.opcode a.unique a.node (length bytes) b.opcode b.unique b.node p.body_bytes q.body_bytes p.header q.header in
    let moved : IsRequestBody b.opcode q.body_bytes a.body = subst (λ (o : ℕ). IsRequestBody o q.body_bytes a.body) same.opcodes (subst (λ (x : List ℕ). IsRequestBody a.opcode x a.body) same.bodies p.body) in
    let bodies = body-one b.opcode q.body_bytes a.body b.body moved q.body in
    let made : ℕ → ℕ → ℕ → PlainBody → PlainRequest = λ u n o x. record { unique = u; node = n; opcode = o; body = x } in
    let whole : made a.unique a.node a.opcode a.body ≡ made b.unique b.node b.opcode b.body = rw (same.uniques, same.nodes, same.opcodes, bodies) refl in
    whole

pub request-checks : (bytes : List ℕ) → AllHold (request_checks bytes) ↔ ((r : PlainRequest) × IsRequest bytes r)
request-checks bytes = (
  (λ hold.
      let has = hold.1.1.1.1.0 in
      let b = has.such in (
        record { unique = has.unique; node = has.node; opcode = has.opcode; body = b.0 },
        request_found bytes has.len has.opcode has.unique has.node has.body_bytes b.0 hold.1.0 has.header b.1 b.2,
      )),
  (λ found.
      let r = found.0 in
      let is = found.1 in
      let fs : List Field = U32 r.opcode ∷ U64 r.unique ∷ U64 r.node ∷ Unread 16 ∷ [] in
      let long : 40 ≤ length bytes = omega (arith, length-fields (in_header (length bytes) r.opcode r.unique r.node) bytes is.body_bytes is.header) in (
        long,
        (
          right_by_len bytes fs is.body_bytes is.header,
          (
            record { len = length bytes; opcode = r.opcode; unique = r.unique; node = r.node; body_bytes = is.body_bytes; header = is.header; such = operation_of r.opcode is.body_bytes r.body is.body },
            (
              record { len = length bytes; opcode = r.opcode; unique = r.unique; node = r.node; body_bytes = is.body_bytes; header = is.header; such = (r.body, is.body) },
              (
                record { len = length bytes; opcode = r.opcode; unique = r.unique; node = r.node; body_bytes = is.body_bytes; header = is.header; such = (r.body, is.body, is.limit) },
                tt,
              ),
            ),
          ),
        ),
      )),
)
