-- The checks of a reply, and that bytes are at most one.
use Rattle.std.proofs.Common.{◌≡◌, ℕ, ◌≤◌, List, [], ◌∷◌, length, refl, sym, ap, subst, Result, Ok, Err, ◌∙◌, arith, inl, inr, Bool, true, false}
use Rattle.std.specs.Prelude.{ℤ, pos, ◌<ℤ◌, ◌↔◌, IfOk}
use Rattle.std.specs.Int.Signed.{<ℤ_irrefl}
use Rattle.fa_capture.specs.Checks.{FirstFailure, AllHold, checks_of}
use Rattle.fa_capture.proofs.CallerLemmas.{fails_behind, lifted_failure}
use Rattle.fa_bodies.specs.declared.attributes.AttrOut.{AttrOut}
use Rattle.fa_bodies.specs.declared.entry.EntryOut.{EntryOut}
use Rattle.fa_bodies.specs.declared.handles.OpenOut.{OpenOut}
use Rattle.fa_bodies.specs.declared.init.Negotiated.{Negotiated}
use Rattle.fa_bodies.specs.declared.replies.ReplyHead.{ReplyHead}
use Rattle.fa_bodies.specs.declared.replies.Reply.{Reply}
use Rattle.fa_bodies.specs.Dirents.{PlainDirent}
use Rattle.fa_bodies.specs.Fields.{Field, BeginsWith}
use Rattle.fa_bodies.specs.Fields.Field.{U64, I32}
use Rattle.fa_bodies.specs.Structs.{out_header, entry_out, open_out}
use Rattle.fa_bodies.specs.Requests.{PlainBody, PlainRequest, IsLengthRight, length_checks}
use Rattle.fa_bodies.specs.Requests.PlainBody.{Lookup, Forget, Getattr, Setattr, Readlink, Symlink, Mknod, Mkdir, Unlink, Rmdir, Rename, Link, Open, Read, Write, Release, Flush, Init, Opendir, Readdir, Releasedir, Create, BatchForget, Readdirplus, Rename2, Passed}
use Rattle.fa_bodies.specs.Replies.{PlainReply, IsErrorRight, IsNotificationRight, IsReplyHead, HasReplyHeader, RepeatsUnique, head_rules, reply_head_checks, IsEntryBody, IsCreatedBody, IsAttributesBody, IsOpenedBody, IsWrittenBody, IsListedBody, IsSuccessBody, IsSuccess, Says, IsReply, reply_shown}
use Rattle.fa_bodies.specs.Replies.PlainReply.{Entry, Created, Attributes, Opened, Written, Listed, InitAnswer}
use Rattle.fa_bodies.proofs.FieldLaws.{fields-one, length-fields, parts_of, rest-one}
use Rattle.fa_bodies.proofs.StructLaws.{entry-one, attr_out-one, open_out-one, write_out-one, init_out-one}
use Rattle.fa_bodies.proofs.ListingLaws.{entries-one, none-in_nil}
use Rattle.fa_bodies.proofs.RequestLaws.{len_right, right_by_len}

-- ---- the header

-- two headers of one message are one
pub record SameHeader (error error' : ℤ) (unique unique' : ℕ) (body body' : List ℕ) : Type 0 where
  pub errors : error ≡ error'
  pub uniques : unique ≡ unique'
  pub bodies : body ≡ body'

pub header-one : (bytes : List ℕ) (len len' : ℕ) (error error' : ℤ) (unique unique' : ℕ) (body body' : List ℕ)
    → BeginsWith bytes (out_header len error unique) body → BeginsWith bytes (out_header len' error' unique') body'
    → SameHeader error error' unique unique' body body'
header-one bytes len len' error error' unique unique' body body' p q =
    let one = fields-one (out_header len error unique) (out_header len' error' unique') bytes body body' tt p q in
    let same : out_header len error unique ≡ out_header len' error' unique' = one.0 in
    record { errors = cc; uniques = cc; bodies = one.1 }

-- ---- the checks of the head

pub head_found : (bytes : List ℕ) (len : ℕ) (head : ReplyHead) (body : List ℕ)
    → IsLengthRight bytes → BeginsWith bytes (out_header len head.error head.unique) body → AllHold (checks_of (λ Such. Such head) head_rules)
    → IsReplyHead bytes head
head_found bytes len head body right p hold =
    let same = len_right bytes len (I32 head.error ∷ U64 head.unique ∷ []) body right p in
    record { body_bytes = body; header = subst (λ (n : ℕ). BeginsWith bytes (out_header n head.error head.unique) body) same p; reply = hold.0; notification = hold.1.0 }

has_header : (bytes : List ℕ) (len : ℕ) (head : ReplyHead) (body : List ℕ) (Such : ReplyHead → Type 0)
    → BeginsWith bytes (out_header len head.error head.unique) body → Such head → HasReplyHeader bytes Such
has_header bytes len head body Such p such = record { len = len; head = head; body_bytes = body; header = p; such = such }

same_head : (a b : ReplyHead) → a.unique ≡ b.unique → a.error ≡ b.error → a ≡ b
same_head a b uniques errors =
    let made : ℕ → ℤ → ReplyHead = λ u e. record { unique = u; error = e } in
    let whole : made a.unique a.error ≡ made b.unique b.error = rw (uniques, errors) refl in
    whole

such_of : (bytes : List ℕ) (len : ℕ) (head : ReplyHead) (body : List ℕ) (Such : ReplyHead → Type 0)
    → BeginsWith bytes (out_header len head.error head.unique) body → HasReplyHeader bytes Such → Such head
such_of bytes len head body Such p has =
    let same = header-one bytes has.len len has.head.error head.error has.head.unique head.unique has.body_bytes body has.header p in
    subst (λ (h : ReplyHead). Such h) (same_head has.head head same.uniques same.errors) has.such

-- what fails of the head fails of the message, and is the first to fail
pub head_fault : (bytes : List ℕ) (len : ℕ) (head : ReplyHead) (body : List ℕ) (code : ℕ)
    → AllHold (length_checks 16 bytes) → BeginsWith bytes (out_header len head.error head.unique) body
    → FirstFailure (checks_of (λ Such. Such head) head_rules) code → FirstFailure (reply_head_checks bytes) code
head_fault bytes len head body code hold p fails =
    fails_behind (length_checks 16 bytes) (checks_of (HasReplyHeader bytes) head_rules) code hold
    (lifted_failure (λ Such. Such head) (HasReplyHeader bytes) (λ Such. (has_header bytes len head body Such p, such_of bytes len head body Such p)) head_rules code fails)

-- ---- the body

pub reply_found : (asked : PlainRequest) (bytes : List ℕ) (given : RepeatsUnique bytes asked.unique)
    (len : ℕ) (error : ℤ) (unique : ℕ) (body : List ℕ) (reply : PlainReply)
    → BeginsWith bytes (out_header len error unique) body → Says asked error body reply → IsReply asked bytes reply
reply_found asked bytes given len error unique body reply p says =
    let head = given.1 in
    let same = header-one bytes len (length bytes) error given.0 unique asked.unique body head.body_bytes p head.header in
    record { error = given.0; head = head; body = subst (λ (e : ℤ). Says asked e head.body_bytes reply) same.errors (subst (λ (x : List ℕ). Says asked error x reply) same.bodies says) }

pub reply_says : (asked : PlainRequest) (bytes : List ℕ) (len : ℕ) (error : ℤ) (unique : ℕ) (body : List ℕ) (reply : PlainReply)
    → BeginsWith bytes (out_header len error unique) body → IsReply asked bytes reply → Says asked error body reply
reply_says asked bytes len error unique body reply p is =
    let same = header-one bytes (length bytes) len is.error error asked.unique unique is.head.body_bytes body is.head.header p in
    subst (λ (e : ℤ). Says asked e body reply) same.errors (subst (λ (x : List ℕ). Says asked is.error x reply) same.bodies is.body)

-- an error below 0 is not 0
below_zero : (error : ℤ) → error <ℤ pos 0 → error ≡ pos 0 → ⊥
below_zero error below zero = <ℤ_irrefl (subst (λ (z : ℤ). z <ℤ pos 0) zero below)

pub says_success : (asked : PlainRequest) (error : ℤ) (body : List ℕ) (reply : PlainReply) → error ≡ pos 0 → Says asked error body reply → IsSuccess asked body reply
says_success asked error body reply e says = elim says [ inl s ↦ s.1 | inr r ↦ absurd (below_zero error r.0 e) ]

-- ---- the laws

pub head-one : (bytes : List ℕ) (a b : ReplyHead) → IsReplyHead bytes a → IsReplyHead bytes b → a ≡ b
head-one bytes a b p q =
    let same = header-one bytes (length bytes) (length bytes) a.error b.error a.unique b.unique p.body_bytes q.body_bytes p.header q.header in
    same_head a b same.uniques same.errors

pub head-checks : (bytes : List ℕ) → AllHold (reply_head_checks bytes) ↔ ((head : ReplyHead) × IsReplyHead bytes head)
head-checks bytes = (
  (λ hold.
      let error = hold.1.1.0 in
      let has = hold.1.1.1.0 in
      let right = such_of bytes has.len has.head has.body_bytes IsErrorRight has.header error in
      (has.head, head_found bytes has.len has.head has.body_bytes hold.1.0 has.header (right, (has.such, tt)))),
  (λ found.
      let head = found.0 in
      let is = found.1 in
      let fs : List Field = I32 head.error ∷ U64 head.unique ∷ [] in
      let long : 16 ≤ length bytes = omega (arith, length-fields (out_header (length bytes) head.error head.unique) bytes is.body_bytes is.header) in (
        long,
        (
          right_by_len bytes fs is.body_bytes is.header,
          (
            has_header bytes (length bytes) head is.body_bytes IsErrorRight is.header is.reply,
            (
              has_header bytes (length bytes) head is.body_bytes IsNotificationRight is.header is.notification,
              tt,
            ),
          ),
        ),
      )),
)

-- ---- bodies of successes

entry_body-one : (body : List ℕ) (a b : PlainReply) → IsEntryBody body a → IsEntryBody body b → a ≡ b
entry_body-one body a b p q = p.1 ∙ ap (λ (e : EntryOut). Entry e) (entry-one p.0 q.0 body [] [] p.2 q.2) ∙ sym q.1

attributes_body-one : (body : List ℕ) (a b : PlainReply) → IsAttributesBody body a → IsAttributesBody body b → a ≡ b
attributes_body-one body a b p q = p.1 ∙ ap (λ (x : AttrOut). Attributes x) (attr_out-one p.0 q.0 body [] [] p.2 q.2) ∙ sym q.1

opened_body-one : (body : List ℕ) (a b : PlainReply) → IsOpenedBody body a → IsOpenedBody body b → a ≡ b
opened_body-one body a b p q = p.1 ∙ ap (λ (o : OpenOut). Opened o) (open_out-one p.0 q.0 body [] [] p.2 q.2) ∙ sym q.1

created_body-one : (body : List ℕ) (a b : PlainReply) → IsCreatedBody body a → IsCreatedBody body b → a ≡ b
created_body-one body a b p q =
    let x = parts_of (entry_out p.0) (open_out p.1) body [] p.3 in
    let y = parts_of (entry_out q.0) (open_out q.1) body [] q.3 in
    let entries = entry-one p.0 q.0 body x.0 y.0 x.1 y.1 in
    let middle = rest-one (entry_out p.0) (entry_out q.0) body x.0 y.0 refl x.1 y.1 in
    let opens = open_out-one p.1 q.1 y.0 [] [] (subst (λ (m : List ℕ). BeginsWith m (open_out p.1) []) middle x.2) y.2 in
    p.2 ∙ ap (λ (e : EntryOut). Created e p.1) entries ∙ ap (λ (o : OpenOut). Created q.0 o) opens ∙ sym q.2

written_body-one : (asked : ℕ) (body : List ℕ) (a b : PlainReply) → IsWrittenBody asked body a → IsWrittenBody asked body b → a ≡ b
written_body-one asked body a b p q = p.1 ∙ ap (λ (n : ℕ). Written n) (write_out-one p.0 q.0 body [] [] p.2 q.2) ∙ sym q.1

listed_body-one : (plus : Bool) (asked : ℕ) (body : List ℕ) (a b : PlainReply) → IsListedBody plus asked body a → IsListedBody plus asked body b → a ≡ b
listed_body-one plus asked body a b p q =
    let same = entries-one p.0 q.0 plus body [] [] p.2 (none-in_nil plus) q.2 (none-in_nil plus) in
    p.1 ∙ ap (λ (ds : List PlainDirent). Listed ds) same.0 ∙ sym q.1

success_body-one : (opcode : ℕ) (asked : PlainBody) (body : List ℕ) (a b : PlainReply) → IsSuccessBody opcode asked body a → IsSuccessBody opcode asked body b → a ≡ b
success_body-one opcode (Lookup name) body a b p q = entry_body-one body a b p q
success_body-one opcode (Forget nlookup) body a b p q = absurd p
success_body-one opcode (Getattr g) body a b p q = attributes_body-one body a b p q
success_body-one opcode (Setattr s) body a b p q = attributes_body-one body a b p q
success_body-one opcode Readlink body a b p q = p ∙ sym q
success_body-one opcode (Symlink name target) body a b p q = entry_body-one body a b p q
success_body-one opcode (Mknod mode rdev umask name) body a b p q = entry_body-one body a b p q
success_body-one opcode (Mkdir mode umask name) body a b p q = entry_body-one body a b p q
success_body-one opcode (Unlink name) body a b p q = p.0 ∙ sym q.0
success_body-one opcode (Rmdir name) body a b p q = p.0 ∙ sym q.0
success_body-one opcode (Rename newdir old_name new_name) body a b p q = p.0 ∙ sym q.0
success_body-one opcode (Link oldnodeid new_name) body a b p q = entry_body-one body a b p q
success_body-one opcode (Open o) body a b p q = opened_body-one body a b p q
success_body-one opcode (Read r) body a b p q = p.0 ∙ sym q.0
success_body-one opcode (Write fh offset size write_flags lock_owner flags payload) body a b p q = written_body-one size body a b p q
success_body-one opcode (Release r) body a b p q = p.0 ∙ sym q.0
success_body-one opcode (Flush f) body a b p q = p.0 ∙ sym q.0
success_body-one opcode (Init i) body a b p q = p.1 ∙ ap (λ (n : Negotiated). InitAnswer n) (init_out-one p.0 q.0 body p.2.2 q.2.2 p.2.3 q.2.3) ∙ sym q.1
success_body-one opcode (Opendir o) body a b p q = opened_body-one body a b p q
success_body-one opcode (Readdir r) body a b p q = listed_body-one false r.size body a b p q
success_body-one opcode (Releasedir r) body a b p q = p.0 ∙ sym q.0
success_body-one opcode (Create flags mode umask name) body a b p q = created_body-one body a b p q
success_body-one opcode (BatchForget count items) body a b p q = absurd p
success_body-one opcode (Readdirplus r) body a b p q = listed_body-one true r.size body a b p q
success_body-one opcode (Rename2 newdir flags old_name new_name) body a b p q = p.0 ∙ sym q.0
success_body-one opcode Passed body a b p q = p.0 ∙ sym q.0

says-one : (asked : PlainRequest) (error : ℤ) (body : List ℕ) (a b : PlainReply) → Says asked error body a → Says asked error body b → a ≡ b
says-one asked error body a b p q =
    elim p [
      | inl s ↦ success_body-one asked.opcode asked.body body a b s.1 (says_success asked error body b s.0 q)
      | inr r ↦ elim q [ inl t ↦ absurd (below_zero error r.0 t.0) | inr t ↦ r.2 ∙ sym t.2 ]
    ]

pub reply-one : (asked : PlainRequest) (bytes : List ℕ) (a b : PlainReply) → IsReply asked bytes a → IsReply asked bytes b → a ≡ b
reply-one asked bytes a b p q =
    says-one asked p.error p.head.body_bytes a b p.body (reply_says asked bytes (length bytes) p.error asked.unique p.head.body_bytes b p.head.header q)

-- what was found is all that there is
pub only_reply : (asked : PlainRequest) (bytes : List ℕ) (read : Result Reply ℕ) → IfOk read (λ reply. IsReply asked bytes (reply_shown reply)) → IfOk read (λ reply. (other : PlainReply) → IsReply asked bytes other → other ≡ reply_shown reply)
only_reply asked bytes (Ok reply) found = λ other is. reply-one asked bytes other (reply_shown reply) is found
only_reply asked bytes (Err code) found = tt
