use Rattle.std.proofs.Common.{ℕ, length, refl, inl, arith}
use Rattle.std.specs.Int.{w32}
use Rattle.std.proofs.lemmas.Int.{to_z-of_z}
use Rattle.fa_capture.specs.declared.codes.TheConstants.{REPLY_BODY}
use Rattle.fa_capture.specs.Checks.{FirstFailure}
use Rattle.fa_bodies.specs.declared.replies.Reply.{Reply}
use Rattle.fa_bodies.specs.Structs.{out_header}
use Rattle.fa_bodies.specs.Requests.{request_shown}
use Rattle.fa_bodies.specs.Replies.{PlainReply, Says, IsReply, reply_shown, reply_checks}
use Rattle.fa_bodies.proofs.FieldLaws.{length-fields}
use Rattle.fa_bodies.proofs.OptionLaws.{ok_or_value, ok_or_error}
use Rattle.fa_bodies.proofs.ReplyLaws.{reply_found, reply_says, only_reply}
use Rattle.fa_bodies.proofs.reading.reply_body.Goals as goal

pub out_header_at-requires : goal.out_header_at-requires
out_header_at-requires c =
    let bytes = c.args.p.now.bytes.now in
    omega (arith, length-fields (out_header (length bytes) c.requires.0 c.args.asked.now.unique) bytes c.requires.1.body_bytes c.requires.1.header)

pub returns-clause-found : goal.returns-clause-found
returns-clause-found c =
    let bytes = c.args.p.now.bytes.now in
    let asked = request_shown c.args.asked.now in
    let h = c.out_header_at.result.0 in
    let body = c.out_header_at.result.1.now in
    let exact = to_z-of_z w32 h.error c.out_header_at.ensures.3.0 in
    rw c.ok_or.ensures.value (ok_or_value c.said.result REPLY_BODY
    (λ (r : Reply). Says asked h.error body (reply_shown r)) (λ (r : Reply). IsReply asked bytes (reply_shown r))
    (λ r says. reply_found asked bytes c.requires h.len h.error h.unique body (reply_shown r) c.out_header_at.ensures says)
    (rw exact at c.said.ensures.found))

pub returns-clause-fault : goal.returns-clause-fault
returns-clause-fault c =
    let bytes = c.args.p.now.bytes.now in
    let asked = request_shown c.args.asked.now in
    let h = c.out_header_at.result.0 in
    let body = c.out_header_at.result.1.now in
    let exact = to_z-of_z w32 h.error c.out_header_at.ensures.3.0 in
    rw c.ok_or.ensures.value (ok_or_error c.said.result REPLY_BODY
    ((reply : PlainReply) → Says asked h.error body reply → ⊥) (λ (code : ℕ). FirstFailure (reply_checks asked bytes) code)
    (λ none. inl ((λ found. none found.0 (reply_says asked bytes h.len h.error h.unique body found.0 c.out_header_at.ensures found.1)), refl))
    (rw exact at c.said.ensures.none))

pub returns-clause-only : goal.returns-clause-only
returns-clause-only c =
    let bytes = c.args.p.now.bytes.now in
    let asked = request_shown c.args.asked.now in
    only_reply asked bytes c.ok_or.result (returns-clause-found c)
