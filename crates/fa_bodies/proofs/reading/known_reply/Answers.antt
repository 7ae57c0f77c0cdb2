use Rattle.std.proofs.Common.{◌≡◌, pos, to_z, false, true, Option, ap, sym, subst, ◌∙◌}
use Rattle.std.specs.Prelude.{IfSome}
use Rattle.std.specs.Int.{w32}
use Rattle.std.proofs.lemmas.Int.{to_z-of_z}
use Rattle.fa_bodies.specs.declared.replies.Reply.{Reply}
use Rattle.fa_bodies.specs.Listing.{entries_left}
use Rattle.fa_bodies.specs.Requests.{body_shown, request_shown}
use Rattle.fa_bodies.specs.Requests.PlainBody.{Readdir, Readdirplus}
use Rattle.fa_bodies.specs.Replies.{Says, reply_shown}
use Rattle.fa_bodies.proofs.KnownLaws.{known_long, known_there, known_said, known_whole, known_listing}
use Rattle.fa_bodies.proofs.ListingLaws.{whole-entries}
use Rattle.fa_bodies.proofs.reading.known_reply.Goals as goal

pub out_header_at-requires : goal.out_header_at-requires
out_header_at-requires c = known_long (request_shown c.args.asked.now) c.args.p.now.bytes.now c.requires

pub known_entries-requires : goal.known_entries-requires
known_entries-requires c =
    let h = c.out_header_at.result.0 in
    let zero : h.error ≡ pos 0 = sym (to_z-of_z w32 h.error c.out_header_at.ensures.3.0) ∙ ap (to_z w32) c.if-header-eq0.true in
    known_whole (request_shown c.args.asked.now) c.args.p.now.bytes.now h.len h.error h.unique c.out_header_at.result.1.now c.out_header_at.ensures c.requires
    (Readdir c.in-Readdir.field-0) (ap body_shown c.in-Readdir.is) false c.in-Readdir.field-0.size zero (λ reply is. is)

pub known_entries-requires-in-Readdirplus : goal.known_entries-requires-in-Readdirplus
known_entries-requires-in-Readdirplus c =
    let h = c.out_header_at.result.0 in
    let zero : h.error ≡ pos 0 = sym (to_z-of_z w32 h.error c.out_header_at.ensures.3.0) ∙ ap (to_z w32) c.if-header-eq0.true in
    known_whole (request_shown c.args.asked.now) c.args.p.now.bytes.now h.len h.error h.unique c.out_header_at.result.1.now c.out_header_at.ensures c.requires
    (Readdirplus c.in-Readdirplus.field-0) (ap body_shown c.in-Readdirplus.is) true c.in-Readdirplus.field-0.size zero (λ reply is. is)

pub returns-in-Readdir : goal.returns-in-Readdir
returns-in-Readdir c =
    let h = c.out_header_at.result.0 in
    let zero : h.error ≡ pos 0 = sym (to_z-of_z w32 h.error c.out_header_at.ensures.3.0) ∙ ap (to_z w32) c.if-header-eq0.true in
    known_listing (request_shown c.args.asked.now) c.args.p.now.bytes.now h.len h.error h.unique c.out_header_at.result.1.now c.out_header_at.ensures c.requires
    (Readdir c.in-Readdir.field-0) (ap body_shown c.in-Readdir.is) false c.in-Readdir.field-0.size (entries_left c.known_entries.result) zero (λ reply is. is) (λ reply is. is)
    (whole-entries false c.out_header_at.result.1.now (entries_left c.known_entries.result) c.known_entries.ensures)

pub returns-in-Readdirplus : goal.returns-in-Readdirplus
returns-in-Readdirplus c =
    let h = c.out_header_at.result.0 in
    let zero : h.error ≡ pos 0 = sym (to_z-of_z w32 h.error c.out_header_at.ensures.3.0) ∙ ap (to_z w32) c.if-header-eq0.true in
    known_listing (request_shown c.args.asked.now) c.args.p.now.bytes.now h.len h.error h.unique c.out_header_at.result.1.now c.out_header_at.ensures c.requires
    (Readdirplus c.in-Readdirplus.field-0) (ap body_shown c.in-Readdirplus.is) true c.in-Readdirplus.field-0.size (entries_left c.known_entries-in-Readdirplus.result) zero (λ reply is. is) (λ reply is. is)
    (whole-entries true c.out_header_at.result.1.now (entries_left c.known_entries-in-Readdirplus.result) c.known_entries-in-Readdirplus.ensures)

pub unwrap-requires : goal.unwrap-requires
unwrap-requires c =
    let h = c.out_header_at.result.0 in
    let exact = to_z-of_z w32 h.error c.out_header_at.ensures.3.0 in
    known_there (request_shown c.args.asked.now) c.args.p.now.bytes.now h.len h.error h.unique c.out_header_at.result.1.now c.out_header_at.ensures c.requires c.said.result (rw exact at c.said.ensures.none)

pub returns : goal.returns
returns c =
    let h = c.out_header_at.result.0 in
    let asked = request_shown c.args.asked.now in
    let body = c.out_header_at.result.1.now in
    let exact = to_z-of_z w32 h.error c.out_header_at.ensures.3.0 in
    known_said asked c.args.p.now.bytes.now h.len h.error h.unique body c.out_header_at.ensures c.requires (reply_shown c.unwrap.result)
    (subst (λ (found : Option Reply). IfSome found (λ reply. Says asked h.error body (reply_shown reply))) c.unwrap.ensures (rw exact at c.said.ensures.found))
