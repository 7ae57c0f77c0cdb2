-- The lemmas for the crates above: the laws of the message grammar.
pub use Rattle.fa_bodies.proofs.RequestLaws.{request-one as request_is_one, request-checks as request_passes_checks}
pub use Rattle.fa_bodies.proofs.ReplyLaws.{head-one as reply_head_is_one, reply-one as reply_is_one, head-checks}
-- how long listings are
pub use Rattle.fa_bodies.proofs.ListingLaws.{length-entries}
-- what holds anyway holds of a None
pub use Rattle.fa_bodies.proofs.OptionLaws.{if_none}
