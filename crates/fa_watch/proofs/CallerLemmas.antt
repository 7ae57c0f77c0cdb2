-- The lemmas for the crates above.

-- what the session refuses
pub use Rattle.fa_watch.proofs.MessageLemmas.{session_refuses}
-- what pulls do to the bytes of an input
pub use Rattle.fa_watch.proofs.InputLemmas.{consumes_more, consumes_none}
