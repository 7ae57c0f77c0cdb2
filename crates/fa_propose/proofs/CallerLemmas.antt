-- The lemmas for the crates above.

-- a proposal is one, of good messages never none, with numbers in range for as many messages as a capture has
pub use Rattle.fa_propose.proofs.OneLemmas.{proposal_is_one}
pub use Rattle.fa_propose.proofs.ExistLemmas.{proposal_is_there}
pub use Rattle.fa_propose.proofs.RangeLemmas.{proposal_in_range}
-- which entries a map by ordered keys has behind a change at one key
pub use Rattle.fa_propose.proofs.MapLemmas.{put_there, other_stays, there_from}
