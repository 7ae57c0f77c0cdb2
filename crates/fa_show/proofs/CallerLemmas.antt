-- The lemmas for the crates above.
-- what was written is printing
pub use Rattle.fa_show.proofs.AddedLemmas.{added_text}
