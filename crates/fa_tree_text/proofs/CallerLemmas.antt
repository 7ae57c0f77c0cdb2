-- The lemmas for the crates above.

-- a tree text, or its fault, and one alone
pub use Rattle.fa_tree_text.proofs.TreeLaws.{one_tree_text, one_tree_fault, tree_text_has_no_fault, tree_text_or_fault}
-- in its tree no request has made a file
pub use Rattle.fa_tree_text.proofs.MadeLemmas.{text_made_none}
