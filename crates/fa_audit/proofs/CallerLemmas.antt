-- The lemmas for the crates above.
-- each code that is told has a text
pub use Rattle.fa_audit.proofs.CodedLemmas.{fault_coded, no_start_coded}
pub use Rattle.fa_audit.proofs.SearchLemmas.{decision_coded, no_decision_coded}
-- what is decided is an answer, unless memory was refused, and so is what is judged by it
pub use Rattle.fa_audit.proofs.SearchRunLemmas.{decision_or_memory, judge_answer}
-- where an order has a start, neither the capture nor the tree text is at fault
pub use Rattle.fa_audit.proofs.OneProposal.{start_no_fault, start_no_tree_fault}
