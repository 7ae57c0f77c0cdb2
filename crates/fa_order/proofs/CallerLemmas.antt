-- The lemmas for the crates above.

-- entries have no more numbers than their lines have bytes
pub use Rattle.fa_order.proofs.OrderLines.{entries_fit}
-- entries with the same number and the same count are one
pub use Rattle.fa_order.proofs.OrderLines.{same_entry}
-- an order text, or its fault, and one alone
pub use Rattle.fa_order.proofs.OrderLemmas.{one_order_text, one_order_fault, order_text_has_no_fault}
pub use Rattle.fa_order.proofs.OrderTotal.{order_text_or_fault, each_order_has_one_text}
