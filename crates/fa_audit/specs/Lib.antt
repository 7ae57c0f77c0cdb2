-- What the crate's contracts speak of, in the order in which it reads best.

-- what each answer of the audit says: it leads to all others
pub mod Verdict
-- the line of each answer, how the program ends, and what a run reads and writes
pub mod Line
pub mod Status
pub mod Run
-- what an order starts with, or why it has no start
pub mod Starts
-- what each answer of a proposal says, and what a run of it writes
pub mod Proposed
-- what each answer of a search says, and what is judged by it; what a run of either writes
pub mod Searched
-- what each answer of a call says that cuts an order, and what a run of it writes
pub mod CutOrders
-- what a run writes that cuts a capture, and one that migrates it
pub mod Fronts
pub mod Migrated
-- what a run writes that watches a stream, and one that shows messages
pub mod Watching
pub mod Showing
-- the statements of the laws
pub mod Laws
-- the vocabulary of private contracts
pub mod parts
