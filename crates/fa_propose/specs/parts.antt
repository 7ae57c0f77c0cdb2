-- The vocabulary of the crate's private contracts.

-- which entries may come next, and which of them is placed
pub mod Ready
-- those entries, the first of them apart
pub mod Candidates
