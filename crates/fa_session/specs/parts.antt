-- The vocabulary of the crate's private contracts.

-- what the steps of a session tell and note
pub mod Steps
-- what a session's fields show
pub mod View
-- a request that waits, by its message alone
pub mod RequestSaid
