-- The vocabulary of the crate's private contracts.

-- that bytes are the records of one list of messages
pub mod RecordsLaws
-- a walk over the records of a capture, and where it stops
pub mod Walks
-- what a feed keeps of its pieces
pub mod Fed
-- and what is kept of one that is not
pub mod Arrivals
