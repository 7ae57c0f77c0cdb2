-- The vocabulary of the crate's private contracts.

-- messages that keep the protocol
pub mod Protocol
-- answers of calls that may be refused memory
pub mod Answers
-- what was seen of a stream
pub mod Seeing
-- what a search finds from a tree, and what is judged by it
pub mod Searching
-- why messages are not shown
pub mod Showings
