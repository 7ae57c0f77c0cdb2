-- The vocabulary of the crate's private contracts.

-- what is kept of a stream shows its messages
pub mod Streams
-- how far a watch has come
pub mod Watching
