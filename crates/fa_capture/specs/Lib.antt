-- What the crate's contracts speak of, in the order in which it reads best.

-- a message: which way it went, and its bytes
pub mod Message
-- checks in a stated order, and the first that fails
pub mod Checks
-- how messages are spelled as a capture
pub mod Framing
-- what bytes hold: their messages, and the fault that ends them
pub mod Reading
-- records one after the other, captures, and captures that come in pieces
pub mod Records
pub mod Captures
pub mod Pieces
-- how far the records of a capture were read
pub mod Walks
-- a capture that is read as it comes, and is not kept
pub mod Incoming
-- what a pull does to an input
pub mod Streams
-- the marks of a device
pub mod Device
-- what tables are hashed with
pub mod Seeds
-- the text of each code
pub mod Codes
-- what private contracts alone speak of
pub mod parts
