-- What the crate's contracts speak of, in the order in which it reads best.

-- a message, and checks in a stated order
pub use Rattle.fa_capture.specs.Message
pub use Rattle.fa_capture.specs.Checks
-- flags by their bits, and the flag words of messages
pub mod FlagBits
pub mod Flags
-- names and targets, and modes of files
pub mod Names
pub mod Modes
-- how fields lie in bytes, and the structs of fuse.h by their fields
pub mod Fields
pub mod Structs
-- the message grammar: requests, and the replies to them
pub mod Requests
pub mod Replies
-- the lists that messages hold: items of BATCH_FORGET, and directory entries
pub mod ForgetOnes
pub mod Dirents
-- what follows from the grammar alone, and the numbers of opcodes and errors
pub mod Laws
pub mod Numbers
-- the same lists computed, since what an iterator has left must be a function: nothing is to be learned there
pub mod Items
pub mod Listing
-- and the structs that are held by their bytes, computed from these
pub mod Views
