-- What the crate's contracts speak of, in the order in which it reads best.

-- the events of messages, and sums over them
pub mod Events
pub mod Sums
-- what requests mention, lookup counts, and the names of nodes
pub mod Mentions
pub mod Counts
pub mod Names
-- keys of file handles, and which of them are open
pub mod Keys
pub mod Handles
-- what a listing goes on from
pub mod Listings
-- which messages pass, good captures and first faults
pub mod Passing
-- what tree requests ask for, with what came of it, their calls, and what an order may say of them
pub mod Operations
pub mod Said
pub mod Kinds
pub mod Calls
pub mod Choices
-- the listing so far of a call
pub mod SoFar
-- what a ledger shows of messages
pub mod Plain
pub mod Shows
pub mod Refusals
-- what stands behind messages of which nothing is kept
pub mod Standing
-- what follows from the definitions alone
pub mod Laws
-- what private contracts alone speak of
pub mod parts
