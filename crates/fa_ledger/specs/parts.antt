-- The vocabulary of the crate's private contracts.

-- what an event does to a node, to a key and to the calls
pub mod Steps
-- that what two messages say is one operation
pub mod SaidLaws
-- where messages have the ids of nodes
pub mod Ids
-- a call as the book of the calls keeps it
pub mod RowParts
-- the book and the list of the calls, and what is kept of them
pub mod CallsKept
pub mod CallParts
-- the table of the offsets that were reached
pub mod ListingParts
-- the tables of nodes and of file handles
pub mod TableParts
-- the books of a ledger
pub mod BookParts
-- what is alive behind events
pub mod LiveParts
-- what a ledger's fields show
pub mod View
-- what the fields of a standing show
pub mod StandingView
