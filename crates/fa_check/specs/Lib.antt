-- What the crate's contracts speak of, in the order in which it reads best.

-- which orders of tree requests are valid
pub mod Orders
-- which are runs of the tree machine, and which are legal
pub mod Runs
-- the first entry at fault of those that are not
pub mod Faults
-- orders that are cut at a message
pub mod Cuts
-- what is answered
pub mod Verdicts
-- which marks of a list are set
pub mod Marks
-- how far an order is placed, entry by entry
pub mod Replays
-- what follows from the definitions alone
pub mod Laws
-- the vocabulary of private contracts
pub mod parts
