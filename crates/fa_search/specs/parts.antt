-- The vocabulary of the crate's private contracts.

-- entries that go on from what is done already
pub mod Going
-- configurations: how far a search has come, by the requests in flight that are placed and the tree
pub mod Configurations
-- what a configuration shows
pub mod Shown
-- a request that is placed in a configuration
pub mod Placed
-- which requests are in flight, as a search keeps them
pub mod Flight
-- what a search holds while a request is settled
pub mod Settling
