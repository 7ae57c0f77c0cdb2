-- What the crate's contracts speak of, in the order in which it reads best.

-- what a search finds where no order is legal
pub mod Searches
-- what follows from the definitions alone
pub mod Laws
-- the vocabulary of private contracts
pub mod parts
