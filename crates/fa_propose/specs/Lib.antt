-- What the crate's contracts speak of, in the order in which it reads best.

-- which order is proposed
pub mod Proposals
-- what holds of proposals
pub mod Laws
-- the vocabulary of private contracts
pub mod parts
