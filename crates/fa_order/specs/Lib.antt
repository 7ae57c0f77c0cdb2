-- What the crate's contracts speak of, in the order in which it reads best.

-- lines of texts
pub mod Lines
-- order texts
pub mod Order
-- what an error says of a text
pub mod Faults
-- what follows from the definitions alone
pub mod Laws
-- the vocabulary of private contracts
pub mod parts
