-- What the crate's contracts speak of, in the order in which it reads best.

-- paths in a tree text
pub mod Paths
-- the lines of a tree text that add to the tree
pub mod TreeLines
-- tree texts
pub mod TreeText
-- what an error says of a text
pub mod Faults
-- what follows from the definitions alone
pub mod Laws
-- the vocabulary of private contracts
pub mod parts
