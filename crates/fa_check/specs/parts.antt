-- The vocabulary of the crate's private contracts.

-- the checks of a place by calls
pub mod Placing
-- what is answered of an entry that fails
pub mod Answers
-- how far the front of a cut order goes
pub mod Cutting
