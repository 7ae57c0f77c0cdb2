-- The vocabulary of the crate's private contracts.

-- decimal digits
pub mod Digits
