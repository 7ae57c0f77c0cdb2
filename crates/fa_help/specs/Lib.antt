-- What the contracts of this crate speak of.

-- the bytes of what is printed
pub mod Printing
