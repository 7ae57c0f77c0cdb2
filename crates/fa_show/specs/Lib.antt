-- What the crate's contracts speak of, in the order in which it reads best.

-- what may be written
pub mod Printing
-- what is written
pub mod Shown
-- what private contracts alone speak of
pub mod parts
