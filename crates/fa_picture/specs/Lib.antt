-- What the crate's contracts speak of, in the order in which it reads best.

-- where columns lie, and which of them a bar covers
pub mod Columns
-- when the requests of an order may have taken effect
pub mod Moments
-- what stands for a byte in markup
pub mod Escape
