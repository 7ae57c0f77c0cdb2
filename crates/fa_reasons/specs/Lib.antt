-- What the crate's contracts speak of, in the order in which it reads best.

-- what is answered where reasons are asked for, and what a run writes of it
pub mod Explained
-- what a run writes that draws a capture, or reports on it
pub mod Pages
