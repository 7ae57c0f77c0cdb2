-- The vocabulary of the crate's private contracts.

-- bytes that stand for themselves
pub mod Unescaped
-- ways down a tree
pub mod Ways
-- directories that are kept
pub mod Folders
-- the fields of lines
pub mod Fields
-- what comes of a line
pub mod Outcomes
