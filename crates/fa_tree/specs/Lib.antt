-- What the crate's contracts speak of, in the order in which it reads best.

-- the tree: names, files, nodes and open directories
pub mod State
-- what a call names in it
pub mod Resolved
-- attributes of a file
pub mod Attributes
-- what a request does to names, and to open directories with them
pub mod Edits
-- what is said of each operation
pub mod Rules
-- what the causes of errors speak of
pub mod Causes
-- The operations, family by family: what each needs, what it changes, when its errors have their cause, and what its answer says.

-- READ and WRITE
pub mod Contents
-- LOOKUP, GETATTR, SETATTR and READLINK
pub mod Lookups
-- SYMLINK, MKNOD, MKDIR and CREATE
pub mod Making
-- UNLINK and RMDIR
pub mod Removing
-- RENAME and RENAME2
pub mod Renaming
-- LINK
pub mod Linking
-- OPEN and OPENDIR
pub mod Opening
-- READDIR and READDIRPLUS
pub mod Directories
-- and together
pub mod Operations
-- for which files answers give nodes
pub mod Bindings
-- a step, with its checks in the order of their codes
pub mod Steps
-- what a refusal says
pub mod Refusals
-- trees that are the same but for openings
pub mod Alike
-- trees that are put together
pub mod Building
-- what a tree tells of itself
pub mod Telling
-- what makes them trees
pub mod Shape
-- what follows from the definitions alone
pub mod Laws
-- the vocabulary of private contracts
pub mod parts
