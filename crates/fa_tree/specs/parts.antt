-- The vocabulary of the crate's private contracts.

-- what a name feeds a hasher
pub mod NameFed
-- the orders of files and of places, with their laws; the table of slots, and the places of each directory in it
pub mod FileIdLaws
pub mod PlaceLaws
pub mod SlotParts
pub mod MemberParts
-- the table of names: its value, and what its body shows of it
pub mod NameParts
pub mod NameViews
-- what is counted of files
pub mod CountParts
-- what is within another
pub mod SameParts
-- openings, and open directories; names that came later
pub mod OpenParts
pub mod BirthParts
-- what was listed so far
pub mod TallyParts
pub mod KeptParts
pub mod ReplayParts
-- files
pub mod FileParts
pub mod FactParts
-- names of nodes
pub mod NodeParts
-- what a call names
pub mod NamedParts
-- calls that do not list, and those that do
pub mod StepParts
pub mod ListingParts
-- ways up the tree
pub mod ShapeParts
pub mod ParentParts
-- what a tree stores, and trees, as values
pub mod StoredParts
pub mod StateCodes
pub mod StoredView
pub mod TreeView
