-- The vocabulary of the crate's private contracts.

-- pages of the bytes of a file
pub mod PageParts
pub mod PagesView
