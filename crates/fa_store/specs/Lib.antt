-- What the crate's contracts speak of, in the order in which it reads best.

-- the bytes of a file
pub mod Contents
-- what private contracts alone speak of
pub mod parts
