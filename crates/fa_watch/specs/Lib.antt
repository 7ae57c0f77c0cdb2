-- What the crate's contracts speak of, in the order in which it reads best.

-- what is seen of a stream
pub mod Watched
-- why a message is not taken
pub mod Refusals
-- what private contracts alone speak of
pub mod parts
