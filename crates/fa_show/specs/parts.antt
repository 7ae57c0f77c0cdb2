-- The vocabulary of the crate's private contracts.

-- text in its room
pub mod Texts
-- what messages that were taken leave
pub mod Following
