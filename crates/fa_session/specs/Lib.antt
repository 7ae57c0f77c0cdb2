-- What the crate's contracts speak of, in the order in which it reads best.

-- a message, and checks in a stated order
pub use Rattle.fa_capture.specs.Message
pub use Rattle.fa_capture.specs.Checks
-- which request a reply answers, and which requests are outstanding
pub mod Answers
-- the rules of a session
pub mod Rules
-- the checks of a message in their order, and which messages they allow
pub mod Allowed
-- what a message that is allowed is
pub mod Events
-- a session as a value, and what it shows of messages
pub mod Plain
pub mod Shows
-- why a message is not taken
pub mod Refusals
-- what follows from the definitions alone
pub mod Laws
-- what private contracts alone speak of
pub mod parts
