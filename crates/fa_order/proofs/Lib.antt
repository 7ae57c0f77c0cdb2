pub mod OrderDigits
pub mod OrderLines
pub mod OrderLemmas
pub mod OrderTotal
pub mod CallerLemmas
