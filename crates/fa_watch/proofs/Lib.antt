pub mod MessageLemmas
pub mod StreamLemmas
pub mod InputLemmas
pub mod WatchLemmas
pub mod CallerLemmas
