pub mod CallerLemmas
pub mod FollowLemmas
pub mod AddedLemmas
