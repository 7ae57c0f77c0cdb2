pub mod PageLemmas
pub mod ContentsLemmas
pub mod CallerLemmas
