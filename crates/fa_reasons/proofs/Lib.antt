pub mod ExplainedLemmas
pub mod PageLemmas
