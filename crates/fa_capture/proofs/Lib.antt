pub mod CallerLemmas
pub mod ChecksLemmas
pub mod FramingLemmas
pub mod ReadingLemmas
pub mod ReadingThereLemmas
pub mod PullLemmas
pub mod FrontLemmas
pub mod PieceLemmas
pub mod BytesLemmas
pub mod StopLemmas
pub mod PacketLemmas
pub mod OutputLemmas
pub mod MigrateLemmas
pub mod TimeLemmas
pub mod ListLemmas
mod ArrivalLemmas
