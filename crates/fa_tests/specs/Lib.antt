pub mod Tried
pub mod Paired
pub mod Level
