-- What the contract of the exported function speaks of.
pub mod Told
