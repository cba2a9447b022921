pub mod Masks
pub mod Counts
pub mod Resets
pub mod Differences
