pub mod Entries
pub mod Fields
pub mod Frequencies
pub mod Maps
pub mod Answered
mod CutMappings
