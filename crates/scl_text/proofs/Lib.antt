pub mod Written
pub mod Entries
pub mod Values
pub mod Counts
pub mod Scales
pub mod Answered
pub mod NoForms
mod CutScales
