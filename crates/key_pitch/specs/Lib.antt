pub mod Views
pub mod Sums
pub mod Tables
pub mod Causes
pub mod InForce
pub mod Aims
pub mod ByTick
