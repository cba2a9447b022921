pub mod Powers
pub mod Pitches
