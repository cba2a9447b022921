pub mod Sound
pub mod Views
pub mod Files
pub mod Remaining
pub mod Short
