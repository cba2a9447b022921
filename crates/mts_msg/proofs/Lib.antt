pub mod Lengths
pub mod Patterns
pub mod Sums
pub mod Keys
pub mod Written
pub mod Ranges
