pub mod Prefixes
pub mod Names
pub mod Ticks
pub mod Lists
pub mod Taken
