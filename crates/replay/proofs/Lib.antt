pub mod Fronts
pub mod Putting
pub mod Walks
pub mod Each
pub mod Telling
pub mod Agreed
