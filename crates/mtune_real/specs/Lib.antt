pub mod Ended
pub mod Fronts
pub mod Real
