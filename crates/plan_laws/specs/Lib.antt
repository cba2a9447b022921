pub mod Placing
pub mod PlacingLaws
pub mod FromLaws
pub mod Counting
pub mod Rows
pub mod RunCounts
pub mod EventLaws
