pub mod Fronts
pub mod Pieces
pub mod Counted
pub mod Reporting
