pub mod Holding
pub mod Free
pub mod Tested
pub mod Refused
pub mod Histories
pub mod Bending
pub mod Zoning
