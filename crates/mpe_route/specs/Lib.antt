pub mod Zones
pub mod Kept
pub mod Planned
pub mod Caused
pub mod Putting
pub mod Laws
