pub mod Putting
pub mod Routed
pub mod Device
pub mod Kept
pub mod Laws
