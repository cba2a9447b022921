pub mod Messages
pub mod Classes
pub mod Output
pub mod Putting
pub mod Laws
pub mod Examples
