pub mod Texts
pub mod Told
pub mod Reported
pub mod Examples
