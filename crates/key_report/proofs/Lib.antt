pub mod Quotient
pub mod Outward
pub mod Near
pub mod Below
pub mod Whole
pub mod Told
