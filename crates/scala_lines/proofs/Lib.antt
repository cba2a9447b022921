pub mod Prefixes
pub mod Cuts
pub mod Decimals
pub mod Spelled
mod FirstLines
