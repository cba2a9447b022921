pub mod Zoned
pub mod Follows
pub mod Positions
pub mod Sources
pub mod Laws
pub mod FileLaws
