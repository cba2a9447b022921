pub mod Using
pub mod Fewest
pub mod Laws
