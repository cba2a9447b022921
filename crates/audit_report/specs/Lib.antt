pub mod Played
pub mod Audit
pub mod Texts
pub mod Laws
