pub mod Midi
pub mod Valid
pub mod Grains
pub mod Pitch
pub mod Laws
