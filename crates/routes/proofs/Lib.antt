pub mod Puts
mod Dealt
mod Distributes
pub mod Premises
mod Bytes
pub mod Sizes
mod Same
pub mod Around
mod Blocks
mod Lives
pub mod States
pub mod Channels
mod Passing
