pub mod Numbers
pub mod Values
pub mod Written
pub mod Keys
pub mod Own
pub mod Fit
pub mod Least
mod Near
mod Stays
mod Keyed
mod Heard
mod Running
mod Same
mod Passing
mod Sizes
