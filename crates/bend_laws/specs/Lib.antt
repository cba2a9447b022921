pub mod Moments
pub mod Brought
pub mod Follows
pub mod Positions
pub mod Simulation
pub mod Bent
pub mod Laws
pub mod FileLaws
