pub mod Squarings
pub mod Roots
pub mod Leading
pub mod Bounds
