pub mod Sinks
pub mod Tables
pub mod Brings
