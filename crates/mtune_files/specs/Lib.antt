pub mod Counts
pub mod Names
pub mod Outside
pub mod Mem
pub mod Sample
pub mod SampleLaws
