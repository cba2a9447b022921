pub mod Fronts
pub mod Sampled
pub mod Heard
pub mod HeardChords
pub mod HeardSample
