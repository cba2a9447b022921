pub mod Distributed
pub mod PutLaws
pub mod Keys
pub mod Tree
pub mod Streams
pub mod Meaning
pub mod Merges
