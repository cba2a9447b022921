pub mod Kinds
pub mod Names
pub mod Reading
pub mod Spelling
pub mod Answers
pub mod Tables
