pub mod Errors
pub mod ErrorLaws
pub mod Targets
pub mod Keys
pub mod Texts
pub mod KeyLaws
