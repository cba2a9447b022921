pub mod Marking
pub mod Indexed
pub mod Ending
pub mod Next
pub mod Dealing
pub mod Said
pub mod Joined
pub mod Told
