pub mod Placing
pub mod From
pub mod GoingOn
pub mod Rowing
pub mod RunCounting
pub mod Following
