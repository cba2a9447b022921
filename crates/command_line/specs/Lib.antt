pub mod App
pub mod Channels
pub mod Examples
pub mod Items
pub mod NumberLaws
pub mod Words
