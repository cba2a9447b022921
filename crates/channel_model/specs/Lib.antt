pub mod Choice
pub mod ChoiceTest
pub mod Rows
pub mod Refusals
pub mod BendOutput
pub mod MpeOutput
pub mod Laws
pub mod Examples
