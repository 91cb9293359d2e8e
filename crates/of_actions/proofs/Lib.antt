pub mod ActionLists
pub mod ActionsComputed
pub mod ActionsAgain
pub mod SetFieldText
pub mod ReaderLaws
pub mod HeaderLists
pub mod RunOrders
pub mod Bodies
pub mod InstructionLaws
pub mod Computed
pub mod InstructionsAgain
pub mod InstructionLengths
pub mod RowLemmas
mod WithActions
