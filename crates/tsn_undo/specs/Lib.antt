pub mod Commuting
pub mod Examples
pub mod Ledger
pub mod Redo
pub mod Settling
pub mod Soundness
pub mod Steps
pub mod UndoAll
