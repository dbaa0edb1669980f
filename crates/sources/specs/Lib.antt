pub mod Rules
pub mod Sources
pub mod Calls
pub mod Model
pub mod TermLists
pub mod ProperTables
