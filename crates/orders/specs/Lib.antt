pub mod Orders
pub mod Kinds
pub mod Lawful
pub mod Any
pub mod TotalLaws
