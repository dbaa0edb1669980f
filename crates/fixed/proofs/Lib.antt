pub mod Members
pub mod Pushed
pub mod Padding
