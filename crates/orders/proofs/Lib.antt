pub mod Small
pub mod Totalling
pub mod Below
