pub mod Stepping
pub mod Reading
pub mod Narrowing
pub mod Trailing
