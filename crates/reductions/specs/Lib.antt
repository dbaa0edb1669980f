pub mod Steps
pub mod Trails
pub mod Goals
pub mod Spares
