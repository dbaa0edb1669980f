pub mod PutIn
pub mod Layering
