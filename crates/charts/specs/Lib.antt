pub mod Choice
pub mod Grids
pub mod Best
pub mod Sets
