pub mod Seeking
pub mod Floors
pub mod Splitting
