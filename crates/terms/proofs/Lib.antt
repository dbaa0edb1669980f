pub mod Bytes
pub mod Bits
pub mod Numbers
pub mod Shapes
pub mod Writing
pub mod Members
pub mod Widening
