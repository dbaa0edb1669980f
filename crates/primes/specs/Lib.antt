pub mod Cubes
pub mod Primes
pub mod PrimeLaws
pub mod Needs
pub mod Records
