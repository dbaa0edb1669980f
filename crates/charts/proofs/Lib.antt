pub mod Holding
pub mod Values
pub mod Parts
pub mod Listings
