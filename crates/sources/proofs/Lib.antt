pub mod Judging
pub mod Looking
pub mod Painting
pub mod Following
pub mod Listing
