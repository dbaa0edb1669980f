pub mod Covers
pub mod CoverLaws
pub mod Charting
