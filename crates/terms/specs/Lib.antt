pub mod Lists
pub mod Refusals
pub mod Failures
pub mod Marks
pub mod Rules
pub mod Terms
pub mod TermLaws
pub mod Tables
