pub mod Lefts
pub mod Picking
pub mod Cuts
pub mod Flooring
pub mod Walking
pub mod Settling
