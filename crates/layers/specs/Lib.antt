pub mod Layers
pub mod ProperLayers
