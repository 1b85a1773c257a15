pub mod Walk
pub mod Retiming
pub mod Parts
