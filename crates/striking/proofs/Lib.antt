-- The laws of striking a road.
pub mod Struck
pub mod Passes
pub mod Judged
