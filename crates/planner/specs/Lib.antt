pub mod Parts
pub mod Planned
pub mod Preview
