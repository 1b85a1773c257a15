pub mod Name
pub mod Chaining
pub mod Passes
