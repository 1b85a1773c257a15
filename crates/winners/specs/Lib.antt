pub mod Keys
pub mod Mending
