pub mod Underway
pub mod Turns
pub mod Beginning
pub mod Searched
