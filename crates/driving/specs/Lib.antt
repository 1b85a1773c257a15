pub mod Order
pub mod Hours
pub mod Pauses
pub mod Accepted
pub mod Compared
