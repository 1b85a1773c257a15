pub mod MapCheck
pub mod Chain
pub mod Links
pub mod Due
pub mod Listed
pub mod Lettered
pub mod Found
