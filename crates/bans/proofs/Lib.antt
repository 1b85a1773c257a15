-- The laws of the ban list.
pub mod Accepted
pub mod Listed
pub mod Marking
