-- The laws of the winner tree's keys that callers cite.
pub mod Keys
pub mod Contenders
pub mod Steps
