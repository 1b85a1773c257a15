-- The laws of the walk.
pub mod Walking
pub mod Underway
pub mod Judging
pub mod Rewriting
pub mod Retimes
pub mod Audited
