-- The laws of reading a plan back.
-- Assumes nothing.
pub mod Leading
pub mod Walk
pub mod Listed
pub mod Back
pub mod Counted
pub mod Read
pub mod Backward
pub mod Ending
