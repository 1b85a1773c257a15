-- What the demands speak of beside the operations' own definitions.
-- Assumes nothing.
pub mod Refused
pub mod Counted
pub mod Runs
pub mod LinkBytes
pub mod Letters
