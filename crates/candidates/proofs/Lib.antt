-- The laws of candidates.
pub mod Searched
pub mod Results
pub mod Trials
pub mod Cursors
pub mod Roads
pub mod Rivals
