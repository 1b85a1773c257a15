-- The laws and theorems of planning.
-- Assumes nothing.
pub mod Journeys
pub mod Laws
pub mod Labels
pub mod ParentMove
pub mod Plan
pub mod Rows
pub mod Planning
pub mod Endings
pub mod Compared
pub mod Struck
pub mod Runs
pub mod Worked
