-- The definition of planning.
-- Assumes nothing.
pub mod Journeys
pub mod Labels
pub mod Plan
pub mod Planning
pub mod Compared
pub mod Starred
