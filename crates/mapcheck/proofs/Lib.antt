-- The laws of the map check.
pub mod Flaws
pub mod Letters
pub mod Fields
pub mod Counts
pub mod Reaches
pub mod Due
pub mod Listed
pub mod Sound
pub mod Tried
pub mod Kept
