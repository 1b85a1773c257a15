-- The laws of the theory of a label-setting search over any type of states, and of lists of figures compared.
-- Assumes nothing.
pub mod Lists
pub mod Sorting
pub mod Reachable
pub mod Dominance
pub mod Settling
pub mod Labels
pub mod Endings
pub mod Parents
pub mod Figures
pub mod Numbers
pub mod Changes
