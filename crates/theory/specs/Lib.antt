-- The definitions of the theory of a label-setting search over any type of states, and of lists of figures compared.
-- Assumes nothing.
pub mod Lists
pub mod States
pub mod Settling
pub mod Reachable
pub mod Labels
pub mod Figures
pub mod Numbers
