-- The definitions of the search's loop over plain lists.
-- Assumes nothing.
pub mod Settling
