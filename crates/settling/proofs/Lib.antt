-- The laws of the search's loop over plain lists.
-- Assumes nothing.
pub mod Lists
pub mod Pending
pub mod Closing
pub mod Winners
pub mod Turns
pub mod Endings
pub mod Rising
