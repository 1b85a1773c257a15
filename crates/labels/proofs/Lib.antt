-- The laws of labels that callers cite.
pub mod LabelWords
pub mod Lists
pub mod Rooms
pub mod Tree
