pub mod LabelWords
pub mod Lists
pub mod Tree
