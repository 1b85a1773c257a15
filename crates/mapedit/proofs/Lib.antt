-- The laws of names and of chain making.
pub mod Named
pub mod PutAll
pub mod Linked
pub mod Making
pub mod Chained
