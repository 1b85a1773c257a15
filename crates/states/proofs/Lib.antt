-- The laws of states compared.
pub mod Compared
pub mod Ranks
pub mod Told
