-- The laws of words that callers cite.
pub mod Put
pub mod Tail
pub mod Joined
