-- The laws of the chain reader that callers cite.
-- Assumes nothing.
pub mod Standing
