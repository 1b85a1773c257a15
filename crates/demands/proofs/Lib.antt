-- The demands, and what leads to them.
-- Assumes nothing.
pub mod Refusals
pub mod Counted
pub mod Said
pub mod Chained
pub mod Decoded
pub mod Replayed
pub mod Retimed
pub mod Audited
pub mod Written
pub mod Afresh
pub mod Struck
pub mod Letters
pub mod Demands
