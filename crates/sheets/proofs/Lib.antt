-- The laws of the plan sheet that callers cite. Assumes nothing.
pub mod Splice
pub mod Bytes
pub mod Writing
pub mod Reading
