-- The laws of the order check and of the driver's figures that callers cite.
pub mod Accepted
pub mod Hours
pub mod Lowest
pub mod Broken
pub mod Clocks
