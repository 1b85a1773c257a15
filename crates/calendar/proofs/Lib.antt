-- The laws of the calendar and of the gate.
pub mod Made
pub mod Years
pub mod Opening
pub mod Gates
pub mod Worked
