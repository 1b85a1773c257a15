-- The laws of the moves.
pub mod Entering
pub mod Trips
pub mod Opened
pub mod Stepped
pub mod Monotone
pub mod Offered
pub mod Struck
pub mod Rising
