-- The laws of replaying.
pub mod Joining
pub mod Stepping
pub mod Sounds
pub mod Walking
pub mod Replays
pub mod Worked
pub mod Accepted
pub mod InTurn
pub mod Followed
