pub mod Trace
pub mod Replay
pub mod InTurn
pub mod Steps
