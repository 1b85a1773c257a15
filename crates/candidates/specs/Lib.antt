pub mod Candidates
pub mod Next
pub mod Trying
