pub mod Handing
pub mod Outcomes
pub mod Opening
pub mod StruckTrip
pub mod Previewing
pub mod Worked
