-- The laws of road times that callers cite, and those of rounding below them.
pub mod RoadTime
pub mod Rounding
