pub mod Format
pub mod RoadTime
