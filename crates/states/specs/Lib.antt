pub mod States
pub mod RankNumber
pub mod LabelSpace
