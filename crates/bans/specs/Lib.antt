pub mod Bans
pub mod BanList
