pub mod Told
pub mod First
pub mod Alike
