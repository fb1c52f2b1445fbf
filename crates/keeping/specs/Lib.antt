pub mod Keeping
pub mod Wrong
