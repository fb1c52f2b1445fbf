pub mod Opening
pub mod Runs
pub mod Wrong
