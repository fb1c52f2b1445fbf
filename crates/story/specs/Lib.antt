pub mod Story
pub mod Hosts
pub mod Schedule
pub mod Demand
pub mod Runs
pub mod Wrong
