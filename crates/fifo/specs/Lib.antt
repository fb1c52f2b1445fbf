pub mod Bulk
pub mod Part
