pub mod Ends
pub mod Others
