pub mod Status
pub mod Unread
pub mod History
pub mod Because
pub mod Ending
pub mod Codes
pub mod Wrong
