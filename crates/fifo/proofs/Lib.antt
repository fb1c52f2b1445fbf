pub mod Places
pub mod BulkLaws
pub mod Going
pub mod Stored
