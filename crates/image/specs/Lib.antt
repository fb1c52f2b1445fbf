pub mod IsImage
pub mod Read
pub mod Waiting
