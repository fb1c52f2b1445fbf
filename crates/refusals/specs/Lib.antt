pub mod Refusals
pub mod Kinds
pub mod Counting
pub mod Silence
pub mod Blocks
pub mod Promises
pub mod Wrong
