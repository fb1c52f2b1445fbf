pub mod Places
pub mod Stays
pub mod SamePlace
pub mod Frame
pub mod Refuted
