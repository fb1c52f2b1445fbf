pub mod Enters
pub mod Operands
pub mod Returns
