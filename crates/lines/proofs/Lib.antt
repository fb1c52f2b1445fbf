-- The laws that the proofs of this room cite.
pub mod Computed
pub mod Small
