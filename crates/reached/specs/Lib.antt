pub mod Sound
pub mod Facts
pub mod NeverBoth
pub mod Before
pub mod Wrong
