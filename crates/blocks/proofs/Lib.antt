pub mod Blocks
pub mod InImage
