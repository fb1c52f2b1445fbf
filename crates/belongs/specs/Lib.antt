pub mod StillBus
pub mod Belongs
pub mod TimedOut
pub mod Connection
pub mod Wrong
