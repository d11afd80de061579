pub mod InPlace
pub mod Every
pub mod Apart
pub mod Steps
pub mod Sound
pub mod Spelled
