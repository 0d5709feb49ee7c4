pub mod Capabilities
pub mod Slots
