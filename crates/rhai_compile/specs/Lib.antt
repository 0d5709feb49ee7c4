pub mod Capabilities
pub mod Chunks
pub mod Laid
pub mod Positions
pub mod Writes
