pub mod Accumulated
pub mod CapabilityBits
pub mod Disassemblies
pub mod LeastCapabilities
pub mod SlotCounts
