pub mod Whole
pub mod Writable
pub mod AllBytes
pub mod SidecarFiles
pub mod Tiles
pub mod ChangedFiles
pub mod KnownKinds
mod FormCaps
mod KeptAlike
pub mod KeptAccepted
