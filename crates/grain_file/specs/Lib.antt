pub mod ProgramFile
pub mod SidecarFile
pub mod Causes
pub mod Loading
pub mod Writable
pub mod Outline
pub mod Kinds
