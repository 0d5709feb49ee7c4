pub mod Changed
pub mod Contents
pub mod Errors
pub mod Loading
pub mod Values
