pub mod Addresses
pub mod Depths
pub mod Directives
pub mod Drafted
pub mod Entries
pub mod Placed
pub mod Widths
