pub mod Bodies
pub mod Loops
pub mod Places
pub mod Rules
pub mod Switches
