-- what is read, by definitions that other crates cite
pub mod Blanks
pub mod Literals
pub mod Numbers
pub mod Operators
pub mod Positions
