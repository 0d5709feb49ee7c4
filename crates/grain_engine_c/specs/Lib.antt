-- what handles keep, files that are written, and what is said by number
pub mod Files
pub mod Holds
pub mod Numbers
