-- what is promised
pub mod Ends
pub mod Runs
pub mod Session
