pub mod Unfinished
pub mod Fitting
pub mod Sound
pub mod Resolved
pub mod Levels
pub mod Assembled
pub mod Finished
