pub mod Answers
pub mod Explained
pub mod TableFlaws
pub mod Written
-- what the parts of an export promise each other
pub mod Judging
pub mod Keeps
pub mod Holds
pub mod Files
pub mod Changed
