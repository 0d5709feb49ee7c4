mod FileAnswers
pub mod DropGlue
mod HeldData
pub mod HeldWords
mod Judged
mod Printing
pub mod ScratchWords
mod Streams
mod Tags
pub mod Words
mod ChangedAnswers
