pub mod DropGlue
pub mod NewSession
pub mod SessionWords
pub mod Words
