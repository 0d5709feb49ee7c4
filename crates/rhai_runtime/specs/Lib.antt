-- definitions
pub mod Asked
pub mod Named
