pub mod ListedCode
