mod Fieldless
pub mod FlatForm
mod Placing
mod ValueRows
pub mod SpannedWork
pub mod WideAddresses
pub mod WrittenAgain
mod RefusedFiles
pub mod RestorablePrograms
pub mod FloatNumbers
