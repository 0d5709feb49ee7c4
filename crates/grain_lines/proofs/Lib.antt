pub mod SearchLaws
pub mod WordLaws
pub mod FieldLaws
pub mod LineLaws
pub mod VerdictLaws
pub mod AnswerLaws
pub mod Sending
pub mod RunLaws
