pub mod SpelledTokens
