-- Tests of what chains name.
pub use Rattle.grain_rules.proofs.IndexTests.{mentions_append}
