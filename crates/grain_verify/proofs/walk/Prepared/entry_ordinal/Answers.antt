use Rattle.std.proofs.Common.{◌≡◌, ◌≢◌, IfErr, IfOk, OnOk, Some, slice_get, refl, subst, sym}
use Rattle.grain_code.specs.Span.{Span}
use Rattle.grain_code.specs.Split.{Split}
use Rattle.grain_rules.specs.Accepted.{IsFramed}
use Rattle.grain_rules.specs.Code.{Bytecode}
use Rattle.grain_rules.specs.Flaw.{ChunkFlaw, IsFrameFlaw, is_empty, no_bound, outside}
use Rattle.grain_rules.specs.declared.error.VerifyError.{VerifyError}
use Rattle.grain_rules.specs.declared.error.VerifyError.TheVariants.{OutOfMemory}
use Rattle.grain_verify.specs.Walk.{Walked}
use Rattle.grain_verify.proofs.RefusalsAreFlaws.{err_so}
use Rattle.grain_verify.proofs.walk.Prepared.entry_ordinal.Goals as goal

-- a frame's flaw isn't that memory was refused
not_memory : (code : Bytecode) (chunk : Span) (e : VerifyError) → IsFrameFlaw code chunk e → e ≢ OutOfMemory
not_memory code chunk e (outside h) same = absurd cc
not_memory code chunk e (no_bound h) same = absurd cc
not_memory code chunk e (is_empty h) same = absurd cc

pub check_frame-requires : goal.check_frame-requires
check_frame-requires g c = subst (λ (p : Walked). Split p.code.bytes p.starts) (sym c.self.view_is) c.requires.starts

pub returns-clause-framed : goal.returns-clause-framed
returns-clause-framed g c = subst (λ (p : Walked). OnOk c.check_frame.result (IsFramed p.code c.args.chunk.now)) c.self.view_is (c.check_frame.ensures.framed _ refl)

pub returns-clause-place : goal.returns-clause-place
returns-clause-place g c =
    subst (λ (p : Walked). IfOk c.check_frame.result (λ k. slice_get p.starts k ≡ Some c.args.chunk.now.entry)) c.self.view_is c.check_frame.ensures.place

pub returns-clause-err : goal.returns-clause-err
returns-clause-err g c =
    subst (λ (p : Walked). IfErr c.check_frame.result (λ e. ChunkFlaw p.code c.args.chunk.now e × (e ≢ OutOfMemory))) c.self.view_is
    (err_so c.check_frame.result (λ e h. (h.0, not_memory _ _ e h.1)) (c.check_frame.ensures.err _ refl))
