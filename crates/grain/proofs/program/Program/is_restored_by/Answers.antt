use Rattle.std.proofs.Common.{◌≡◌, ◌∙◌, List, ℕ, ap, subst, sym}
use Rattle.std.proofs.lemmas.Bool.{false≢true}
use Rattle.std.proofs.lemmas.Result.{IfOk-weaker}
use Rattle.grain_bytecode.specs.Positions.{IsRead, IsRefusal, places}
use Rattle.grain.specs.Program.{Program, places_of}
use Rattle.grain.proofs.AttachedPositions.{only_memory, places_listed}
use Rattle.grain.proofs.RestoredPositions.{one_read}
use Rattle.grain.proofs.program.Program.is_restored_by.Goals as goal

pub returns-in-Ok : goal.returns-in-Ok
returns-in-Ok c =
    let table : List ℕ = c.args.sidecar.now.positions.items in
    let code : c.deref-2.result.now ≡ c.args.self.now.code = c.deref-2.ensures.value ∙ ap (λ (p : Program). p.code) c.self.view_is in
    let read : IsRead table c.args.self.now.code (places c.in-Ok.positions) =
    subst (λ (t : List ℕ). IsRead t c.args.self.now.code (places c.in-Ok.positions)) c.deref.ensures.value
    (subst (λ (bytes : List ℕ). IsRead c.deref.result.now bytes (places c.in-Ok.positions)) code c.in-Ok.ensures.ok) in
    let own : places c.self.inside.parts.positions ≡ places_of c.args.self.now = places_listed c.self.inside.parts.positions ∙ ap (λ (p : Program). places_of p) c.self.view_is in (
      λ yes. subst (IsRead table c.args.self.now.code) (c.same_places.ensures.0 yes ∙ own) read,
      λ again. c.same_places.ensures.1 (one_read table c.args.self.now.code (places c.in-Ok.positions) (places_of c.args.self.now) read again ∙ sym own),
    )

pub returns-in-Err : goal.returns-in-Err
returns-in-Err c =
    let table : List ℕ = c.args.sidecar.now.positions.items in
    let code : c.deref-2.result.now ≡ c.args.self.now.code = c.deref-2.ensures.value ∙ ap (λ (p : Program). p.code) c.self.view_is in
    let refused : IsRefusal table c.args.self.now.code c.in-Err.error =
    subst (λ (t : List ℕ). IsRefusal t c.args.self.now.code c.in-Err.error) c.deref.ensures.value
    (subst (λ (bytes : List ℕ). IsRefusal c.deref.result.now bytes c.in-Err.error) code c.in-Err.ensures.err) in
    IfOk-weaker c.unread.result _ _ (λ restores h. (
      λ yes. absurd (false≢true (sym h.0 ∙ yes)),
      λ read. absurd (h.1 (only_memory table c.args.self.now.code (places_of c.args.self.now) c.in-Err.error read refused)),
    )) c.unread.ensures
