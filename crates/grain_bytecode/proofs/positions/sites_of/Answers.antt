use Rattle.std.proofs.Common.{◌≡◌, ◌≤◌, ◌^◌, ◌∙◌, ◌∷◌, [], ◌++◌, Some, None, unwrap_or, map, take, get_or, ap, sym, subst, arith}
use Rattle.std.proofs.lemmas.List.{take_all}
use Rattle.grain_base.specs.AddressTable.{Entry}
use Rattle.grain_base.specs.Place.{place_of, line_of, column_of}
use Rattle.grain_bytecode.specs.Positions.{entries_at_places}
use Rattle.grain_bytecode.proofs.PositionEntries.{with_line, without_line, too_high, fits_or_not}
use Rattle.grain_bytecode.proofs.positions.sites_of.Goals as goal

pub loop-at-preserved-in_default : goal.loop-at-preserved-in_default
loop-at-preserved-in_default c =
    c.loop-at.invariant ∙ sym (without_line c.args.positions.now c.loop-at.at c.index-positions-at.result (omega arith) (subst (λ p. None ≡ line_of p) c.index-positions-at.is c.in_default.ensures.value))

pub overflow_cast-at : goal.overflow_cast-at
overflow_cast-at c =
    let list = c.args.positions.now in
    let at = c.loop-at.at in
    let some = subst (λ p. Some c.in-Some.line ≡ line_of p) c.index-positions-at.is c.in-Some.ensures.value in
    let low : ¬ (2 ^ 32 ≤ at) = λ high. fits_or_not (entries_at_places (Some (map place_of list))) c.requires (too_high list at c.index-positions-at.result c.in-Some.line (omega arith) some high) in
    omega (arith, low)

pub loop-at-preserved : goal.loop-at-preserved
loop-at-preserved c =
    let list = c.args.positions.now in
    let at = c.loop-at.at in
    let item = c.index-positions-at.result in
    let line = c.in-Some.line in
    let column : c.unwrap_or-column.result ≡ unwrap_or (column_of (get_or list at item)) 0 = c.unwrap_or-column.ensures ∙ ap (λ o. unwrap_or o 0) (c.position.ensures.value ∙ ap column_of c.index-positions-at.is) in
    let pushed : Entry = (at, record { line = line; column = c.unwrap_or-column.result }) in
    let due : Entry = (at, record { line = line; column = unwrap_or (column_of (get_or list at item)) 0 }) in
    let same : pushed ≡ due = ap (λ n. (at, record { line = line; column = n })) column in
    let all = with_line list at item line (omega arith) (subst (λ p. Some line ≡ line_of p) c.index-positions-at.is c.in-Some.ensures.value) in
    c.in_ok-push.ensures.items ∙ ap (λ items. items ++ pushed ∷ []) c.loop-at.invariant
    ∙ ap (λ e. entries_at_places (Some (map place_of (take at list))) ++ e ∷ []) same ∙ sym all

pub returns : goal.returns
returns c = c.loop-at.invariant ∙ ap (λ list. entries_at_places (Some (map place_of list))) (take_all c.loop-at.at c.args.positions.now (omega arith))
