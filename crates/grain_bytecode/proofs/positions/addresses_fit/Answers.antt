use Rattle.std.proofs.Common.{◌≡◌, ◌<◌, ◌^◌, All, Some, None, unwrap_or, map, take, get_or, sym, subst, arith}
use Rattle.std.proofs.lemmas.List.{take_all}
use Rattle.std.proofs.lemmas.List.Elements.{All-nil, All-push}
use Rattle.grain_base.specs.AddressTable.{Entry}
use Rattle.grain_base.specs.Place.{place_of, line_of, column_of}
use Rattle.grain_bytecode.specs.Positions.{entries_at_places}
use Rattle.grain_bytecode.proofs.PositionEntries.{with_line, without_line, too_high}
use Rattle.grain_bytecode.proofs.positions.addresses_fit.Goals as goal

pub loop-at-init : goal.loop-at-init
loop-at-init c = All-nil _

pub loop-at-preserved-in_default : goal.loop-at-preserved-in_default
loop-at-preserved-in_default c =
    subst (All (λ (entry : Entry). entry.0 < 2 ^ 32)) (sym (without_line c.args.positions.now c.loop-at.at c.index-positions-at.result (omega arith)
    (subst (λ p. None ≡ line_of p) c.index-positions-at.is c.in_default.ensures.value)))
    c.loop-at.invariant

pub returns-then-at-clause-wide : goal.returns-then-at-clause-wide
returns-then-at-clause-wide c =
    too_high c.args.positions.now c.loop-at.at c.index-positions-at.result c.in-Some._line (omega arith) (subst (λ p. Some c.in-Some._line ≡ line_of p) c.index-positions-at.is c.in-Some.ensures.value) (omega arith)

pub loop-at-preserved : goal.loop-at-preserved
loop-at-preserved c =
    let list = c.args.positions.now in
    let at = c.loop-at.at in
    let item = c.index-positions-at.result in
    let site : Entry = (at, record { line = c.in-Some._line; column = unwrap_or (column_of (get_or list at item)) 0 }) in
    let all = with_line list at item c.in-Some._line (omega arith) (subst (λ p. Some c.in-Some._line ≡ line_of p) c.index-positions-at.is c.in-Some.ensures.value) in
    subst (All (λ (entry : Entry). entry.0 < 2 ^ 32)) (sym all)
    (All-push (λ (entry : Entry). entry.0 < 2 ^ 32) (entries_at_places (Some (map place_of (take at list)))) site c.loop-at.invariant (omega arith))

pub returns-clause-fit : goal.returns-clause-fit
returns-clause-fit c = subst (λ list. All (λ (entry : Entry). entry.0 < 2 ^ 32) (entries_at_places (Some (map place_of list)))) (take_all c.loop-at.at c.args.positions.now (omega arith)) c.loop-at.invariant
