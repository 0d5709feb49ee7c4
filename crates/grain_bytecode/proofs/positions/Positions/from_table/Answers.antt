use Rattle.std.proofs.Common.{◌≡◌, ◌∙◌, length, drop, vec_len, inl, inr, refl, sym, ap, arith}
use Rattle.std.proofs.lemmas.List.{take_at}
use Rattle.std.proofs.lemmas.Result.{err_from_is_err_and}
use Rattle.grain_bytecode.specs.Positions.{dense}
use Rattle.grain_bytecode.proofs.TableAcceptance.{entry_count, countable, no_entries, some_entries}
use Rattle.grain_bytecode.proofs.positions.Positions.from_table.Goals as goal

pub returns-in_err-entries-clause-err : goal.returns-in_err-entries-clause-err
returns-in_err-entries-clause-err c =
    let table = c.in_ok-check.ensures.ok.0 refl in
    let flaw = (c.in_err-entries.ensures.err _).0 refl in
    absurd (countable c.args.table.now table.0 flaw.0 table.1 flaw.1)

pub returns-then-entries-eq0-clause-ok : goal.returns-then-entries-eq0-clause-ok
returns-then-entries-eq0-clause-ok c =
    let table = c.in_ok-check.ensures.ok.0 refl in
    let counted = entry_count c.args.table.now table.0 _ table.1 ((c.in_ok-entries.ensures.ok _).0 refl) in
    record { list = table.0; is = table.1; whole = inl (no_entries table.0 (sym c.if-entries-eq0.true ∙ counted), refl) }

pub returns-in_err-positions-clause-err : goal.returns-in_err-positions-clause-err
returns-in_err-positions-clause-err c =
    let table = c.in_ok-check.ensures.ok.0 refl in
    let counted = entry_count c.args.table.now table.0 _ table.1 ((c.in_ok-entries.ensures.ok _).0 refl) in
    let p = err_from_is_err_and c.from_residual-in_err-positions.result c.from_residual-in_err-positions.ensures.1 in
    rw (p.1, p.2) (some_entries c.args.table.now table.0 _ table.1 counted c.if-entries-eq0.false)

pub returns-then-matched-entries-clause-err : goal.returns-then-matched-entries-clause-err
returns-then-matched-entries-clause-err c =
    let table = c.in_ok-check.ensures.ok.0 refl in
    let walk = c.place_all-matched.ensures in (
      record {
        list = table.0;
        arrived = walk.0;
        is = table.1;
        reads = walk.1;
        counted = entry_count c.args.table.now table.0 _ table.1 ((c.in_ok-entries.ensures.ok _).0 refl);
        found = (walk.2 table.0 table.1).0;
        differ = c.if-matched-entries.true;
      },
      refl,
    )

pub returns-clause-ok : goal.returns-clause-ok
returns-clause-ok c =
    let table = c.in_ok-check.ensures.ok.0 refl in
    let walk = c.place_all-matched.ensures in
    let all = walk.2 table.0 table.1 in
    let counted = entry_count c.args.table.now table.0 _ table.1 ((c.in_ok-entries.ensures.ok _).0 refl) in
    let long : length c.place_all-matched.new.positions ≡ vec_len c.in_ok-positions.positions = omega arith in
    let back = take_at c.place_all-matched.new.positions (drop (length c.place_all-matched.new.positions) c.in_ok-positions.positions.items) (vec_len c.in_ok-positions.positions) long in
    let found = rw back at c.dense.ensures in
    record { list = table.0; is = table.1; whole = inr (walk.0, walk.1, sym all.0 ∙ c.if-matched-entries.false ∙ counted, found ∙ ap dense all.1) }
