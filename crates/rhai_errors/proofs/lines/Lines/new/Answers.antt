use Rattle.std.proofs.Common.{ℕ, ◌+◌, List, ◌++◌, ◌∷◌, [], length, subst, sym, arith}
use Rattle.std.specs.Str.{chars}
use Rattle.std.proofs.lemmas.Iterator.{YieldsList-from_chars}
use Rattle.std.proofs.lemmas.Iterator.Consumers.{YieldsList-turn, YieldsList-end}
use Rattle.std.proofs.lemmas.List.{length_push}
use Rattle.rhai_errors.specs.Places.{AreLengths}
use Rattle.rhai_errors.proofs.Behind.{AreBehind, behind_feed, behind_other, few_behind, few_chars}
use Rattle.rhai_errors.proofs.Listed.{listed_all, listed_feed, listed_other}
use Rattle.rhai_errors.proofs.lines.Lines.new.Goals as goal

pub overflow_add-columns : goal.overflow_add-columns
overflow_add-columns c =
    let t = YieldsList-turn (YieldsList-from_chars c.args.source.now c.utf8.source cc) c.loop-c.yielded _ c.loop-c.yielded_by _ _ c.in-Some.c c.in-Some.is c.next.ensures.steps in
    let few = few_behind (chars c.args.source.now) (length c.loop-c.yielded) (length c.loop-c.lengths.items) c.loop-c.columns c.in-Some.c t.0 t.1 c.loop-c.invariant.behind in
    omega (arith, few_chars c.args.source.now c.utf8.source)

pub loop-c-preserved-then-c-eq10 : goal.loop-c-preserved-then-c-eq10
loop-c-preserved-then-c-eq10 c =
    let t = YieldsList-turn (YieldsList-from_chars c.args.source.now c.utf8.source cc) c.loop-c.yielded _ c.loop-c.yielded_by _ _ c.in-Some.c c.in-Some.is c.next.ensures.steps in
    let behind : AreBehind (chars c.args.source.now) (length c.loop-c.yielded + 1) (length c.loop-c.lengths.items + 1) 0 = behind_feed (chars c.args.source.now) (length c.loop-c.yielded) (length c.loop-c.lengths.items) c.loop-c.columns c.in-Some.c t.0 t.1 c.loop-c.invariant.behind c.if-c-eq10.true in
    rw (length_push c.loop-c.yielded c.in-Some.c) (rw c.in_ok-push.ensures.items (record {
      behind = rw (length_push c.loop-c.lengths.items c.loop-c.columns) behind;
      listed = λ place. listed_feed (chars c.args.source.now) c.loop-c.lengths.items (length c.loop-c.yielded) c.loop-c.columns place (c.loop-c.invariant.listed place) behind;
    }))

pub loop-c-preserved : goal.loop-c-preserved
loop-c-preserved c =
    let t = YieldsList-turn (YieldsList-from_chars c.args.source.now c.utf8.source cc) c.loop-c.yielded _ c.loop-c.yielded_by _ _ c.in-Some.c c.in-Some.is c.next.ensures.steps in
    let behind : AreBehind (chars c.args.source.now) (length c.loop-c.yielded + 1) (length c.loop-c.lengths.items) (c.loop-c.columns + 1) = behind_other (chars c.args.source.now) (length c.loop-c.yielded) (length c.loop-c.lengths.items) c.loop-c.columns c.in-Some.c t.0 t.1 c.loop-c.invariant.behind c.if-c-eq10.false in
    rw (length_push c.loop-c.yielded c.in-Some.c) (record {
      behind = behind;
      listed = λ place. listed_other (chars c.args.source.now) c.loop-c.lengths.items (length c.loop-c.yielded) c.loop-c.columns place (c.loop-c.invariant.listed place) behind;
    })

pub returns : goal.returns
returns c =
    let t = YieldsList-end (YieldsList-from_chars c.args.source.now c.utf8.source cc) c.loop-c.yielded _ c.loop-c.yielded_by _ _ c.in-None.is c.next.ensures.steps in
    let all : AreLengths c.args.source.now (c.loop-c.lengths.items ++ c.loop-c.columns ∷ []) = listed_all c.args.source.now c.loop-c.lengths.items (length c.loop-c.yielded) c.loop-c.columns (omega arith) c.loop-c.invariant.listed in
    subst (AreLengths c.args.source.now) (sym {A = List ℕ} c.in_ok-push-2.ensures.items) all
