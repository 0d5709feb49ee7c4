use Rattle.std.proofs.Common.{length, arith, below_more, refl}
use Rattle.std.specs.Str.{chars}
use Rattle.std.proofs.lemmas.Iterator.{YieldsList-from_chars}
use Rattle.std.proofs.lemmas.Iterator.Consumers.{YieldsList-turn, YieldsList-end}
use Rattle.std.proofs.lemmas.List.{length_push}
use Rattle.rhai_errors.proofs.Behind.{behind_feed, behind_other, behind_counts, few_behind, few_chars, behind_all}
use Rattle.rhai_errors.proofs.places.is_in.Goals as goal

pub overflow_add-lines : goal.overflow_add-lines
overflow_add-lines c =
    let t = YieldsList-turn (YieldsList-from_chars c.args.source.now c.utf8.source cc) c.loop-c.yielded _ c.loop-c.yielded_by _ _ c.in-Some.c c.in-Some.is c.next.ensures.steps in
    let few = few_behind (chars c.args.source.now) (length c.loop-c.yielded) c.loop-c.lines c.loop-c.columns c.in-Some.c t.0 t.1 c.loop-c.invariant.behind in
    omega (arith, few_chars c.args.source.now c.utf8.source)

pub overflow_add-columns : goal.overflow_add-columns
overflow_add-columns c =
    let t = YieldsList-turn (YieldsList-from_chars c.args.source.now c.utf8.source cc) c.loop-c.yielded _ c.loop-c.yielded_by _ _ c.in-Some.c c.in-Some.is c.next.ensures.steps in
    let few = few_behind (chars c.args.source.now) (length c.loop-c.yielded) c.loop-c.lines c.loop-c.columns c.in-Some.c t.0 t.1 c.loop-c.invariant.behind in
    omega (arith, few_chars c.args.source.now c.utf8.source)

pub returns-then-is_behind : goal.returns-then-is_behind
returns-then-is_behind c =
    let told = behind_counts (chars c.args.source.now) (length c.loop-c.yielded) c.loop-c.lines c.loop-c.columns c.args.place c.loop-c.invariant.behind in
    (λ _. (length c.loop-c.yielded, told.0 (c.is_behind.ensures.0 c.if-is_behind.true)), λ _. refl)

pub loop-c-preserved-then-c-eq10 : goal.loop-c-preserved-then-c-eq10
loop-c-preserved-then-c-eq10 c =
    let t = YieldsList-turn (YieldsList-from_chars c.args.source.now c.utf8.source cc) c.loop-c.yielded _ c.loop-c.yielded_by _ _ c.in-Some.c c.in-Some.is c.next.ensures.steps in
    let told = behind_counts (chars c.args.source.now) (length c.loop-c.yielded) c.loop-c.lines c.loop-c.columns c.args.place c.loop-c.invariant.behind in
    rw (length_push c.loop-c.yielded c.in-Some.c) (record {
      behind = behind_feed (chars c.args.source.now) (length c.loop-c.yielded) c.loop-c.lines c.loop-c.columns c.in-Some.c t.0 t.1 c.loop-c.invariant.behind c.if-c-eq10.true;
      passed = below_more _ _ c.loop-c.invariant.passed (λ is. let found = c.is_behind.ensures.1 (told.1 is) in let not = c.if-is_behind.false in absurd (cc));
    })

pub loop-c-preserved : goal.loop-c-preserved
loop-c-preserved c =
    let t = YieldsList-turn (YieldsList-from_chars c.args.source.now c.utf8.source cc) c.loop-c.yielded _ c.loop-c.yielded_by _ _ c.in-Some.c c.in-Some.is c.next.ensures.steps in
    let told = behind_counts (chars c.args.source.now) (length c.loop-c.yielded) c.loop-c.lines c.loop-c.columns c.args.place c.loop-c.invariant.behind in
    rw (length_push c.loop-c.yielded c.in-Some.c) (record {
      behind = behind_other (chars c.args.source.now) (length c.loop-c.yielded) c.loop-c.lines c.loop-c.columns c.in-Some.c t.0 t.1 c.loop-c.invariant.behind c.if-c-eq10.false;
      passed = below_more _ _ c.loop-c.invariant.passed (λ is. let found = c.is_behind.ensures.1 (told.1 is) in let not = c.if-is_behind.false in absurd (cc));
    })

pub returns : goal.returns
returns c =
    let t = YieldsList-end (YieldsList-from_chars c.args.source.now c.utf8.source cc) c.loop-c.yielded _ c.loop-c.yielded_by _ _ c.in-None.is c.next.ensures.steps in
    let told = behind_counts (chars c.args.source.now) (length c.loop-c.yielded) c.loop-c.lines c.loop-c.columns c.args.place c.loop-c.invariant.behind in (
      λ is. (length c.loop-c.yielded, told.0 (c.is_behind-2.ensures.0 is)),
      λ lies. c.is_behind-2.ensures.1 (told.1 (behind_all (chars c.args.source.now) (length c.loop-c.yielded) c.args.place (omega arith) c.loop-c.invariant.passed lies.0 lies.1)),
    )
