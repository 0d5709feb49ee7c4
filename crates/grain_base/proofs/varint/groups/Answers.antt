use Rattle.std.proofs.Common.{◌≡◌, arith}
use Rattle.grain_base.proofs.GroupReads.{passes_none, passes_more, value_more, value_last, stands, cut_short, too_wide}
use Rattle.grain_base.proofs.varint.groups.Goals as goal

pub loop-group-init : goal.loop-group-init
loop-group-init c = passes_none c.args.bytes.now c.args.at.now

pub returns-in_default : goal.returns-in_default
returns-in_default c = cut_short _ _ _ _ _ c.loop-group.invariant c.in_default.ensures.lookup.3 (omega arith)

pub returns-then-byte-lt128 : goal.returns-then-byte-lt128
returns-then-byte-lt128 c =
    let read = c.in-Some.ensures.lookup.3 in
    let value = value_more _ _ _ _ _ c.in-Some.byte.now _ c.loop-group.invariant c.from.ensures (omega arith) in
    rw value (stands _ _ _ _ _ _ c.loop-group.invariant read.0 (read.1 0) (omega arith) (omega arith) (λ nine. absurd (omega arith)))

pub loop-group-preserved : goal.loop-group-preserved
loop-group-preserved c =
    let read = c.in-Some.ensures.lookup.3 in
    let value = value_more _ _ _ _ _ c.in-Some.byte.now _ c.loop-group.invariant c.from.ensures (omega arith) in
    rw value (passes_more _ _ _ _ _ _ c.loop-group.invariant read.0 (read.1 0) (omega arith))

pub returns-in_default-get : goal.returns-in_default-get
returns-in_default-get c = cut_short _ _ _ _ _ c.loop-group.invariant c.in_default-get.ensures.lookup.3 (omega arith)

pub returns-then-byte-gt-TENTH_MAX : goal.returns-then-byte-gt-TENTH_MAX
returns-then-byte-gt-TENTH_MAX c =
    let read = c.in-Some-get.ensures.lookup.3 in
    let nine : c.loop-group.group ≡ 9 = omega arith in
    too_wide _ _ _ _ _ (rw nine at c.loop-group.invariant) read.0 (read.1 0) (omega arith)

pub returns : goal.returns
returns c =
    let read = c.in-Some-get.ensures.lookup.3 in
    let nine : c.loop-group.group ≡ 9 = omega arith in
    let passed = rw nine at c.loop-group.invariant in
    rw (value_last _ _ _ _ c.in-Some-get.byte.now _ passed c.from-2.ensures (omega arith)) (stands _ _ _ _ _ _ passed read.0 (read.1 0) (omega arith) (omega arith) (λ same. omega arith))
