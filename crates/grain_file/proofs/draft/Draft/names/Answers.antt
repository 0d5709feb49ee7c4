use Rattle.std.proofs.Common.{arith}
use Rattle.std.proofs.lemmas.Bool.{lt-ltb}
use Rattle.std.proofs.lemmas.Str.{is_utf8-from_IsUtf8}
use Rattle.std.specs.List.{AllByRecursion}
use Rattle.grain_format.specs.TextLaws.{TextFits}
use Rattle.grain_format.proofs.NameLists.{one_name, one_fits, all_fit, none_refused, short}
use Rattle.grain_file.proofs.draft.Draft.names.Goals as goal

pub loop-name-preserved : goal.loop-name-preserved
loop-name-preserved g c =
    let fits : TextFits c.in-Some.name.now = (rw c.as_bytes.ensures.value at c.in_ok-blob.ensures.fits, is_utf8-from_IsUtf8 _ (rw c.as_bytes.ensures.value at c.as_bytes.ensures.utf8)) in
    record {
      marked = c.in_ok-blob.ensures.marked;
      spelled = one_name _ _ _ _ _ _ c.in-Some.ensures.steps (rw c.as_bytes.ensures.value at c.in_ok-blob.ensures.spelled) c.loop-name.invariant.spelled;
      fits = one_fits _ _ _ _ c.in-Some.ensures.steps fits c.loop-name.invariant.fits;
    }

pub returns-clause-fits : goal.returns-clause-fits
returns-clause-fits g c =
    let all : AllByRecursion TextFits c.args.names.now = all_fit _ _ c.in-None.ensures.steps.0 c.loop-name.invariant.fits in
    ((omega (arith, c.len.ensures), all), lt-ltb _ _ (short _ _ c.total_len-len.ensures.value c.total_len-len.ensures.small))

pub returns-in_err-count-clause-kept : goal.returns-in_err-count-clause-kept
returns-in_err-count-clause-kept g c = none_refused c.args.names.now

pub returns-in_err-blob-clause-kept : goal.returns-in_err-blob-clause-kept
returns-in_err-blob-clause-kept g c = none_refused c.args.names.now

pub returns-clause-kept : goal.returns-clause-kept
returns-clause-kept g c = none_refused c.args.names.now
