use Rattle.std.proofs.Common.{◌≡◌, suc, length, ap, arith}
use Rattle.std.proofs.lemmas.List.{length_push}
use Rattle.grain_explain.specs.declared.row.LinkedBase.{LinkedBase}
use Rattle.std.proofs.Common.{List}
use Rattle.grain_explain.proofs.SharedLists.{list_found, list_push}
use Rattle.grain_explain.proofs.stacks.Arming.with_base.Goals as goal

pub returns-in-Some-clause-bases : goal.returns-in-Some-clause-bases
returns-in-Some-clause-bases c =
    let found = c.in-Some.ensures in
    list_found c.args.self.now.bases.items c.in-Some.list c.args.base c.requires.linked found.0 found.1 found.2

pub returns-clause-bases : goal.returns-clause-bases
returns-clause-bases c =
    let old = c.args.self.now.bases.items in
    let items = c.in_ok-push.ensures.items in
    let grown = ap (λ (bs : List LinkedBase). length bs) items in
    let more = length_push old c.args.base in
    let number : c.len-list.result ≡ suc (length old) = omega (arith, c.len-list.ensures) in
    rw (items, number) (list_push old c.args.base c.requires.linked c.requires.listed)
