use Rattle.std.proofs.Common.{◌∙◌, ℕ, List, length, ap}
use Rattle.std.proofs.lemmas.Slice.Zip.{AllZip-long}
use Rattle.grain_rules.specs.Code.{coded}
use Rattle.grain.specs.Program.{chunks_of, input_of}
use Rattle.grain_rules.specs.Typing.{IsDeepest}
use Rattle.grain.proofs.RedeclaredPrograms.{tightened}
use Rattle.grain.proofs.program.Program.tighten_located.Goals as goal

pub declare-requires : goal.declare-requires
declare-requires c =
    ap (λ (numbers : List ℕ). length numbers) c.deref.ensures.value
    ∙ AllZip-long (IsDeepest (coded (input_of c.args.self.now).code)) (chunks_of c.args.self.now) c.in_ok-numbers.numbers.items c.in_ok-numbers.ensures.verdict.deepest

pub returns-clause-ok : goal.returns-clause-ok
returns-clause-ok c =
    let v = c.in_ok-numbers.ensures.verdict in
    tightened c.args.self.now c.declare.new.self c.in_ok-numbers.numbers.items v.accepted v.deepest v.typed (c.declare.ensures.declared ∙ c.deref.ensures.value) c.declare.ensures.rest
