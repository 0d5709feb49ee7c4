use Rattle.std.proofs.lemmas.Result.{err_from_is_err_and}
use Rattle.grain_rules.specs.Accepted.{input_beside}
use Rattle.grain.proofs.RefusalCauses.{accepted_reaches, none_explained, only_memory, located_explained, located_reaches}
use Rattle.grain.proofs.explanation.explain.Goals as goal

pub returns-in_default : goal.returns-in_default
returns-in_default g c =
    let i = input_beside c.args.caps.0 c.args.consts.now c.args.code.now c.args.functions.now c.args.chunks.now (g.P.Read.facts c.args.pools.now) (g.P.Read.leads c.args.pools.now) in
    let verdict = rw c.new-candidate.ensures at c.in-Err.ensures.verdict in
    let located = rw c.new-candidate.ensures at c.in-Err.ensures.located in
    record { memory = tt; explained = none_explained i c.in-Err.refusal c.new.result c.in-None.is c.in_default.not-OutOfMemory verdict located c.new.ensures.items }

pub returns-in_ok-chunks-in-Some : goal.returns-in_ok-chunks-in-Some
returns-in_ok-chunks-in-Some g c =
    let i = input_beside c.args.caps.0 c.args.consts.now c.args.code.now c.args.functions.now c.args.chunks.now (g.P.Read.facts c.args.pools.now) (g.P.Read.leads c.args.pools.now) in
    let verdict = rw c.new-candidate.ensures at c.in-Err.ensures.verdict in
    let located = rw c.new-candidate.ensures at c.in-Err.ensures.located in
    let found = c.in_ok-chunks-in-Some.ensures in
    record { memory = tt; explained = located_explained i c.in-Err.refusal c.in-Some.field-0 c.in_ok-chunks-in-Some.chunks c.in-Some.is verdict located found.explained found.exact }

pub returns-in_err-chunks-in-Some-clause-memory : goal.returns-in_err-chunks-in-Some-clause-memory
returns-in_err-chunks-in-Some-clause-memory g c =
    let i = input_beside c.args.caps.0 c.args.consts.now c.args.code.now c.args.functions.now c.args.chunks.now (g.P.Read.facts c.args.pools.now) (g.P.Read.leads c.args.pools.now) in
    let reaches = located_reaches i c.in-Err.refusal c.in-Some.field-0 c.in-Some.is (rw c.new-candidate.ensures at c.in-Err.ensures.located) in
    let p = err_from_is_err_and c.from_residual-in_err-chunks-in-Some.result c.from_residual-in_err-chunks-in-Some.ensures.1 in
    rw (p.1, p.2) (only_memory c.in_err-chunks-in-Some.field-0.0 (λ bad. c.in_err-chunks-in-Some.ensures.cause.bad bad reaches.code), reaches)

pub returns-in_err-chunks-in-Ok-clause-memory : goal.returns-in_err-chunks-in-Ok-clause-memory
returns-in_err-chunks-in-Ok-clause-memory g c =
    let i = input_beside c.args.caps.0 c.args.consts.now c.args.code.now c.args.functions.now c.args.chunks.now (g.P.Read.facts c.args.pools.now) (g.P.Read.leads c.args.pools.now) in
    let verdict = rw c.new-candidate.ensures at c.in-Ok.ensures.verdict in
    let reaches = accepted_reaches i verdict.accepted in
    let p = err_from_is_err_and c.from_residual.result c.from_residual.ensures.1 in
    rw (p.1, p.2) (only_memory c.in_err-chunks-in-Ok.field-0.0 (λ bad. c.in_err-chunks-in-Ok.ensures.cause.bad bad reaches.code), reaches)
