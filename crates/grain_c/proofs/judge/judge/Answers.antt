use Rattle.std.proofs.Common.{◌≡◌, ℕ, rules, subst, sym}
use Rattle.grain_flat.specs.Answers.{Accepts, Refuses, Visits, refusal_record}
use Rattle.grain_flat.specs.declared.records.CRefusal.{CRefusal}
use Rattle.grain_c.specs.Answers.{IsAnswer}
use Rattle.grain_c.specs.declared.status.TheConstants.{ACCEPTED, REFUSED}
use Rattle.grain_c.proofs.Judged.{accepted, accepted_visits, refused, refused_visits, shows}
use Rattle.grain_c.proofs.judge.judge.Goals as goal

pub returns-in-Ok-clause-answer : goal.returns-in-Ok-clause-answer
returns-in-Ok-clause-answer c =
    let limit = c.args.limit in
    let p = c.args.program.now in
    let room = c.args.room in
    let old = c.args.report.now in
    let found = c.in-Ok.found.items in
    let clear = c.in_default.ensures.clear in
    let same = c.from_bits_retain-caps.ensures tt in
    let counted = c.in-Ok.ensures.metered.accepted in
    let accepts = subst (λ (caps : ℕ). Accepts caps p.code.now p.chunks.now p.pools found) same c.in-Ok.ensures.verdict.accepted in
    let visits = subst (λ (caps : ℕ). Visits caps p.code.now p.chunks.now p.pools counted.0) same counted.1 in
    let within = accepted_visits c.args.caps limit p room old clear found counted.0 accepts visits in
    let shown : c.shown-report.result ≡ counted.0 =
    shows c.new-meter.result c.verdict-judged.new.meter counted.0 limit c.shown-report.result c.new-meter.ensures counted.2 c.shown-report.ensures within c.ranges.limit.fits in
    subst (λ (n : ℕ). IsAnswer c.args.caps limit p room old (record old { visited = n }) ACCEPTED) (sym shown) (accepted c.args.caps limit p room old clear found counted.0 accepts visits)

pub returns-in-Err-Refused-clause-answer : goal.returns-in-Err-Refused-clause-answer
returns-in-Err-Refused-clause-answer c =
    let limit = c.args.limit in
    let p = c.args.program.now in
    let room = c.args.room in
    let old = c.args.report.now in
    let chunk = c.in-Err-Refused.refusal.chunk in
    let error = c.in-Err-Refused.refusal.error in
    let clear = c.in_default.ensures.clear in
    let same = c.from_bits_retain-caps.ensures tt in
    let counted = c.in-Err-Refused.ensures.metered.refused in
    let stopped : Refuses c.from_bits_retain-caps.result.0 p.code.now p.chunks.now p.pools chunk error = search rules in
    let refuses = subst (λ (caps : ℕ). Refuses caps p.code.now p.chunks.now p.pools chunk error) same stopped in
    let within = refused_visits c.args.caps limit p room old clear counted.0 counted.1 in
    let shown : c.shown.result ≡ counted.0 =
    shows c.new-meter.result c.verdict-judged.new.meter counted.0 limit c.shown.result c.new-meter.ensures counted.2 c.shown.ensures within c.ranges.limit.fits in
    subst (λ (r : CRefusal). IsAnswer c.args.caps limit p room old (record { refusal = r; visited = c.shown.result }) REFUSED) (sym c.refusal_record.ensures)
    (subst (λ (n : ℕ). IsAnswer c.args.caps limit p room old (record { refusal = refusal_record chunk error; visited = n }) REFUSED) (sym shown)
    (refused c.args.caps limit p room old clear chunk error counted.0 refuses counted.1))
