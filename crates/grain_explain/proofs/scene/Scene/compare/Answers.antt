use Rattle.std.proofs.Common.{◌≡◌, ℕ, true, ap, refl, sym, subst, ◌∙◌}
use Rattle.grain_rules.specs.Code.{coded}
use Rattle.grain_rules.specs.Counts.{Counts}
use Rattle.grain_rules.specs.Typing.{Reached}
use Rattle.grain_explain.specs.OnEdges.{counts_on}
use Rattle.grain_explain.specs.RowView.{counts_of}
use Rattle.grain_explain.specs.Scenes.{seen}
use Rattle.grain_explain.specs.Ways.{Stop, arrival_stop, of_conflict}
use Rattle.grain_explain.proofs.scene.Scene.compare.Goals as goal

pub returns-then-is_at-clause-same : goal.returns-then-is_at-clause-same
returns-then-is_at-clause-same g c =
    let bases = c.args.visited.now.bases.now in
    let before = c.args.before.now in
    let arrival = c.args.arrival.now in
    let counts : counts_of bases arrival.row ≡ counts_of bases before.row = c.is_at.ensures.0 c.if-is_at.true ∙ ap (counts_on bases) c.at.ensures in
    let P : Counts → Stop = λ x. (arrival.row.at, x) in
    let Q : ℕ → Stop = λ n. (n, counts_of bases before.row) in
    ap Q c.requires.there ∙ ap P (sym counts)

pub returns-clause-refusal : goal.returns-clause-refusal
returns-clause-refusal g c =
    let bases = c.args.visited.now.bases.now in
    let before = c.args.before.now in
    let arrival = c.args.arrival.now in
    let there = c.requires.there in
    let (k, e) = c.requires.before in
    let come = (c.requires.come k before e).come in
    let unlike : counts_of bases before.row ≡ counts_of bases arrival.row → ⊥ = λ e. (let t : c.is_at.result ≡ true = c.is_at.ensures.1 (sym e ∙ sym (ap (counts_on bases) c.at.ensures)) in let f = c.if-is_at.false in cc) in
    record {
      shown = record {
        flaw = (
          c.requires.ready.framed,
          come.inside,
          record {
            one = counts_of bases before.row;
            other = counts_of bases arrival.row;
            one_reached = come.reached;
            other_reached = subst (λ (n : ℕ). Reached (coded (seen g.P.Read.facts g.P.Read.leads c.args.self.now).code) c.args.self.now.chunk.now n (counts_of bases arrival.row)) (sym there) c.requires.arrival.reached;
            unlike = unlike;
            expected_is = refl;
            found_is = refl;
          },
        );
        witness = of_conflict (arrival_stop bases before) (arrival_stop bases arrival) c.in_ok-way_to.ensures.way c.in_ok-way_to-2.ensures.way refl (sym there) unlike refl refl;
      };
      visited = c.in_ok-way_to.ensures.visited c.requires.before;
    }

pub way_to-requires-clause-last : goal.way_to-requires-clause-last
way_to-requires-clause-last g c = let (k, e) = c.requires.before in (c.requires.come k c.args.before.now e).come

pub is_at-requires-clause-listed : goal.is_at-requires-clause-listed
is_at-requires-clause-listed g c = let (k, e) = c.requires.before in rw c.at.ensures (c.requires.come k c.args.before.now e).come.listed
