use Rattle.grain_explain.specs.Ways.{arrival_stop, of_stop}
use Rattle.grain_explain.proofs.scene.Scene.refuse.Goals as goal

pub way_to-requires-clause-last : goal.way_to-requires-clause-last
way_to-requires-clause-last g c = let (k, e) = c.requires.here in (c.requires.come k c.args.here.now e).come

pub returns : goal.returns
returns g c = record {
  shown = record {
    flaw = c.requires.flaw;
    witness = rw c.new.ensures.items (of_stop (arrival_stop c.args.visited.now.bases.now c.args.here.now) c.in_ok-way_to.ensures.way c.requires.shows);
  };
  visited = c.in_ok-way_to.ensures.visited c.requires.here;
}
