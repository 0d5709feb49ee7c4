use Rattle.std.proofs.Common.{refl}
use Rattle.grain_file.proofs.Tiles.{tiles_push}
use Rattle.grain_file.proofs.items.PlacedMarks.mark.Goals as goal

pub returns : goal.returns
returns c =
    let from = c.requires.reached.0 in let placed = c.requires.reached.1 in
    record {
      reaches = record {
        end = refl;
        tiled = rw c.in_ok-push.ensures.items (tiles_push 0 c.args.self.now.items.items from _ placed.tiled placed.end (rw placed.end c.requires.reached.2));
      };
    }
