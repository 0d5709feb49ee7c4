use Rattle.std.proofs.Common.{[]}
use Rattle.std.proofs.lemmas.List.Elements.{All-nil}
use Rattle.std.proofs.lemmas.Option.{none-some}
use Rattle.grain_explain.specs.Explaining.{IsReachedRow}
use Rattle.grain_explain.specs.Scenes.{seen}
use Rattle.grain_explain.specs.Ways.{of_frame}
use Rattle.grain_explain.proofs.scene.Scene.frame_refused.Goals as goal

pub returns : goal.returns
returns g c =
    let P = IsReachedRow (seen g.P.Read.facts g.P.Read.leads c.args.self.now).code c.args.self.now.chunk.now [] in
    record {
      ascending = rw c.new.ensures.items (λ i j a b l e f. absurd (none-some a e));
      reached = rw (c.new.ensures.items, c.new-3.ensures.items) (All-nil P);
      origins = rw (c.new.ensures.items, c.new-2.ensures.items) tt;
      path = rw c.new-4.ensures.items (All-nil _);
      explains = record { flaw = c.requires.flaw; witness = rw (c.new-4.ensures.items, c.new-5.ensures.items) (of_frame c.requires.frame) };
    }
