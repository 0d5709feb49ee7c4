-- What is sent is a piece of one token.
use Rattle.std.proofs.Common.{ap}
use Rattle.json.specs.Token.{key}
use Rattle.grain_stream.proofs.Pieces.{and-true, adds_token}
use Rattle.grain_stream.proofs.json_stream.JsonStream.key.Goals as goal

pub returns : goal.returns
returns c c' =
    adds_token c'.send.result _ _ _ _ (key c'.args.name.now) c'.in_ok-key.ensures c'.in_ok-json.ensures.before c'.in_ok-json.ensures.tokens (and-true _)
    (ap c.W.Write.contents c'.start.ensures.output) c'.send.ensures.text c'.send.ensures.place
