use Rattle.grain_parse.proofs.Appended.{appends_more, one_more}
use Rattle.grain_parse.proofs.code.read_instruction.Goals as goal

pub returns-then-eq : goal.returns-then-eq
returns-then-eq c = one_more c.args.code.now.items c.push.new.self.items _ c.in_ok-push.ensures.items

pub returns : goal.returns
returns c = appends_more _ c.args.code.now.items _ _ _ c.read_operands.result c.in_ok-push-2.ensures.items c.read_operands.ensures
