use Rattle.std.proofs.Common.{length, arith}
use Rattle.grain_bytecode.specs.ChainStream.{all_positions}
use Rattle.grain_bytecode.proofs.SlotStreams.{written_more, written_all, written_stream}
use Rattle.grain_bytecode.proofs.sites.encode.Goals as goal

pub loop-chain-preserved : goal.loop-chain-preserved
loop-chain-preserved c =
    written_more c.args.chains.now c.loop-chain.chain-index c.chain-item.result _ _ (length (all_positions c.args.chains.now)) (omega arith) c.chain-item.is c.loop-chain.invariant c.in_ok-put_slots.ensures.ok

pub returns-clause-stream : goal.returns-clause-stream
returns-clause-stream c few = written_stream _ _ few (written_all c.args.chains.now c.loop-chain.chain-index _ _ (omega arith) c.loop-chain.invariant)
