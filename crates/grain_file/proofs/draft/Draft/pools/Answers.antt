use Rattle.std.proofs.Common.{map}
use Rattle.grain_format.specs.Form.{forms}
use Rattle.grain_base.specs.Tokens.{token_parts}
use Rattle.grain_format.specs.Tokens.{assign_op_parts}
use Rattle.grain_format.specs.Chains.{chain_parts}
use Rattle.grain_format.specs.Switches.{switch_parts}
use Rattle.grain_file.proofs.Whole.{pools_fit}
use Rattle.grain_file.proofs.draft.Draft.pools.Goals as goal

pub returns-clause-fits : goal.returns-clause-fits
returns-clause-fits g c bounds within =
    let p = c.args.program.now in
    pools_fit p.names (forms p.consts) (map token_parts p.tokens) (map assign_op_parts p.assign_ops) (map chain_parts p.chains) (map (switch_parts p.consts) p.switches)
    (rw c.names.ensures at c.in_ok-names.ensures.fits) (rw c.consts.ensures at c.in_ok-constants.ensures.sound) (rw c.tokens.ensures at c.in_ok-list.ensures.fits)
    (rw c.assign_ops.ensures at c.in_ok-list-2.ensures.fits) (rw c.chains.ensures at c.in_ok-list-3.ensures.fits) (rw (c.switches.ensures, c.consts-2.ensures) at c.in_ok-switches.ensures.fits) bounds within.nesting within.cases
