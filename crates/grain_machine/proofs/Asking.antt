-- What follows from what a host is asked for.
use Rattle.std.proofs.Common.{◌≡◌, ℕ, ◌+◌, ◌<◌, ◌≤◌, slice_get, Some, cond, refl, ◌∙◌, arith}
use Rattle.std.specs.List.{Contains}
use Rattle.grain_code.specs.Span.{Span}
use Rattle.grain_code.specs.declared.op.Op.TheVariants as ops
use Rattle.grain_pools.specs.Chain.{TakesOperand, assigns, consumed, roots_on_stack}
use Rattle.grain_pools.specs.declared.chain.Chain.{Chain}
use Rattle.grain_pools.specs.declared.chain.Step.{Step}
use Rattle.grain_rules.specs.Facts.{ChainFacts, chain_facts}
use Rattle.grain_rules.proofs.ChainTests.{accepted_within}
use Rattle.grain_rules.proofs.EntryFacts.{said_at}
use Rattle.grain.specs.Program.{Program, input_of}
use Rattle.grain_machine.specs.Asked.{IsAsked}
use Rattle.grain_machine.proofs.Standing.{instruction_here}

-- a chain takes at least the operands of its steps
takes_steps : (c : Chain) → c.operands ≤ consumed c
takes_steps c = let root : ℕ = cond (roots_on_stack c.root) 1 0 in let assigned : ℕ = cond (assigns c.tail) 1 0 in let e : c.operands ≤ c.operands + root + assigned = omega arith in e

-- each place at which a step of the chain takes an operand is among those that the host is given
pub asked_within : (p : Program) (chunk : Span) (at x n : ℕ) → IsAsked p chunk at (ops.Chain x) n → (c : Chain) → slice_get p.chains x ≡ Some c
    → (step : Step) → Contains c.steps.items step → (place : ℕ) → TakesOperand step place → place < n
asked_within p chunk at x n asked c found step among place taken =
    let here = instruction_here p chunk at (ops.Chain x) asked in
    let below : place < c.operands = accepted_within (input_of p) asked.accepted here.0 here.1 x here.2 p.chains refl c found step among place taken in
    let given : n ≡ consumed c = asked.operands ∙ said_at chain_facts (λ (f : ChainFacts). f.takes) p.chains x c 0 found in
    let enough : c.operands ≤ consumed c = takes_steps c in
    omega (arith, below, given, enough)
