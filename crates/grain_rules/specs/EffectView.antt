-- What an operation does, as a value of the code has it.
use Rattle.std.specs.Prelude.{ℕ}
use Rattle.std.specs.Int.RustNames.{bit_or}
use Rattle.grain_base.specs.CapBits.{THIS}
use Rattle.grain_code.specs.declared.flow.Flow.{Flow}
use Rattle.grain_code.specs.declared.flow.Flow.TheVariants as ways
use Rattle.grain_rules.specs.Flow as flows
use Rattle.grain_rules.specs.Setting.{Setting, chain_asks, module_of}
use Rattle.grain_rules.specs.declared.asks.Asks.{Asks}
use Rattle.grain_rules.specs.declared.asks.Asks.TheVariants as asks
use Rattle.grain_rules.specs.declared.effect.Effect.{Effect}

-- how an operation is left, by its target if it has one
abbrev pub flow : Flow → ℕ → flows.Flow
flow ways.Falls target = flows.Falls
flow ways.Ends target = flows.Ends
flow ways.Jumps target = flows.Jumps target
flow ways.Branches target = flows.Branches target
flow ways.Switches target = flows.Switches target
flow ways.BeginsIterator target = flows.BeginsIterator
flow ways.AdvancesIterator target = flows.AdvancesIterator target
flow ways.EndsIterator target = flows.EndsIterator
flow ways.PushesHandler target = flows.PushesHandler target
flow ways.PopsHandler target = flows.PopsHandler

-- how an operation is left that does this
abbrev pub flow_in : Effect → flows.Flow
flow_in e = flow e.flow e.target

-- what is asked of the host if names and chains are those of the setting
abbrev pub asked_in : Setting → Asks → ℕ
asked_in s asks.Nothing = 0
asked_in s (asks.These caps) = caps.0
asked_in s (asks.Name n) = module_of s n
asked_in s (asks.NameOnThis n) = bit_or THIS (module_of s n)
asked_in s (asks.Chain h) = chain_asks s h

-- how many operands it needs, takes and gives
abbrev pub operand_numbers : Effect → ℕ × ℕ × ℕ
operand_numbers e = (e.needs, e.takes, e.gives)
