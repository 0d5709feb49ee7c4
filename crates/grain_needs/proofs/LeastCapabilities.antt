-- What is accepted under some capabilities is accepted under those that suffice.
use Rattle.std.proofs.Common.{◌≡◌, ◌≢◌, ℕ, List, [], subst, sym}
use Rattle.std.specs.List.{All}
use Rattle.std.proofs.lemmas.List.Elements.{All-contains, All-weaker}
use Rattle.grain_code.specs.Disassembly.{IsDisassembly, placed_from}
use Rattle.grain_code.specs.Span.{Span}
use Rattle.grain_code.specs.declared.op.Op.{Op}
use Rattle.grain_base.specs.declared.value.Dynamic.{Dynamic}
use Rattle.grain_rules.specs.Accepted.{AreIndexed, ChunkPasses, ConstantPasses, Input, IsAccepted}
use Rattle.grain_rules.specs.Capabilities.{Allows}
use Rattle.grain_rules.specs.Code.{Bytecode, coded}
use Rattle.grain_rules.specs.Counts.{Counts}
use Rattle.grain_rules.specs.Facts.{Facts}
use Rattle.grain_rules.specs.Indices.{Indexed}
use Rattle.grain_rules.specs.Rows.{caps_of}
use Rattle.grain_rules.specs.Setting.{with_caps}
use Rattle.grain_rules.specs.Typing.{HasTyping, Passes}
use Rattle.grain_needs.specs.Capabilities.{AreLeast, Suffice, code_under, input_under}
use Rattle.grain_needs.proofs.Disassemblies.{code_has, whole_disassembly}

-- each instruction of the code is allowed
abbrev AllowsEach : Bytecode → ℕ → Type 0
AllowsEach code caps = (items : List (ℕ × Op)) → IsDisassembly 0 code.bytes items → All (λ (item : ℕ × Op). Allows caps (caps_of code.setting item.1)) items

passes_under : (code : Bytecode) (caps : ℕ) (items : List (ℕ × Op)) → IsDisassembly 0 code.bytes items → AllowsEach code caps
    → (chunk : Span) (at : ℕ) (c : Counts) (op : Op) → Passes (coded code) chunk at c op → Passes (coded (code_under caps code)) chunk at c op
passes_under code caps items are each chunk at c op p = record {
  stands = record { within = record { entry = p.stands.within.entry; end = p.stands.within.end; place = p.stands.within.place }; is = p.stands.is };
  meets = record { operands = p.meets.operands; iterators = p.meets.iterators; handlers = p.meets.handlers };
  allowed = All-contains (λ (item : ℕ × Op). Allows caps (caps_of code.setting item.1)) items (at, op) (each items are) (code_has code.bytes items are at op p.stands.within.place p.stands.is);
  stays = p.stays;
}

typed_under : (code : Bytecode) (caps : ℕ) (items : List (ℕ × Op)) → IsDisassembly 0 code.bytes items → AllowsEach code caps
    → (chunk : Span) (m : ℕ) → HasTyping (coded code) chunk m → HasTyping (coded (code_under caps code)) chunk m
typed_under code caps items are each chunk m (typing, h) = (
  typing,
  record {
    entry = h.entry;
    shallow = h.shallow;
    met = λ at c e. let p = h.met at c e in (p.0, passes_under code caps items are each chunk at c p.0 p.1);
    closed = h.closed;
  },
)

indexed_under : (code : Bytecode) (caps : ℕ) (op : Op) → Indexed code.setting op → Indexed (code_under caps code).setting op
indexed_under code caps op h = record { tests = h.tests; cases = h.cases }

code_indexed_under : (code : Bytecode) (caps : ℕ) → AreIndexed code.setting code.bytes → AreIndexed (code_under caps code).setting code.bytes
code_indexed_under code caps h = (h.0, h.1, All-weaker (Indexed code.setting) (Indexed (code_under caps code).setting) (indexed_under code caps) h.0 h.2)

pub accepted_under : (i : Input) (caps : ℕ) → IsAccepted i → Suffice i caps → IsAccepted (input_under caps i)
accepted_under i caps h enough =
    let items = placed_from 0 h.code.0 in
    let are : IsDisassembly 0 i.code.bytes items = whole_disassembly i.code.bytes h.code.0 h.code.1 in
    record {
      constants = enough.constants;
      code = code_indexed_under i.code caps h.code;
      functions = enough.functions;
      chunks = All-weaker (ChunkPasses i.code) (ChunkPasses (code_under caps i.code)) (λ chunk p. record {
        framed = record { ordered = p.framed.ordered; inside = p.framed.inside; entry = p.framed.entry; end = p.framed.end };
        typed = typed_under i.code caps items are enough.instructions chunk chunk.max_stack p.typed;
      }) i.chunks h.chunks;
    }

-- what suffices depends on the code, the facts, the constants and whether there are functions
suffice_alike : (i j : Input) (caps : ℕ) → i.code.bytes ≡ j.code.bytes → i.code.setting.facts ≡ j.code.setting.facts → i.consts ≡ j.consts → (j.functions ≢ [] → i.functions ≢ [])
    → Suffice i caps → Suffice j caps
suffice_alike i j caps bytes facts consts some h = record {
  constants = subst (λ (cs : List Dynamic). All (ConstantPasses caps) cs) consts h.constants;
  functions = λ has. h.functions (some has);
  instructions = λ items are.
      All-weaker (λ (item : ℕ × Op). Allows caps (caps_of i.code.setting item.1)) (λ (item : ℕ × Op). Allows caps (caps_of j.code.setting item.1))
      (λ item allowed. subst (λ (f : Facts). Allows caps (caps_of (with_caps 0 f) item.1)) facts allowed) items
      (h.instructions items (subst (λ (b : List ℕ). IsDisassembly 0 b items) (sym bytes) are));
}

pub least_alike : (i j : Input) (caps : ℕ) → i.code.bytes ≡ j.code.bytes → i.code.setting.facts ≡ j.code.setting.facts → i.consts ≡ j.consts → (j.functions ≢ [] → i.functions ≢ []) → (i.functions ≢ [] → j.functions ≢ [])
    → AreLeast i caps → AreLeast j caps
least_alike i j caps bytes facts consts some back h = record {
  suffice = suffice_alike i j caps bytes facts consts some h.suffice;
  least = λ others enough. h.least others (suffice_alike j i others (sym bytes) (sym facts) (sym consts) back enough);
}
