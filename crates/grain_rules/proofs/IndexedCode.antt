-- Code whose indices are in bounds: one instruction more and its tag, and that capabilities don't matter to it.
use Rattle.std.proofs.Common.{◌≡◌, ℕ, ◌+◌, ◌≤◌, List, [], ◌∷◌, ◌++◌, length, take, get_or, refl, sym, ap, subst, inl, inr, add-one}
use Rattle.std.proofs.lemmas.List.{take_all}
use Rattle.std.proofs.lemmas.List.Elements.{All-nil, All-push, All-weaker}
use Rattle.grain_code.specs.Split.{AreInstructions, StandsAt}
use Rattle.grain_code.specs.InstructionTable.{Instr, form, width_of}
use Rattle.grain_code.specs.declared.op.Op.{Op}
use Rattle.grain_code.proofs.Splits.{one_more}
use Rattle.grain_rules.specs.Accepted.{AreIndexed}
use Rattle.grain_rules.specs.Flaw.{CodeFlaw, PassesTo, bad_index, undecodable}
use Rattle.grain_rules.specs.FirstOut.{alone}
use Rattle.grain_rules.specs.Indices.{Indexed, IsOut}
use Rattle.grain_rules.specs.Facts.{Facts}
use Rattle.grain_rules.specs.Setting.{Setting, with_caps}
use Rattle.grain_rules.specs.declared.error.VerifyError.{VerifyError}

pub indexed_none : (s : Setting) → AreIndexed s []
indexed_none s = ([], record { each = tt; whole = refl }, All-nil (Indexed s))

-- the front up to an address, and the instruction there, of which the width is known
pub indexed_more : (s : Setting) (code : List ℕ) (at width : ℕ) (op : Op) → AreIndexed s (take at code) → StandsAt code at op → Indexed s op → width ≡ width_of op → AreIndexed s (take (at + width) code)
indexed_more s code at width op front stands here is = (
  front.0 ++ op ∷ [],
  subst (λ n. AreInstructions (take (at + n) code) (front.0 ++ op ∷ [])) (sym is) (one_more code at front.0 op front.1 stands),
  All-push (Indexed s) front.0 op front.2 here,
)

indexed_any : (caps : ℕ) (facts : Facts) (op : Op) → Indexed (alone facts) op → Indexed (with_caps caps facts) op
indexed_any caps facts op h = record { tests = h.tests; cases = h.cases }

-- whatever the capabilities are
pub code_any : (caps : ℕ) (facts : Facts) (code : List ℕ) → AreIndexed (alone facts) code → AreIndexed (with_caps caps facts) code
code_any caps facts code h = (h.0, h.1, All-weaker (Indexed (alone facts)) (Indexed (with_caps caps facts)) (indexed_any caps facts) h.0 h.2)

-- up to the end
pub code_whole : (caps : ℕ) (facts : Facts) (code : List ℕ) (at : ℕ) → length code ≤ at → AreIndexed (alone facts) (take at code) → AreIndexed (with_caps caps facts) code
code_whole caps facts code at end front = code_any caps facts code (subst (λ bytes. AreIndexed (alone facts) bytes) (take_all at code end) front)

passes_any : (caps : ℕ) (facts : Facts) (code : List ℕ) (at : ℕ) → PassesTo (alone facts) code at → PassesTo (with_caps caps facts) code at
passes_any caps facts code at h = record { inside = h.inside; front = code_any caps facts (take at code) h.front }

out_any : (caps : ℕ) (facts : Facts) (op : Op) (what : List ℕ) (index : ℕ) → IsOut (alone facts) op what index → IsOut (with_caps caps facts) op what index
out_any caps facts op what index (inl h) = inl (record { earlier = h.earlier; bad = h.bad; later = h.later; order = h.order; passed = h.passed; fails = h.fails; what_is = h.what_is; index_is = h.index_is })
out_any caps facts op what index (inr h) = inr (record { passed = h.passed; case = h.case; fails = h.fails; named = h.named })

pub flaw_any : (caps : ℕ) (facts : Facts) (code : List ℕ) (e : VerifyError) → CodeFlaw (alone facts) code e → CodeFlaw (with_caps caps facts) code e
flaw_any caps facts code e (undecodable {at} p none) = undecodable (passes_any caps facts code at p) none
flaw_any caps facts code e (bad_index {at} {what} {index} op p stands out) = bad_index op (passes_any caps facts code at p) stands (out_any caps facts op what.now index out)

front_is : (x n : ℕ) (rest : List ℕ) → take (n + 1) (x ∷ rest) ≡ x ∷ take n rest
front_is x n rest = rw add-one refl

-- the first byte of an instruction is its tag
pub tag_of : (tag : ℕ) (fields : List ℕ) (op : Op) → Instr (tag ∷ fields) op → (form op).0 ≡ tag
tag_of tag fields op h = ap (λ (bs : List ℕ). get_or bs 0 0) (sym h.spelled)
