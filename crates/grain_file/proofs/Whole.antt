-- All of the bytes are a file exactly where they are read.
use Rattle.std.proofs.Common.{◌≡◌, ℕ, ◌≤◌, max, eqb, List, [], ◌∷◌, length, Result, Ok, Err, None, refl, sym, ap, ◌∙◌, arith, inl, inr}
use Rattle.std.specs.Prelude.{MatchResult, IfOk, IfErr}
use Rattle.grain.specs.Program.{Program}
use Rattle.grain_format.specs.declared.error.FieldFault.{FieldFault}
use Rattle.grain_format.specs.declared.error.FieldFault.TheVariants.{Magic}
use Rattle.grain_format.specs.declared.error.WriteError.TheVariants as write_error
use Rattle.grain_format.specs.declared.error.WriteError.{WriteError}
use Rattle.grain_file.specs.declared.file.Limits.{Limits}
use Rattle.grain_file.specs.declared.file.ReadError.{ReadError}
use Rattle.grain_file.specs.declared.file.TheConstants.{MAX_DEPTH}
use Rattle.grain_file.specs.declared.file.ReadError.TheVariants as errors
use Rattle.grain_format.specs.Reading.{LocatedFault, AreBytes, Decides}
use Rattle.grain_format.specs.Laws.{chosen, ok_is}
use Rattle.grain_file.specs.ProgramFile.{Bounds, bounds_of, no_bounds, Kept, kept, pools_format, file_format, versioned_format, body_format, IsFile, IsFileWithin, refusal_of, whole_at}
use Rattle.grain_format.specs.Texts.{expected_at}
use Rattle.grain_format.specs.Lists.{CountedFit, headed_at}
use Rattle.grain_format.specs.Names.{names_format}
use Rattle.grain_base.specs.Tokens.{TokenParts}
use Rattle.grain_format.specs.Tokens.{AssignOpParts, token_format, assign_op_format}
use Rattle.grain_format.specs.Chains.{ChainParts, chain_format}
use Rattle.grain_format.specs.Switches.{FitsAlone, SwitchParts, each_more, each_switch, most_cases}
use Rattle.grain_format.specs.Form.{Form, IsSound}
use Rattle.grain_format.specs.FormSound.{deepest, each_within, each_deeper}
use Rattle.grain_file.specs.Causes.{IsReadCause, IsReadFault}
use Rattle.grain_file.proofs.AllBytes.{all_again, all_found, result_exact, result_only}

pub whole_found : (bounds : Bounds) (bytes : List ℕ) (k : Kept) (rest : List ℕ) → AreBytes bytes → whole_at bounds bytes ≡ Ok (k, rest) → IsFile bounds bytes k
unfolding whole_at
whole_found bounds bytes k rest are e = let p = all_found (file_format bounds) bytes k rest are e in record { spelled = p.0; fits = p.1 }

pub whole_again : (bounds : Bounds) (bytes : List ℕ) (k : Kept) → IsFile bounds bytes k → whole_at bounds bytes ≡ Ok (k, [])
unfolding whole_at
whole_again bounds bytes k file = all_again (file_format bounds) bytes k (file.spelled, file.fits)

abbrev Given : Bounds → List ℕ → Result Program ReadError → Type 0
Given bounds bytes r = MatchResult r (λ p. whole_at bounds bytes ≡ Ok (kept p, [])) (IsReadFault bounds bytes)

module _ (limits : Limits) (bytes : List ℕ) where
  pub found : (r : Result Program ReadError) → limits.depth ≤ MAX_DEPTH → length bytes ≤ limits.size → AreBytes bytes → Given (bounds_of limits) bytes r → IfOk r (λ p. IsFileWithin limits bytes (kept p))
  found (Ok p) shallow short are given = record { shallow = shallow; short = short; file = whole_found (bounds_of limits) bytes (kept p) [] are given }
  found (Err e) shallow short are given = tt

  pub only : (r : Result Program ReadError) → Given (bounds_of limits) bytes r → (k : Kept) → IsFileWithin limits bytes k
      → MatchResult r (λ p. kept p ≡ k) (λ e. e ≡ errors.OutOfMemory)
  unfolding whole_at
  only r given k within = result_only (file_format (bounds_of limits)) kept limits bytes r given k (within.file.spelled, within.file.fits)

  pub exact : (r : Result Program ReadError) → AreBytes bytes → Given (bounds_of limits) bytes r → IfErr r (IsReadCause limits bytes)
  unfolding whole_at
  exact r are given = result_exact (file_format (bounds_of limits)) kept limits bytes r are given

-- ---- one file for one program, and one program for one file

same_spelling : (bounds other : Bounds) (k : Kept) → (file_format bounds).spelling k ≡ (file_format other).spelling k
unfolding file_format versioned_format body_format pools_format
same_spelling bounds other k = refl

same_refusal : (bounds other : Bounds) (k : Kept) → (file_format bounds).refusal k ≡ (file_format other).refusal k
unfolding file_format versioned_format body_format pools_format
same_refusal bounds other k = refl

pub one_file : (bounds other : Bounds) (a b : List ℕ) (k : Kept) → IsFile bounds a k → IsFile other b k → a ≡ b
one_file bounds other a b k p q = p.spelled ∙ same_spelling bounds other k ∙ sym q.spelled

pub wider : (bounds more : Bounds) (a : List ℕ) (k : Kept) → bounds.depth ≤ more.depth → bounds.cases ≤ more.cases → IsFile bounds a k → IsFile more a k
unfolding file_format versioned_format body_format pools_format
wider bounds more a k deep many file =
    let pools = file.fits.1.0 in
    let values = pools.1.0 in
    let rest = pools.1.1 in
    record {
      spelled = file.spelled ∙ same_spelling bounds more k;
      fits = (file.fits.0, ((pools.0, ((values.0, each_deeper bounds.depth more.depth deep k.1.0.1.0 values.1), (rest.0, (rest.1.0, (rest.1.1.0, (rest.1.1.1.0, each_more k.1.0.1.0 bounds.cases more.cases k.1.0.1.1.1.1.1 many rest.1.1.1.1)))))), file.fits.1.1));
    }

one_at : (bounds : Bounds) (a : List ℕ) (k l : Kept) → IsFile bounds a k → IsFile bounds a l → k ≡ l
one_at bounds a k l p q =
    ap (λ (y : Kept × List ℕ). y.0) (ok_is {E = LocatedFault} (k, []) (l, []) (sym (whole_again bounds a k p) ∙ whole_again bounds a l q))

abbrev both_bounds : Bounds → Bounds → Bounds
both_bounds a b = record { depth = max a.depth b.depth; cases = max a.cases b.cases }

pub one_program : (bounds other : Bounds) (a : List ℕ) (k l : Kept) → IsFile bounds a k → IsFile other a l → k ≡ l
one_program bounds other a k l p q =
    one_at (both_bounds bounds other) a k l (wider bounds (both_bounds bounds other) a k (omega arith) (omega arith) p) (wider other (both_bounds bounds other) a l (omega arith) (omega arith) q)

-- ---- what is written

pub has_none : (bounds : Bounds) (bytes : List ℕ) (k : Kept) → IsFile bounds bytes k → refusal_of k ≡ None
has_none bounds bytes k file = same_refusal no_bounds bounds k ∙ (file_format bounds).keeps k file.fits

pub accepts : {X : Type 0} (r : Result X WriteError) (k : Kept) (bounds : Bounds) (bytes : List ℕ) → Decides r (refusal_of k) → IsFile bounds bytes k → IfErr r (λ e. e ≡ write_error.OutOfMemory)
accepts (Ok x) k bounds bytes decides file = tt
accepts (Err write_error.OutOfMemory) k bounds bytes decides file = refl
accepts (Err (write_error.Unkept unkept)) k bounds bytes decides file = absurd (let e = sym (has_none bounds bytes k file) ∙ decides in cc)

pub pools_fit : (names : List (List ℕ)) (xs : List Form) (tokens : List TokenParts) (ops : List AssignOpParts) (chains : List ChainParts) (switches : List SwitchParts)
    → names_format.Fits names → CountedFit IsSound xs → CountedFit token_format.Fits tokens → CountedFit assign_op_format.Fits ops → CountedFit chain_format.Fits chains → CountedFit (FitsAlone xs) switches
    → (bounds : Bounds) → deepest xs ≤ bounds.depth → most_cases switches ≤ bounds.cases → (pools_format bounds).Fits (names, (xs, (tokens, (ops, (chains, switches)))))
unfolding pools_format
pools_fit names xs tokens ops chains switches n v t o c s bounds deep many = (n, ((v.0, each_within bounds.depth xs v.1 deep), (t, (o, (c, (s.0, each_switch xs bounds.cases switches s.1 many))))))

-- ---- the bytes that a file begins with

headed_reads : {A : Type 0} (tag : ℕ) (fault : FieldFault) (reading : List ℕ → Result (A × List ℕ) LocatedFault) (bytes rest : List ℕ) (u : Unit {0}) → expected_at tag fault bytes ≡ Ok (u, rest) → headed_at tag fault reading bytes ≡ reading rest
unfolding expected_at
headed_reads tag fault reading [] rest u e = absurd cc
headed_reads tag fault reading (b ∷ bytes) rest u e =
    elim (chosen (eqb b tag) (Ok (tt, bytes)) (Err (fault, b ∷ bytes)) (Ok (u, rest)) e) [
      | inl p ↦ rw p.0 (ap (λ (y : Unit {0} × List ℕ). reading y.1) (ok_is {E = LocatedFault} (tt, bytes) (u, rest) p.1))
      | inr p ↦ absurd (let q = p.1 in cc)
    ]

pub magic_reads : {A : Type 0} (f : List ℕ → Result (A × List ℕ) LocatedFault) (a b c d e : List ℕ) (u v w x : Unit {0}) (y : Result (A × List ℕ) LocatedFault)
    → expected_at 0x00 Magic a ≡ Ok (u, b) → expected_at 0x67 Magic b ≡ Ok (v, c) → expected_at 0x72 Magic c ≡ Ok (w, d) → expected_at 0x6e Magic d ≡ Ok (x, e)
    → f e ≡ y → headed_at 0x00 Magic (headed_at 0x67 Magic (headed_at 0x72 Magic (headed_at 0x6e Magic f))) a ≡ y
magic_reads f a b c d e u v w x y first second third fourth more =
    headed_reads 0x00 Magic (headed_at 0x67 Magic (headed_at 0x72 Magic (headed_at 0x6e Magic f))) a b u first ∙ headed_reads 0x67 Magic (headed_at 0x72 Magic (headed_at 0x6e Magic f)) b c v second
    ∙ headed_reads 0x72 Magic (headed_at 0x6e Magic f) c d w third ∙ headed_reads 0x6e Magic f d e x fourth ∙ more
