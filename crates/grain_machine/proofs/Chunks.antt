-- The chunks of an accepted program.
use Rattle.std.proofs.Common.{◌≡◌, ℕ, ◌+◌, ◌<◌, List, length, slice_get, Some, option_map, sym, ap, ◌∙◌, subst, add-one, arith}
use Rattle.std.specs.Prelude.{get_or}
use Rattle.std.specs.List.{AllZip, Contains}
use Rattle.std.proofs.lemmas.List.{length-map}
use Rattle.std.proofs.lemmas.Option.{get_or_from_slice_get, slice_get-map, slice_get-get_or, slice_get_within}
use Rattle.std.proofs.lemmas.Slice.Zip.{AllZip-left, AllZip-long}
use Rattle.grain_code.specs.Span.{Span}
use Rattle.grain_code.specs.declared.function.Function.{Function}
use Rattle.grain.specs.Program.{Program, chunks_of, input_of}
use Rattle.grain_rules.specs.Accepted.{IsSafe}
use Rattle.grain_rules.specs.Typing.{HasTyping}
use Rattle.grain_machine.specs.Asked.{program_code}
use Rattle.grain.specs.Verified.{IsVerified, Verified}
use Rattle.grain_machine.specs.State.{IsRunnable}

-- each chunk has a depth
pub depths_long : (a : Verified) → IsVerified a → length a.depths ≡ length a.program.functions + 1
depths_long a h = let e = AllZip-long (HasTyping (program_code a.program)) (chunks_of a.program) a.depths h.typed in let m = length-map a.program.functions (λ (f : Function). f.chunk) in omega arith

-- a verified program, of which the parts were taken
pub parts_verified : (a : Verified) (program : Program) (depths : List ℕ) → IsVerified a → program ≡ a.program → depths ≡ a.depths
    → IsVerified (record { program = program; depths = depths })
parts_verified a program depths h ep ed = subst IsVerified (λ i. record { program = sym ep i; depths = sym ed i }) h

-- what relates two lists relates what stands at one place
related : {A B : Type 0} (R : A → B → Type 0) (xs : List A) (ys : List B) (k : ℕ) (x : A) (y : B) → AllZip R xs ys → slice_get xs k ≡ Some x → slice_get ys k ≡ Some y → R x y
related R xs ys k x y h ex ey = rw (ex, ey) at (AllZip-left R xs ys h k)

-- what is found at a place is among the list
pub placed : {X : Type 0} (xs : List X) (k : ℕ) (x : X) → slice_get xs k ≡ Some x → Contains xs x
placed xs k x e = (k, slice_get_within xs k x e, get_or_from_slice_get xs k x x e)

-- a chunk with its depth is runnable
pub runnable : (a : Verified) (k : ℕ) (chunk : Span) (room : ℕ) → IsVerified a → slice_get (chunks_of a.program) k ≡ Some chunk
    → slice_get a.depths k ≡ Some room → IsRunnable (record { program = a.program; chunk = chunk; room = room })
runnable a k chunk room h ec er = record {
  accepted = h.accepted;
  place = k;
  there = ec;
  safe = related (IsSafe (input_of a.program).code) (chunks_of a.program) a.depths k chunk room h.safe ec er;
  typed = related (HasTyping (program_code a.program)) (chunks_of a.program) a.depths k chunk room h.typed ec er;
  finds = h.found;
}

-- the chunk of a function stands behind the main chunk
pub function_chunk : (p : Program) (functions : List Function) (index : ℕ) (d : Function) → functions ≡ p.functions → index < length p.functions
    → slice_get (chunks_of p) (index + 1) ≡ Some (get_or functions index d).chunk
function_chunk p functions index d e inside =
    rw (add-one, e) (slice_get-map (λ (f : Function). f.chunk) p.functions index ∙ ap (option_map (λ (f : Function). f.chunk)) (slice_get-get_or p.functions index d inside))

pub place_of : (xs : List ℕ) (k x : ℕ) → x ≡ get_or xs k x → k < length xs → slice_get xs k ≡ Some x
place_of xs k x e inside = slice_get-get_or xs k x inside ∙ ap Some (sym e)
