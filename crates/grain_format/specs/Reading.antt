-- What reading a field gives: its value and the bytes after it, or what is wrong and the bytes from there on.
use Rattle.std.specs.Prelude.{◌≡◌, ℕ, ◌<◌, List, ◌++◌, Result, Ok, Err, Option, Some, None, slice_index}
use Rattle.grain_format.specs.declared.error.FieldFault.{FieldFault}
use Rattle.grain_format.specs.declared.error.Stop.{Stop}
use Rattle.grain_format.specs.declared.error.Stop.TheVariants as stop
use Rattle.grain_format.specs.declared.error.Unkept.{Unkept}
use Rattle.grain_format.specs.declared.error.WriteError.{WriteError}
use Rattle.grain_format.specs.declared.error.WriteError.TheVariants as write_error

-- what is wrong, and the bytes from there on
abbrev pub LocatedFault : Type 0
LocatedFault = FieldFault × List ℕ

-- a step, and the next with what it gave
infixl 10 ◌>>=◌
abbrev pub ◌>>=◌ : {A B : Type 0} → Result A LocatedFault → (A → Result B LocatedFault) → Result B LocatedFault
(Ok x) >>= f = f x
(Err e) >>= f = Err e

-- What stopped the code is what reading says, unless memory ran out.
abbrev pub Stops : {Y : Type 0} → Stop → List ℕ → Result Y LocatedFault → Type 0
Stops stop.OutOfMemory left read = Unit {0}
Stops (stop.FieldFault fault) left read = read ≡ Err (fault, left)

-- What the code returned, seen by view, and the bytes that it left are what reading gives, unless memory ran out.
abbrev pub Gives : {X Y : Type 0} → (X → Y) → Result X Stop → List ℕ → Result (Y × List ℕ) LocatedFault → Type 0
Gives view (Ok x) left read = read ≡ Ok (view x, left)
Gives view (Err e) left read = Stops e left read

-- each is a byte
pub record AreBytes (bytes : List ℕ) : Type 0 where
  pub each : (i : ℕ) → slice_index bytes i < 256

-- What is read is spelled so, and fits.
abbrev pub Takes : {A : Type 0} → (A → List ℕ) → (A → Type 0) → (List ℕ → Result (A × List ℕ) LocatedFault) → Type 0
Takes {A} spelling Fits reading =
    (bytes : List ℕ) (x : A) (rest : List ℕ) → AreBytes bytes → reading bytes ≡ Ok (x, rest) → (bytes ≡ spelling x ++ rest) × Fits x

-- What fits and is spelled so is read, whatever follows.
abbrev pub Again : {A : Type 0} → (A → List ℕ) → (A → Type 0) → (List ℕ → Result (A × List ℕ) LocatedFault) → Type 0
Again {A} spelling Fits reading =
    (x : A) (rest : List ℕ) → Fits x → reading (spelling x ++ rest) ≡ Ok (x, rest)

-- what is left is an end of the bytes
pub record IsEnd (left bytes : List ℕ) : Type 0 where
  pub front : List ℕ
  pub is : bytes ≡ front ++ left

-- If reading fails, what is wrong stands in the bytes.
abbrev pub Ends : {A : Type 0} → (List ℕ → Result (A × List ℕ) LocatedFault) → Type 0
Ends {A} reading =
    (bytes : List ℕ) (fault : FieldFault) (left : List ℕ) → AreBytes bytes → reading bytes ≡ Err (fault, left) → IsEnd left bytes

-- ---- what no file keeps

-- nothing, of any value
abbrev pub all_kept : {A : Type 0} → A → Option Unkept
all_kept x = None

-- the first reason of two
abbrev pub or_refused : Option Unkept → Option Unkept → Option Unkept
or_refused None reason = reason
or_refused (Some first) reason = Some first

-- What stopped the writing is the reason, unless memory ran out.
abbrev pub RefusesWriting : WriteError → Option Unkept → Type 0
RefusesWriting write_error.OutOfMemory reason = Unit {0}
RefusesWriting (write_error.Unkept unkept) reason = reason ≡ Some unkept

-- The value was written as no reason stands against it, or stopped by the first one, unless memory ran out.
abbrev pub Decides : {X : Type 0} → Result X WriteError → Option Unkept → Type 0
Decides (Ok x) reason = reason ≡ None
Decides (Err e) reason = RefusesWriting e reason

-- Of what fits all is kept.
abbrev pub KeepsAll : {A : Type 0} → (A → Type 0) → (A → Option Unkept) → Type 0
KeepsAll {A} Fits refusal = (x : A) → Fits x → refusal x ≡ None
