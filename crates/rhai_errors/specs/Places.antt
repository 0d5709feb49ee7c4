-- Which places lie in a source text.
use Rattle.std.specs.Prelude.{◌≡◌, ◌≤◌, ◌⊎◌, ◌↔◌, ℕ, ◌+◌, ◌-◌, ◌==◌, Bool, not, List, length, slice_index, take, count_by}
use Rattle.std.specs.List.{suffix_len}
use Rattle.std.specs.Str.{chars}
use Rattle.rhai_errors.specs.declared.error.CompileError.{CompileError}
use Rattle.grain_base.specs.declared.pos.Site.{Site}
use Rattle.rhai_errors.specs.declared.error.Problem.{Problem}
use Rattle.rhai_errors.specs.declared.error.Problem.TheVariants as problems

-- a line feed
abbrev pub is_feed : ℕ → Bool
is_feed c = c == 10

-- The place is right behind these characters: as many line feeds are before its line, and as many characters behind the last of
-- them before its column.
pub record IsBehind (before : List ℕ) (place : Site) : Type 0 where
  pub line : place.line ≡ count_by is_feed before + 1
  pub column : place.column ≡ suffix_len (λ c. not (is_feed c)) before + 1

-- the place is right behind the first characters of the text: none, some, or all of them
abbrev pub LiesIn : List ℕ → Site → Type 0
LiesIn source place = (k : ℕ) × IsBehind (take k (chars source)) place

-- no place
abbrev pub no_place : Site
no_place = record { line = 0; column = 0 }

-- no place, or one that lies in the text
abbrev pub IsPlaceOf : List ℕ → Site → Type 0
IsPlaceOf source place = (place ≡ no_place) ⊎ LiesIn source place

-- The new place is the old one where that lies in the text, and none otherwise.
pub record IsConfined (source : List ℕ) (old new : Site) : Type 0 where
  pub kept : LiesIn source old → new ≡ old
  pub lost : (LiesIn source old → ⊥) → new ≡ no_place
  pub placed : IsPlaceOf source new

-- the place that a problem names besides that of its error, or none
abbrev pub place_named : Problem → Site
place_named (problems.StrangeCharacter c) = no_place
place_named problems.UnfinishedComment = no_place
place_named (problems.Unfinished thing) = no_place
place_named problems.BadEscape = no_place
place_named problems.BadNumber = no_place
place_named problems.NumberTooLarge = no_place
place_named problems.NotOneCharacter = no_place
place_named (problems.Reserved word) = no_place
place_named problems.ReservedName = no_place
place_named (problems.Expected thing) = no_place
place_named (problems.Unclosed thing opened) = opened
place_named problems.AssignedCondition = no_place
place_named problems.NotAssignable = no_place
place_named problems.ConstantAssigned = no_place
place_named (problems.UnknownVariable similar) = similar
place_named problems.OutsideLoop = no_place
place_named (problems.Repeated thing) = no_place
place_named problems.DefaultCondition = no_place
place_named problems.DefaultNotLast = no_place
place_named problems.TryAsValue = no_place
place_named problems.TooDeep = no_place
place_named problems.UnknownModule = no_place
place_named problems.NoSuchModule = no_place
place_named problems.CyclicImport = no_place
place_named problems.NoSuchFunction = no_place
place_named problems.NotExported = no_place
place_named problems.UnknownGlobal = no_place
place_named problems.ModuleStatement = no_place
place_named problems.ComputedExport = no_place
place_named (problems.NotAtTop thing) = no_place
place_named (problems.TooMany thing) = no_place
place_named (problems.Unsupported thing) = no_place
place_named problems.OutOfMemory = no_place

-- the problem, which names that place if it names one
abbrev pub naming : Site → Problem → Problem
naming place (problems.Unclosed thing opened) = problems.Unclosed thing place
naming place (problems.UnknownVariable similar) = problems.UnknownVariable place
naming place problem = problem

-- The place of the error lies in the text, and so does the one that its problem names, as far as there are such places.
pub record HasPlaces (source : List ℕ) (error : CompileError) : Type 0 where
  pub own : IsPlaceOf source error.place
  pub other : IsPlaceOf source (place_named error.problem)

-- the place is in a line of these lengths, or right behind it
pub record IsInLines (lengths : List ℕ) (place : Site) : Type 0 where
  pub some : 1 ≤ place.line
  pub line : place.line ≤ length lengths
  pub begins : 1 ≤ place.column
  pub inside : place.column ≤ slice_index lengths (place.line - 1) + 1

-- the lines of the text have these lengths: their places are those of the text
abbrev pub AreLengths : List ℕ → List ℕ → Type 0
AreLengths source lengths = (place : Site) → IsInLines lengths place ↔ LiesIn source place
