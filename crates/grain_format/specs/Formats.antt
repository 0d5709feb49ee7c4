-- Formats: how values are spelled, which of them, what reading gives, and which are refused, with the four laws. A format of
-- many fields is put together from those of its parts.
use Rattle.std.specs.Prelude.{ℕ, ◌<◌, ◌^◌, List, [], ◌∷◌, Option, None, Result, Ok, Err, length, ◌==◌, if◌then◌else◌, refl, IfSome, ◌≡◌, ◌++◌, ◌⊎◌, Bool, true}
use Rattle.grain_format.specs.declared.error.FieldFault.{FieldFault}
use Rattle.grain_format.specs.declared.error.Unkept.{Unkept}
use Rattle.grain_format.specs.declared.error.FieldFault.TheVariants.{Trailing}
use Rattle.grain_format.specs.Reading.{LocatedFault, ◌>>=◌, Takes, Again, KeepsAll, Ends}
use Rattle.grain_format.specs.Ends.{number_ends, below_ends, bytes_ends, text_ends, byte_ends, tag_ends, only_ends, both_ends, depending_ends, seen_ends, checked_ends, counted_ends, optional_ends, alternative_ends, headed_ends}
use Rattle.grain_format.specs.Refusals.{both_refusal, depending_refusal, counted_refusal, optional_refusal, alternative_refusal, all_keeps, both_keeps, depending_keeps, counted_keeps, optional_keeps, alternative_keeps, only_keeps}
use Rattle.grain_format.specs.Numbers.{number, number_at, below_at}
use Rattle.grain_format.specs.NumberLaws.{IsBelow, number_takes, number_again, below_takes, below_again}
use Rattle.grain_format.specs.Texts.{counted_bytes, byte_at, bytes_at, text_at, tag_at}
use Rattle.grain_format.specs.TextLaws.{BytesFit, TextFits, bytes_takes, bytes_again, text_takes, text_again, one_byte, byte_takes, byte_again, tag_takes, tag_again, Anything, nothing_takes, only_takes, only_again}
use Rattle.grain_format.specs.Lists.{both_spelling, BothFit, both_at, depending_spelling, DependingFit, depending_at, checked_at, seen_at, counted_spelling, CountedFit, counted_at, optional_spelling, optional_at, alternative_spelling, AlternativeFits, alternative_at, BeginsOtherwise, headed_at}
use Rattle.grain_format.specs.ListLaws.{both_takes, both_again, depending_takes, depending_again, checked_takes, checked_again, seen_takes, seen_again, counted_takes, counted_again, optional_takes, optional_again, alternative_takes, alternative_again, headed_takes, headed_again}

pub record Format (A : Type 0) : Type 1 where
  pub spelling : A → List ℕ
  pub Fits : A → Type 0
  pub reading : List ℕ → Result (A × List ℕ) LocatedFault
  -- the first reason for which a value has no spelling
  pub refusal : A → Option Unkept
  pub takes : Takes spelling Fits reading
  pub again : Again spelling Fits reading
  pub keeps : KeepsAll Fits refusal
  pub ends : Ends reading

-- a number below 2 ^ 64
abbrev pub any_number : Format ℕ
any_number = record { spelling = number; Fits = λ n. n < 2 ^ 64; reading = number_at; refusal = λ n. None; takes = number_takes; again = number_again; keeps = all_keeps (λ n. n < 2 ^ 64); ends = number_ends }

abbrev pub number_below : ℕ → Format ℕ
number_below limit = record { spelling = number; Fits = IsBelow limit; reading = below_at limit; refusal = λ n. None; takes = below_takes limit; again = below_again limit; keeps = all_keeps (IsBelow limit); ends = below_ends limit }

abbrev pub blob : Format (List ℕ)
blob = record { spelling = counted_bytes; Fits = BytesFit; reading = bytes_at; refusal = λ b. None; takes = bytes_takes; again = bytes_again; keeps = all_keeps BytesFit; ends = bytes_ends }

abbrev pub text : Format (List ℕ)
text = record { spelling = counted_bytes; Fits = TextFits; reading = text_at; refusal = λ b. None; takes = text_takes; again = text_again; keeps = all_keeps TextFits; ends = text_ends }

-- no bytes at all
abbrev pub no_bytes : Format (Unit {0})
no_bytes = record { spelling = λ u. []; Fits = Anything; reading = λ bytes. Ok (tt, bytes); refusal = λ u. None; takes = nothing_takes; again = λ u rest fits. refl; keeps = all_keeps Anything; ends = only_ends tt }

-- No bytes, for the one value that needs none. All others are refused.
abbrev pub only : {A : Type 0} (one : A) (refusal : A → Option Unkept) → refusal one ≡ None → Format A
only one refusal kept = record { spelling = λ x. []; Fits = λ x. x ≡ one; reading = λ bytes. Ok (one, bytes); refusal = refusal; takes = only_takes one; again = only_again one; keeps = only_keeps one refusal kept; ends = only_ends one }

abbrev pub byte : Format ℕ
byte = record { spelling = one_byte; Fits = λ b. b < 256; reading = byte_at; refusal = λ b. None; takes = byte_takes; again = byte_again; keeps = all_keeps (λ b. b < 256); ends = byte_ends }

abbrev pub tag_below : ℕ → Format ℕ
tag_below limit = record { spelling = one_byte; Fits = λ b. b < limit; reading = tag_at limit; refusal = λ b. None; takes = tag_takes limit; again = tag_again limit; keeps = all_keeps (λ b. b < limit); ends = tag_ends limit }

-- one field, and then another
abbrev pub both : {A B : Type 0} → Format A → Format B → Format (A × B)
both F G = record {
  spelling = both_spelling F.spelling G.spelling;
  Fits = BothFit F.Fits G.Fits;
  reading = both_at F.reading G.reading;
  refusal = both_refusal F.refusal G.refusal;
  takes = both_takes F.spelling F.Fits F.reading G.spelling G.Fits G.reading F.takes G.takes;
  again = both_again F.spelling F.Fits F.reading G.spelling G.Fits G.reading F.again G.again;
  keeps = both_keeps F.Fits F.refusal G.Fits G.refusal F.keeps G.keeps;
  ends = both_ends F.spelling F.Fits F.reading G.reading F.takes F.ends G.ends;
}

-- one field, and then another, whose format depends on the first
abbrev pub depending : {A B : Type 0} → Format A → (A → Format B) → Format (A × B)
depending {A} {B} F G =
    let spelling : A → B → List ℕ = λ x. (G x).spelling in
    let Fits : A → B → Type 0 = λ x. (G x).Fits in
    let reading : A → List ℕ → Result (B × List ℕ) LocatedFault = λ x. (G x).reading in
    let refusal : A → B → Option Unkept = λ x. (G x).refusal in
    record {
      spelling = depending_spelling F.spelling spelling;
      Fits = DependingFit F.Fits Fits;
      reading = depending_at F.reading reading;
      refusal = depending_refusal F.refusal refusal;
      takes = depending_takes F.spelling F.Fits F.reading spelling Fits reading F.takes (λ x. (G x).takes);
      again = depending_again F.spelling F.Fits F.reading spelling Fits reading F.again (λ x. (G x).again);
      keeps = depending_keeps F.Fits F.refusal Fits refusal F.keeps (λ x. (G x).keeps);
      ends = depending_ends F.spelling F.Fits F.reading reading F.takes F.ends (λ x. (G x).ends);
    }

-- a field seen otherwise
abbrev pub viewed_as : {A B : Type 0} (to : A → B) (from : B → A) → ((a : A) → from (to a) ≡ a) → ((b : B) → to (from b) ≡ b) → Format A → Format B
viewed_as to from there back F = record {
  spelling = λ b. F.spelling (from b);
  Fits = λ b. F.Fits (from b);
  reading = seen_at to F.reading;
  refusal = λ b. F.refusal (from b);
  takes = seen_takes to from F.spelling F.Fits F.reading there F.takes;
  again = seen_again to from F.spelling F.Fits F.reading back F.again;
  keeps = λ b fits. F.keeps (from b) fits;
  ends = seen_ends to F.reading F.ends;
}

-- a field that passes a test
abbrev pub checked : {A : Type 0} → (A → Bool) → FieldFault → Format A → Format A
checked test fault F = record {
  spelling = F.spelling;
  Fits = λ x. F.Fits x × (test x ≡ true);
  reading = checked_at test fault F.reading;
  refusal = F.refusal;
  takes = checked_takes F.spelling F.Fits F.reading test fault F.takes;
  again = checked_again F.spelling F.Fits F.reading test fault F.again;
  keeps = λ x fits. F.keeps x fits.0;
  ends = checked_ends F.reading test fault F.ends;
}

-- how many, and each
abbrev pub counted_list : {A : Type 0} → Format A → Format (List A)
counted_list F = record {
  spelling = counted_spelling F.spelling;
  Fits = CountedFit F.Fits;
  reading = counted_at F.reading;
  refusal = counted_refusal F.refusal;
  takes = counted_takes F.spelling F.Fits F.reading F.takes;
  again = counted_again F.spelling F.Fits F.reading F.again;
  keeps = counted_keeps F.Fits F.refusal F.keeps;
  ends = counted_ends F.spelling F.Fits F.reading F.takes F.ends;
}

-- 0, or 1 and a field
abbrev pub optional : {A : Type 0} → Format A → Format (Option A)
optional F = record {
  spelling = optional_spelling F.spelling;
  Fits = λ o. IfSome o F.Fits;
  reading = optional_at F.reading;
  refusal = optional_refusal F.refusal;
  takes = optional_takes F.spelling F.Fits F.reading F.takes;
  again = optional_again F.spelling F.Fits F.reading F.again;
  keeps = optional_keeps F.Fits F.refusal F.keeps;
  ends = optional_ends F.reading F.ends;
}

-- a tag and a field, or else a field that begins with no such tag
abbrev pub alternative : {A B : Type 0} (tag : ℕ) (F : Format A) (G : Format B) → ((y : B) (rest : List ℕ) → G.Fits y → BeginsOtherwise tag (G.spelling y ++ rest)) → Format (A ⊎ B)
alternative tag F G apart = record {
  spelling = alternative_spelling tag F.spelling G.spelling;
  Fits = AlternativeFits F.Fits G.Fits;
  reading = alternative_at tag F.reading G.reading;
  refusal = alternative_refusal F.refusal G.refusal;
  takes = alternative_takes tag F.spelling F.Fits F.reading G.spelling G.Fits G.reading F.takes G.takes;
  again = alternative_again tag F.spelling F.Fits F.reading G.spelling G.Fits G.reading apart F.again G.again;
  keeps = alternative_keeps F.Fits F.refusal G.Fits G.refusal F.keeps G.keeps;
  ends = alternative_ends tag F.reading G.reading F.ends G.ends;
}

-- a tag, and a field behind it
abbrev pub headed : {A : Type 0} → ℕ → FieldFault → Format A → Format A
headed tag fault F = record {
  spelling = λ x. tag ∷ F.spelling x;
  Fits = F.Fits;
  reading = headed_at tag fault F.reading;
  refusal = F.refusal;
  takes = headed_takes tag fault F.spelling F.Fits F.reading F.takes;
  again = headed_again tag fault F.spelling F.Fits F.reading F.again;
  keeps = F.keeps;
  ends = headed_ends tag fault F.reading F.ends;
}

-- what reading all of the bytes gives
abbrev pub whole : {A : Type 0} → Format A → List ℕ → Result (A × List ℕ) LocatedFault
whole F bytes = F.reading bytes >>= λ x. (if length x.1 == 0 then Ok x else Err (Trailing, x.1))
