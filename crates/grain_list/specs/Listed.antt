-- What is listed of a line, by what the line asks.
use Rattle.std.specs.Prelude.{◌≡◌, ⊤, ℕ, List, Option, None, Some}
use Rattle.grain.specs.Explanations.{IsExplanation}
use Rattle.grain_code.specs.Span.{Span}
use Rattle.grain.specs.declared.explanation.Explained.{Explained}
use Rattle.grain_lines.specs.LineCase.{Asked, code, site, verify}
use Rattle.grain_lines.specs.Verdict.{program}
use Rattle.grain_listing.specs.ListedCode.{IsListedCode}
use Rattle.grain_listing.specs.declared.code.CodeListing.{CodeListing}
use Rattle.grain_list.specs.declared.listing.Body.{Body}
use Rattle.grain_list.specs.declared.listing.Body.TheVariants as bodies
use Rattle.grain_listing.specs.declared.program.ProgramListing.{ProgramListing}
use Rattle.grain_list.specs.declared.problem.Problem.{Problem}

-- it explains the program that is asked of; of what is no program there is no explanation
abbrev pub Explains : Option Asked → Explained → Type 0
Explains None x = ⊥
Explains (Some (code bytes)) x = ⊥
Explains (Some (site table address)) x = ⊥
Explains (Some (verify caps bytes chunks)) x = IsExplanation (program caps bytes chunks) x

-- no program is asked of
abbrev pub IsNoProgram : Option Asked → Type 0
IsNoProgram None = ⊤
IsNoProgram (Some (code bytes)) = ⊤
IsNoProgram (Some (site table address)) = ⊤
IsNoProgram (Some (verify caps bytes chunks)) = ⊥

-- What is shown behind the verdict: of a line without a form what is wrong with it, of code its instructions, and of a program
-- besides its chunks with an explanation of it.
pub data IsShown : Option Asked → Body → Type 0 where
  of_none : (p : Problem) → IsShown None (bodies.Bad p)
  of_site : (table : List ℕ) (address : ℕ) → IsShown (Some (site table address)) bodies.Site
  of_code : {bytes : List ℕ} {c : CodeListing} → IsListedCode bytes c → IsShown (Some (code bytes)) (bodies.Code c)
  of_program : {caps : ℕ} {bytes : List ℕ} {chunks : List Span} {p : ProgramListing}
      → IsListedCode bytes p.code → p.chunks.items ≡ chunks → Explains (Some (verify caps bytes chunks)) p.explained
      → IsShown (Some (verify caps bytes chunks)) (bodies.Program p)
