-- Code with its instructions.
use Rattle.std.specs.Prelude.{◌≡◌, ℕ, List}
use Rattle.grain_code.specs.Disassembly.{IsDisassembly}
use Rattle.grain_listing.specs.declared.code.CodeListing.{CodeListing}

-- the code, with its instructions from its front up to the first thing that is none
pub record IsListedCode (bytes : List ℕ) (c : CodeListing) : Type 0 where
  pub same : c.bytes.items ≡ bytes
  pub items : IsDisassembly 0 bytes c.items.items
