-- What it is that the texts of `big N` are lawful.
use Rattle.std.specs.Prelude.{ℕ, ◌≤◌, [], ◌∷◌, length, codes}
use Rattle.xp_base.specs.declared.limits.TheConstants.{MAX_TEXT}
use Rattle.idl_grammar.specs.ClosedFiles.{AreLawfulFiles}
use Rattle.include_closure.specs.Closure.{IsClosure}
use Rattle.prototype_lowering.specs.Accepted.{IsAccepted}
use Rattle.call_scripts.specs.declared.script.Script.{Script}
use Rattle.call_scripts.specs.Lines.{IsScript}
use Rattle.big_texts.specs.Files.{idl_files}
use Rattle.big_texts.specs.Script.{big_script}
use Rattle.big_laws.specs.Trees.{big_files}

-- The IDL file is an include closure of itself, whose tree is known; it is lawful and accepted; and
-- the script is one, and no longer than a text may be.
pub record BigIsLawful (last : ℕ) : Type 0 where
  pub closed : IsClosure (idl_files last) (codes "big.idl" ∷ []) (big_files last)
  pub lawful : AreLawfulFiles (big_files last)
  pub accepted : IsAccepted (big_files last)
  pub script : Script
  pub spelled : IsScript (big_script last) script
  pub short : length (big_script last) ≤ MAX_TEXT
