-- The files of `big N`.
use Rattle.std.specs.Prelude.{ℕ, List, [], codes}
use Rattle.xp_base.specs.Files.{Files, with_file}
use Rattle.big_texts.specs.Idl.{big_idl}
use Rattle.big_texts.specs.Script.{big_script}

-- the IDL file whose last interface has this number
abbrev pub idl_files : (last : ℕ) → Files
idl_files last = with_file [] (codes "big.idl") (big_idl last)

-- beside it the typelib, and the script over it
abbrev pub call_files : (last : ℕ) → (typelib : List ℕ) → Files
call_files last typelib =
    with_file (with_file (idl_files last) (codes "big.xpt") typelib)
    (codes "big.txt") (big_script last)
