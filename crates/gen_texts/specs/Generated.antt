-- The files of the modules that are made.
use Rattle.std.specs.Prelude.{ℕ, zero, suc, List, [], ◌∷◌, ◌++◌}
use Rattle.family_facts.specs.declared.verdict.File.{File}
use Rattle.gen_texts.specs.Texts.{name_of, text_of}

-- the file of the module of a number
abbrev pub file_of : ℕ → File
file_of number = record { name = name_of number; bytes = text_of number }

-- the files of so many modules, in the order of their numbers
abbrev pub generated : ℕ → List File
generated zero = []
generated (suc n) = generated n ++ file_of n ∷ []
