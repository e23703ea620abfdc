-- The verdicts on the files of a family, and what they take.
use Rattle.std.specs.Prelude.{◌+◌, ◌-◌, ◌^◌, min, ℕ, List, [], map, take, sum_by, unwrap_or}
use Rattle.std.specs.List.{All}
use Rattle.tla_lexeme.specs.Spans.{IsPlaced}
use Rattle.front_laws.specs.Fronts.{Front, Tree, Fault, readable_len}
use Rattle.std_modules.specs.StdTexts.{std_names, std_text}
use Rattle.list_laws.specs.Distinct.{AreNamedApart}
use Rattle.family_facts.specs.Family.{Member, over}
use Rattle.family_facts.specs.Fronts.{front_of}
use Rattle.family_facts.specs.declared.verdict.File.{File}
use Rattle.family_facts.specs.declared.verdict.Verdict.{Verdict}

-- the built-in module of a name, as a member of a family
abbrev pub built_in : List ℕ → Member
built_in name = record { name = name; bytes = unwrap_or (std_text name) [] }

-- all built-in modules
abbrev pub built_in_members : List Member
built_in_members = map built_in std_names

-- a file as a member of a family: the module of its name
abbrev pub member_of : File → Member
member_of file = record { name = file.name; bytes = file.bytes }

-- the files over the built-in modules
abbrev pub family_of : List File → List Member
family_of files = over (map member_of files) built_in_members

-- no two files have one name
abbrev pub AreDistinct : List File → Type 0
AreDistinct files = AreNamedApart (λ (file : File). file.name) files

-- ---- verdicts

-- the text in which the faults of some bytes stand: the longest front of them that is one
abbrev pub text_of : List ℕ → List ℕ
text_of bytes = take (readable_len bytes) bytes

-- each fault stands in the text
abbrev pub IsVerdictPlaced : Verdict → Type 0
IsVerdictPlaced verdict = All (λ fault. IsPlaced verdict.text fault.span) verdict.faults

-- ---- checks

-- the names of a module are checked once, but of one with a front fault not at all
abbrev pub check_count : Front → ℕ
check_count (Tree found) = 1
check_count (Fault fault) = 0

-- how many modules have no front fault, so that their names are checked
abbrev pub checks_of : List File → ℕ
checks_of files = sum_by (λ (m : Member). check_count (front_of m.name m.bytes)) (family_of files)

-- a count after so many checks
abbrev pub after_checks : ℕ → ℕ → ℕ
after_checks n steps = min (steps + n) (2 ^ 64 - 1)
