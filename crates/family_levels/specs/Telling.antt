-- What was found of files is what the function of their texts gives, and stands in them.
use Rattle.std.specs.Prelude.{◌≡◌, ◌≤◌, ℕ, List, Option, Some, None, Contains}
use Rattle.std.specs.List.{All}
use Rattle.std.specs.Str.{IsUtf8}
use Rattle.tla_symbols.specs.declared.lexeme.Span.{Span}
use Rattle.tla_lexeme.specs.Spans.{IsPlaced}
use Rattle.span_laws.specs.NodeSpans.{SpansText}
use Rattle.family_facts.specs.Facts.{texts_of}
use Rattle.family_facts.specs.Verdicts.{AreDistinct, after_checks, checks_of, family_of, text_of}
use Rattle.family_facts.specs.declared.verdict.File.{File}
use Rattle.leveled_facts.specs.Families.{leveled}
use Rattle.leveled_facts.specs.Modules.{Leveled}
use Rattle.family_levels.specs.Findings.{decls_in, faults_in, uses_in}
use Rattle.family_levels.specs.declared.findings.Findings.{Findings}

-- what was found of a name is this
pub record Tells (found : Findings) (name : List ℕ) (facts : Leveled) : Type 0 where
  pub faults : faults_in found name ≡ facts.faults
  pub uses : uses_in found name ≡ facts.uses
  pub decls : decls_in found name ≡ facts.decls

-- a span of bytes that are UTF-8, both of whose ends stand at characters
abbrev pub StandsIn : List ℕ → Span → Type 0
StandsIn bytes span = IsUtf8 bytes × IsPlaced bytes span

-- what is found of a module stands in its text
pub record Stands (bytes : List ℕ) (found : Leveled) : Type 0 where
  pub faults : All (λ fault. IsPlaced (text_of bytes) fault.span) found.faults
  pub spans : All (λ u. SpansText (text_of bytes) u.name) found.uses
  pub uses : All (λ u. StandsIn bytes u.name) found.uses
  pub decls : All (λ d. StandsIn bytes d.name) found.decls

-- ---- files

-- what was found of a file among others is what the function of their texts gives; it stands in its text
pub record IsFound (files : List File) (found : Findings) (file : File) : Type 0 where
  pub tells : Tells found file.name (leveled (texts_of (family_of files)) file.name)
  pub placed : All (λ fault. IsPlaced (text_of file.bytes) fault.span) (faults_in found file.name)
  pub uses : All (λ u. StandsIn file.bytes u.name) (uses_in found file.name)
  pub decls : All (λ d. StandsIn file.bytes d.name) (decls_in found file.name)

-- the same of each file
abbrev pub AreFound : List File → Findings → Type 0
AreFound files found = (file : File) → Contains files file → IsFound files found file

-- and of each that has one of these names
abbrev pub AreFoundOf : List (List ℕ) → List File → Findings → Type 0
AreFoundOf names files found = (file : File) → Contains files file → Contains names file.name → IsFound files found file

-- of those of some names, or else of all
abbrev pub AreFoundIf : Option (List (List ℕ)) → List File → Findings → Type 0
AreFoundIf None files found = AreFound files found
AreFoundIf (Some names) files found = AreFoundOf names files found

-- each module of some of these files was checked at most once
pub record HasChecked (files : List File) (before after : ℕ) : Type 0 where
  pub part : List File
  pub distinct : AreDistinct part
  pub within : (file : File) → Contains part file → Contains files file
  pub most : after ≤ after_checks (checks_of part) before
