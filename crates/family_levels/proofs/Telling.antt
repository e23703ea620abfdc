-- What was found of files is what the function gives, and stands in their texts.
use Rattle.std.proofs.Common.{◌≡◌, ℕ, Bool, true, false, Option, Some, None, List, [], refl, sym, ap, subst, ◌∙◌}
use Rattle.std.specs.Prelude.{Contains, is_some, not}
use Rattle.std.specs.List.{All}
use Rattle.tla_lexeme.specs.Spans.{IsPlaced}
use Rattle.tla_model.specs.declared.Diagnostic.{Diagnostic}
use Rattle.tla_model.specs.declared.entity.Decl.{Decl}
use Rattle.tla_model.specs.declared.entity.Use.{Use}
use Rattle.family_facts.specs.Facts.{texts_of}
use Rattle.family_facts.specs.Family.{is_there}
use Rattle.family_facts.specs.Verdicts.{family_of, member_of, text_of}
use Rattle.family_facts.specs.declared.verdict.File.{File}
use Rattle.family_facts.proofs.Lists.{none-there}
use Rattle.family_facts.proofs.Members.{member-there}
use Rattle.family_facts.proofs.Members.{file-there}
use Rattle.family_tables.specs.Outcomes.{faults_of}
use Rattle.family_tables.proofs.Read.{says-faults}
use Rattle.leveled_facts.specs.Families.{AgreeOn, leveled}
use Rattle.leveled_facts.proofs.Agreeing.{leveled-agree}
use Rattle.family_levels.specs.Findings.{decls_of, uses_of}
use Rattle.family_levels.specs.Leveling.{AreNames, AreOutcomes}
use Rattle.family_levels.specs.Telling.{AreFound, AreFoundIf, AreFoundOf, Stands, StandsIn, Tells}
use Rattle.family_levels.specs.declared.findings.Findings.{Findings}

-- what was found of a file is what the function gives
tells-file : (files : List File) (found : Findings) → AreOutcomes (family_of files) found.outcomes → AreNames (family_of files) found.names → (f : File) → Contains files f → Tells found f.name (leveled (texts_of (family_of files)) f.name)
tells-file files found outcomes named f h =
    let texts = texts_of (family_of files) in
    let there : is_there (family_of files) f.name ≡ true = member-there (family_of files) f.name (member_of f) (file-there files f h) refl in
    let o = outcomes f.name there in
    let n = named f.name there in
    record { faults = ap faults_of o.1 ∙ says-faults (leveled texts f.name).faults (leveled texts f.name).outside.view o.0 o.2; uses = ap uses_of n; decls = ap decls_of n }

-- and it stands in its text
pub are-found : (files : List File) (found : Findings) → AreOutcomes (family_of files) found.outcomes → AreNames (family_of files) found.names
    → ((file : File) → Contains files file → Stands file.bytes (leveled (texts_of (family_of files)) file.name)) → AreFound files found
are-found files found outcomes named stands f h =
    let tells = tells-file files found outcomes named f h in
    record {
      tells = tells;
      placed = subst (All (λ (fault : Diagnostic). IsPlaced (text_of f.bytes) fault.span)) (sym tells.faults) (stands f h).faults;
      uses = subst (All (λ (u : Use). StandsIn f.bytes u.name)) (sym tells.uses) (stands f h).uses;
      decls = subst (All (λ (d : Decl). StandsIn f.bytes d.name)) (sym tells.decls) (stands f h).decls;
    }

-- nothing is found of no files
pub none-found : (found : Findings) → AreFound [] found
none-found found f h = absurd (none-there f h)

-- what was found of a part of some files that has all that the files of some names need was found of these among all
pub part-found : (files part : List File) (found : Findings) (p : List ℕ → Bool) → AgreeOn (texts_of (family_of files)) (texts_of (family_of part)) p → (names : List (List ℕ)) → ((name : List ℕ) → Contains names name → p name ≡ true)
    → ((f : File) → Contains files f → p f.name ≡ true → Contains part f) → AreFound part found → AreFoundOf names files found
part-found files part found p agree names all within are f h named =
    let among : p f.name ≡ true = all f.name named in
    let is = are f (within f h among) in
    record { tells = subst (Tells found f.name) (sym (leveled-agree (texts_of (family_of files)) (texts_of (family_of part)) p agree f.name among)) is.tells; placed = is.placed; uses = is.uses; decls = is.decls }

-- what was found of all files was found of those of some names
pub found-of-some : (o : Option (List (List ℕ))) → o ≡ None → (names : List (List ℕ)) (files : List File) (found : Findings) → AreFoundIf o files found → AreFoundOf names files found
found-of-some None is names files found are f h named = are f h
found-of-some (Some others) is names files found are f h named = cc

-- what was found of files of some names was found of those of names that are among these
pub found-among : (o : Option (List (List ℕ))) (others : List (List ℕ)) → o ≡ Some others → (names : List (List ℕ)) → ((name : List ℕ) → Contains names name → Contains others name) → (files : List File) (found : Findings) → AreFoundIf o files found → AreFoundOf names files found
found-among o others is names among files found are =
    let kept : AreFoundOf others files found = subst (λ z. AreFoundIf z files found) is are in
    λ file there named. kept file there (among file.name named)

-- where it was of no names it was of all
pub found-of-all : (o : Option (List (List ℕ))) (b : Bool) → is_some o ≡ not b → b ≡ true → (files : List File) (found : Findings) → AreFoundIf o files found → AreFound files found
found-of-all None b is t files found are = are
found-of-all (Some names) b is t files found are = let never : true ≡ false = is ∙ ap not t in cc
