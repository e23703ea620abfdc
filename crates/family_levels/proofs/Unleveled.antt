-- The uses of a module that has faults have no levels.
use Rattle.std.proofs.Common.{◌≡◌, ℕ, List, [], ◌∷◌, ◌++◌, map, refl, sym, ap, ◌∙◌}
use Rattle.std.proofs.lemmas.List.{map-append}
use Rattle.unit_grammar.specs.Units.{ModuleUnits}
use Rattle.tla_model.specs.declared.Diagnostic.{Diagnostic}
use Rattle.tla_model.specs.declared.entity.Use.{Use}
use Rattle.tla_model.specs.declared.names.Finding.TheVariants.{Clashes, Implied, InstanceClashes, Means, NotReplaceable, ReplacedTwice, Taken, Unknown, Unreplaced}
use Rattle.tla_model.specs.declared.names.Meaning.TheVariants.{BuiltIn, Declared}
use Rattle.tla_model.specs.Scopes.{Finding}
use Rattle.module_model.specs.Bindings.{Resolved, resolved, resolved_at}
use Rattle.module_model.specs.Resolution.{findings}
use Rattle.module_facts.specs.Checks.{ImportStatus, all_uses, files_given, import_faults, unless_any}
use Rattle.module_facts.specs.Ordered.{in_order}
use Rattle.leveled_facts.specs.Modules.{Status, leveled_use, levels_by}

-- the uses of what is resolved
abbrev of : List Resolved → List Use
of all = map (λ r. r.«use») all

plain-at : (f : Finding) → map (leveled_use []) (of (resolved_at f)) ≡ of (resolved_at f)
plain-at (Means l BuiltIn) = refl
plain-at (Means l (Declared entity callee)) = refl
plain-at (Unknown l) = refl
plain-at (Taken l) = refl
plain-at (Clashes l) = refl
plain-at (InstanceClashes l) = refl
plain-at (NotReplaceable l) = refl
plain-at (ReplacedTwice l) = refl
plain-at (Unreplaced l) = refl
plain-at (Implied l parameter meaning) = refl

plain-all : (found : List Finding) → map (leveled_use []) (of (resolved found)) ≡ of (resolved found)
plain-all [] = refl
plain-all (f ∷ rest) =
    let parts : of (resolved_at f ++ resolved rest) ≡ of (resolved_at f) ++ of (resolved rest) = map-append (λ (r : Resolved). r.«use») (resolved_at f) (resolved rest) in
    ap (map (leveled_use [])) parts
    ∙ (map-append (leveled_use []) (of (resolved_at f)) (of (resolved rest))
    ∙ ((λ i. plain-at f i ++ plain-all rest i) ∙ sym parts))

plain-unless : (faults : List Diagnostic) (uses : List Use) → map (leveled_use []) uses ≡ uses → map (leveled_use []) (unless_any faults uses) ≡ unless_any faults uses
plain-unless [] uses same = same
plain-unless (fault ∷ faults) uses same = refl

-- the uses of names in a module have no levels of their own
pub plain-uses : (given : List ℕ → ImportStatus) (source : List ℕ) (units : ModuleUnits) → map (leveled_use []) (all_uses given source units) ≡ all_uses given source units
plain-uses given source units = plain-unless (import_faults given source units) (of (resolved (findings (files_given given) source units))) (plain-all (findings (files_given given) source units))

-- where there are faults no levels are found
pub unleveled : (given : List ℕ → Status) (source : List ℕ) (units : ModuleUnits) (all : List Diagnostic) (fault : Diagnostic) (rest : List Diagnostic) → in_order all ≡ fault ∷ rest → levels_by given source units all ≡ []
unleveled given source units [] fault rest some = cc
unleveled given source units (one ∷ all) fault rest some = refl
