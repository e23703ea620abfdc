-- What is found of a module stands in its text.
use Rattle.std.proofs.Common.{◌≡◌, ℕ, Bool, true, false, cond, List, [], ◌∷◌, Option, Some, None, refl, sym, subst, filter, length, nat_eq}
use Rattle.std.specs.Prelude.{option_map}
use Rattle.std.specs.List.{All, find}
use Rattle.std.specs.Option.{option_or}
use Rattle.std.specs.Str.{IsUtf8, bytes_eq}
use Rattle.std.proofs.lemmas.List.Elements.{All-filter, All-head, All-map, All-tail}
use Rattle.tla_symbols.specs.declared.lexeme.Span.{Span}
use Rattle.tla_model.specs.declared.entity.Decl.{Decl}
use Rattle.tla_model.specs.declared.entity.Use.{Use}
use Rattle.tla_model.specs.declared.ids.DeclId.{DeclId}
use Rattle.tla_model.specs.Entities.{same_decl}
use Rattle.server_locations.specs.Locations.{Found, declared_at, declared_in, meant_by, module_named, named_at, used_at, used_in}
use Rattle.server_locations.specs.Standing.{HasNamesPlaced, Stands}

-- what holds of all items holds of the one that is found
pub found-holds : {A : Type 0} (P : A → Type 0) (test : A → Bool) (xs : List A) (x : A) → All P xs → find test xs ≡ Some x → P x
found-holds P test [] x all is = cc
found-holds P test (y ∷ ys) x all is = by (test y) is (λ rest. found-holds P test ys x (All-tail P y ys all) rest)
  where
    by : (b : Bool) → cond b (Some y) (find test ys) ≡ Some x → (find test ys ≡ Some x → P x) → P x
    by true same rest = let e : y ≡ x = cc in subst P e (All-head P y ys all)
    by false same rest = rest same

-- where uses mean a declaration, they stand in the text
pub used-stand : (bytes : List ℕ) (uses : List Use) (decl : DeclId) → All (λ u. Stands bytes u.name) uses → All (Stands bytes) (used_in uses decl)
used-stand bytes uses decl all =
    let test : Use → Bool = λ u. same_decl (meant_by u) decl in
    All-map (Stands bytes) (λ (u : Use). u.name) (filter test uses) (All-filter test (λ (u : Use). Stands bytes u.name) uses all)

-- so does the name of a declaration
pub declared-stands : (bytes : List ℕ) (decls : List Decl) (decl : DeclId) (span : Span) → All (λ d. Stands bytes d.name) decls → declared_in decls decl ≡ Some span → Stands bytes span
declared-stands bytes decls decl span all is = by (find (λ d. same_decl d.id decl) decls) refl is
  where
    by : (found : Option Decl) → find (λ d. same_decl d.id decl) decls ≡ found → option_map (λ d. d.name) found ≡ Some span → Stands bytes span
    by None there same = cc
    by (Some d) there same = let e : d.name ≡ span = cc in subst (Stands bytes) e (found-holds (λ (d : Decl). Stands bytes d.name) (λ d. same_decl d.id decl) decls d all there)

-- in bytes that are no text nothing is used or declared
none-used : (bytes : List ℕ) (uses : List Use) (offset : ℕ) → ¬ (IsUtf8 bytes) → All (λ u. Stands bytes u.name) uses → used_at uses offset ≡ None
none-used bytes [] offset none all = refl
none-used bytes (u ∷ uses) offset none all = absurd (none (All-head (λ (u : Use). Stands bytes u.name) u uses all).utf8)

none-declared : (bytes : List ℕ) (decls : List Decl) (offset : ℕ) → ¬ (IsUtf8 bytes) → All (λ d. Stands bytes d.name) decls → declared_at decls offset ≡ None
none-declared bytes [] offset none all = refl
none-declared bytes (d ∷ decls) offset none all = absurd (none (All-head (λ (d : Decl). Stands bytes d.name) d decls all).utf8)

pub nothing-used : (m : Found) (offset : ℕ) → HasNamesPlaced m → ¬ (IsUtf8 m.bytes) → None ≡ used_at m.uses offset
nothing-used m offset placed none = sym (none-used m.bytes m.uses offset none placed.uses)

pub nothing-named : (m : Found) (offset : ℕ) → HasNamesPlaced m → ¬ (IsUtf8 m.bytes) → None ≡ named_at m offset
nothing-named m offset placed none = by (used_at m.uses offset) (none-used m.bytes m.uses offset none placed.uses)
  where
    by : (found : Option DeclId) → found ≡ None → None ≡ option_or found (declared_at m.decls offset)
    by None is = sym (none-declared m.bytes m.decls offset none placed.decls)
    by (Some decl) is = cc

-- a text in which some span stands is UTF-8
pub some-utf8 : (bytes : List ℕ) (spans : List Span) → All (Stands bytes) spans → false ≡ nat_eq (length spans) 0 → IsUtf8 bytes
some-utf8 bytes [] all some = cc
some-utf8 bytes (span ∷ spans) all some = (All-head (Stands bytes) span spans all).utf8

-- the names of a module among others stand where all do
pub module-placed : (found : List Found) (name : List ℕ) (m : Found) → All HasNamesPlaced found → Some m ≡ module_named found name → HasNamesPlaced m
module-placed found name m all is = found-holds HasNamesPlaced (λ m. bytes_eq name m.name) found m all (sym is)
