-- Faces over imports, all of whose instances their exports reach.
use Rattle.std.proofs.Common.{◌≡◌, ℕ, ◌+◌, ◌<◌, ◌≤◌, Bool, true, false, List, Some, is_some, length, refl, ap, sym, subst, ◌∙◌, arith}
use Rattle.std.specs.Prelude.{Contains, nat_eq, slice_get}
use Rattle.std.specs.Str.{bytes_eq}
use Rattle.std.proofs.lemmas.Bool.Decides.{nat_tests}
use Rattle.std.proofs.lemmas.Option.{slice_get-get_or}
use Rattle.list_laws.proofs.Options.{some-there}
use Rattle.tla_model.specs.declared.ids.DeclId.{DeclId}
use Rattle.tla_model.specs.Entities.{same_decl}
use Rattle.tla_model.specs.Tables.{lookup}
use Rattle.module_model.specs.Exports.{Exports, Instances, exports_of, face_exports, face_instances, instantiable, standing}
use Rattle.module_model.specs.Given.{AreFaces, ComesFrom, IsFaceOver, Reached, Text, imported}
use Rattle.module_model.specs.Imports.{Imports}
use Rattle.module_model.specs.Parts.{reached}
use Rattle.module_model.specs.declared.face.Face.{Face}
use Rattle.exact_faces.specs.Exact.{Behind, First, IsExact, IsExactOf, IsReached}
use Rattle.exact_faces.specs.Found.{AreFound, Tables, told}
use Rattle.exact_faces.specs.Importing.{AreExactImports, AreNames, IsImportReached}
use Rattle.exact_faces.specs.Kept.{AreOwnFound, AreReachedAll}
use Rattle.exact_faces.proofs.Searching.{reached-more}
use Rattle.exact_faces.proofs.Tables.{told-table}

-- ---- the imports of names

-- those of the first so many names are reached
abbrev pub AreFirstReached : Instances → Imports → List (List ℕ) → ℕ → Type 0
AreFirstReached found imports names count = (index : ℕ) (name : List ℕ) → index < count → slice_get names index ≡ Some name → IsImportReached found imports name

pub first-next : (found : Instances) (imports : Imports) (names : List (List ℕ)) (count : ℕ) (name : List ℕ) → slice_get names count ≡ Some name → IsImportReached found imports name → AreFirstReached found imports names count → AreFirstReached found imports names (count + 1)
first-next found imports names count name at here before index other within is = by (nat_eq index count) refl
  where
    some-same : (a b : List ℕ) → Some a ≡ Some b → a ≡ b
    some-same a b e = cc

    by : (b : Bool) → nat_eq index count ≡ b → IsImportReached found imports other
    by true same =
        let equal : index ≡ count = grind (arith, nat_tests, same) in
        subst (IsImportReached found imports) (some-same name other (sym at ∙ ap (slice_get names) (sym equal) ∙ is)) here
    by false apart = before index other (grind (arith, nat_tests, apart, within)) is

pub first-all : (found : Instances) (imports : Imports) (names : List (List ℕ)) (count : ℕ) → length names ≤ count → AreFirstReached found imports names count → (name : List ℕ) → Contains names name → IsImportReached found imports name
first-all found imports names count end first name (index, within, is) = first index name (omega (arith, within, end)) (slice_get-get_or names index name within ∙ ap (λ n. Some n) is)

-- ---- a face over imports

module _ (face : Face) (imports : Imports) (names : List (List ℕ)) (found : Tables) (over : IsFaceOver imports face.«module» face) (faces : AreFaces imports face.«module») (exact : AreExactImports imports) (all : AreNames names imports)
    (known : AreFound face (told found))
    (own : AreOwnFound found face.«module» face.parts)
    (roots : (name : List ℕ) → Contains names name → IsImportReached (told found) imports name) where
  abbrev IsIn : DeclId → Type 0
  IsIn decl = IsReached (face_instances face) (face_exports face) decl

  -- what is found is reached
  found-in : (decl : DeclId) (entries : Exports) → told found decl ≡ Some entries → IsIn decl
  found-in decl entries is = reached-more (told found) (face_instances face) (face_exports face) known.stands decl (known.reached decl entries is)

  -- what is reached is there
  there : (decl : DeclId) → IsIn decl → is_some (face_instances face decl) ≡ true
  there decl (First named) = subst (λ d. is_some (face_instances face d) ≡ true) named.is (over.whole.exports named.name named.entity named.callee named.found named.leads)
  there decl (Behind {from = from} behind before is named) = subst (λ d. is_some (face_instances face d) ≡ true) named.is (over.whole.behind from behind is named.name named.entity named.callee named.found named.leads)

  module _ (name : List ℕ) (import : Face) (at : imported imports name ≡ Some import) where
    -- behind an instance of an import stands in the face what stands there in that of the import
    same-behind : (decl : DeclId) (behind : Exports) → face_instances import decl ≡ Some behind → IsIn decl → face_instances face decl ≡ Some behind
    same-behind decl behind is before =
        let some = some-there (face_instances face decl) (there decl before) in
        by some.0 some.1 (over.from decl some.0 some.1)
      where
        by : (entries : Exports) → face_instances face decl ≡ Some entries → ComesFrom imports face.«module» decl entries → face_instances face decl ≡ Some behind
        by entries stands (Text mine) = let never : true ≡ false = sym mine ∙ faces.foreign name import at decl behind is in absurd (cc never)
        by entries stands (Reached other two from has) = stands ∙ ap (λ (es : Exports). Some es) (faces.agree other name two import from at decl entries behind has is)

    import-in : (decl : DeclId) → IsReached (face_instances import) (face_exports import) decl → IsIn decl
    import-in decl (First named) =
        let some = some-there (told found named.callee.decl) (roots name (all name import at) import at named.name named.entity named.callee named.found named.leads) in
        subst IsIn named.is (found-in named.callee.decl some.0 some.1)
    import-in decl (Behind {from = from} behind before is named) =
        let first = import-in from before in
        Behind {from = from} behind first (same-behind from behind is first) named

  own-in : (decl : DeclId) (entries : Exports) → face_instances face decl ≡ Some entries → bytes_eq decl.«module» face.«module» ≡ true → IsIn decl
  own-in decl entries is mine =
      let there = told-table (reached face.parts decl) entries is in
      let one = some-there (lookup same_decl found decl) (own decl mine (ap is_some there.1)) in
      found-in decl (exports_of one.0) (ap standing one.1)

  all-in : (decl : DeclId) (entries : Exports) → face_instances face decl ≡ Some entries → ComesFrom imports face.«module» decl entries → IsIn decl
  all-in decl entries is (Text mine) = own-in decl entries is mine
  all-in decl entries is (Reached name import at has) = import-in name import at decl ((exact name import at).reached decl entries has)

  others-plain : (decl : DeclId) (entries : Exports) → bytes_eq decl.«module» face.«module» ≡ false → ComesFrom imports face.«module» decl entries → instantiable entries ≡ entries
  others-plain decl entries apart (Text mine) = let never : true ≡ false = sym mine ∙ apart in absurd (cc never)
  others-plain decl entries apart (Reached name import at has) = (exact name import at).behind decl entries has

  pub reached-all : AreReachedAll face found
  reached-all = record {
    reached = λ decl entries is. all-in decl entries is (over.from decl entries is);
    own = own;
    others = λ decl entries apart is. others-plain decl entries apart (over.from decl entries is);
  }

-- a face that is exact is so of itself
pub exact-itself : (imports : Imports) (face : Face) → IsFaceOver imports face.«module» face → IsExact face → IsExactOf face face
exact-itself imports face over exact = record {
  exact = exact;
  whole = over.whole;
  named = refl;
  outside = refl;
  from = λ decl entries is. record { exported = entries; stands = is; is = sym (exact.behind decl entries is) };
}
