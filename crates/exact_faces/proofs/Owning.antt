-- The instances of a module's own text, among those of its face.
use Rattle.std.proofs.Common.{◌≡◌, ℕ, Bool, true, false, cond, List, [], ◌∷◌, Option, Some, None, is_some, refl, ap, inl, inr, sym, subst, ◌∙◌}
use Rattle.std.specs.Prelude.{option_map}
use Rattle.std.specs.Arc.{arc_value}
use Rattle.std.specs.Option.{option_or}
use Rattle.std.specs.Str.{bytes_eq}
use Rattle.list_laws.proofs.Options.{some-there}
use Rattle.list_laws.proofs.Texts.{same-text}
use Rattle.tla_model.specs.declared.ids.DeclId.{DeclId}
use Rattle.tla_model.specs.Entities.{Meaning, same_decl}
use Rattle.tla_model.specs.Tables.{Table, lookup}
use Rattle.module_model.specs.Exports.{Exports, exports_of, face_instances, instantiable, standing}
use Rattle.module_model.specs.Given.{IsWhole}
use Rattle.module_model.specs.Parts.{AreJoined, ByText, InText, in_part, reached}
use Rattle.module_model.specs.declared.face.Face.{Face}
use Rattle.exact_faces.specs.Exact.{IsBehindOf, IsExact, IsExactOf}
use Rattle.exact_faces.specs.Found.{AreFound, Tables, decl_of, told}
use Rattle.exact_faces.specs.Kept.{AreOwnFound, AreOwnKept, AreOwnPlain, AreReachedAll, IsOwnPart, StandIn, kept, kept_of, where_some}
use Rattle.exact_faces.proofs.Exacting.{AreSafe, IsSafe, kept-comes, kept-exact-of, kept-stands}
use Rattle.exact_faces.proofs.Keeping.{table-kept}
use Rattle.exact_faces.proofs.Tables.{told-table}

-- ---- with the others

module _ (found : Tables) (title : List ℕ) (parts : ByText) where
  pub own-joined : (first new : ByText) (part : InText) → StandIn found parts → AreOwnFound found title parts → IsOwnPart found title parts part → AreJoined first [] ((title, part) ∷ []) → AreJoined new first parts → AreOwnKept found title parts new
  own-joined first new part stand own is put joined decl =
      joined decl
      ∙ ap (λ (z : Option (Table Meaning)). option_or z (reached parts decl)) (put decl)
      ∙ by (bytes_eq decl.«module» title) refl
    where
      settle : bytes_eq decl.«module» title ≡ true → (was here : Option (Table Meaning)) → reached parts decl ≡ was → lookup same_decl found decl ≡ here → option_or (where_some was (option_map kept here)) was ≡ option_map kept here
      settle mine None None there at = refl
      settle mine None (Some table) there at = let wrong : None ≡ Some table = sym there ∙ stand decl table at in cc
      settle mine (Some table) None there at = let wrong : false ≡ true = ap is_some (sym at) ∙ own decl mine (ap is_some there) in absurd (cc wrong)
      settle mine (Some table) (Some one) there at = refl

      by : (b : Bool) → bytes_eq decl.«module» title ≡ b → option_or (in_part (cond b (Some part) None) decl.place) (reached parts decl) ≡ cond b (kept_of found decl) (reached parts decl)
      by true mine =
          let mine_is : in_part (Some part) decl.place ≡ where_some (reached parts decl) (kept_of found decl) =
          is decl.place ∙ ap (λ (name : List ℕ). where_some (reached parts (decl_of name decl.place)) (kept_of found (decl_of name decl.place))) (sym (same-text decl.«module» title mine)) in
          ap (λ (z : Option (Table Meaning)). option_or z (reached parts decl)) mine_is
          ∙ settle mine (reached parts decl) (lookup same_decl found decl) refl refl
      by false apart = refl

-- ---- a face all of whose instances are reached

module _ (face : Face) (found : Tables) (known : AreFound face (told found)) (all : AreReachedAll face found) where
  -- what is found of an instance of the text
  own-table : (decl : DeclId) (entries : Exports) → bytes_eq decl.«module» face.«module» ≡ true → face_instances face decl ≡ Some entries → (table : Table Meaning) × (lookup same_decl found decl ≡ Some table) × (exports_of table ≡ entries)
  own-table decl entries mine is =
      let there = told-table (reached face.parts decl) entries is in
      let one = some-there (lookup same_decl found decl) (all.own decl mine (ap is_some there.1)) in
      (one.0, one.1, some-same (exports_of one.0) entries (sym (known.stands decl (exports_of one.0) (ap standing one.1)) ∙ is))
    where
      some-same : (a b : Exports) → Some a ≡ Some b → a ≡ b
      some-same a b e = cc

  -- it is exact where all is kept of the instances of its text
  pub plain-exact : AreOwnPlain found face.«module» face.parts → IsExact face
  plain-exact own = record { reached = all.reached; behind = λ decl entries is. by decl entries is (bytes_eq decl.«module» face.«module») refl }
    where
      table-same : (a b : Table Meaning) → Some a ≡ Some b → a ≡ b
      table-same a b e = cc

      by : (decl : DeclId) (entries : Exports) → face_instances face decl ≡ Some entries → (b : Bool) → bytes_eq decl.«module» face.«module» ≡ b → instantiable entries ≡ entries
      by decl entries is true mine =
          let there = told-table (reached face.parts decl) entries is in
          let one = own-table decl entries mine is in
          let plain = own decl mine (ap is_some there.1) in
          let same : plain.table ≡ one.0 = table-same plain.table one.0 (sym plain.stands ∙ one.1) in
          let whole : instantiable (exports_of plain.table) ≡ exports_of plain.table = sym (table-kept plain.table) ∙ ap exports_of plain.whole in
          subst (λ (es : Exports). instantiable es ≡ es) (ap exports_of same ∙ one.2) whole
      by decl entries is false apart = all.others decl entries apart is

  all-safe : (decl : DeclId) (entries : Exports) → face_instances face decl ≡ Some entries → IsSafe entries
  all-safe decl entries is = by (bytes_eq decl.«module» face.«module») refl
    where
      by : (b : Bool) → bytes_eq decl.«module» face.«module» ≡ b → IsSafe entries
      by true mine =
          let one = own-table decl entries mine is in
          inl (known.once decl entries (ap standing one.1 ∙ ap Some one.2))
      by false apart = inr (all.others decl entries apart is)

  safe : AreSafe face (face_instances face)
  safe = record { stands = λ decl entries is. is; reached = all.reached; safe = all-safe }

  module _ (made : Face) (parts : AreOwnKept found face.«module» face.parts made.parts) where
    keeps : (decl : DeclId) (was : Exports) → face_instances face decl ≡ Some was → face_instances made decl ≡ Some (instantiable was)
    keeps decl was is = by (bytes_eq decl.«module» face.«module») refl (parts decl)
      where
        by : (b : Bool) → bytes_eq decl.«module» face.«module» ≡ b → reached made.parts decl ≡ cond b (kept_of found decl) (reached face.parts decl) → face_instances made decl ≡ Some (instantiable was)
        by true mine new =
            let one = own-table decl was mine is in
            kept-stands (reached made.parts decl) (lookup same_decl found decl) was new (ap standing one.1 ∙ ap Some one.2)
        by false apart new = ap standing new ∙ is ∙ ap Some (sym (all.others decl was apart is))

    comes : (decl : DeclId) (entries : Exports) → face_instances made decl ≡ Some entries → IsBehindOf (face_instances face decl) entries
    comes decl entries is = by (bytes_eq decl.«module» face.«module») refl (parts decl)
      where
        by : (b : Bool) → bytes_eq decl.«module» face.«module» ≡ b → reached made.parts decl ≡ cond b (kept_of found decl) (reached face.parts decl) → IsBehindOf (face_instances face decl) entries
        by true mine new =
            let from = kept-comes (reached made.parts decl) (lookup same_decl found decl) entries new is in
            record { exported = from.exported; stands = known.stands decl from.exported from.stands; is = from.is }
        by false apart new =
            let was : face_instances face decl ≡ Some entries = sym (ap standing new) ∙ is in
            record { exported = entries; stands = was; is = sym (all.others decl entries apart was) }

    -- it is so for one of which what is kept of the instances of its text stands in their places
    pub own-exact-of : IsWhole face → arc_value made.exports ≡ arc_value face.exports → made.«module» ≡ face.«module» → IsExactOf face made
    own-exact-of whole tables named = kept-exact-of face made (face_instances face) safe (record { exports = whole.exports; behind = whole.behind }) keeps comes tables named
