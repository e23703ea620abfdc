-- Faces of which all is kept that their exports reach, and nothing else.
use Rattle.std.proofs.Common.{◌≡◌, ◌⊎◌, ⊎_elim, Bool, true, false, cond, filter, List, [], ◌∷◌, Option, Some, None, is_some, refl, ap, inl, inr, sym, subst, ◌∙◌}
use Rattle.std.specs.Prelude.{option_map, unwrap_or}
use Rattle.std.specs.Arc.{arc_value}
use mathlib.Core.Path.{fun_ext}
use Rattle.list_laws.proofs.Options.{some-there}
use Rattle.tla_model.specs.declared.entity.Entity.TheVariants as entities
use Rattle.tla_model.specs.declared.ids.Callee.{Callee}
use Rattle.tla_model.specs.declared.ids.DeclId.{DeclId}
use Rattle.tla_model.specs.declared.names.Meaning.TheVariants.{BuiltIn, Declared}
use Rattle.tla_model.specs.Entities.{Entity, Meaning, same_decl}
use Rattle.tla_model.specs.EntityKinds.{is_instance, is_meant, stands_behind}
use Rattle.tla_model.specs.Tables.{Named, Table, lookup}
use Rattle.module_model.specs.Exports.{Exports, Instances, Path, behind_along, entries_along, entry_of, exports_of}
use Rattle.module_model.specs.Exports.{face_exports, face_instances, face_outside, found_behind, instantiable, parameters_in, standing}
use Rattle.module_model.specs.Given.{AreReached, IsWhole}
use Rattle.module_model.specs.Parts.{reached}
use Rattle.module_model.specs.declared.face.Face.{Face}
use Rattle.face_views.proofs.Exporting.{standing-told}
use Rattle.exact_faces.specs.Exact.{Behind, First, IsBehindOf, IsExact, IsExactOf, IsNamed, IsReached}
use Rattle.exact_faces.specs.Found.{AreAllFound, AreFound, AreOnce, Tables, told}
use Rattle.exact_faces.specs.Kept.{AreKept, StandIn, kept}
use Rattle.exact_faces.proofs.Keeping.{table-kept}
use Rattle.exact_faces.proofs.Named.{kept-found, passed-found}
use Rattle.exact_faces.proofs.Tables.{told-table}

-- ---- what is kept of entries

-- an instance can be named behind another one
instance-behind : (entity : Entity) → is_instance entity ≡ true → stands_behind entity ≡ true
instance-behind (entities.Constant arity) leads = cc
instance-behind entities.Variable leads = cc
instance-behind (entities.Definition orders) leads = refl
instance-behind (entities.Instance orders) leads = refl
instance-behind (entities.Parameter arity) leads = cc
instance-behind (entities.Bound state) leads = cc
instance-behind entities.Module leads = cc

filter-twice : {A : Type 0} (keep : A → Bool) (xs : List A) → filter keep (filter keep xs) ≡ filter keep xs
filter-twice keep [] = refl
filter-twice keep (x ∷ xs) = by (keep x) refl (filter-twice keep xs)
  where
    by : (b : Bool) → keep x ≡ b → filter keep (filter keep xs) ≡ filter keep xs → filter keep (cond b (x ∷ filter keep xs) (filter keep xs)) ≡ cond b (x ∷ filter keep xs) (filter keep xs)
    by true is rest = ap (λ (b : Bool). cond b (x ∷ filter keep (filter keep xs)) (filter keep (filter keep xs))) is ∙ ap (λ z. x ∷ z) rest
    by false is rest = rest

-- what is kept of what is kept is the same
kept-twice : (entries : Exports) → instantiable (instantiable entries) ≡ instantiable entries
kept-twice entries = filter-twice (λ (entry : Named × Meaning). is_meant stands_behind entry.1) entries

-- an instance that is named is named among those that are kept
named-kept : (entries : Exports) (decl : DeclId) → IsNamed entries decl → IsNamed (instantiable entries) decl
named-kept entries decl named = record {
  name = named.name;
  entity = named.entity;
  callee = named.callee;
  found = passed-found (is_meant stands_behind) entries named.name (Declared named.entity named.callee) named.found (instance-behind named.entity named.leads);
  leads = named.leads;
  is = named.is;
}

-- no name stands twice among entries, or all of them are kept
abbrev pub IsSafe : Exports → Type 0
IsSafe entries = AreOnce entries ⊎ (instantiable entries ≡ entries)

-- then what is found among those that are kept is found among all
safe-found : (entries : Exports) (name : Named) (meaning : Meaning) → IsSafe entries → entry_of (instantiable entries) name ≡ Some meaning → entry_of entries name ≡ Some meaning
safe-found entries name meaning safe found = ⊎_elim
    (λ (once : AreOnce entries). kept-found entries name meaning once found)
    (λ (plain : instantiable entries ≡ entries). ap (λ (z : Exports). entry_of z name) (sym plain) ∙ found)
    safe

-- among those that are kept a name means what it means among all, or nothing
kept-or-none : (entries : Exports) (name : Named) → IsSafe entries → (entry_of (instantiable entries) name ≡ None) ⊎ (entry_of (instantiable entries) name ≡ entry_of entries name)
kept-or-none entries name safe = by (entry_of (instantiable entries) name) refl
  where
    by : (found : Option Meaning) → entry_of (instantiable entries) name ≡ found → (entry_of (instantiable entries) name ≡ None) ⊎ (entry_of (instantiable entries) name ≡ entry_of entries name)
    by None is = inl is
    by (Some meaning) is = inr (is ∙ sym (safe-found entries name meaning safe is))

-- ---- instances of which that is kept

-- instances of a face which its exports reach; of what their modules export names can be kept
pub record AreSafe (face : Face) (found : Instances) : Type 0 where
  pub stands : (decl : DeclId) (entries : Exports) → found decl ≡ Some entries → face_instances face decl ≡ Some entries
  pub reached : (decl : DeclId) (entries : Exports) → found decl ≡ Some entries → IsReached found (face_exports face) decl
  pub safe : (decl : DeclId) (entries : Exports) → found decl ≡ Some entries → IsSafe entries

module _ (face : Face) (found new : Instances) (known : AreSafe face found) (all : AreAllFound face found)
    (keeps : (decl : DeclId) (was : Exports) → found decl ≡ Some was → new decl ≡ Some (instantiable was))
    (comes : (decl : DeclId) (entries : Exports) → new decl ≡ Some entries → IsBehindOf (found decl) entries) where
  still : (decl : DeclId) → is_some (found decl) ≡ true → is_some (new decl) ≡ true
  still decl some = let there = some-there (found decl) some in ap is_some (keeps decl there.0 there.1)

  reached-kept : (entries : Exports) (decl : DeclId) → IsReached found entries decl → IsReached new entries decl
  reached-kept entries decl (First named) = First named
  reached-kept entries decl (Behind {from = from} behind reached is named) = Behind {from = from} (instantiable behind) (reached-kept entries from reached) (keeps from behind is) (named-kept behind decl named)

  pub made-reached : (decl : DeclId) (entries : Exports) → new decl ≡ Some entries → IsReached new (face_exports face) decl
  made-reached decl entries is = let from = comes decl entries is in reached-kept (face_exports face) decl (known.reached decl from.exported from.stands)

  pub made-plain : (decl : DeclId) (entries : Exports) → new decl ≡ Some entries → instantiable entries ≡ entries
  made-plain decl entries is = let from = comes decl entries is in ap (λ (z : Exports). instantiable z) from.is ∙ kept-twice from.exported ∙ sym from.is

  pub made-roots : AreReached new (face_exports face)
  made-roots name entity callee is leads = still callee.decl (all.exports name entity callee is leads)

  pub made-behind : (decl : DeclId) (entries : Exports) → new decl ≡ Some entries → AreReached new entries
  made-behind decl entries is name entity callee named leads =
      let from = comes decl entries is in
      still callee.decl (all.behind decl from.exported from.stands name entity callee
      (safe-found from.exported name (Declared entity callee) (known.safe decl from.exported from.stands) (ap (λ (z : Exports). entry_of z name) (sym from.is) ∙ named)) leads)

  pub made-from : (decl : DeclId) (entries : Exports) → new decl ≡ Some entries → IsBehindOf (face_instances face decl) entries
  made-from decl entries is =
      let from = comes decl entries is in
      record { exported = from.exported; stands = known.stands decl from.exported from.stands; is = from.is }

  -- these are kept of others, whose instances are found
  record AreKeptOf (entries was : Exports) : Type 0 where
    is : entries ≡ instantiable was
    safe : IsSafe was
    inside : AreReached found was

  no-entries : AreKeptOf [] []
  no-entries = record { is = refl; safe = inr refl; inside = λ name entity callee is leads. nothing name entity callee is }
    where
      nothing : (name : Named) (entity : Entity) (callee : Callee) → entry_of [] name ≡ Some (Declared entity callee) → is_some (found callee.decl) ≡ true
      nothing name entity callee is = cc

  -- what stands behind a meaning is kept of what stood there
  meaning-kept : (meaning : Option Meaning) → ((entity : Entity) (callee : Callee) → meaning ≡ Some (Declared entity callee) → is_instance entity ≡ true → is_some (found callee.decl) ≡ true) →
      AreKeptOf (found_behind new meaning) (found_behind (face_instances face) meaning)
  meaning-kept None leads = no-entries
  meaning-kept (Some BuiltIn) leads = no-entries
  meaning-kept (Some (Declared entity callee)) leads = by (is_instance entity) refl
    where
      there : is_instance entity ≡ true → AreKeptOf (unwrap_or (new callee.decl) []) (unwrap_or (face_instances face callee.decl) [])
      there instance =
          let one = some-there (found callee.decl) (leads entity callee refl instance) in
          let mine : unwrap_or (new callee.decl) [] ≡ instantiable one.0 = ap (λ (z : Option Exports). unwrap_or z []) (keeps callee.decl one.0 one.1) in
          let was : unwrap_or (face_instances face callee.decl) [] ≡ one.0 = ap (λ (z : Option Exports). unwrap_or z []) (known.stands callee.decl one.0 one.1) in
          record {
            is = mine ∙ ap (λ (z : Exports). instantiable z) (sym was);
            safe = subst IsSafe (sym was) (known.safe callee.decl one.0 one.1);
            inside = subst (AreReached found) (sym was) (all.behind callee.decl one.0 one.1);
          }

      by : (b : Bool) → is_instance entity ≡ b → AreKeptOf (cond b (unwrap_or (new callee.decl) []) []) (cond b (unwrap_or (face_instances face callee.decl) []) [])
      by true instance = there instance
      by false other = no-entries

  -- behind a name that nothing of what is kept has, nothing stood
  none-behind : (was : Exports) (name : Named) → entry_of (instantiable was) name ≡ None → (meaning : Option Meaning) → entry_of was name ≡ meaning → found_behind (face_instances face) meaning ≡ []
  none-behind was name none None is = refl
  none-behind was name none (Some BuiltIn) is = refl
  none-behind was name none (Some (Declared entity callee)) is = by (is_instance entity) refl
    where
      by : (b : Bool) → is_instance entity ≡ b → cond b (unwrap_or (face_instances face callee.decl) []) [] ≡ []
      by true instance =
          let there : entry_of (instantiable was) name ≡ Some (Declared entity callee) = passed-found (is_meant stands_behind) was name (Declared entity callee) is (instance-behind entity instance) in
          let wrong : None ≡ Some (Declared entity callee) = sym none ∙ there in cc
      by false other = refl

  next-kept : (was : Exports) (name : Named) → IsSafe was → AreReached found was → AreKeptOf (found_behind new (entry_of (instantiable was) name)) (found_behind (face_instances face) (entry_of was name))
  next-kept was name safe inside = ⊎_elim
      (λ (none : entry_of (instantiable was) name ≡ None).
      let mine : found_behind new (entry_of (instantiable was) name) ≡ [] = ap (found_behind new) none in
      let others : found_behind (face_instances face) (entry_of was name) ≡ [] = none-behind was name none (entry_of was name) refl in
      subst (λ z. AreKeptOf z (found_behind (face_instances face) (entry_of was name))) (sym mine) (subst (AreKeptOf []) (sym others) no-entries))
      (λ (same : entry_of (instantiable was) name ≡ entry_of was name).
      subst (λ z. AreKeptOf (found_behind new z) (found_behind (face_instances face) (entry_of was name))) (sym same)
      (meaning-kept (entry_of was name) (λ entity callee is leads. inside name entity callee is leads)))
      (kept-or-none was name safe)

  behind-kept : (path : Path) (entries was : Exports) → AreKeptOf entries was → behind_along new entries path ≡ behind_along (face_instances face) was path
  behind-kept [] entries was of = ap (λ (z : Exports). instantiable z) of.is ∙ kept-twice was
  behind-kept (name ∷ path) entries was of =
      ap (λ (z : Exports). behind_along new (found_behind new (entry_of z name)) path) of.is
      ∙ behind-kept path (found_behind new (entry_of (instantiable was) name)) (found_behind (face_instances face) (entry_of was name)) (next-kept was name of.safe of.inside)

  -- at each path stands what stood there
  pub made-along : (path : Path) → entries_along new (face_exports face) path ≡ entries_along (face_instances face) (face_exports face) path
  made-along [] = refl
  made-along (name ∷ path) =
      let meaning = entry_of (face_exports face) name in
      behind-kept path (found_behind new meaning) (found_behind (face_instances face) meaning) (meaning-kept meaning (λ entity callee is leads. all.exports name entity callee is leads))

-- ---- a face of these

module _ (face made : Face) (found : Instances) (known : AreSafe face found) (all : AreAllFound face found)
    (keeps : (decl : DeclId) (was : Exports) → found decl ≡ Some was → face_instances made decl ≡ Some (instantiable was))
    (comes : (decl : DeclId) (entries : Exports) → face_instances made decl ≡ Some entries → IsBehindOf (found decl) entries)
    (tables : arc_value made.exports ≡ arc_value face.exports) where
  same-exports : face_exports made ≡ face_exports face
  same-exports = ap (λ (table : Table Meaning). exports_of table) tables

  made-exact : IsExact made
  made-exact = record {
    reached = λ decl entries is. subst (λ z. IsReached (face_instances made) z decl) (sym same-exports) (made-reached face found (face_instances made) known all keeps comes decl entries is);
    behind = made-plain face found (face_instances made) known all keeps comes;
  }

  made-whole : IsWhole made
  made-whole = record {
    exports = subst (AreReached (face_instances made)) (sym same-exports) (made-roots face found (face_instances made) known all keeps comes);
    behind = made-behind face found (face_instances made) known all keeps comes;
  }

  made-outside : face_outside made ≡ face_outside face
  made-outside =
      let along = fun_ext (λ path. ap (λ (z : Exports). entries_along (face_instances made) z path) same-exports ∙ made-along face found (face_instances made) known all keeps comes path) in
      λ i. record { entries = along i; parameters = parameters_in (same-exports i) }

  pub kept-exact-of : made.«module» ≡ face.«module» → IsExactOf face made
  kept-exact-of named = record { exact = made-exact; whole = made-whole; named = named; outside = made-outside; from = made-from face found (face_instances made) known all keeps comes }

-- ---- what is kept of what is found

pub stand-in : (face : Face) (found : Tables) → AreFound face (told found) → StandIn found face.parts
stand-in face found known decl table is = standing-told (reached face.parts decl) (Some table) (known.stands decl (exports_of table) (ap standing is))

-- what is found is so, for no name stands twice there
found-safe : (face : Face) (found : Instances) → AreFound face found → AreSafe face found
found-safe face found known = record { stands = known.stands; reached = known.reached; safe = λ decl entries is. inl (known.once decl entries is) }

-- what is kept of a table that stands at an instance
pub kept-stands : (new was : Option (Table Meaning)) (entries : Exports) → new ≡ option_map kept was → standing was ≡ Some entries → standing new ≡ Some (instantiable entries)
kept-stands new was entries is told =
    let there = told-table was entries told in
    ap standing (is ∙ ap (option_map kept) there.1) ∙ ap Some (table-kept there.0 ∙ ap (λ (z : Exports). instantiable z) there.2)

-- it comes from what stood there
pub kept-comes : (new was : Option (Table Meaning)) (entries : Exports) → new ≡ option_map kept was → standing new ≡ Some entries → IsBehindOf (standing was) entries
kept-comes new was entries is told = by was (sym (ap standing is) ∙ told)
  where
    some-same : (a b : Exports) → Some a ≡ Some b → a ≡ b
    some-same a b e = cc

    by : (table : Option (Table Meaning)) → standing (option_map kept table) ≡ Some entries → IsBehindOf (standing table) entries
    by None there = cc
    by (Some table) there = record { exported = exports_of table; stands = refl; is = sym (some-same (exports_of (kept table)) entries there) ∙ table-kept table }

module _ (face made : Face) (found : Tables) (known : AreFound face (told found)) (all : AreAllFound face (told found)) (parts : AreKept found made.parts) (tables : arc_value made.exports ≡ arc_value face.exports) where
  keeps : (decl : DeclId) (was : Exports) → told found decl ≡ Some was → face_instances made decl ≡ Some (instantiable was)
  keeps decl was is = kept-stands (reached made.parts decl) (lookup same_decl found decl) was (parts decl) is

  comes : (decl : DeclId) (entries : Exports) → face_instances made decl ≡ Some entries → IsBehindOf (told found decl) entries
  comes decl entries is = kept-comes (reached made.parts decl) (lookup same_decl found decl) entries (parts decl) is

  pub made-exact-of : made.«module» ≡ face.«module» → IsExactOf face made
  made-exact-of named = kept-exact-of face made (told found) (found-safe face (told found) known) all keeps comes tables named
