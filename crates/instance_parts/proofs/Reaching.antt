-- What is gathered of instances leads where instances lead.
use Rattle.std.proofs.Common.{◌≡◌, ◌<◌, ◌≤◌, ℕ, zero, suc, arith, length, Bool, true, false, cond, List, [], ◌∷◌, Option, Some, None, refl, ap, sym, subst, ◌∙◌}
use Rattle.std.specs.Prelude.{is_some, slice_get, unwrap_or}
use Rattle.tla_model.specs.declared.ids.Callee.{Callee}
use Rattle.tla_model.specs.declared.ids.DeclId.{DeclId}
use Rattle.tla_model.specs.declared.names.Meaning.TheVariants.{BuiltIn, Declared}
use Rattle.tla_model.specs.Entities.{Entity, Meaning, same_decl}
use Rattle.tla_model.specs.EntityKinds.{is_instance}
use Rattle.tla_model.specs.Tables.{lookup, same_named}
use Rattle.module_model.specs.declared.face.Face.{Face}
use Rattle.module_model.specs.Exports.{Exports, Instances, Path, at_path, behind_along, behind_meaning, entries_along, entries_from, entry_of, exports_of, face_exports, face_instances, found_behind}
use Rattle.module_model.specs.Given.{AreReached, IsWhole}
use Rattle.module_model.specs.Imports.{Imports}
use Rattle.tree_tasks.specs.declared.held.Held.{Held}
use Rattle.tree_tasks.specs.declared.held.Held.TheVariants.{Nowhere, Imported, Reached, Nested}
use Rattle.instance_leads.specs.declared.ended.Ended.{Ended}
use Rattle.instance_scope.specs.declared.scope.Scope.{Scope}
use Rattle.instance_leads.specs.Found.{AreTold, IsTold as IsSaid}
use Rattle.instance_parts.specs.Gathering.{AreRoots, IsClosed, IsGained, IsRoot, IsTold, exported_at}
use Rattle.instance_leads.specs.Leading.{IsOfImport, IsThere, behind_at, behind_found, exports_shown, leads_on, leads_shown, or_nowhere}
use Rattle.instance_leads.proofs.Faces.{along-nothing}
use Rattle.instance_scope.specs.Scoped.{IsSound, known_of}

-- what is no instance has nothing behind it; what is one has what is told of it
found-by : (told : Instances) (meaning : Option Meaning) (P : Exports → Type 0) → P [] →
    ((entity : Entity) (callee : Callee) → meaning ≡ Some (Declared entity callee) → is_instance entity ≡ true → P (unwrap_or (told callee.decl) [])) → P (found_behind told meaning)
found-by told None P nothing some = nothing
found-by told (Some BuiltIn) P nothing some = nothing
found-by told (Some (Declared entity callee)) P nothing some = by (is_instance entity) refl
  where
    by : (b : Bool) → is_instance entity ≡ b → P (cond b (unwrap_or (told callee.decl) []) [])
    by true is = some entity callee refl is
    by false is = nothing

nowhere-behind : (nested : List Ended) (path : Path) → behind_at nested Nowhere path ≡ []
nowhere-behind nested path = refl

none-within : {A : Type 0} (xs : List A) (number : ℕ) → slice_get xs number ≡ None → number < length xs → ⊥
none-within [] number none within = omega (arith, within)
none-within (x ∷ xs) zero none within = cc
none-within (x ∷ xs) (suc number) none within = none-within xs number none (omega (arith, within))

meaning-along : (told other : Instances) (path : Path) (meaning : Option Meaning) →
    ((entity : Entity) (callee : Callee) → meaning ≡ Some (Declared entity callee) → is_instance entity ≡ true → behind_along told (unwrap_or (told callee.decl) []) path ≡ behind_along other (unwrap_or (other callee.decl) []) path) →
    behind_along told (found_behind told meaning) path ≡ behind_along other (found_behind other meaning) path
meaning-along told other path None same = along-nothing told path ∙ sym (along-nothing other path)
meaning-along told other path (Some BuiltIn) same = along-nothing told path ∙ sym (along-nothing other path)
meaning-along told other path (Some (Declared entity callee)) same = by (is_instance entity) refl
  where
    by : (b : Bool) → is_instance entity ≡ b → behind_along told (cond b (unwrap_or (told callee.decl) []) []) path ≡ behind_along other (cond b (unwrap_or (other callee.decl) []) []) path
    by true is = same entity callee refl is
    by false is = along-nothing told path ∙ sym (along-nothing other path)

-- each instance that some entries name is told of, where a face tells of it
pub told-reached : (told : Instances) (face : Face) → IsTold told face → (entries : Exports) → AreReached (face_instances face) entries → AreReached told entries
told-reached told face all entries reached name entity callee is instance = by (face_instances face callee.decl) refl (reached name entity callee is instance)
  where
    by : (found : Option Exports) → face_instances face callee.decl ≡ found → is_some (face_instances face callee.decl) ≡ true → is_some (told callee.decl) ≡ true
    by None at some = cc
    by (Some entries) at some = ap is_some (all callee.decl entries at)

-- all that a face says is told, so paths lead where they lead in the face
module _ (told : Instances) (face : Face) (whole : IsWhole face) (all : IsTold told face) where
  within-along : (path : Path) (entries : Exports) → AreReached (face_instances face) entries → behind_along told entries path ≡ behind_along (face_instances face) entries path
  within-along [] entries reached = refl
  within-along (name ∷ path) entries reached =
      meaning-along told (face_instances face) path (entry_of entries name)
      (λ entity callee is instance. by (face_instances face callee.decl) refl (reached name entity callee is instance) callee.decl refl (λ x. within-along path x))
    where
      by : (found : Option Exports) {other : DeclId} → face_instances face other ≡ found → is_some (face_instances face other) ≡ true → (decl : DeclId) → decl ≡ other →
          ((x : Exports) → AreReached (face_instances face) x → behind_along told x path ≡ behind_along (face_instances face) x path) →
          behind_along told (unwrap_or (told decl) []) path ≡ behind_along (face_instances face) (unwrap_or (face_instances face decl) []) path
      by None is there decl same rest = cc
      by (Some x) is there decl same rest =
          let here : face_instances face decl ≡ Some x = ap (face_instances face) same ∙ is in
          ap (λ z. behind_along told (unwrap_or z []) path) (all decl x here) ∙ rest x (whole.behind decl x here) ∙ ap (λ z. behind_along (face_instances face) (unwrap_or z []) path) (sym here)

-- what is said of all instances among entries is said of those that are found there
all-reached : {A : Type 0} (said : DeclId → Option A) (entries : Exports) → AreTold said entries → AreReached said entries
all-reached said [] told name entity callee is instance = cc
all-reached said (entry ∷ entries) told name entity callee is instance = by (same_named name entry.0) is (all-reached said entries told.1 name entity callee)
  where
    meant : (a b : Meaning) → Some a ≡ Some b → a ≡ b
    meant a b e = cc

    by : (b : Bool) → cond b (Some entry.1) (entry_of entries name) ≡ Some (Declared entity callee) → (entry_of entries name ≡ Some (Declared entity callee) → is_instance entity ≡ true → is_some (said callee.decl) ≡ true) → is_some (said callee.decl) ≡ true
    by true is rest = subst (IsSaid said) (meant entry.1 (Declared entity callee) is) told.0 instance
    by false is rest = rest is instance

-- a place that is there stays so
pub there-more : (imports : Imports) (count more : ℕ) (held : Held) → count ≤ more → IsThere imports count held → IsThere imports more held
there-more imports count more Nowhere within there = tt
there-more imports count more (Imported face) within there = there
there-more imports count more (Reached face exports) within there = there
there-more imports count more (Nested number) within there = omega (arith, within, there)

-- what was gathered, all of whose seen modules are done
pub record AreDone (scope : Scope) (told : Instances) (seen : List Bool) : Type 0 where
  pub each : (number : ℕ) (ended : Ended) → slice_get scope.nested.items number ≡ Some ended → slice_get seen number ≡ Some true → (decl : DeclId) (held : Held) → lookup same_decl ended.instances decl ≡ Some held → IsGained scope.nested.items told seen decl held

module _ (scope : Scope) (sound : IsSound scope) (told : Instances) (seen : List Bool) (done : AreDone scope told seen) where
  abbrev nested : List Ended
  nested = scope.nested.items

  whole-of : (face : Face) → IsOfImport scope.imported.now face → IsWhole face
  whole-of face of = sound.faces.whole of.name face of.is

  -- a number below that of all nested modules is that of one
  ended-at : (xs : List Ended) (number : ℕ) → number < length xs → (P : Type 0) → ((ended : Ended) → slice_get xs number ≡ Some ended → P) → P
  ended-at xs number within P with_ = by (slice_get xs number) refl
    where
      by : (found : Option Ended) → slice_get xs number ≡ found → P
      by None is = absurd (none-within xs number is within)
      by (Some ended) is = with_ ended is

  held-along : (path : Path) (held : Held) → IsThere scope.imported.now (length nested) held → IsClosed told seen held → behind_along told (exported_at nested held) path ≡ behind_at nested held path
  held-along [] Nowhere there closed = refl
  held-along [] (Imported face) there closed = refl
  held-along [] (Reached face exports) there closed = refl
  held-along [] (Nested number) there closed = refl
  held-along (name ∷ path) Nowhere there closed = along-nothing told path
  held-along (name ∷ path) (Imported face) there closed = within-along told face.now (whole-of face.now there) closed (name ∷ path) (face_exports face.now) (whole-of face.now there).exports
  held-along (name ∷ path) (Reached face exports) there closed =
      let whole : IsWhole face.now = whole-of face.now there.import in
      within-along told face.now whole closed (name ∷ path) (exports_of exports.now) (whole.behind there.decl (exports_of exports.now) there.stands)
  held-along (name ∷ path) (Nested number) there closed =
      ended-at nested number there _ (λ ended is.
      subst (λ found. behind_along told (found_behind told (entry_of (exports_shown found) name)) path ≡ behind_at nested (leads_on (leads_shown found) (entry_of (exports_shown found) name)) path) (sym is)
      (on (λ held there closed. held-along path held there closed) ended is (entry_of (exports_of ended.exports) name) refl))
    where
      on : ((held : Held) → IsThere scope.imported.now (length nested) held → IsClosed told seen held → behind_along told (exported_at nested held) path ≡ behind_at nested held path) → (ended : Ended) → slice_get nested number ≡ Some ended → (meaning : Option Meaning) → entry_of (exports_of ended.exports) name ≡ meaning →
          behind_along told (found_behind told meaning) path ≡ behind_at nested (leads_on ended.instances meaning) path
      on rest ended is None met = along-nothing told path ∙ sym (nowhere-behind nested path)
      on rest ended is (Some BuiltIn) met = along-nothing told path ∙ sym (nowhere-behind nested path)
      on rest ended is (Some (Declared entity callee)) met = by (is_instance entity) refl
        where
          by : (b : Bool) → is_instance entity ≡ b → behind_along told (cond b (unwrap_or (told callee.decl) []) []) path ≡ behind_at nested (cond b (or_nowhere (lookup same_decl ended.instances callee.decl)) Nowhere) path
          by false e = along-nothing told path ∙ sym (nowhere-behind nested path)
          by true e = found (lookup same_decl ended.instances callee.decl) refl (all-reached (lookup same_decl ended.instances) (exports_of ended.exports) (sound.told number ended is) name entity callee met e)
            where
              found : (o : Option Held) → lookup same_decl ended.instances callee.decl ≡ o → is_some (lookup same_decl ended.instances callee.decl) ≡ true → behind_along told (unwrap_or (told callee.decl) []) path ≡ behind_at nested (or_nowhere (lookup same_decl ended.instances callee.decl)) path
              found None at some = cc
              found (Some held) at some =
                  let gained : IsGained nested told seen callee.decl held = done.each number ended is closed callee.decl held at in
                  ap (λ z. behind_along told (unwrap_or z []) path) gained.is
                  ∙ rest held (there-more scope.imported.now number (length nested) held (omega (arith, there)) (sound.there number ended is callee.decl held at)) gained.closed
                  ∙ ap (λ z. behind_at nested (or_nowhere z) path) (sym at)

  -- paths from what is exported lead where they lead by what is known
  pub roots-along : (shown : Exports) → AreRoots scope told seen shown → (path : Path) → entries_along told shown path ≡ entries_from (known_of scope) shown path
  roots-along shown roots [] = refl
  roots-along shown roots (name ∷ path) = on (entry_of shown name) refl
    where
      on : (meaning : Option Meaning) → entry_of shown name ≡ meaning → behind_along told (found_behind told meaning) path ≡ behind_meaning (known_of scope) meaning path
      on None met = along-nothing told path
      on (Some BuiltIn) met = along-nothing told path
      on (Some (Declared entity callee)) met = by (is_instance entity) refl
        where
          by : (b : Bool) → is_instance entity ≡ b → behind_along told (cond b (unwrap_or (told callee.decl) []) []) path ≡ cond b (at_path (known_of scope callee.decl) path) []
          by false e = along-nothing told path
          by true e =
              let root : IsRoot scope told seen callee.decl = roots name entity callee met e in
              ap (λ z. behind_along told (unwrap_or z []) path) root.gained.is
              ∙ held-along path root.held (sound.known callee.decl root.held root.known) root.gained.closed
              ∙ ap (λ z. at_path (behind_found nested z) path) (sym root.known)

  -- what stands behind a place names instances that are told of
  pub reached-at : (held : Held) → IsThere scope.imported.now (length nested) held → IsClosed told seen held → AreReached told (exported_at nested held)
  reached-at Nowhere there closed = λ name entity callee met is. cc
  reached-at (Imported face) there closed = told-reached told face.now closed (face_exports face.now) (whole-of face.now there).exports
  reached-at (Reached face exports) there closed = told-reached told face.now closed (exports_of exports.now) ((whole-of face.now there.import).behind there.decl (exports_of exports.now) there.stands)
  reached-at (Nested number) there closed =
      ended-at nested number there _ (λ ended is. subst (λ found. AreReached told (exports_shown found)) (sym is)
      (λ name entity callee met instance. some (lookup same_decl ended.instances callee.decl) callee.decl refl (all-reached (lookup same_decl ended.instances) (exports_of ended.exports) (sound.told number ended is) name entity callee met instance) (λ held at. (done.each number ended is closed callee.decl held at).is)))
    where
      some : (o : Option Held) (decl : DeclId) → {other : Option Held} → other ≡ o → is_some other ≡ true → ((held : Held) → other ≡ Some held → told decl ≡ Some (exported_at nested held)) → is_some (told decl) ≡ true
      some None decl is there gained = cc
      some (Some held) decl is there gained = ap is_some (gained held is)
