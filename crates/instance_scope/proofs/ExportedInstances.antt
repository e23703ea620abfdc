-- What is known of the instances that modules of names export.
use Rattle.std.proofs.Common.{◌≡◌, ℕ, Bool, true, false, cond, List, [], ◌∷◌, length, Option, Some, None, is_some, refl, ap, sym, ◌∙◌, true≢false}
use Rattle.std.specs.Prelude.{slice_get}
use Rattle.std.specs.Option.{option_or}
use mathlib.Core.Path.{fun_ext}
use Rattle.tla_model.specs.declared.ids.DeclId.{DeclId}
use Rattle.tla_model.specs.declared.names.Meaning.TheVariants.{BuiltIn, Declared}
use Rattle.tla_model.specs.Entities.{Meaning, same_decl}
use Rattle.tla_model.specs.EntityKinds.{is_instance}
use Rattle.tla_model.specs.Tables.{lookup}
use Rattle.tla_model.specs.Same.{decl-equal}
use Rattle.module_model.specs.declared.face.Face.{Face}
use Rattle.module_model.specs.Exports.{Behind, Exports, Known, ModuleView, and_known, exports_of, face_instances, known_among, known_as, known_by, none_known, onward, standing}
use Rattle.module_model.specs.Given.{imported}
use Rattle.module_model.specs.Imports.{Imports}
use Rattle.module_model.specs.NamedModules.{exported_known}
use Rattle.module_model.proofs.PartTables.{first-none}
use Rattle.tree_tasks.specs.declared.held.Held.{Held}
use Rattle.tree_tasks.specs.declared.held.Held.TheVariants.{Nowhere, Imported, Reached, Nested}
use Rattle.instance_leads.specs.declared.ended.Ended.{Ended}
use Rattle.instance_scope.specs.declared.scope.Scope.{Scope}
use Rattle.instance_leads.specs.Found.{AreOfFace, AreTold, IsLedBy, IsOfFace, IsTold}
use Rattle.instance_leads.specs.Leading.{IsNoted, IsThere, Leads, behind_found, exports_shown, known_in, view_at}
use Rattle.instance_scope.specs.Scoped.{AreGiven, IsBroughtBy, IsSound, known_of}

-- ---- imported modules

of-there : (imports : Imports) (count : ℕ) (name : List ℕ) (face : Face) (decl : DeclId) (held : Held) → imported imports name ≡ Some face → IsOfFace face decl held → IsThere imports count held
of-there imports count name face decl held is one = by held one.led
  where
    by : (held : Held) → IsLedBy face (Some one.table) held → IsThere imports count held
    by Nowhere led = absurd led
    by (Imported of) led = absurd led
    by (Nested number) led = absurd led
    by (Reached of exports) led = record {
      import = record { name = name; is = is ∙ ap Some (sym led.0) };
      decl = decl;
      stands = ap (λ z. face_instances z decl) led.0 ∙ ap standing one.stands ∙ ap (λ z. Some (exports_of z)) (sym led.1);
    }

of-brought : (scope : Scope) (name : List ℕ) (face : Face) (decl : DeclId) (held : Held) → imported scope.imported.now name ≡ Some face → IsOfFace face decl held → IsBroughtBy scope.imported.now decl held
of-brought scope name face decl held is one = by held one.led
  where
    by : (held : Held) → IsLedBy face (Some one.table) held → IsBroughtBy scope.imported.now decl held
    by Nowhere led = absurd led
    by (Imported of) led = absurd led
    by (Nested number) led = absurd led
    by (Reached of exports) led = record {
      name = name;
      face = of;
      table = exports;
      imported = is ∙ ap Some (sym led.0);
      is = refl;
      stands = ap (λ z. face_instances z decl) led.0 ∙ ap standing one.stands ∙ ap (λ z. Some (exports_of z)) (sym led.1);
    }

pub face-given : (scope : Scope) (name : List ℕ) (face : Face) (leads : Leads) → imported scope.imported.now name ≡ Some face → AreOfFace face leads → AreGiven scope leads
face-given scope name face leads is led = record {
  there = λ decl held at. of-there scope.imported.now (length scope.nested.items) name face decl held is (led decl held at);
  foreign = λ decl held at elsewhere. of-brought scope name face decl held is (led decl held at);
}

-- ---- nested modules: it is known what stands behind their instances

none-more : (known : Known) (decl : DeclId) (behind : Behind) (one : Meaning) → IsTold known one → known decl ≡ None → known_by behind one decl ≡ None
none-more known decl behind BuiltIn told none = refl
none-more known decl behind (Declared entity callee) told none = by (is_instance entity) refl
  where
    same : is_instance entity ≡ true → (b : Bool) → same_decl decl callee.decl ≡ b → cond b (Some behind) None ≡ None
    same is true at = absurd (true≢false (sym (told is) ∙ ap is_some (ap known (sym (decl-equal decl callee.decl at)) ∙ none)))
    same is false at = refl

    by : (b : Bool) → is_instance entity ≡ b → (cond b (known_as callee.decl behind) none_known) decl ≡ None
    by true is = same is (same_decl decl callee.decl) refl
    by false is = refl

none-among : (known : Known) (decl : DeclId) (view : ModuleView) (entries : Exports) → AreTold known entries → known decl ≡ None → known_among view entries decl ≡ None
none-among known decl view [] told none = refl
none-among known decl view (entry ∷ rest) told none =
    ap (λ z. option_or z (known_among view rest decl)) (none-more known decl (onward view.entries entry.0) entry.1 told.0 none) ∙ none-among known decl view rest told.1 none

nothing-more : (known : Known) (view : ModuleView) (entries : Exports) → AreTold known entries → known ≡ and_known known (known_among view entries)
nothing-more known view entries told = fun_ext (λ decl. by decl (known decl) refl)
  where
    by : (decl : DeclId) (found : Option Behind) → known decl ≡ found → found ≡ option_or found (known_among view entries decl)
    by decl None is = sym (none-among known decl view entries told is)
    by decl (Some behind) is = refl

told-known : (nested : List Ended) (known : Leads) (ended : Ended) → IsNoted known ended → (entries : Exports) → AreTold (lookup same_decl ended.instances) entries → AreTold (known_in nested known) entries
told-known nested known ended noted [] told = tt
told-known nested known ended noted (entry ∷ rest) told = (at entry.1 told.0, told-known nested known ended noted rest told.1)
  where
    found : (decl : DeclId) (one : Option Held) → lookup same_decl ended.instances decl ≡ one → is_some one ≡ true → is_some (behind_found nested (lookup same_decl known decl)) ≡ true
    found decl None is there = absurd (true≢false (sym there))
    found decl (Some held) is there = ap (λ z. is_some (behind_found nested z)) (noted decl held is)

    at : (one : Meaning) → IsTold (lookup same_decl ended.instances) one → IsTold (known_in nested known) one
    at BuiltIn one = tt
    at (Declared entity callee) one = λ is. found callee.decl (lookup same_decl ended.instances callee.decl) refl (one is)

pub told-exported : (scope : Scope) (number : ℕ) → IsSound scope → AreTold (known_of scope) (exports_shown (slice_get scope.nested.items number))
told-exported scope number sound = by (slice_get scope.nested.items number) refl
  where
    by : (found : Option Ended) → slice_get scope.nested.items number ≡ found → AreTold (known_of scope) (exports_shown found)
    by None is = tt
    by (Some ended) is = told-known scope.nested.items scope.known ended (sound.noted number ended is) (exports_of ended.exports) (sound.told number ended is)

pub nested-known : (scope : Scope) (number : ℕ) → IsSound scope → and_known (known_of scope) none_known ≡ and_known (known_of scope) (exported_known (view_at scope.nested.items number))
nested-known scope number sound =
    fun_ext (λ decl. first-none (known_of scope decl))
    ∙ nothing-more (known_of scope) (view_at scope.nested.items number) (exports_shown (slice_get scope.nested.items number)) (told-exported scope number sound)
