-- What stands at paths stays, whatever nested modules end later.
use Rattle.std.proofs.Common.{◌≡◌, ◌<◌, ◌≤◌, ℕ, Bool, true, false, cond, List, [], ◌∷◌, ◌++◌, length, Option, Some, None, refl, ap, sym, ◌∙◌, arith}
use Rattle.std.specs.Prelude.{slice_get}
use mathlib.Core.Path.{fun_ext}
use Rattle.list_laws.proofs.Lists.{item-at}
use Rattle.tla_model.specs.declared.ids.DeclId.{DeclId}
use Rattle.tla_model.specs.declared.names.Meaning.TheVariants.{BuiltIn, Declared}
use Rattle.tla_model.specs.Entities.{Meaning, same_decl}
use Rattle.tla_model.specs.EntityKinds.{is_instance}
use Rattle.tla_model.specs.Tables.{lookup}
use Rattle.tla_model.proofs.Stretching.{at-first}
use Rattle.module_model.specs.Exports.{Behind, Path, at_path, behind_meaning, entry_of, instantiable}
use Rattle.module_model.specs.Imports.{Imports}
use Rattle.tree_tasks.specs.declared.held.Held.{Held}
use Rattle.tree_tasks.specs.declared.held.Held.TheVariants.{Nowhere, Imported, Reached, Nested}
use Rattle.instance_leads.specs.declared.ended.Ended.{Ended}
use Rattle.instance_leads.specs.Leading.{AreThere, IsThere, Leads, behind_at, behind_found, entries_of, exports_shown, known_in, leads_on, leads_shown, or_nowhere, parameters_shown, view_at}

module _ (imports : Imports) where
  -- ---- places that are there

  pub there-more : (count more : ℕ) (held : Held) → count ≤ more → IsThere imports count held → IsThere imports more held
  there-more count more Nowhere le there = there
  there-more count more (Imported face) le there = there
  there-more count more (Reached face exports) le there = there
  there-more count more (Nested number) le there = omega (arith, there)

  nowhere-there : (count : ℕ) → IsThere imports count Nowhere
  nowhere-there count = tt

  found-there : (count : ℕ) (found : Option Held) → ((held : Held) → found ≡ Some held → IsThere imports count held) → IsThere imports count (or_nowhere found)
  found-there count None there = tt
  found-there count (Some held) there = there held refl

  -- where a name leads is there
  pub on-there : (count : ℕ) (leads : Leads) (meaning : Option Meaning) → AreThere imports count leads → IsThere imports count (leads_on leads meaning)
  on-there count leads None there = tt
  on-there count leads (Some BuiltIn) there = tt
  on-there count leads (Some (Declared entity callee)) there = by (is_instance entity)
    where
      by : (b : Bool) → IsThere imports count (cond b (or_nowhere (lookup same_decl leads callee.decl)) Nowhere)
      by true = found-there count (lookup same_decl leads callee.decl) (there callee.decl)
      by false = tt

  -- all that nested modules say is there
  abbrev pub AreEndedThere : List Ended → Type 0
  AreEndedThere nested = (number : ℕ) (ended : Ended) → slice_get nested number ≡ Some ended → AreThere imports number ended.instances

  shown-there : (nested : List Ended) (number : ℕ) (found : Option Ended) → AreEndedThere nested → slice_get nested number ≡ found → AreThere imports number (leads_shown found)
  shown-there nested number None there at = λ decl held is. cc
  shown-there nested number (Some ended) there at = there number ended at

  -- ---- at paths

  module _ (nested more : List Ended) (there : AreEndedThere nested) where
    pub at-stays : (number : ℕ) → number < length nested → slice_get (nested ++ more) number ≡ slice_get nested number
    at-stays number lt = let found = item-at nested number lt in at-first nested more number found.0 found.1 ∙ sym found.1

    pub behind-stays : (held : Held) (path : Path) → IsThere imports (length nested) held → behind_at (nested ++ more) held path ≡ behind_at nested held path
    behind-stays Nowhere path is = refl
    behind-stays (Imported face) path is = refl
    behind-stays (Reached face exports) path is = refl
    behind-stays (Nested number) [] is = ap (λ z. instantiable (exports_shown z)) (at-stays number is)
    behind-stays (Nested number) (name ∷ path) is =
        ap (λ z. behind_at (nested ++ more) (leads_on (leads_shown z) (entry_of (exports_shown z) name)) path) (at-stays number is)
        ∙ behind-stays (leads_on (leads_shown (slice_get nested number)) (entry_of (exports_shown (slice_get nested number)) name)) path
        (there-more number (length nested) (leads_on (leads_shown (slice_get nested number)) (entry_of (exports_shown (slice_get nested number)) name)) (omega (arith, is))
        (on-there number (leads_shown (slice_get nested number)) (entry_of (exports_shown (slice_get nested number)) name) (shown-there nested number (slice_get nested number) there refl)))

    -- what nested modules are that are there
    pub entries-stay : (ended : Option Ended) (path : Path) → AreThere imports (length nested) (leads_shown ended) → entries_of (nested ++ more) ended path ≡ entries_of nested ended path
    entries-stay ended [] is = refl
    entries-stay ended (name ∷ path) is =
        behind-stays (leads_on (leads_shown ended) (entry_of (exports_shown ended) name)) path (on-there (length nested) (leads_shown ended) (entry_of (exports_shown ended) name) is)

    pub view-stays : (number : ℕ) → number < length nested → view_at (nested ++ more) number ≡ view_at nested number
    view-stays number lt =
        let here = λ (decl : DeclId) (held : Held) (is : lookup same_decl (leads_shown (slice_get nested number)) decl ≡ Some held). there-more number (length nested) held (omega (arith, lt)) (shown-there nested number (slice_get nested number) there refl decl held is) in
        (λ i. record { entries = entries_of (nested ++ more) (at-stays number lt i); parameters = parameters_shown (at-stays number lt i) })
        ∙ ap (λ (entries : Behind). record { entries = entries; parameters = parameters_shown (slice_get nested number) }) (fun_ext (λ path. entries-stay (slice_get nested number) path here))

    -- what is known of instances
    pub known-stays : (leads : Leads) → AreThere imports (length nested) leads → known_in (nested ++ more) leads ≡ known_in nested leads
    known-stays leads all = fun_ext (λ decl. by decl (lookup same_decl leads decl) refl)
      where
        by : (decl : DeclId) (found : Option Held) → lookup same_decl leads decl ≡ found → behind_found (nested ++ more) found ≡ behind_found nested found
        by decl None is = refl
        by decl (Some held) is = ap Some (fun_ext (λ path. behind-stays held path (all decl held is)))

-- ---- where names lead is what is known of them

pub behind-on : (nested : List Ended) (leads : Leads) (meaning : Option Meaning) → behind_at nested (leads_on leads meaning) ≡ behind_meaning (known_in nested leads) meaning
behind-on nested leads meaning = fun_ext (λ path. at path meaning)
  where
    led : (path : Path) (found : Option Held) → behind_at nested (or_nowhere found) path ≡ at_path (behind_found nested found) path
    led path None = refl
    led path (Some held) = refl

    at : (path : Path) (meaning : Option Meaning) → behind_at nested (leads_on leads meaning) path ≡ behind_meaning (known_in nested leads) meaning path
    at path None = refl
    at path (Some BuiltIn) = refl
    at path (Some (Declared entity callee)) = by (is_instance entity)
      where
        by : (b : Bool) → behind_at nested (cond b (or_nowhere (lookup same_decl leads callee.decl)) Nowhere) path ≡ cond b (at_path (known_in nested leads callee.decl) path) []
        by true = led path (lookup same_decl leads callee.decl)
        by false = refl
