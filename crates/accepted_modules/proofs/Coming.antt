-- Names that modules bring come from these: they are the same entities there, and what is known behind them is what the modules have.
use Rattle.std.proofs.Common.{◌≡◌, Bool, true, false, [], ◌∷◌, ◌++◌, inl, inr, Some, refl, sym, ap, subst, ◌∙◌, map}
use Rattle.std.specs.List.{AllByRecursion}
use Rattle.std.proofs.lemmas.Bool.{false≢true}
use Rattle.tla_model.specs.declared.ids.Callee.{Callee}
use Rattle.tla_model.specs.declared.ids.DeclId.{DeclId}
use Rattle.tla_model.specs.declared.ids.UnitId.{UnitId}
use Rattle.tla_model.specs.declared.names.Meaning.TheVariants.{BuiltIn, Declared}
use Rattle.tla_model.specs.Tables.{Named, same_named}
use Rattle.tla_model.specs.Entities.{Entity, Meaning, same_meaning}
use Rattle.tla_model.specs.Contexts.{Context, meaning_of}
use Rattle.module_model.specs.Exports.{Behind, Exports, Known, ModuleView, behind_meaning, exported, instantiable, is_meant, onward, stands_behind}
use Rattle.module_model.specs.Instances.{brought_by, brought_entries, through}
use Rattle.flat_kinds.specs.Declarations.{Declarations, EachOnce, IsDeclared, IsViewDeclared}
use Rattle.module_meanings.specs.Premises.{AllCome, ComesAs}
use Rattle.accepted_modules.specs.Behind.{Behinds, IsViewBehind, all_known}
use Rattle.accepted_modules.proofs.Behind.{each-there, meaning-behind}
use Rattle.accepted_modules.proofs.Contexts.{HoldsOf, built-in-is}
use Rattle.accepted_modules.proofs.Holding.{OrBuiltIn}
use Rattle.accepted_modules.proofs.Naming.{among-there, same-declared}
use Rattle.accepted_modules.proofs.Tables.{IsThere, once-passing, there-first, there-holds, there-passed}
use Rattle.accepted_modules.proofs.Telling.{Told}

-- ---- entries that come from a module

-- an entry has the declaration that the module has under its name, which is a definition or an instance
abbrev pub Comes : ModuleView → Named × Meaning → Type 0
Comes view (name, m) = (e f : Entity) × (callee origin : Callee) × (m ≡ Declared e callee) × (callee.decl ≡ origin.decl) × IsThere (instantiable (exported view)) name (Declared f origin)

-- what modules that are extended bring
pub kept-comes : (view : ModuleView) → AllByRecursion (Comes view) (instantiable (exported view))
kept-comes view = each-there (Comes view) (instantiable (exported view)) one
  where
    one : (name : Named) (m : Meaning) → IsThere (instantiable (exported view)) name m → Comes view (name, m)
    one name BuiltIn there = absurd (cc (there-passed (λ (entry : Named × Meaning). is_meant stands_behind entry.1) (exported view) name BuiltIn there).1)
    one name (Declared e callee) there = (e, e, callee, callee, refl, refl, there)

passed-comes : (view : ModuleView) (unit : UnitId) (entries : Exports) → AllByRecursion (Comes view) entries → AllByRecursion (Comes view) (map (λ entry. (entry.0, through unit entry.1)) entries)
passed-comes view unit [] all = tt
passed-comes view unit ((name, m) ∷ rest) all =
    let one = all.0 in
    let callee : Callee = one.2 in
    ((one.0, one.1, record callee { via = callee.via ++ unit ∷ [] }, one.3, ap (through unit) one.4, one.5, one.6), passed-comes view unit rest all.1)

-- what an INSTANCE without a name brings
pub brought-comes : (view : ModuleView) (unit : UnitId) → AllByRecursion (Comes view) (brought_by unit view)
brought-comes view unit = by view.parameters
  where
    by : (parameters : Exports) → AllByRecursion (Comes view) (brought_entries unit parameters (instantiable (exported view)))
    by [] = kept-comes view
    by (parameter ∷ rest) = passed-comes view unit (instantiable (exported view)) (kept-comes view)

-- ---- names that can be used

module _ (declares : Declarations) (behinds : Behinds) (known : Known) (context : Context) (declared : HoldsOf (OrBuiltIn (IsDeclared declares)) context) (told : HoldsOf (Told known) context)
    (right : (decl : DeclId) (held : Behind) → known decl ≡ Some held → held ≡ behinds decl) where
  used-declared : (used : Named) (e : Entity) (callee : Callee) → meaning_of context used ≡ Some (Declared e callee) → declares callee.decl ≡ (used, e)
  used-declared used e callee at = by (declared used (Declared e callee) at)
    where
      by : OrBuiltIn (IsDeclared declares) used (Declared e callee) → declares callee.decl ≡ (used, e)
      by (inl built) = absurd (cc (built-in-is used (Declared e callee) built))
      by (inr is) = is

  pub all-come : (view : ModuleView) (entries : Exports) → IsViewDeclared declares view → IsViewBehind behinds view → EachOnce same_named (exported view) → AllByRecursion (Comes view) entries → AllCome known context view entries
  all-come view entries view_declared behind once comes used m name at among =
      let there = among-there entries m name among in
      by m there.0 at there.2 (there-holds (Comes view) entries name there.0 comes there.1)
    where
      by : (m n : Meaning) → meaning_of context used ≡ Some m → same_meaning m n ≡ true → Comes view (name, n) → ComesAs known view name m
      by BuiltIn n at same one = let never : false ≡ true = subst (λ other. same_meaning BuiltIn other ≡ true) one.4 same in absurd (false≢true never)
      by (Declared e callee) n at same one =
          let origin : Callee = one.3 in
          let alike : callee.decl ≡ origin.decl = same-declared e one.0 callee one.2 (subst (λ other. same_meaning (Declared e callee) other ≡ true) one.4 same) ∙ one.5 in
          let test : Named × Meaning → Bool = λ entry. is_meant stands_behind entry.1 in
          let passed = there-passed test (exported view) name (Declared one.1 origin) one.6 in
          let declared_there : declares origin.decl ≡ (name, one.1) = there-holds (λ entry. IsDeclared declares entry.0 entry.1) (exported view) name (Declared one.1 origin) view_declared passed.0 in
          let entity : e ≡ one.1 = ap (λ (p : Named × Entity). p.1) (sym (used-declared used e callee at) ∙ (ap declares alike ∙ declared_there)) in
          let held = there-holds (λ entry. onward view.entries entry.0 ≡ behind_meaning (all_known behinds) (Some entry.1)) (exported view) name (Declared one.1 origin) behind passed.0 in
          record {
            entity = e;
            callee = callee;
            origin = origin;
            means = refl;
            there = there-first (instantiable (exported view)) name (Declared e origin) (once-passing test (exported view) once) (subst (λ f. IsThere (instantiable (exported view)) name (Declared f origin)) (sym entity) one.6);
            behind =
                meaning-behind known behinds (Declared e callee) right (told used (Declared e callee) at)
                ∙ ((λ i. behind_meaning (all_known behinds) (Some (Declared (entity i) (record origin { decl = alike i })))) ∙ sym held);
          }
