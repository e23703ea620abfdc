-- What is found of a module, by how its check ends.
use Rattle.std.proofs.Common.{◌≡◌, ◌++◌, inl, inr, ℕ, true, false, List, [], ◌∷◌, length, refl, sym, ap, subst, ◌∙◌, arith}
use mathlib.Core.Path.{fun_ext}
use Rattle.std.specs.Prelude.{Contains, Option, None, Some, map, Result, Ok, Err, IfOk}
use Rattle.tla_model.specs.declared.Diagnostic.{Diagnostic}
use Rattle.module_model.specs.declared.imported.Import.{Import}
use Rattle.module_model.specs.Bindings.{AreInOrder, IsBoundBy, decls, faults, resolved}
use Rattle.tla_model.specs.Entities.{declaring}
use Rattle.module_model.specs.Exports.{files_of, import_outside}
use Rattle.module_model.specs.Imports.{Imports, import_of}
use Rattle.module_model.specs.Modules.{text_of}
use Rattle.module_model.specs.declared.face.Face.{Face}
use Rattle.tla_model.specs.Lexemes.{spelled}
use Rattle.symbol_scope.specs.Exporting.{IsShown}
use Rattle.module_model.specs.Resolution.{findings, outside_in}
use Rattle.unit_grammar.specs.Units.{ModuleUnits}
use Rattle.module_facts.proofs.Inserting.{in-order}
use Rattle.module_facts.specs.Ordered.{in_order}
use Rattle.module_facts.specs.Checks.{CheckedModule, all_faults, facts_of, facts_told, files_given, given_by, given_in, import_faults, name_faults, or_others, outside_by, unless_any}
use Rattle.module_facts.proofs.Checked.{checked-facts}
use Rattle.module_faces.specs.Faces.{IsOwnOrRefused}
use Rattle.module_faces.proofs.Refused.{refused-over}
use Rattle.check_core.specs.Outcomes.{IsFaceWith, IsJudged, IsRefused, IsResolved, IsWithArities, face_unless}
use Rattle.module_model.proofs.Ordering.{none-at-all, none-found, order-is-one}
use Rattle.module_model.specs.declared.bound.Bound.{Bound}
use Rattle.arity_rules.specs.Arities.{arity_faults}
use Rattle.std.proofs.lemmas.List.Elements.{Contains-append_cases, Contains-append_left, Contains-append_right}
use Rattle.module_model.specs.Given.{IsFaceOver}

-- ---- what the files are

outside-by : (import' : Option Import) → import_outside import' ≡ outside_by (given_by import')
outside-by None = refl
outside-by (Some Import.Unknown) = refl
outside-by (Some Import.Cyclic) = refl
outside-by (Some Import.Refused) = refl
outside-by (Some (Import.Module face)) = refl

files-given : (imports : Imports) → files_of imports ≡ files_given (given_in imports)
files-given imports = fun_ext (λ name. outside-by (import_of imports name))

-- ---- the outcomes

-- of an answer two things hold, and so a third
pub both : {T E : Type 0} (r : Result T E) (P Q R : T → Type 0) → ((x : T) → P x → Q x → R x) → IfOk r P → IfOk r Q → IfOk r R
both (Ok x) P Q R f p q = f x p q
both (Err y) P Q R f p q = tt

-- ---- arities

some-none : {A : Type 0} (x : A) (xs : List A) → x ∷ xs ≡ [] → ⊥
some-none x xs e = cc

-- faults in order, with others behind them in order
in-order-with : (all more found joined : List Diagnostic) → AreInOrder all found → AreInOrder (found ++ more) joined → AreInOrder (all ++ more) joined
in-order-with all more found joined is both-are = record {
  same = λ fault. (
    λ there. elim (Contains-append_cases found more fault ((both-are.same fault).0 there)) as (λ _. Contains (all ++ more) fault)
        [ inl first ↦ Contains-append_left all more fault ((is.same fault).0 first) | inr second ↦ Contains-append_right all more fault second ],
    λ there. (both-are.same fault).1 (elim (Contains-append_cases all more fault there) as (λ _. Contains (found ++ more) fault)
        [ inl first ↦ Contains-append_left found more fault ((is.same fault).1 first) | inr second ↦ Contains-append_right found more fault second ]),
  );
  ordered = both-are.ordered;
}

-- with further faults there is no face, and without them the one that was
shown-with : (imports : Imports) (source : List ℕ) (units : ModuleUnits) (faults arities joined : List Diagnostic) (face after : Option Face) → AreInOrder (faults ++ arities) joined → after ≡ face_unless arities face
    → IsShown imports source units faults face → IsShown imports source units joined after
shown-with imports source units [] [] joined face after is same shown = subst (λ z. IsShown imports source units z after) (sym (none-found joined is)) (subst (IsShown imports source units []) (sym same) shown)
shown-with imports source units [] (fault ∷ arities) [] face after is same shown = absurd (some-none fault arities (none-at-all (fault ∷ arities) is))
shown-with imports source units [] (fault ∷ arities) (first ∷ joined) face after is same shown = subst (IsShown imports source units (first ∷ joined)) (sym same) tt
shown-with imports source units (fault ∷ faults) arities [] face after is same shown = absurd (some-none fault (faults ++ arities) (none-at-all (fault ∷ faults ++ arities) is))
shown-with imports source units (fault ∷ faults) arities (first ∷ joined) (Some face) after is same shown = absurd shown
shown-with imports source units (fault ∷ faults) [] (first ∷ joined) None after is same shown = subst (IsShown imports source units (first ∷ joined)) (sym same) tt
shown-with imports source units (fault ∷ faults) (other ∷ arities) (first ∷ joined) None after is same shown = subst (IsShown imports source units (first ∷ joined)) (sym same) tt

-- names resolved, with their faults of arities
pub judged-with : (imports : Imports) (source : List ℕ) (units : ModuleUnits) (before after : Bound) (face face' : Option Face) (arities : List Diagnostic)
    → IsBoundBy (findings (files_of imports) source units) source units before → IsShown imports source units before.faults face
    → arities ≡ arity_faults (findings (files_of imports) source units) units.units → IsWithArities arities before face after face' → IsJudged imports source units after face'
judged-with imports source units before after face face' arities bound shown are with' =
    let found = findings (files_of imports) source units in
    record {
      uses = with'.uses ∙ bound.uses;
      decls = with'.decls ∙ bound.decls;
      faults = subst (λ z. AreInOrder (faults found ++ z) after.faults) are (in-order-with (faults found) arities before.faults after.faults bound.faults with'.faults);
      shown = shown-with imports source units before.faults arities after.faults face face' with'.faults with'.shown shown;
    }

-- ---- faces

-- the face of a module that has one of its own where it has no fault
pub face-with : (imports : Imports) (source : List ℕ) (units : ModuleUnits) (title : List ℕ) (faults : List Diagnostic) (own : Option Face) (face : Face) → spelled source units.name ≡ title
    → IsShown imports source units faults own → IsOwnOrRefused title own face → IsFaceWith imports source units faults face
face-with imports source units title [] (Some own) face named shown is = subst (IsFaceWith imports source units []) (sym is) (record { outside = λ none. shown.outside; over = shown.over })
face-with imports source units title [] None face named shown is = absurd shown
face-with imports source units title (fault ∷ rest) (Some own) face named shown is = absurd shown
face-with imports source units title (fault ∷ rest) None face named shown is = record {
  outside = λ none. absurd (some-none fault rest none);
  over = subst (λ z. IsFaceOver imports z face) (sym named) (refused-over title face is imports);
}

or-these : (all others : List Diagnostic) → (all ≡ [] → ⊥) → or_others all others ≡ all
or-these [] others some = absurd (some refl)
or-these (fault ∷ all) others some = refl

unless-these : {A : Type 0} (all : List Diagnostic) (items : List A) → (all ≡ [] → ⊥) → unless_any all items ≡ []
unless-these [] items some = absurd (some refl)
unless-these (fault ∷ all) items some = refl

-- faults in order are those that the function puts in order
in-one-order : (all found : List Diagnostic) → AreInOrder all found → found ≡ in_order all
in-one-order all found order = order-is-one all found (in_order all) order (in-order all)

-- a module with faults of imports has faults
pub refused-faulty : (all : List Diagnostic) (checked : CheckedModule) → (all ≡ [] → ⊥) → IsRefused all checked → checked.faults ≡ [] → ⊥
refused-faulty all checked some refused none = some (none-at-all all (subst (AreInOrder all) none refused.faults))

pub refused-checked : (imports : Imports) (source : List ℕ) (units : ModuleUnits) (all : List Diagnostic) (checked : CheckedModule) → all ≡ import_faults (given_in imports) source units → (all ≡ [] → ⊥) → IsRefused all checked → facts_told checked ≡ facts_of (given_in imports) source units
refused-checked imports source units all checked are some refused =
    let any : import_faults (given_in imports) source units ≡ [] → ⊥ = λ none. some (are ∙ none) in
    checked-facts (given_in imports) source units checked (record {
      faults = in-one-order (all_faults (given_in imports) source units) checked.faults
          (rw (or-these (import_faults (given_in imports) source units) (name_faults (findings (files_given (given_in imports)) source units) units) any) (subst (λ z. AreInOrder z checked.faults) are refused.faults));
      uses = refused.uses ∙ sym (unless-these (import_faults (given_in imports) source units) _ any);
      decls = refused.decls ∙ sym (unless-these (import_faults (given_in imports) source units) _ any);
      outside = λ none. absurd (refused-faulty all checked some refused none);
    })

-- with names resolved
pub resolved-checked : (imports : Imports) (source : List ℕ) (units : ModuleUnits) (checked : CheckedModule) → [] ≡ import_faults (given_in imports) source units → IsResolved imports source units checked → IsFaceWith imports source units checked.faults checked.face → facts_told checked ≡ facts_of (given_in imports) source units
resolved-checked imports source units checked none names face =
    let files = files-given imports in
    checked-facts (given_in imports) source units checked (record {
      faults = in-one-order (all_faults (given_in imports) source units) checked.faults
          (subst (λ z. AreInOrder (or_others z (name_faults (findings (files_given (given_in imports)) source units) units)) checked.faults) none (subst (λ f. AreInOrder (name_faults (findings f source units) units) checked.faults) files names.faults));
      uses = names.uses ∙ ap (λ f. map (λ r. r.«use») (resolved (findings f source units))) files ∙ ap (λ z. unless_any z (map (λ r. r.«use») (resolved (findings (files_given (given_in imports)) source units)))) none;
      decls = names.decls ∙ ap (λ z. unless_any z (decls (text_of source units) (declaring units.units))) none;
      outside = λ accepted. face.outside accepted ∙ ap (λ f. outside_in f source units) files;
    })

pub none-long : (all : List Diagnostic) → length all ≡ 0 → [] ≡ all
none-long [] none = refl
none-long (fault ∷ all) none = absurd (omega (arith, none))

pub some-long : (all : List Diagnostic) → (length all ≡ 0 → false ≡ true) → all ≡ [] → ⊥
some-long all some none = let h : false ≡ true = some (ap (λ z. length z) none) in cc
