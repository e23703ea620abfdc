-- What is found is sorted out one by one.
use Rattle.std.proofs.Common.{◌≡◌, ℕ, List, [], ◌∷◌, ◌++◌, append_assoc, refl, ap, sym, subst, ◌∙◌}
use Rattle.std.specs.Prelude.{map}
use Rattle.std.proofs.lemmas.List.{append-nil, map-append}
use Rattle.tla_model.specs.declared.Diagnostic.{Diagnostic}
use Rattle.module_model.specs.declared.bound.Bound.{Bound}
use Rattle.tla_model.specs.declared.entity.Decl.{Decl}
use Rattle.module_model.specs.declared.bound.Implied.{Implied}
use Rattle.module_model.specs.Bindings.{AreInOrder, IsBoundBy, Resolved, decls, fault, faults, implied, implied_at, resolved, resolved_at}
use Rattle.tla_model.specs.Entities.{declaring}
use Rattle.module_model.specs.Modules.{text_of}
use Rattle.tla_model.specs.Scopes.{Finding}
use Rattle.unit_grammar.specs.Units.{ModuleUnits}
use Rattle.sorted_findings.specs.Sorting.{HasMore, IsNothing, IsSorted, IsSorting}

none : {A : Type 0} (xs : List A) → xs ≡ xs ++ []
none xs = sym (append-nil xs)

-- a finding that is a fault
pub more-fault : (finding known : Finding) (bound : Bound) (new : List Diagnostic) → finding ≡ known → resolved_at known ≡ [] → implied_at known ≡ [] → new ≡ bound.faults ++ fault known →
    HasMore (resolved_at finding) (implied_at finding) (fault finding) bound (record bound { faults = new })
more-fault finding known bound new is uses replaced more =
    let no_uses = ap resolved_at is ∙ uses in
    record {
      uses = none bound.uses ∙ ap (λ z. bound.uses ++ map (λ (r : Resolved). r.«use») z) (sym no_uses);
      entities = none bound.entities ∙ ap (λ z. bound.entities ++ map (λ (r : Resolved). r.entity) z) (sym no_uses);
      callees = none bound.callees ∙ ap (λ z. bound.callees ++ map (λ (r : Resolved). r.callee) z) (sym no_uses);
      implied = none bound.implied ∙ ap (λ z. bound.implied ++ z) (sym (ap implied_at is ∙ replaced));
      decls = refl;
      faults = more ∙ ap (λ z. bound.faults ++ z) (sym (ap fault is));
    }

-- one that is a replacement
pub more-implied : (finding known : Finding) (bound : Bound) (new : List Implied) → finding ≡ known → resolved_at known ≡ [] → fault known ≡ [] → new ≡ bound.implied ++ implied_at known →
    HasMore (resolved_at finding) (implied_at finding) (fault finding) bound (record bound { implied = new })
more-implied finding known bound new is uses no_faults more =
    let no_uses = ap resolved_at is ∙ uses in
    record {
      uses = none bound.uses ∙ ap (λ z. bound.uses ++ map (λ (r : Resolved). r.«use») z) (sym no_uses);
      entities = none bound.entities ∙ ap (λ z. bound.entities ++ map (λ (r : Resolved). r.entity) z) (sym no_uses);
      callees = none bound.callees ∙ ap (λ z. bound.callees ++ map (λ (r : Resolved). r.callee) z) (sym no_uses);
      implied = more ∙ ap (λ z. bound.implied ++ z) (sym (ap implied_at is));
      decls = refl;
      faults = none bound.faults ∙ ap (λ z. bound.faults ++ z) (sym (ap fault is ∙ no_faults));
    }

next : {A B : Type 0} (f : A → B) (a b : List A) (now more old : List B) (all : List A) → more ≡ now ++ map f a → now ++ map f (a ++ b) ≡ old ++ map f all → more ++ map f b ≡ old ++ map f all
next f a b now more old all is before =
    ap (λ z. z ++ map f b) is ∙ append_assoc now (map f a) (map f b) ∙ ap (λ z. now ++ z) (sym (map-append f a b)) ∙ before

onward : {A : Type 0} (a b now more all : List A) → more ≡ now ++ a → now ++ (a ++ b) ≡ all → more ++ b ≡ all
onward a b now more all is before = ap (λ z. z ++ b) is ∙ append_assoc now a b ∙ before

-- one more was sorted out
pub sorting_on : (finding : Finding) (rest found : List Finding) (old now new : Bound) → IsSorting (finding ∷ rest) found old now → HasMore (resolved_at finding) (implied_at finding) (fault finding) now new → IsSorting rest found old new
sorting_on finding rest found old now new before more = record {
  uses = next _ (resolved_at finding) (resolved rest) now.uses new.uses old.uses (resolved found) more.uses before.uses;
  entities = next _ (resolved_at finding) (resolved rest) now.entities new.entities old.entities (resolved found) more.entities before.entities;
  callees = next _ (resolved_at finding) (resolved rest) now.callees new.callees old.callees (resolved found) more.callees before.callees;
  implied = onward (implied_at finding) (implied rest) now.implied new.implied (old.implied ++ implied found) more.implied before.implied;
  decls = more.decls ∙ before.decls;
  faults = onward (fault finding) (faults rest) now.faults new.faults (old.faults ++ faults found) more.faults before.faults;
}

-- and all were
pub sorting_done : (found : List Finding) (old new : Bound) → IsSorting [] found old new → HasMore (resolved found) (implied found) (faults found) old new
sorting_done found old new all = record {
  uses = none new.uses ∙ all.uses;
  entities = none new.entities ∙ all.entities;
  callees = none new.callees ∙ all.callees;
  implied = none new.implied ∙ all.implied;
  decls = all.decls;
  faults = none new.faults ∙ all.faults;
}

pub sorting_begun : (found : List Finding) (old : Bound) → IsSorting found found old old
sorting_begun found old = record { uses = refl; entities = refl; callees = refl; implied = refl; decls = refl; faults = refl }

-- into nothing, and its faults in order
pub sorted-once : (found : List Finding) (old new : Bound) (ordered : List Diagnostic) → IsNothing old → HasMore (resolved found) (implied found) (faults found) old new → AreInOrder new.faults ordered → IsSorted found (record new { faults = ordered })
sorted-once found old new ordered nothing more are = record {
  uses = more.uses ∙ ap (λ z. z ++ map (λ (r : Resolved). r.«use») (resolved found)) nothing.uses;
  entities = more.entities ∙ ap (λ z. z ++ map (λ (r : Resolved). r.entity) (resolved found)) nothing.entities;
  callees = more.callees ∙ ap (λ z. z ++ map (λ (r : Resolved). r.callee) (resolved found)) nothing.callees;
  implied = more.implied ∙ ap (λ z. z ++ implied found) nothing.implied;
  decls = more.decls ∙ nothing.decls;
  faults = subst (λ all. AreInOrder all ordered) (more.faults ∙ ap (λ z. z ++ faults found) nothing.faults) are;
}

-- with the declarations of the text
pub bound-by : (found : List Finding) (source : List ℕ) (units : ModuleUnits) (bound : Bound) (new : List Decl) → IsSorted found bound → new ≡ bound.decls ++ decls (text_of source units) (declaring units.units) → IsBoundBy found source units (record bound { decls = new })
bound-by found source units bound new sorted more = record {
  uses = sorted.uses;
  entities = sorted.entities;
  callees = sorted.callees;
  implied = sorted.implied;
  decls = more ∙ ap (λ z. z ++ decls (text_of source units) (declaring units.units)) sorted.decls;
  faults = sorted.faults;
}
