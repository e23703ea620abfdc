-- A checked module tells the facts of a module exactly where it tells each of them.
use Rattle.std.proofs.Common.{◌≡◌, ℕ, List, [], ◌∷◌, Some, refl, ap}
use Rattle.tla_model.specs.declared.Diagnostic.{Diagnostic}
use Rattle.module_model.specs.Exports.{ModuleView, face_outside}
use Rattle.module_model.specs.Resolution.{outside_in}
use Rattle.unit_grammar.specs.Units.{ModuleUnits}
use Rattle.module_facts.specs.Checks.{CheckedModule, ImportStatus, ModuleFacts, all_decls, all_uses, facts_of, facts_told, faults_of, files_given, if_accepted}

-- a module that was checked, fact by fact
pub record IsChecked (given : List ℕ → ImportStatus) (source : List ℕ) (units : ModuleUnits) (checked : CheckedModule) : Type 0 where
  pub faults : checked.faults ≡ faults_of given source units
  pub uses : checked.uses ≡ all_uses given source units
  pub decls : checked.decls ≡ all_decls given source units
  pub outside : checked.faults ≡ [] → face_outside checked.face ≡ outside_in (files_given given) source units

both-accepted : (own faults : List Diagnostic) (a b : ModuleView) → own ≡ faults → (own ≡ [] → a ≡ b) → if_accepted own a ≡ if_accepted faults b
both-accepted [] [] a b same is = ap Some (is refl)
both-accepted [] (fault ∷ faults) a b same is = cc
both-accepted (fault ∷ own) [] a b same is = cc
both-accepted (fault ∷ own) (other ∷ faults) a b same is = refl

pub checked-facts : (given : List ℕ → ImportStatus) (source : List ℕ) (units : ModuleUnits) (checked : CheckedModule) → IsChecked given source units checked → facts_told checked ≡ facts_of given source units
checked-facts given source units checked is =
    let outside = both-accepted checked.faults (faults_of given source units) (face_outside checked.face) (outside_in (files_given given) source units) is.faults is.outside in
    λ i. record { faults = is.faults i; uses = is.uses i; decls = is.decls i; outside = outside i }

accepted-both : (own faults : List Diagnostic) (a b : ModuleView) → own ≡ faults → if_accepted own a ≡ if_accepted faults b → own ≡ [] → a ≡ b
accepted-both [] [] a b same is none = cc
accepted-both [] (fault ∷ faults) a b same is none = cc
accepted-both (fault ∷ own) faults a b same is none = cc

pub facts-checked : (given : List ℕ → ImportStatus) (source : List ℕ) (units : ModuleUnits) (checked : CheckedModule) → facts_told checked ≡ facts_of given source units → IsChecked given source units checked
facts-checked given source units checked is = record {
  faults = ap (λ (facts : ModuleFacts). facts.faults) is;
  uses = ap (λ (facts : ModuleFacts). facts.uses) is;
  decls = ap (λ (facts : ModuleFacts). facts.decls) is;
  outside = accepted-both checked.faults (faults_of given source units) (face_outside checked.face) (outside_in (files_given given) source units) (ap (λ (facts : ModuleFacts). facts.faults) is) (ap (λ (facts : ModuleFacts). facts.outside) is);
}
