-- How what is found is sorted out: into uses, replacements and faults.
use Rattle.std.specs.Prelude.{◌≡◌, List, [], ◌++◌, map}
use Rattle.tla_model.specs.declared.Diagnostic.{Diagnostic}
use Rattle.module_model.specs.declared.bound.Bound.{Bound}
use Rattle.module_model.specs.declared.bound.Implied.{Implied}
use Rattle.module_model.specs.Bindings.{AreInOrder, Resolved, faults, implied, resolved}
use Rattle.tla_model.specs.Scopes.{Finding}

-- no name stands for anything
pub record IsNothing (bound : Bound) : Type 0 where
  pub uses : bound.uses ≡ []
  pub entities : bound.entities ≡ []
  pub callees : bound.callees ≡ []
  pub implied : bound.implied ≡ []
  pub decls : bound.decls ≡ []
  pub faults : bound.faults ≡ []

-- uses, replacements and faults were appended
pub record HasMore (meant : List Resolved) (replaced : List Implied) (found : List Diagnostic) (old new : Bound) : Type 0 where
  pub uses : new.uses ≡ old.uses ++ map (λ r. r.«use») meant
  pub entities : new.entities ≡ old.entities ++ map (λ r. r.entity) meant
  pub callees : new.callees ≡ old.callees ++ map (λ r. r.callee) meant
  pub implied : new.implied ≡ old.implied ++ replaced
  pub decls : new.decls ≡ old.decls
  pub faults : new.faults ≡ old.faults ++ found

-- what is found was sorted out, with no declarations as yet
pub record IsSorted (found : List Finding) (bound : Bound) : Type 0 where
  pub uses : bound.uses ≡ map (λ r. r.«use») (resolved found)
  pub entities : bound.entities ≡ map (λ r. r.entity) (resolved found)
  pub callees : bound.callees ≡ map (λ r. r.callee) (resolved found)
  pub implied : bound.implied ≡ implied found
  pub decls : bound.decls ≡ []
  pub faults : AreInOrder (faults found) bound.faults

-- what is found is sorted out, but for the rest
pub record IsSorting (rest found : List Finding) (old now : Bound) : Type 0 where
  pub uses : now.uses ++ map (λ r. r.«use») (resolved rest) ≡ old.uses ++ map (λ r. r.«use») (resolved found)
  pub entities : now.entities ++ map (λ r. r.entity) (resolved rest) ≡ old.entities ++ map (λ r. r.entity) (resolved found)
  pub callees : now.callees ++ map (λ r. r.callee) (resolved rest) ≡ old.callees ++ map (λ r. r.callee) (resolved found)
  pub implied : now.implied ++ implied rest ≡ old.implied ++ implied found
  pub decls : now.decls ≡ old.decls
  pub faults : now.faults ++ faults rest ≡ old.faults ++ faults found
