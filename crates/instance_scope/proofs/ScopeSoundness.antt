-- What is kept goes together, as more is noted.
use Rattle.std.proofs.Common.{◌≡◌, ◌⊎◌, ⊎_elim, false, [], length, Some, ap, sym, subst, ◌∙◌}
use Rattle.std.specs.Str.{bytes_eq}
use Rattle.tla_model.specs.declared.ids.DeclId.{DeclId}
use Rattle.tla_model.specs.Entities.{same_decl}
use Rattle.tla_model.specs.Tables.{added, lookup}
use Rattle.tree_tasks.specs.declared.held.Held.{Held}
use Rattle.instance_scope.specs.declared.scope.Scope.{Scope}
use Rattle.instance_leads.specs.Keys.{joined_leads}
use Rattle.instance_leads.specs.Leading.{IsThere, Leads}
use Rattle.instance_scope.specs.Scoped.{AreGiven, IsBroughtBy, IsSound}
use Rattle.instance_leads.proofs.Knowing.{added-cases, joined-cases, joined-first}

pub none-given : (scope : Scope) → AreGiven scope []
none-given scope = record { there = λ decl held is. cc; foreign = λ decl held is other. cc }

pub given-added : (scope : Scope) (leads : Leads) (decl : DeclId) (held : Held) → AreGiven scope leads → IsThere scope.imported.now (length scope.nested.items) held → (bytes_eq decl.«module» scope.title.now ≡ false → IsBroughtBy scope.imported.now decl held) → AreGiven scope (added same_decl leads decl held)
given-added scope leads decl held given there brought = record {
  there = λ other found is. ⊎_elim (λ (at : lookup same_decl leads other ≡ Some found). given.there other found at) (λ (at : (other ≡ decl) × (held ≡ found)). subst (λ z. IsThere scope.imported.now (length scope.nested.items) z) at.1 there) (added-cases leads decl held other found is);
  foreign = λ other found is elsewhere. ⊎_elim (λ (at : lookup same_decl leads other ≡ Some found). given.foreign other found at elsewhere)
      (λ (at : (other ≡ decl) × (held ≡ found)). subst (λ z. IsBroughtBy scope.imported.now z found) (sym at.0) (subst (λ z. IsBroughtBy scope.imported.now decl z) at.1 (brought (ap (λ z. bytes_eq z.«module» scope.title.now) (sym at.0) ∙ elsewhere))))
      (added-cases leads decl held other found is);
}

pub sound-joined : (scope : Scope) (more known : Leads) → IsSound scope → AreGiven scope more → known ≡ joined_leads scope.known more → IsSound (record scope { known = known })
sound-joined scope more known sound given is = record {
  faces = sound.faces;
  known = λ decl held at. ⊎_elim (λ (one : lookup same_decl scope.known decl ≡ Some held). sound.known decl held one) (λ (one : lookup same_decl more decl ≡ Some held). given.there decl held one) (cases decl held at);
  there = sound.there;
  noted = λ number ended at decl held one. ap (λ z. lookup same_decl z decl) is ∙ joined-first scope.known more decl held (sound.noted number ended at decl held one);
  told = sound.told;
  foreign = λ decl held at elsewhere. ⊎_elim (λ (one : lookup same_decl scope.known decl ≡ Some held). sound.foreign decl held one elsewhere) (λ (one : lookup same_decl more decl ≡ Some held). given.foreign decl held one elsewhere) (cases decl held at);
}
  where
    cases : (decl : DeclId) (held : Held) → lookup same_decl known decl ≡ Some held → (lookup same_decl scope.known decl ≡ Some held) ⊎ (lookup same_decl more decl ≡ Some held)
    cases decl held at = joined-cases scope.known more decl held (ap (λ z. lookup same_decl z decl) (sym is) ∙ at)
