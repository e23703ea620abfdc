-- What comes from elsewhere or is declared before is declared by none of the units behind.
use Rattle.std.proofs.Common.{◌≡◌, ◌≤◌, ◌+◌, ℕ, Bool, true, false, cond, List, [], ◌∷◌, ◌++◌, inl, inr, refl, sym, ap, subst, ◌∙◌, map, append_assoc, arith}
use Rattle.unit_grammar.specs.Units.{ModuleUnits, UnitTree}
use Rattle.tla_model.specs.declared.entity.Entity.TheVariants as entity
use Rattle.tla_model.specs.declared.ids.DeclId.{DeclId}
use Rattle.tla_model.specs.declared.names.Binder.{Binder}
use Rattle.tla_model.specs.declared.names.Meaning.TheVariants.{BuiltIn, Declared}
use Rattle.tla_model.specs.Entities.{Meaning, declared_by, declaring, meant, same_meaning}
use Rattle.tla_model.specs.Lexemes.{spelled}
use Rattle.module_model.specs.Modules.{text_of}
use Rattle.flattened_trees.specs.Agreeing.{AreNew, is_seen}
use Rattle.fresh_names.specs.Seen.{IsDeclaredBy, IsElsewhere, symbols_in}
use Rattle.fresh_names.proofs.Kept.{symbols-within}
use Rattle.fresh_names.proofs.New.{all-new, beginning, there-all}
use Rattle.given_modules.proofs.Exported.{IsAmong}

named-append : (start : ℕ) (a b : List Binder) → beginning start (a ++ b) ≡ beginning start a + beginning start b
named-append start [] b = omega arith
named-append start (binder ∷ a) b = omega (arith, named-append start a b)

declaring-append : (a b : List UnitTree) → declaring (a ++ b) ≡ declaring a ++ declaring b
declaring-append [] b = refl
declaring-append (unit ∷ a) b = ap (λ names. declared_by unit ++ names) (declaring-append a b) ∙ sym (append_assoc (declared_by unit) (declaring a) (declaring b))

-- a name that is new means nothing that was seen
unseen-one : (seen : List Meaning) (m o : Meaning) → IsAmong seen o → is_seen seen m ≡ false → same_meaning m o ≡ false
unseen-one [] m o one none = absurd one
unseen-one (x ∷ xs) m o (inl same) none = subst (λ k. same_meaning m k ≡ false) same (by (same_meaning m x) none)
  where
    by : (b : Bool) → cond b true (is_seen xs m) ≡ false → b ≡ false
    by true none = absurd (cc none)
    by false none = refl
unseen-one (x ∷ xs) m o (inr one) none = by (same_meaning m x) none (λ later. unseen-one xs m o one later)
  where
    by : (b : Bool) → cond b true (is_seen xs m) ≡ false → (is_seen xs m ≡ false → same_meaning m o ≡ false) → same_meaning m o ≡ false
    by true none later = absurd (cc none)
    by false none later = later none

module _ (source : List ℕ) (units : ModuleUnits) where
  unseen-each : (o : Meaning) (binders : List Binder) (seen : List Meaning) → IsAmong seen o → AreNew seen (map (meant (text_of source units)) binders) → (decl : DeclId) → IsDeclaredBy (text_of source units) binders decl
      → same_meaning (Declared entity.Variable (record { instance = 0; decl = decl; via = [] })) o ≡ false
  unseen-each o [] seen there new decl declared = absurd declared
  unseen-each o (binder ∷ rest) seen there new decl (inl same) = same-as o ∙ unseen-one seen (meant (text_of source units) binder) o there new.0
    where
      same-as : (m : Meaning) → same_meaning (Declared entity.Variable (record { instance = 0; decl = decl; via = [] })) m ≡ same_meaning (meant (text_of source units) binder) m
      same-as BuiltIn = refl
      same-as (Declared e callee) = ap (λ (d : DeclId). same_meaning (Declared entity.Variable (record { instance = 0; decl = d; via = [] })) (Declared e callee)) same
  unseen-each o (binder ∷ rest) seen there new decl (inr later) = unseen-each o rest (meant (text_of source units) binder ∷ seen) (inr there) new.1 decl later

  pub later-apart : ((start : ℕ) → beginning start (declaring units.units) ≤ 1) → (before behind : List UnitTree) → units.units ≡ before ++ behind → (o : Meaning) → IsElsewhere (text_of source units) (declaring before) o
      → (decl : DeclId) → IsDeclaredBy (text_of source units) (symbols_in behind) decl → same_meaning (Declared entity.Variable (record { instance = 0; decl = decl; via = [] })) o ≡ false
  later-apart few before behind split o elsewhere decl declared =
      unseen-each o (declaring behind) (o ∷ []) (inl refl)
      (all-new (spelled source units.name) source (declaring units.units) (declaring before) (declaring behind) (o ∷ []) (there-all (declaring units.units) (declaring before) (λ start. omega (arith, sum start)))
      (there-all (declaring units.units) (declaring behind) (λ start. omega (arith, sum start))) (λ start. omega (arith, sum start, few start)) (elsewhere, tt)) decl (symbols-within (text_of source units) behind decl declared)
    where
      sum : (start : ℕ) → beginning start (declaring units.units) ≡ beginning start (declaring before) + beginning start (declaring behind)
      sum start = ap (λ us. beginning start (declaring us)) split ∙ ap (beginning start) (declaring-append before behind) ∙ named-append start (declaring before) (declaring behind)
