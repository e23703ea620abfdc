-- What a member of a family needs, by its one front.
use Rattle.std.proofs.Common.{◌≡◌, ℕ, List, refl, sym, ◌∙◌, map, true, false, Bool, inl, inr, subst}
use Rattle.std.specs.Prelude.{◌⊎◌, Contains}
use Rattle.tla_model.specs.declared.Diagnostic.{Diagnostic}
use Rattle.tla_model.specs.Lexemes.{spelled}
use Rattle.module_graph.specs.Imports.{imports_of}
use Rattle.front_laws.specs.Fronts.{Front, IsFront, Tree, Fault}
use Rattle.unit_grammar.specs.Units.{ModuleUnits}
use Rattle.family_facts.specs.Family.{Member, Needs}
use Rattle.family_facts.proofs.Members.{AreOneEach}
use Rattle.family_facts.proofs.Lists.{among-or-not}

abbrev pub HasNoOther : Type 0
HasNoOther = (name bytes : List ℕ) → (front other : Front) → IsFront name bytes front → IsFront name bytes other → front ≡ other

pub tree-same : {a b : ModuleUnits} → Tree a ≡ Tree b → a ≡ b
tree-same e = cc

pub fault-same : {a b : Diagnostic} → Fault a ≡ Fault b → a ≡ b
fault-same e = cc

pub tree-no-fault : {a : ModuleUnits} {b : Diagnostic} → Tree a ≡ Fault b → ⊥
tree-no-fault e = cc

-- the names that a module needs
abbrev pub needed : List ℕ → ModuleUnits → List (List ℕ)
needed bytes found = map (spelled bytes) (imports_of bytes found)

module _ (one : HasNoOther) (family : List Member) (distinct : AreOneEach family) where
  -- a member with a tree needs just what that tree does
  pub needs-tree : (m : Member) (found : ModuleUnits) (name need : List ℕ) → Contains family m → m.name ≡ name → IsFront m.name m.bytes (Tree found) → Needs family name need → Contains (needed m.bytes found) need
  needs-tree m found name need there named front n =
      let same : n.member ≡ m = distinct n.member m n.there there (n.named ∙ sym named) in
      let front' : IsFront m.name m.bytes (Tree n.found) = subst (λ (x : Member). IsFront x.name x.bytes (Tree n.found)) same n.front in
      let is : n.found ≡ found = tree-same (one m.name m.bytes (Tree n.found) (Tree found) front' front) in
      subst (λ (f : ModuleUnits). Contains (needed m.bytes f) need) is (subst (λ (x : Member). Contains (needed x.bytes n.found) need) same n.needs)

  pub tree-needs : (m : Member) (found : ModuleUnits) (name need : List ℕ) → Contains family m → m.name ≡ name → IsFront m.name m.bytes (Tree found) → Contains (needed m.bytes found) need → Needs family name need
  tree-needs m found name need there named front c = record { member = m; found = found; there = there; named = named; front = front; needs = c }

  -- one with a front fault needs nothing
  pub fault-needs : (m : Member) (fault : Diagnostic) (name need : List ℕ) → Contains family m → m.name ≡ name → IsFront m.name m.bytes (Fault fault) → Needs family name need → ⊥
  fault-needs m fault name need there named front n =
      let same : n.member ≡ m = distinct n.member m n.there there (n.named ∙ sym named) in
      let front' : IsFront m.name m.bytes (Tree n.found) = subst (λ (x : Member). IsFront x.name x.bytes (Tree n.found)) same n.front in
      tree-no-fault (one m.name m.bytes (Tree n.found) (Fault fault) front' front)

  pub needs-or-not : (m : Member) (found : ModuleUnits) (need : List ℕ) → Contains family m → IsFront m.name m.bytes (Tree found) → Needs family m.name need ⊎ (Needs family m.name need → ⊥)
  needs-or-not m found need there front = elim (among-or-not (needed m.bytes found) need) as (λ _. Needs family m.name need ⊎ (Needs family m.name need → ⊥)) [
    | inl c ↦ inl (tree-needs m found m.name need there refl front c)
    | inr n ↦ inr (λ h. n (needs-tree m found m.name need there refl front h))
  ]

pub not-there : {b : Bool} → b ≡ false → b ≡ true → ⊥
not-there f t = let k : true ≡ false = sym t ∙ f in cc
