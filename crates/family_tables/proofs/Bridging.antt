-- The needs of a family, and those of its modules as they were read.
use Rattle.std.proofs.Common.{◌≡◌, ℕ, List, sym, ◌∙◌, map, true, inl, inr, subst}
use Rattle.std.specs.Prelude.{◌⊎◌, Contains}
use Rattle.tla_model.specs.Lexemes.{spelled}
use Rattle.front_laws.specs.Fronts.{Tree, Fault, IsFront}
use Rattle.module_graph.specs.Imports.{imports_of}
use Rattle.unit_grammar.specs.Units.{ModuleUnits}
use Rattle.unit_grammar.specs.UnitNodes.{module_of}
use Rattle.index_graph.specs.Leading.{Leads}
use Rattle.family_facts.specs.Family as families
use Rattle.family_facts.specs.Family.{Member, is_there}
use Rattle.family_tables.specs.Modules.{Entry, IsEntry, IsReading, AreModules, needs_in}
use Rattle.family_tables.specs.Plans as plans
use Rattle.family_tables.specs.declared.reading.Reading.TheVariants as reading
use Rattle.family_tables.proofs.Graphs.{first-step, leads-map}
use Rattle.family_facts.proofs.Lists.{none-there, zip-left, zip-right}
use Rattle.family_facts.proofs.Members.{member-there}
use Rattle.family_facts.proofs.Needing.{HasNoOther, needed, tree-same, tree-no-fault}

-- what a module that was read needs
pub reading-needs : (m : Member) (name : List ℕ) (r : reading.the_data) (needs : List (List ℕ)) (need : List ℕ) → name ≡ m.name → IsReading name m.bytes r → needs ≡ needs_in r → Contains needs need → (found : ModuleUnits) × IsFront m.name m.bytes (Tree found) × Contains (needed m.bytes found) need
reading-needs m name (reading.Tree tree) needs need named is same h = (
  module_of tree,
  subst (λ n. IsFront n m.bytes (Tree (module_of tree))) named is.front,
  subst (λ s. Contains (map (spelled s) (imports_of s (module_of tree))) need) is.source (subst (λ ns. Contains ns need) same h),
)
reading-needs m name (reading.Fault fault) needs need named is same h = absurd (none-there need (subst (λ ns. Contains ns need) same h))

pub needs-reading : HasNoOther → (m : Member) (name : List ℕ) (r : reading.the_data) (needs : List (List ℕ)) (need : List ℕ) (found : ModuleUnits) → name ≡ m.name → IsReading name m.bytes r → needs ≡ needs_in r → IsFront m.name m.bytes (Tree found) → Contains (needed m.bytes found) need → Contains needs need
needs-reading one m name (reading.Tree tree) needs need found named is same front h =
    let f : found ≡ module_of tree = tree-same (one m.name m.bytes (Tree found) (Tree (module_of tree)) front (subst (λ n. IsFront n m.bytes (Tree (module_of tree))) named is.front)) in
    subst (λ ns. Contains ns need) (sym same)
    (subst (λ s. Contains (map (spelled s) (imports_of s (module_of tree))) need) (sym is.source) (subst (λ (u : ModuleUnits). Contains (needed m.bytes u) need) f h))
needs-reading one m name (reading.Fault fault) needs need found named is same front h =
    absurd (tree-no-fault (one m.name m.bytes (Tree found) (Fault fault) front (subst (λ n. IsFront n m.bytes (Fault fault)) named is.0)))

module _ (one : HasNoOther) (family : List Member) (entries : List Entry) (are : AreModules family entries) where
  pub own-needs : (name need : List ℕ) → plans.Needs entries name need → families.Needs family name need
  own-needs name need n =
      let m = zip-right IsEntry family entries n.entry are n.there in
      let r = reading-needs m.0 n.entry.0 n.entry.1.reading n.entry.1.needs need (m.2).named (m.2).is.reading (m.2).is.needs n.needs in
      record { member = m.0; found = r.0; there = m.1; named = sym (m.2).named ∙ n.named; front = r.1; needs = r.2 }

  pub all-needs : (name need : List ℕ) → families.Needs family name need → plans.Needs entries name need
  all-needs name need n =
      let e = zip-left IsEntry family entries n.member are n.there in
      record {
        entry = e.0;
        there = e.1;
        named = (e.2).named ∙ n.named;
        needs = needs-reading one n.member (e.0).0 (e.0).1.reading (e.0).1.needs need n.found (e.2).named (e.2).is.reading (e.2).is.needs n.front n.needs;
      }

-- ---- what is there

pub needs-there : (family : List Member) (name need : List ℕ) → families.Needs family name need → is_there family name ≡ true
needs-there family name need n = member-there family name n.member n.there n.named

pub cyclic-there : (family : List Member) (name need : List ℕ) → families.Needs family name need → families.IsCyclic family name need → is_there family need ≡ true
cyclic-there family name need n c = elim c as (λ _. is_there family need ≡ true) [
  | inl e ↦ subst (λ x. is_there family x ≡ true) (sym e) (needs-there family name need n)
  | inr r ↦ let s = first-step r in needs-there family need s.0 s.1
]

pub cyclic-map : (R S : List ℕ → List ℕ → Type 0) (name need : List ℕ) → ((a b : List ℕ) → R a b → S a b) → ((need ≡ name) ⊎ Leads R need name) → (need ≡ name) ⊎ Leads S need name
cyclic-map R S name need f c = elim c as (λ _. (need ≡ name) ⊎ Leads S need name) [ inl e ↦ inl e | inr r ↦ inr (leads-map f r) ]
