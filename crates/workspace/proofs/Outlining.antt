-- The front of a text is what its tree says.
use Rattle.std.proofs.Common.{◌≡◌, List, ℕ, refl, sym, subst}
use Rattle.unit_grammar.specs.Units.{ModuleUnits}
use Rattle.unit_grammar.specs.UnitNodes.{module_of}
use Rattle.tla_tree.specs.declared.unit.ModuleTree.{ModuleTree}
use Rattle.front_laws.specs.Fronts.{IsFront, IsTree, Tree}

same-module : (tree : ModuleTree) (found : ModuleUnits) (text : List ℕ) → IsTree tree found text → module_of tree ≡ found
same-module tree found text h = rw (h.name, h.extends, h.units.are) refl

pub front-of-tree : (name bytes text : List ℕ) (tree : ModuleTree) → text ≡ bytes → ((found : ModuleUnits) × IsFront name bytes (Tree found) × IsTree tree found bytes) → IsFront name text (Tree (module_of tree))
front-of-tree name bytes text tree same read =
    subst (λ (u : ModuleUnits). IsFront name text (Tree u)) (sym (same-module tree read.0 bytes read.2)) (subst (λ t. IsFront name t (Tree read.0)) (sym same) read.1)
