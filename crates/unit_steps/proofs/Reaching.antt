-- Where a module's own form leads.
use Rattle.std.proofs.Common.{◌≡◌, ℕ, suc, ◌<◌, ◌≤◌, List, [], ◌∷◌, ◌++◌, length, refl, ap, sym, subst, ◌∙◌, Option, Some, None, arith}
use Rattle.tla_symbols.specs.declared.lexeme.Lexeme.{Lexeme}
use Rattle.tla_tree.specs.declared.form.Form.{Form}
use Rattle.tla_tree.specs.Arena as Arena
use Rattle.tla_tree.specs.Arena.{node_at, tree_at}
use Rattle.tla_tree.specs.Syntax as Syntax
use Rattle.tla_tree.specs.Syntax.{Trees, Nil}
use Rattle.tla_tree.specs.declared.unit.Unit.TheVariants as unit
use Rattle.tla_tree.proofs.Nodes.{tree_at-form}
use Rattle.unit_machine.specs.declared.wait.Due.{Due}
use Rattle.unit_grammar.specs.Units.{UnitTree, OperatorDefinition, ModuleEnd, defined}
use Rattle.unit_machine.specs.Machine as Machine
use Rattle.unit_frames.specs.declared.reached.Reached.{Reached}
use Rattle.unit_steps.specs.declared.point.Point.{Point}
use Rattle.unit_steps.specs.declared.point.Next.{Next}
use Rattle.unit_grammar.specs.UnitNodes.{AreUnits}
use Rattle.unit_frames.specs.FrameMeaning.{AreParts, IsReached}
use Rattle.unit_steps.specs.PointMeaning.{IsMoved}

pub no-parts : (nodes : List Arena.Node) (numbers : List ℕ) → numbers ≡ [] → AreParts nodes numbers Nil
no-parts nodes numbers e = rw e (record { there = tt; are = refl })

abbrev Closes : Reached → Reached → Type 0
Closes reached closed = (nodes : List Arena.Node) → (d : ℕ) → (us : List UnitTree) → IsReached nodes reached (suc d) us → IsReached nodes closed d us

pub closed-outermost : (nodes : List Arena.Node) (reached closed : Reached) (names : List Lexeme) (d : ℕ) (us : List UnitTree) → reached.depth ≡ 1 → Closes reached closed → names ≡ [] → IsReached nodes reached d us → IsMoved nodes (Some (Next.At (Point.Stands closed Due.Closed names))) (Machine.closed d us)
closed-outermost nodes reached closed names ℕ.zero us one k n i = absurd (let e : 0 ≡ 1 = sym i.depth ∙ one in omega (arith, e))
closed-outermost nodes reached closed names (suc ℕ.zero) us one k n i = (refl, n, k nodes 0 us i)
closed-outermost nodes reached closed names (suc (suc d)) us one k n i = absurd (let e : suc (suc d) ≡ 1 = sym i.depth ∙ one in omega (arith, e))

pub not-closed : (nodes : List Arena.Node) (reached : Reached) (d : ℕ) (us : List UnitTree) → (reached.depth ≡ 1 → ⊥) → IsReached nodes reached d us → IsMoved nodes None (Machine.closed d us)
not-closed nodes reached ℕ.zero us k i = tt
not-closed nodes reached (suc ℕ.zero) us k i = absurd (k i.depth)
not-closed nodes reached (suc (suc d)) us k i = tt

pub ended-nested : (nodes : List Arena.Node) (reached more : Reached) (t : Lexeme) (names : List Lexeme) (d : ℕ) (us : List UnitTree) → 2 ≤ reached.depth → ((d : ℕ) → IsReached nodes reached (suc d) us → IsReached nodes more d (us ++ ModuleEnd t ∷ [])) → names ≡ [] → IsReached nodes reached d us → IsMoved nodes (Some (Next.At (Point.Stands more Due.Unit names))) (Machine.ended d us t)
ended-nested nodes reached more t names ℕ.zero us two k n i = absurd (let e : 2 ≤ 0 = subst (λ z. 2 ≤ z) i.depth two in omega (arith, e))
ended-nested nodes reached more t names (suc ℕ.zero) us two k n i = absurd (let e : 2 ≤ 1 = subst (λ z. 2 ≤ z) i.depth two in omega (arith, e))
ended-nested nodes reached more t names (suc (suc d)) us two k n i = (refl, n, k (suc d) i)

-- the unit of a definition, by the form of its node
definition-is : (nodes : List Arena.Node) (n : ℕ) (form : Form) → n < length nodes → (node_at nodes n).form ≡ form → (parts : Trees) × (tree_at nodes n ≡ Syntax.Node form (node_at nodes n).span parts)
definition-is nodes n form l q =
    let is = tree_at-form nodes n l in
    (is.0, is.1 ∙ ap (λ z. Syntax.Node z (node_at nodes n).span is.0) q)

pub units-one : (nodes : List Arena.Node) (n : ℕ) → n < length nodes → (u : unit.the_data) (x : UnitTree) → Rattle.unit_grammar.specs.UnitNodes.nodes_in u ≡ n ∷ [] → Rattle.unit_grammar.specs.UnitNodes.unit_at nodes u ≡ x → AreUnits nodes (u ∷ []) (x ∷ [])
units-one nodes n l u x q e = record {
  there = (rw q (l, tt), tt);
  are = ap (λ z. z ∷ []) e;
}

pub defined-function : (nodes : List Arena.Node) (local : Option Lexeme) (n : ℕ) (name : Lexeme) → n < length nodes → (node_at nodes n).form ≡ Form.FunctionDefinition name → AreUnits nodes (unit.FunctionDefinition local n ∷ []) (defined local (tree_at nodes n) ∷ [])
defined-function nodes local n name l q =
    let is = definition-is nodes n (Form.FunctionDefinition name) l q in
    units-one nodes n l (unit.FunctionDefinition local n) (defined local (tree_at nodes n)) refl (rw is.1 refl)

pub defined-module : (nodes : List Arena.Node) (local : Option Lexeme) (n : ℕ) (name : Lexeme) → n < length nodes → (node_at nodes n).form ≡ Form.ModuleDefinition name → AreUnits nodes (unit.ModuleDefinition local n ∷ []) (defined local (tree_at nodes n) ∷ [])
defined-module nodes local n name l q =
    let is = definition-is nodes n (Form.ModuleDefinition name) l q in
    units-one nodes n l (unit.ModuleDefinition local n) (defined local (tree_at nodes n)) refl (rw is.1 refl)

other-form : (form : Form) (local : Option Lexeme) (s : _) (parts : Trees) → ((x : Lexeme) → form ≡ Form.FunctionDefinition x → ⊥) → ((x : Lexeme) → form ≡ Form.ModuleDefinition x → ⊥) → OperatorDefinition local (Syntax.Node form s parts) ≡ defined local (Syntax.Node form s parts)
other-form (Form.FunctionDefinition x) local s parts f m = absurd (f x refl)
other-form (Form.ModuleDefinition x) local s parts f m = absurd (m x refl)
other-form _ local s parts f m = refl

pub defined-operator : (nodes : List Arena.Node) (local : Option Lexeme) (n : ℕ) (form : Form) → n < length nodes → form ≡ (node_at nodes n).form → ((x : Lexeme) → form ≡ Form.FunctionDefinition x → ⊥) → ((x : Lexeme) → form ≡ Form.ModuleDefinition x → ⊥) → AreUnits nodes (unit.OperatorDefinition local n ∷ []) (defined local (tree_at nodes n) ∷ [])
defined-operator nodes local n form l q f m =
    let is = definition-is nodes n form l (sym q) in
    units-one nodes n l (unit.OperatorDefinition local n) (defined local (tree_at nodes n)) refl (rw is.1 (other-form form local (node_at nodes n).span is.0 f m))
