-- Nodes that are built of trees, names among them.
use Rattle.std.proofs.Common.{◌≡◌, ℕ, zero, suc, List, [], ◌∷◌, ◌++◌, Option, Some, None, refl, sym, ap, ◌∙◌}
use mathlib.Core.Path.{fun_ext}
use Rattle.tla_symbols.specs.declared.level.Rule.{Rule}
use Rattle.tla_symbols.specs.declared.place.Fix.TheVariants.{Prefix, Infix, Postfix}
use Rattle.tla_tree.specs.declared.form.Form.TheVariants as Form
use Rattle.tla_tree.specs.Syntax.{Tree, Node}
use Rattle.tla_model.specs.Tables.{Named}
use Rattle.tla_model.specs.Entities.{Meaning, Text}
use Rattle.tla_model.specs.Contexts.{meaning_of}
use Rattle.tla_model.specs.Scopes.{prefixed, itself as as_spelled}
use Rattle.module_model.specs.Exports.{Known}
use Rattle.kind_text.specs.ExpandedKind.{Ruled}
use Rattle.kind_text.specs.FlatModule.{FlatModule, Form as NodeForm}
use Rattle.kind_text.specs.Expansion.{first_item, form_item, items as items_at, text as text_at}
use Rattle.kind_text.specs.Substitution.{Item, expressions, operator}
use Rattle.level_text.specs.FormRules.{symbol_rule}
use Rattle.tree_kinds.specs.Standing.{Outside, Steps, applied_to, item_of, single, value_in}
use Rattle.tree_kinds.specs.Expanding.{Around, at_names, bare_rule, expand, inner, items, places_at, steps, symbol_name, symbol_places, symbol_text}
use Rattle.tree_kinds.proofs.MadeNodes.{made-form, texts-expressions}
use Rattle.flat_trees.specs.Stands.{AreStanding, Matches, Stand}
use Rattle.flat_trees.specs.Names.{IsBareSymbol, IsBuilt, IsInside, IsMeaning, IsPath, IsSymbolOn, order_by}
use Rattle.flat_trees.proofs.Reaching.{append-nil, further, named-node}

-- the same item matches itself
pub matches-same : (n : ℕ) (a b : Item) → a ≡ b → Matches n a b
matches-same zero a b same = ap (λ (x : Item). x.text) same
matches-same (suc n) a b same = λ ts many. ap (λ (x : Item). x.call ts) same

module _ (flat : FlatModule) (form : NodeForm) (is : List ℕ) (s : List Item) (stands : Meaning → Stand) (around : Around) (standing : AreStanding flat s stands around.standing) where
  -- what stands at names, on further arguments
  pub at-path : (places : Option ℕ) (path : Steps) → IsPath stands around.context places path form (items_at (text_at flat) is s) → Matches (order_by places) (form_item flat (text_at flat) form is s) (item_of places (λ more. at_names around (applied_to path more)))
  at-path places [] made = absurd made
  at-path places (step ∷ path) made = by_meaning (meaning_of around.context step.name) refl made
    where
      gives : (meaning : Meaning) (rest : Steps) → meaning_of around.context step.name ≡ Some meaning → (more : List Item) → at_names around (applied_to (step ∷ rest) more) ≡ further flat (around.standing meaning) step.arguments rest more
      gives meaning [] e more = ap (λ o. value_in around.standing o (step.arguments ++ more) []) e
      gives meaning (second ∷ rest) e more = ap (λ o. value_in around.standing o step.arguments (applied_to (second ∷ rest) more)) e

      by_meaning : (found : Option Meaning) → meaning_of around.context step.name ≡ found → IsMeaning stands around.context places found step.arguments path form (items_at (text_at flat) is s) → Matches (order_by places) (form_item flat (text_at flat) form is s) (item_of places (λ more. at_names around (applied_to (step ∷ path) more)))
      by_meaning None e named = absurd named
      by_meaning (Some meaning) e named =
          named-node flat s (around.standing meaning) step.arguments path (λ more. at_names around (applied_to (step ∷ path) more)) (gives meaning path e) places (stands meaning) (standing meaning) form is named

  symbol-on : (rule : Option Rule) (name : Option Named) (operands : List Item) → IsSymbolOn stands around.context rule name operands form (items_at (text_at flat) is s) → (form_item flat (text_at flat) form is s).text ≡ symbol_text around rule name operands
  symbol-on (Some rule) name operands made = ap (λ g. (form_item flat (text_at flat) g is s).text) made.0 ∙ ap (λ ts. Ruled rule ts) made.1
  symbol-on None None operands made = absurd made
  symbol-on None (Some name) operands made = at-path None (single name operands) made ∙ ap (λ xs. at_names around (single name xs)) (append-nil operands)

  bare-symbol : (rule : Option Rule) (name : Option Named) (places : Option ℕ) → IsBareSymbol stands around.context rule name places form (items_at (text_at flat) is s) → Matches (order_by places) (form_item flat (text_at flat) form is s) (operator (λ ts. symbol_text around rule name (expressions ts)))
  bare-symbol (Some rule) name places made =
      matches-same (order_by places) _ _ (ap (λ g. form_item flat (text_at flat) g is s) made ∙ ap operator (fun_ext (λ ts. sym (ap (Ruled rule) (texts-expressions ts)))))
  bare-symbol None (Some name) (Some places) made = at-path (Some places) (single name []) made
  bare-symbol None (Some name) None made = absurd made
  bare-symbol None None places made = absurd made

  inside : (x : Item) → IsInside x form (items_at (text_at flat) is s) → (form_item flat (text_at flat) form is s).text ≡ x.text
  inside x (first, rest, is_let, parts, same) = ap (λ g. (form_item flat (text_at flat) g is s).text) is_let ∙ ap (λ (y : Item). y.text) (heads is parts) ∙ same
    where
      heads : (js : List ℕ) → items_at (text_at flat) js s ≡ first ∷ rest → first_item (text_at flat) js s ≡ first
      heads [] e = cc
      heads (j ∷ js) e = cc

  module _ (text : Text) (known : Known) (named : List ℕ → Outside) where
    pub built-node : (x : Tree) → IsBuilt text known named stands around x form (items_at (text_at flat) is s) → Matches (order_by (places_at text known named around.context x)) (form_item flat (text_at flat) form is s) (expand text known named around x)
    built-node (Node Form.Identifier sp parts) made = at-path (places_at text known named around.context (Node Form.Identifier sp parts)) (steps text known named around parts) made
    built-node (Node (Form.Symbol l) sp parts) made = bare-symbol (bare_rule l.kind) (symbol_name as_spelled l.kind) (symbol_places around.context l.kind) made
    built-node (Node (Form.Prefix l) sp parts) made = symbol-on (symbol_rule Prefix l.kind) (symbol_name prefixed l.kind) (items text known named around parts) made
    built-node (Node (Form.Infix l) sp parts) made = symbol-on (symbol_rule Infix l.kind) (symbol_name as_spelled l.kind) (items text known named around parts) made
    built-node (Node (Form.Postfix l) sp parts) made = symbol-on (symbol_rule Postfix l.kind) (symbol_name as_spelled l.kind) (items text known named around parts) made
    built-node (Node Form.Parentheses sp parts) made = inside (inner text known named around parts) made
    built-node (Node Form.Let sp parts) made = inside (inner text known named around parts) made
    built-node (Node written sp parts) made = ap (λ (y : Item). y.text) (made-form flat (text_at flat) form is s text known named around (Node written sp parts) made)
