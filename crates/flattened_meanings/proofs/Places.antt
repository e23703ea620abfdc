-- A node has the places that its tree has as a bare operator.
use Rattle.std.proofs.Common.{◌≡◌, ℕ, zero, suc, Bool, true, false, cond, List, [], ◌∷◌, Option, Some, None, refl, sym, ap, ◌∙◌}
use Rattle.std.specs.Prelude.{is_some, slice_get}
use Rattle.tla_symbols.specs.declared.lexeme.LexKind.TheVariants as LexKind
use Rattle.tla_symbols.specs.declared.lexeme.Span.{Span}
use Rattle.tla_symbols.specs.declared.level.Rule.{Rule}
use Rattle.tla_symbols.specs.declared.place.Fix.TheVariants.{Prefix, Infix, Postfix}
use Rattle.tla_symbols.specs.Symbols.{range_of}
use Rattle.tla_tree.specs.declared.form.Form.TheVariants as Form
use Rattle.tla_tree.specs.Syntax.{Tree, Trees, Node, Nil, Cons}
use Rattle.tla_model.specs.declared.names.Binding.TheVariants as as_binding
use Rattle.tla_model.specs.Tables.{Symbol}
use Rattle.tla_model.specs.Entities.{Meaning, Text, declared_in}
use Rattle.tla_model.specs.Contexts.{Context, meaning_of}
use Rattle.tla_model.specs.Scopes.{is_free, prefixed, itself as as_spelled}
use Rattle.module_model.specs.Exports.{Known}
use Rattle.kind_text.specs.FlatModule.{FlatModule, Node as FlatNode, places_of}
use Rattle.kind_text.specs.Substitution.{Item}
use Rattle.level_text.specs.FormRules.{form_rule, symbol_rule}
use Rattle.tree_kinds.specs.Standing.{Outside, operator_places}
use Rattle.tree_kinds.specs.Expanding.{Around, bare_rule, called, is_bare, places_at, symbol_places}
use Rattle.flat_trees.specs.Names.{order_by, places_by}
use Rattle.flat_trees.specs.Layouts.{Agrees, Layout, order_of}
use Rattle.flattened_trees.specs.Leads.{FlatFace, Setting}
use Rattle.flattened_trees.specs.Questions.{Question}
use Rattle.flattened_trees.specs.NodeForms.{bare_places, rule_order, inside_node, let_node, ruled_node}
use Rattle.flattened_trees.specs.Flattened.{IsFlattened}
use Rattle.flattened_trees.specs.Readable.{IsReadable}
use Rattle.flattened_meanings.proofs.Leading.{places-order}
use Rattle.flattened_meanings.proofs.Fresh.{Fresh}
use Rattle.flattened_meanings.proofs.Rounds.{Knows}
use Rattle.flattened_meanings.proofs.Operands.{Each}
use Rattle.flattened_meanings.proofs.NodeNames.{bare-has-places, bare-is, identifier-has-places, operator-has-places}
use Rattle.flattened_meanings.proofs.Forms.{wholes-fresh}

-- ---- places are those of an order

order-again : (n : ℕ) → places_by (order_by (places_by n)) ≡ places_by n
order-again zero = refl
order-again (suc n) = refl

pub operator-again : (found : Option Meaning) → places_by (order_by (operator_places found)) ≡ operator_places found
operator-again None = refl
operator-again (Some m) = ap (λ o. places_by (order_by o)) (places-order m) ∙ order-again (order_of m) ∙ sym (places-order m)

-- two or one
some-again : (b : Bool) → places_by (order_by (Some (cond b 2 1))) ≡ Some (cond b 2 1)
some-again true = refl
some-again false = refl

symbol-again : (context : Context) (kind : LexKind.the_data) → places_by (order_by (symbol_places context kind)) ≡ symbol_places context kind
symbol-again context (LexKind.Sym op) = by_free (is_free op)
  where
    by_free : (b : Bool) → places_by (order_by (cond b (operator_places (meaning_of context (Symbol op))) (Some (cond (is_some (range_of op Infix)) 2 1)))) ≡ cond b (operator_places (meaning_of context (Symbol op))) (Some (cond (is_some (range_of op Infix)) 2 1))
    by_free true = operator-again (meaning_of context (Symbol op))
    by_free false = some-again (is_some (range_of op Infix))
symbol-again context kind = refl

module _ (text : Text) (known : Known) (named : List ℕ → Outside) where
  pub places-again : (context : Context) (x : Tree) → places_by (order_by (places_at text known named context x)) ≡ places_at text known named context x
  places-again context (Node Form.Identifier s parts) = by_bare (is_bare false parts)
    where
      by_bare : (b : Bool) → places_by (order_by (cond b (operator_places (called text known named context parts)) None)) ≡ cond b (operator_places (called text known named context parts)) None
      by_bare true = operator-again (called text known named context parts)
      by_bare false = refl
  places-again context (Node (Form.Symbol l) s parts) = symbol-again context l.kind
  places-again context (Node form s parts) = refl

-- ---- nodes

let-places : (body : Option ℕ) (roots : List ℕ) → (let_node body roots).places ≡ None
let-places None roots = refl
let-places (Some i) roots = refl

inside-places : (is : List ℕ) → (inside_node is).places ≡ None
inside-places [] = refl
inside-places (i ∷ is) = refl

ruled-places : (rule : Option Rule) (is : List ℕ) → (ruled_node rule is).places ≡ None
ruled-places None is = refl
ruled-places (Some rule) is = refl

module _ (flat : FlatModule) (text : Text) (known : Known) (named : List ℕ → Outside) (means : ℕ → Option Meaning) (implied : ℕ → List Meaning) (faces : List ℕ → FlatFace) (nameable : List ℕ → Bool) (layout : Layout) (setting : Setting) (seen : Meaning → Bool) (knows : Knows flat text known named faces nameable layout setting seen) (frame more : List Item) (around : Around) (agrees : Agrees flat layout frame around) where
  pub node-has-places : (form : Form.the_data) (s : Span) (parts : Trees) (i : ℕ) (asked : List Question) → Each flat text known named means implied faces nameable parts → IsFlattened text means implied faces flat setting (Node form s parts) i asked → IsReadable text known named means implied faces layout.context (Node form s parts) → Fresh text seen (declared_in as_binding.Constant (Node form s parts)) → places_of (slice_get flat.nodes i) ≡ places_at text known named layout.context (Node form s parts)
  node-has-places Form.Identifier s parts i asked each (is, a, made, there, asks) can fresh =
      ap places_of there ∙ identifier-has-places flat text known named means implied faces nameable layout setting seen knows frame more around agrees s parts is a each made can.0 can.1 (wholes-fresh text seen Form.Identifier s parts fresh)
  node-has-places (Form.Symbol l) s parts i asked each (is, a, made, there, asks) (empty, same, can) fresh =
      ap places_of there
      ∙ ap (λ (node : FlatNode). node.places) (bare-is flat text known named means implied faces nameable layout setting seen knows frame more around agrees l (bare_rule l.kind))
      ∙ bare-has-places flat text known named means implied faces nameable layout setting seen knows frame more around agrees l l.kind (bare_rule l.kind) (bare_places text.source means l l.kind) same can
      ∙ same
  node-has-places (Form.Prefix l) s parts i asked each (is, a, made, there, asks) (orders, can, cans) fresh =
      ap places_of there ∙ operator-has-places flat text known named means implied faces nameable layout setting seen knows frame more around agrees prefixed l l.kind (symbol_rule Prefix l.kind) parts orders is a each made can cans (wholes-fresh text seen (Form.Prefix l) s parts fresh)
  node-has-places (Form.Infix l) s parts i asked each (is, a, made, there, asks) (orders, can, cans) fresh =
      ap places_of there ∙ operator-has-places flat text known named means implied faces nameable layout setting seen knows frame more around agrees as_spelled l l.kind (symbol_rule Infix l.kind) parts orders is a each made can cans (wholes-fresh text seen (Form.Infix l) s parts fresh)
  node-has-places (Form.Postfix l) s parts i asked each (is, a, made, there, asks) (orders, can, cans) fresh =
      ap places_of there ∙ operator-has-places flat text known named means implied faces nameable layout setting seen knows frame more around agrees as_spelled l l.kind (symbol_rule Postfix l.kind) parts orders is a each made can cans (wholes-fresh text seen (Form.Postfix l) s parts fresh)
  node-has-places Form.Let s parts i asked each (body, roots, chain, there) can fresh = ap places_of there ∙ let-places body roots
  node-has-places Form.Except s Nil i asked each made can fresh = absurd can
  node-has-places Form.Except s (Cons x updates) i asked each (f, is, a, b, made, changed, there, asks) can fresh = ap places_of there
  node-has-places (Form.Number l) s parts i asked each (is, a, made, there, asks) can fresh = ap places_of there
  node-has-places (Form.Text l) s parts i asked each (is, a, made, there, asks) can fresh = ap places_of there
  node-has-places (Form.At l) s parts i asked each (is, a, made, there, asks) can fresh = ap places_of there
  node-has-places Form.Parentheses s parts i asked each (is, a, made, there, asks) can fresh = ap places_of there ∙ inside-places is
  node-has-places (Form.BoundedQuantifier l) s parts i asked each (is, a, made, there, asks) can fresh = ap places_of there
  node-has-places form s parts i asked each made can fresh = ap places_of made.3 ∙ ruled-places (form_rule form) (rule_order form made.0)
