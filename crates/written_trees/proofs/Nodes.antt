-- The trees of nodes that are made for forms, by the trees of their operands.
use Rattle.std.proofs.Common.{◌≡◌, ℕ, List, [], ◌∷◌, ◌++◌, Option, Some, None, refl, ap, ◌∙◌}
use Rattle.std.specs.Prelude.{option_map}
use Rattle.tla_symbols.specs.declared.lexeme.Lexeme.{Lexeme}
use Rattle.tla_symbols.specs.declared.level.Rule.{Rule}
use Rattle.tla_symbols.specs.declared.place.Fix.TheVariants.{Prefix, Infix, Postfix}
use Rattle.tla_tree.specs.declared.form.Form.TheVariants as Form
use Rattle.tla_tree.specs.Syntax.{Trees, Node as TreeNode, Nil as NoTrees, Cons as ConsTree}
use Rattle.tla_model.specs.Tables.{Named}
use Rattle.tla_model.specs.Entities.{Meaning}
use Rattle.kind_text.specs.FlatModule.{FlatModule, Node as FlatNode}
use Rattle.level_text.specs.FormRules.{form_rule, symbol_rule}
use Rattle.tree_kinds.specs.Expanding.{bare_rule}
use Rattle.tree_kinds.specs.TreeDepths.{path_names}
use Rattle.flattened_trees.specs.declared.End.TheVariants as end
use Rattle.flattened_trees.specs.Leads as flat_leads
use Rattle.flattened_trees.specs.NodeForms as nodes
use Rattle.flattened_trees.specs.NodeForms.{bare_places, path_places}
use Rattle.resolved_trees.specs.Resolved.{Bounded, Cons, Node, Parts, Resolved, form_at, parts_at, resolved}
use Rattle.written_trees.specs.Leading.{Face, lead_in, leads_in, setting_in}
use Rattle.written_trees.specs.Written.{and_parts, bare_tree, form_tree, inside, last_first, lead_of, let_over, named, operator_tree, path_tree, rule_order, ruled}
use Rattle.tla_model.specs.Entities.{Text}

module _ (flat : FlatModule) where
  -- the tree of a node, by those of its parts
  abbrev pub made : FlatNode → Resolved
  made node = form_at flat (resolved flat) node.form node.places node.parts

  -- the trees of nodes
  abbrev pub trees : List ℕ → Parts
  trees is = parts_at flat (resolved flat) is

  pub trees-both : (is js : List ℕ) → trees (is ++ js) ≡ and_parts (trees is) (trees js)
  trees-both [] js = refl
  trees-both (i ∷ is) js = ap (λ z. Cons (resolved flat i) z) (trees-both is js)

  -- ---- names

  end-told : (places : Option ℕ) (path : List ℕ) (e : end.the_data) (is : List ℕ)
      → made (nodes.name_node places (record { path = path; end = e }) is) ≡ named places (lead_in flat (record { path = path; end = e })) (trees is)
  end-told places path end.Nowhere is = refl
  end-told places path (end.Leaf kind) is = refl
  end-told places path (end.Place place order) [] = refl
  end-told places path (end.Place place order) (i ∷ is) = refl
  end-told None path (end.Definition d) is = refl
  end-told (Some count) path (end.Definition d) is = refl

  pub name-told : (places : Option ℕ) (lead : flat_leads.Lead) (is : List ℕ) → made (nodes.name_node places lead is) ≡ named places (lead_in flat lead) (trees is)
  name-told places lead is = end-told places lead.path lead.end is

  pub lead-told : (leads : flat_leads.Leads) (o : Option Meaning) (names : List Named) → lead_in flat (nodes.lead_of leads o names) ≡ lead_of (leads_in flat leads) o names
  lead-told leads None names = refl
  lead-told leads (Some meaning) names = refl

  pub meant-told : (places : Option ℕ) (leads : flat_leads.Leads) (o : Option Meaning) (names : List Named) (is : List ℕ)
      → made (nodes.name_node places (nodes.lead_of leads o names) is) ≡ named places (lead_of (leads_in flat leads) o names) (trees is)
  meant-told places leads o names is = name-told places (nodes.lead_of leads o names) is ∙ ap (λ lead. named places lead (trees is)) (lead-told leads o names)

  -- ---- forms

  ruled-told : (o : Option Rule) (is : List ℕ) → made (nodes.ruled_node o is) ≡ ruled o (trees is)
  ruled-told None is = refl
  ruled-told (Some rule) is = refl

  order-told : (form : Form.the_data) (is : List ℕ) → trees (nodes.rule_order form is) ≡ rule_order form (trees is)
  order-told (Form.Fairness l) [] = refl
  order-told (Form.Fairness l) (a ∷ []) = refl
  order-told (Form.Fairness l) (a ∷ b ∷ []) = refl
  order-told (Form.Fairness l) (a ∷ b ∷ c ∷ is) = refl
  order-told form is = refl

  last-told : (before is : List ℕ) → trees (nodes.last_first before is) ≡ last_first (trees before) (trees is)
  last-told before [] = refl
  last-told before (i ∷ []) = refl
  last-told before (i ∷ j ∷ is) = last-told (before ++ i ∷ []) (j ∷ is) ∙ ap (λ z. last_first z (trees (j ∷ is))) (trees-both before (i ∷ []))

  inside-told : (is : List ℕ) → made (nodes.inside_node is) ≡ inside (trees is)
  inside-told [] = refl
  inside-told (i ∷ is) = refl

  pub let-told : (body : Option ℕ) (roots : List ℕ) → made (nodes.let_node body roots) ≡ let_over (option_map (resolved flat) body) (trees roots)
  let-told None roots = refl
  let-told (Some body) roots = refl

  module _ (text : Text) (means : ℕ → Option Meaning) (implied : ℕ → List Meaning) (faces : List ℕ → Face) (setting : flat_leads.Setting) where
    path-told : (parts : Trees) (is : List ℕ) → made (nodes.path_node text.source means setting parts is) ≡ path_tree text means implied faces (setting_in flat setting) parts (trees is)
    path-told NoTrees is = refl
    path-told (ConsTree (TreeNode (Form.Segment l) s arguments) rest) is =
        meant-told (path_places text.source means (ConsTree (TreeNode (Form.Segment l) s arguments) rest)) setting.leads (means l.span.start) (path_names text.source rest) is
    path-told (ConsTree (TreeNode form s arguments) rest) is = refl

    bare-told : (l : Lexeme) (o : Option Rule) → made (nodes.bare_node text.source means setting l o) ≡ bare_tree text means implied faces (setting_in flat setting) l o
    bare-told l (Some rule) = refl
    bare-told l None = meant-told (bare_places text.source means l l.kind) setting.leads (means l.span.start) [] []

    operator-told : (l : Lexeme) (o : Option Rule) (is : List ℕ) → made (nodes.operator_node text.source means setting l o is) ≡ operator_tree text means implied faces (setting_in flat setting) l o (trees is)
    operator-told l (Some rule) is = refl
    operator-told l None is = meant-told None setting.leads (means l.span.start) [] is

    pub form-told : (form : Form.the_data) (parts : Trees) (is : List ℕ)
        → made (nodes.form_node text.source means setting form parts is) ≡ form_tree text means implied faces (setting_in flat setting) form parts (trees is)
    form-told Form.Identifier parts is = path-told parts is
    form-told (Form.Number l) parts is = refl
    form-told (Form.Text l) parts is = refl
    form-told (Form.At l) parts is = refl
    form-told (Form.Symbol l) parts is = bare-told l (bare_rule l.kind)
    form-told (Form.Prefix l) parts is = operator-told l (symbol_rule Prefix l.kind) is
    form-told (Form.Infix l) parts is = operator-told l (symbol_rule Infix l.kind) is
    form-told (Form.Postfix l) parts is = operator-told l (symbol_rule Postfix l.kind) is
    form-told Form.Parentheses parts is = inside-told is
    form-told (Form.BoundedQuantifier l) parts is = ap (λ z. Node Bounded None z) (last-told [] is)
    form-told form parts is = ruled-told (form_rule form) (nodes.rule_order form is) ∙ ap (ruled (form_rule form)) (order-told form is)
