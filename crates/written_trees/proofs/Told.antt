-- The trees of what is written, part by part.
use Rattle.std.proofs.Common.{◌≡◌, ℕ, Bool, true, false, List, [], ◌∷◌, ◌++◌, Option, Some, refl, sym, ap, ◌∙◌, length, map}
use Rattle.std.specs.Prelude.{option_map, slice_get}
use Rattle.tla_symbols.specs.declared.lexeme.Lexeme.{Lexeme}
use Rattle.tla_symbols.specs.declared.lexeme.Span.{Span}
use Rattle.tla_symbols.specs.declared.level.Rule.TheVariants as rule
use Rattle.tla_tree.specs.declared.form.Form.TheVariants as Form
use Rattle.tla_tree.specs.Forms.{helps}
use Rattle.tla_tree.specs.Syntax.{Tree, Trees, Node as TreeNode, Nil as NoTrees, Cons as ConsTree}
use Rattle.tla_model.specs.Tables.{Named}
use Rattle.tla_model.specs.Entities.{Defines, Meaning, Text, Nothing, Operator, Function, Module, defined_as, defines, meant, name_of}
use Rattle.kind_text.specs.FlatModule.{FlatModule, Form as NodeForm, IsOrdered}
use Rattle.tree_kinds.specs.Expanding.{Helper, Outer, Part, Whole, part_of, stands_outside}
use Rattle.flat_trees.specs.Layouts.{parameters_of}
use Rattle.flattened_trees.specs.declared.End.TheVariants as end
use Rattle.flattened_trees.specs.Flattened as flattened
use Rattle.flattened_trees.specs.Flattened.{AreOperands, AreRights, AreUpdates, HasNode, IsChain, IsDefined, IsFlattened, IsRoot, IsThrough, Right as FlatRight, all_parts, inside_parts}
use Rattle.flattened_trees.specs.Leads as flat_leads
use Rattle.flattened_trees.specs.NodeForms as nodes
use Rattle.flattened_trees.specs.Questions.{IsShallow, Question, over}
use Rattle.resolved_trees.specs.Resolved.{Body, Cons, Nil, Parts, Resolved, definition_at, resolved}
use Rattle.written_trees.specs.Leading.{Defined, Face, Lead, Setting, behind, behind_instance, face_in, nowhere, only, repeating, setting_in, with_leads, with_parameters}
use Rattle.written_trees.specs.Written.{AllHoldInstances, HasInstance, HoldsInstances, and_parts, body_in, defined_lead, defined_roots, form_tree, instance_of, let_over, one, operands_of, operation, right_of, right_roots, rights_of, root_of, roots_in, through_lead, through_roots, tree_of, updates_of}
use Rattle.written_trees.proofs.Nodes.{form-told, let-told, made, trees, trees-both}
use Rattle.written_trees.proofs.Settings.{behind-told, leading_in, only-told, parameters-told, through-told}
use Rattle.written_trees.proofs.Instances.{instance-told, node-told, of-told, right_in, rights_in}

module _ (flat : FlatModule) (ordered : IsOrdered flat) (text : Text) (means : ℕ → Option Meaning) (implied : ℕ → List Meaning) (faces : List ℕ → flat_leads.FlatFace) where
  -- what modules are to their instances, by resolved trees
  abbrev pub resolved_faces : List ℕ → Face
  resolved_faces name = face_in flat (faces name)

  abbrev tree_in : Setting → Tree → Resolved
  tree_in setting x = tree_of text means implied resolved_faces setting x

  abbrev operands_in : (Form.the_data → Bool) → Setting → Trees → Parts
  operands_in taken setting parts = operands_of text means implied resolved_faces taken setting parts

  -- whatever node an expression becomes, its tree is that of what is written
  abbrev pub IsTold : Tree → Type 0
  IsTold x = (setting : flat_leads.Setting) (i : ℕ) (asked : List Question) → IsFlattened text means implied faces flat setting x i asked → resolved flat i ≡ tree_in (setting_in flat setting) x

  -- the same of each of these, and of each of their parts
  abbrev pub EachTold : Trees → Type 0
  EachTold NoTrees = Unit {0}
  EachTold (ConsTree (TreeNode form s parts) rest) = IsTold (TreeNode form s parts) × EachTold parts × EachTold rest

  -- ---- operands

  -- the operands of a part, by whether it is taken, and what it is
  abbrev part_operands : Setting → Form.the_data → Span → Trees → Bool → Part → Parts
  part_operands setting form s parts taken part = elim taken [
    | true ↦ elim part [
      | Outer ↦ operands_in all_parts setting parts
      | Helper ↦ operands_in all_parts setting parts
      | Whole ↦ one (tree_in setting (TreeNode form s parts))
    ]
    | false ↦ Nil
  ]

  -- a part is made, by whether it is taken, and what it is
  abbrev IsPartMade : flat_leads.Setting → Form.the_data → Span → Trees → List ℕ → List Question → Bool → Part → Type 0
  IsPartMade setting form s parts first a taken part = elim taken [
    | true ↦ elim part [
      | Outer ↦ AreOperands text means implied faces flat all_parts setting parts first a
      | Helper ↦ AreOperands text means implied faces flat all_parts setting parts first a
      | Whole ↦ (i : ℕ) × (first ≡ i ∷ []) × IsFlattened text means implied faces flat setting (TreeNode form s parts) i a
    ]
    | false ↦ (first ≡ []) × (a ≡ [])
  ]

  pub operands-told : (taken : Form.the_data → Bool) (parts : Trees) (setting : flat_leads.Setting) (is : List ℕ) (asked : List Question) → EachTold parts
      → AreOperands text means implied faces flat taken setting parts is asked → trees flat is ≡ operands_in taken (setting_in flat setting) parts
  operands-told taken NoTrees setting is asked each (none, asks) = ap (trees flat) none
  operands-told taken (ConsTree (TreeNode form s parts) rest) setting is asked each (first, others, a, b, joined, asks, here, more) =
      ap (trees flat) joined ∙ trees-both flat first others
      ∙ ap (λ z. and_parts z (trees flat others)) (by (taken form) (part_of form) here (λ are. operands-told all_parts parts setting first a each.1 are))
      ∙ ap (and_parts (part_operands (setting_in flat setting) form s parts (taken form) (part_of form))) (operands-told taken rest setting others b each.2 more)
    where
      by : (t : Bool) (p : Part) → IsPartMade setting form s parts first a t p
          → (AreOperands text means implied faces flat all_parts setting parts first a → trees flat first ≡ operands_in all_parts (setting_in flat setting) parts)
          → trees flat first ≡ part_operands (setting_in flat setting) form s parts t p
      by true Outer are below = below are
      by true Helper are below = below are
      by true Whole (i, is, so) below = ap (trees flat) is ∙ ap (λ z. Cons z Nil) (each.0 setting i a so)
      by false p (none, asks) below = ap (trees flat) none

  -- ---- updates

  updates-told : (parts : Trees) (setting : flat_leads.Setting) (f : ℕ) (is : List ℕ) (asked : List Question) → EachTold parts
      → AreUpdates text means implied faces flat setting f parts is asked → trees flat is ≡ updates_of text means implied resolved_faces (setting_in flat setting) (resolved flat f) parts
  updates-told NoTrees setting f is asked each (none, asks) = ap (trees flat) none
  updates-told (ConsTree (TreeNode form s parts) rest) setting f is asked each (indices, values, others, a, b, c, outer, inner, more, joined, asks) =
      let at = operands-told stands_outside parts setting indices a each.1 outer in
      let to = operands-told inside_parts parts (flat_leads.repeating setting (f ∷ indices)) values b each.1 inner in
      let rest_told = updates-told rest setting f others c each.2 more in
      let here = setting_in flat setting in
      ap (trees flat) joined ∙ trees-both flat indices (values ++ others) ∙ ap (and_parts (trees flat indices)) (trees-both flat values others)
      ∙ (λ i. and_parts (at i) (and_parts (to i) (rest_told i)))
      ∙ (λ i. and_parts (operands_in stands_outside here parts) (and_parts (operands_in inside_parts (repeating here (Cons (resolved flat f) (at i))) parts) (updates_of text means implied resolved_faces here (resolved flat f) rest)))

  -- ---- right sides

  pub rights-told : (l : Lexeme) (parts : Trees) (setting : flat_leads.Setting) (rights : List FlatRight) (roots : List ℕ) (asked : List Question) → EachTold parts
      → AreRights text means implied faces flat setting l parts rights roots asked
      → (rights_in flat ordered rights ≡ rights_of text means implied resolved_faces (setting_in flat setting) parts) × (trees flat roots ≡ right_roots text means implied resolved_faces (setting_in flat setting) parts)
  rights-told l NoTrees setting rights roots asked each (none, no_roots, asks) = (ap (rights_in flat ordered) none, ap (trees flat) no_roots)
  rights-told l (ConsTree (TreeNode (Form.Replacement left) s right) rest) setting rights roots asked each (is, others, a, b, more, are, further, joined, all, asks) =
      let here = operands-told all_parts right setting is a each.1 are in
      let behind_it = rights-told l rest setting more others b each.2 further in
      let name = name_of text.source left in (
        ap (rights_in flat ordered) joined ∙ rights-both (flattened.right_of name right is) more
            ∙ (λ i. of-told flat ordered name right is i ++ behind_it.0 i) ∙ ap (λ z. right_of name right z ++ rights_of text means implied resolved_faces (setting_in flat setting) rest) here,
        ap (trees flat) all ∙ trees-both flat is others ∙ (λ i. and_parts (here i) (behind_it.1 i)),
      )
    where
      rights-both : (xs ys : List FlatRight) → rights_in flat ordered (xs ++ ys) ≡ rights_in flat ordered xs ++ rights_in flat ordered ys
      rights-both [] ys = refl
      rights-both (x ∷ xs) ys = ap (λ z. right_in flat ordered x ∷ z) (rights-both xs ys)
  rights-told l (ConsTree (TreeNode form s parts) rest) setting rights roots asked each are = rights-told l rest setting rights roots asked each.2 are

  -- ---- definitions

  through-told-by : (parts : Trees) (outside setting : flat_leads.Setting) (own : Lexeme) (count : ℕ) (lead : List Named → flat_leads.Lead) (roots : List ℕ) (asked : List Question) → EachTold parts → HasInstance parts
      → IsThrough text means implied faces flat outside setting own count parts lead roots asked
      → (leading_in flat lead ≡ through_lead text means implied resolved_faces (length outside.frame) (setting_in flat setting) count parts) × (trees flat roots ≡ through_roots text means implied resolved_faces (setting_in flat setting) parts)
  through-told-by NoTrees outside setting own count lead roots asked each holds is = absurd holds
  through-told-by (ConsTree (TreeNode (Form.Instance l) s parts) rest) outside setting own count lead roots asked each holds (rights, j, a, b, are, instance, leads, asks) =
      let told = rights-told l parts setting rights roots a each.1 are in
      let made_so = instance-told flat ordered text means implied faces setting (length outside.frame) count true l rights j b instance in (
        ap (leading_in flat) leads ∙ through-told flat j (flattened.face_of text means implied faces flat l)
            ∙ ap (λ x. behind_instance x (resolved_faces_of l)) (made_so ∙ ap (instance_of text means implied resolved_faces (setting_in flat setting) (length outside.frame) count true l) told.0),
        told.1,
      )
    where
      resolved_faces_of : Lexeme → Face
      resolved_faces_of l = face_in flat (flattened.face_of text means implied faces flat l)
  through-told-by (ConsTree (TreeNode form s parts) rest) outside setting own count lead roots asked each holds is = through-told-by rest outside setting own count lead roots asked each.2 holds is

  pub root-told : (is : List ℕ) (root : ℕ) → IsRoot flat is root → resolved flat root ≡ root_of (trees flat is)
  root-told [] root has = node-told flat ordered root nodes.constant_node has
  root-told (i ∷ is) root same = ap (resolved flat) same

  -- the place behind a definition, and what counts for its depth
  record DefinedAs (setting : flat_leads.Setting) (x : Tree) (lead : List Named → flat_leads.Lead) (roots : List ℕ) : Type 0 where
    place : setting_in flat (flat_leads.behind text setting x lead) ≡ behind text (setting_in flat setting) x (defined_lead text means implied resolved_faces (setting_in flat setting) x)
    roots_are : trees flat roots ≡ defined_roots text means implied resolved_faces (setting_in flat setting) x

  -- a definition is made, by what its form defines
  abbrev IsMadeBy : flat_leads.Setting → Form.the_data → Span → Trees → (List Named → flat_leads.Lead) → List ℕ → List Question → Defines → Type 0
  IsMadeBy setting form s parts lead roots asked d = elim d [
    | Nothing ↦ (roots ≡ []) × (asked ≡ [])
    | Operator l ↦ (is : List ℕ) × (root d : ℕ) × (a : List Question)
        × AreOperands text means implied faces flat all_parts (flat_leads.with_parameters text setting form parts) parts is a × IsRoot flat is root
        × (slice_get flat.definitions d ≡ Some (record { outer = length setting.frame; root = root }))
        × (lead ≡ flat_leads.only (end.Definition d)) × (roots ≡ root ∷ [])
        × (asked ≡ over setting.frame (IsShallow l d ∷ []) ++ a)
    | Function l ↦ (is : List ℕ) × (root d : ℕ) × (a : List Question)
        × AreOperands text means implied faces flat all_parts setting parts is a × HasNode flat root (nodes.plain_node (NodeForm.Operation rule.Plain) is)
        × (slice_get flat.definitions d ≡ Some (record { outer = length setting.frame; root = root }))
        × (lead ≡ flat_leads.only (end.Definition d)) × (roots ≡ root ∷ [])
        × (asked ≡ over setting.frame (IsShallow l d ∷ []) ++ (flattened.asked_at text means implied faces flat setting root form s parts ++ a))
    | Module l ↦ IsThrough text means implied faces flat setting (flat_leads.with_parameters text setting form parts) l (length (parameters_of text form parts)) parts lead roots asked
  ]

  -- where its name leads
  abbrev lead_by : Setting → Form.the_data → Trees → Defines → List Named → Lead
  lead_by setting form parts d = elim d [
    | Nothing ↦ (λ names. nowhere)
    | Operator l ↦ only (Defined (Body (length setting.frame) (root_of (operands_in all_parts (with_parameters text setting form parts) parts))))
    | Function l ↦ only (Defined (Body (length setting.frame) (operation rule.Plain (operands_in all_parts setting parts))))
    | Module l ↦ through_lead text means implied resolved_faces (length setting.frame) (with_parameters text setting form parts) (length (parameters_of text form parts)) parts
  ]

  -- what counts for its depth
  abbrev roots_by : Setting → Form.the_data → Trees → Defines → Parts
  roots_by setting form parts d = elim d [
    | Nothing ↦ Nil
    | Operator l ↦ one (root_of (operands_in all_parts (with_parameters text setting form parts) parts))
    | Function l ↦ one (operation rule.Plain (operands_in all_parts setting parts))
    | Module l ↦ through_roots text means implied resolved_faces (with_parameters text setting form parts) parts
  ]

  -- its module definitions hold an INSTANCE
  abbrev HoldsBy : Trees → Defines → Type 0
  HoldsBy parts d = elim d [
    | Module l ↦ HasInstance parts × AllHoldInstances parts
    | Nothing ↦ AllHoldInstances parts
    | Operator l ↦ AllHoldInstances parts
    | Function l ↦ AllHoldInstances parts
  ]

  -- nothing is behind what defines nothing
  nothing-behind : (setting : Setting) (form : Form.the_data) (s : Span) (parts : Trees) (lead other : List Named → Lead) → defines form ≡ Nothing
      → behind text setting (TreeNode form s parts) lead ≡ behind text setting (TreeNode form s parts) other
  nothing-behind setting form s parts lead other none =
      ap (λ d. record setting { leads = with_leads setting.leads (map (meant text) (defined_as d parts)) lead }) none
      ∙ sym (ap (λ d. record setting { leads = with_leads setting.leads (map (meant text) (defined_as d parts)) other }) none)

  defined-told : (form : Form.the_data) (s : Span) (parts : Trees) (setting : flat_leads.Setting) (lead : List Named → flat_leads.Lead) (roots : List ℕ) (asked : List Question) → EachTold parts → HoldsInstances (TreeNode form s parts)
      → IsDefined text means implied faces flat setting (TreeNode form s parts) lead roots asked → DefinedAs setting (TreeNode form s parts) lead roots
  defined-told form s parts setting lead roots asked each holds is = by (defines form) refl holds is
    where
      here : Setting
      here = setting_in flat setting

      inner : Setting
      inner = with_parameters text here form parts

      placed_by : (d : Defines) → defines form ≡ d → leading_in flat lead ≡ lead_by here form parts d → trees flat roots ≡ roots_by here form parts d → DefinedAs setting (TreeNode form s parts) lead roots
      placed_by d e leads counts = record {
        place = behind-told flat text setting (TreeNode form s parts) lead ∙ ap (behind text here (TreeNode form s parts)) (leads ∙ sym (ap (lead_by here form parts) e));
        roots_are = counts ∙ sym (ap (roots_by here form parts) e);
      }

      by : (d : Defines) → defines form ≡ d → HoldsBy parts d → IsMadeBy setting form s parts lead roots asked d → DefinedAs setting (TreeNode form s parts) lead roots
      by Nothing e holds (none, asks) = record {
        place = behind-told flat text setting (TreeNode form s parts) lead ∙ nothing-behind here form s parts (leading_in flat lead) (lead_by here form parts (defines form)) e;
        roots_are = ap (trees flat) none ∙ sym (ap (roots_by here form parts) e);
      }
      by (Operator l) e holds (is, root, d, a, are, first, at, leads, counts, asks) =
          let operands = operands-told all_parts parts (flat_leads.with_parameters text setting form parts) is a each are ∙ ap (λ st. operands_in all_parts st parts) (parameters-told flat text setting form parts) in
          let tree = root-told is root first ∙ ap root_of operands in
          placed_by (Operator l) e
          (ap (leading_in flat) leads ∙ only-told flat (end.Definition d) ∙ ap (λ x. only (Defined x)) (ap (definition_at flat (resolved flat)) at ∙ ap (Body (length setting.frame)) tree))
          (ap (trees flat) counts ∙ ap one tree)
      by (Function l) e holds (is, root, d, a, are, has, at, leads, counts, asks) =
          let tree = node-told flat ordered root (nodes.plain_node (NodeForm.Operation rule.Plain) is) has ∙ ap (operation rule.Plain) (operands-told all_parts parts setting is a each are) in
          placed_by (Function l) e
          (ap (leading_in flat) leads ∙ only-told flat (end.Definition d) ∙ ap (λ x. only (Defined x)) (ap (definition_at flat (resolved flat)) at ∙ ap (Body (length setting.frame)) tree))
          (ap (trees flat) counts ∙ ap one tree)
      by (Module l) e holds through =
          let told = through-told-by parts setting (flat_leads.with_parameters text setting form parts) l (length (parameters_of text form parts)) lead roots asked each holds.0 through in
          let place = parameters-told flat text setting form parts in
          placed_by (Module l) e
          (told.0 ∙ ap (λ st. through_lead text means implied resolved_faces (length setting.frame) st (length (parameters_of text form parts)) parts) place)
          (told.1 ∙ ap (λ st. through_roots text means implied resolved_faces st parts) place)

  -- ---- LET

  -- the first of a chain is made, by whether it is a definition
  abbrev IsLinkMade : flat_leads.Setting → Form.the_data → Span → Trees → Trees → Option ℕ → List ℕ → List Question → List Question → Bool → Type 0
  IsLinkMade setting form s parts rest body roots a b help = elim help [
    | true ↦ (lead : List Named → flat_leads.Lead) × (first others : List ℕ) × IsDefined text means implied faces flat setting (TreeNode form s parts) lead first a
        × IsChain text means implied faces flat (flat_leads.behind text setting (TreeNode form s parts) lead) rest body others b × (roots ≡ first ++ others)
    | false ↦ (i : ℕ) × (after : Option ℕ) × IsFlattened text means implied faces flat setting (TreeNode form s parts) i a × IsChain text means implied faces flat setting rest after roots b × (body ≡ Some i)
  ]

  -- the body behind it
  abbrev body_by : Setting → Form.the_data → Span → Trees → Trees → Bool → Option Resolved
  body_by setting form s parts rest help = elim help [
    | true ↦ body_in text means implied resolved_faces (behind text setting (TreeNode form s parts) (defined_lead text means implied resolved_faces setting (TreeNode form s parts))) rest
    | false ↦ Some (tree_in setting (TreeNode form s parts))
  ]

  -- what counts for the depth of definitions
  abbrev link_roots : Setting → Form.the_data → Span → Trees → Trees → Bool → Parts
  link_roots setting form s parts rest help = elim help [
    | true ↦ and_parts (defined_roots text means implied resolved_faces setting (TreeNode form s parts))
        (roots_in text means implied resolved_faces (behind text setting (TreeNode form s parts) (defined_lead text means implied resolved_faces setting (TreeNode form s parts))) rest)
    | false ↦ roots_in text means implied resolved_faces setting rest
  ]

  -- the body and what counts are told
  abbrev IsChainTold : flat_leads.Setting → Trees → Option ℕ → List ℕ → Type 0
  IsChainTold setting parts body roots =
      (option_map (resolved flat) body ≡ body_in text means implied resolved_faces (setting_in flat setting) parts) × (trees flat roots ≡ roots_in text means implied resolved_faces (setting_in flat setting) parts)

  chain-told : (parts : Trees) (setting : flat_leads.Setting) (body : Option ℕ) (roots : List ℕ) (asked : List Question) → EachTold parts → AllHoldInstances parts
      → IsChain text means implied faces flat setting parts body roots asked → IsChainTold setting parts body roots
  chain-told NoTrees setting body roots asked each holds (no_body, none, asks) = (ap (option_map (resolved flat)) no_body, ap (trees flat) none)
  chain-told (ConsTree (TreeNode form s parts) rest) setting body roots asked each holds (a, b, asks, here) =
      by (helps form) here (λ next after others is. chain-told rest next after others b each.2 holds.1 is)
    where
      by : (help : Bool) → IsLinkMade setting form s parts rest body roots a b help
          → ((next : flat_leads.Setting) (after : Option ℕ) (others : List ℕ) → IsChain text means implied faces flat next rest after others b → IsChainTold next rest after others)
          → (option_map (resolved flat) body ≡ body_by (setting_in flat setting) form s parts rest help) × (trees flat roots ≡ link_roots (setting_in flat setting) form s parts rest help)
      by true (lead, first, others, is, chain, joined) again =
          let defined = defined-told form s parts setting lead first a each.1 holds.0 is in
          let more = again (flat_leads.behind text setting (TreeNode form s parts) lead) body others chain in (
            more.0 ∙ ap (λ st. body_in text means implied resolved_faces st rest) defined.place,
            ap (trees flat) joined ∙ trees-both flat first others
                ∙ (λ i. and_parts (defined.roots_are i) (more.1 i)) ∙ ap (λ st. and_parts (defined_roots text means implied resolved_faces (setting_in flat setting) (TreeNode form s parts)) (roots_in text means implied resolved_faces st rest)) defined.place,
          )
      by false (i, after, is, chain, body_is) again =
          (ap (option_map (resolved flat)) body_is ∙ ap Some (each.0 setting i a is), (again setting after roots chain).1)

  -- ---- all forms

  pub inner-hold : (form : Form.the_data) (s : Span) (parts : Trees) → HoldsInstances (TreeNode form s parts) → AllHoldInstances parts
  inner-hold form s parts holds = by (defines form) holds
    where
      by : (d : Defines) → HoldsBy parts d → AllHoldInstances parts
      by (Module l) holds = holds.1
      by Nothing holds = holds
      by (Operator l) holds = holds
      by (Function l) holds = holds

  -- a form over its operands
  form-made : (form : Form.the_data) (s : Span) (parts : Trees) (setting : flat_leads.Setting) (i : ℕ) (asked : List Question) → EachTold parts
      → ((is : List ℕ) × (a : List Question) × AreOperands text means implied faces flat all_parts setting parts is a × HasNode flat i (flattened.written_node text means implied faces flat setting form parts is)
      × (asked ≡ flattened.asked_at text means implied faces flat setting i form s parts ++ a))
      → resolved flat i ≡ form_tree text means implied resolved_faces (setting_in flat setting) form parts (operands_in all_parts (setting_in flat setting) parts)
  form-made form s parts setting i asked each (is, a, are, has, asks) =
      node-told flat ordered i (flattened.written_node text means implied faces flat setting form parts is) has
      ∙ form-told flat text means implied resolved_faces setting form parts is
      ∙ ap (form_tree text means implied resolved_faces (setting_in flat setting) form parts) (operands-told all_parts parts setting is a each are)

  tree-told : (form : Form.the_data) (s : Span) (parts : Trees) → EachTold parts → HoldsInstances (TreeNode form s parts) → IsTold (TreeNode form s parts)
  tree-told Form.Let s parts each holds setting i asked (body, roots, chain, has) =
      let told = chain-told parts setting body roots asked each holds chain in
      node-told flat ordered i (nodes.let_node body roots) has ∙ let-told flat body roots ∙ (λ k. let_over (told.0 k) (told.1 k))
  tree-told Form.Except s NoTrees each holds setting i asked so = form-made Form.Except s NoTrees setting i asked each so
  tree-told Form.Except s (ConsTree (TreeNode form at parts) updates) each holds setting i asked (f, is, a, b, function, changed, has, asks) =
      let at_first = each.0 setting f a function in
      node-told flat ordered i (nodes.plain_node (NodeForm.Operation rule.Plain) (f ∷ is)) has
      ∙ ap (λ z. operation rule.Plain (Cons (resolved flat f) z)) (updates-told updates setting f is b each.2 changed)
      ∙ ap (λ z. operation rule.Plain (Cons z (updates_of text means implied resolved_faces (setting_in flat setting) z updates))) at_first
  tree-told form s parts each holds setting i asked so = form-made form s parts setting i asked each so

  pub each-told : (parts : Trees) → AllHoldInstances parts → EachTold parts
  each-told NoTrees holds = tt
  each-told (ConsTree (TreeNode form s parts) rest) holds =
      let inner = each-told parts (inner-hold form s parts holds.0) in (tree-told form s parts inner holds.0, inner, each-told rest holds.1)

  pub nodes-told : (x : Tree) → HoldsInstances x → IsTold x
  nodes-told (TreeNode form s parts) holds = tree-told form s parts (each-told parts (inner-hold form s parts holds)) holds

  pub definition-place : (x : Tree) → HoldsInstances x → (setting : flat_leads.Setting) (lead : List Named → flat_leads.Lead) (roots : List ℕ) (asked : List Question) → IsDefined text means implied faces flat setting x lead roots asked
      → setting_in flat (flat_leads.behind text setting x lead) ≡ behind text (setting_in flat setting) x (defined_lead text means implied resolved_faces (setting_in flat setting) x)
  definition-place (TreeNode form s parts) holds setting lead roots asked made =
      (defined-told form s parts setting lead roots asked (each-told parts (inner-hold form s parts holds)) holds made).place
