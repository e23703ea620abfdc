-- What is asked of what is written, part by part.
use Rattle.std.proofs.Common.{◌≡◌, ℕ, Bool, true, false, List, [], ◌∷◌, ◌++◌, Option, Some, ap, ◌∙◌, length}
use Rattle.std.specs.Prelude.{slice_get}
use Rattle.tla_symbols.specs.declared.lexeme.Lexeme.{Lexeme}
use Rattle.tla_symbols.specs.declared.lexeme.Span.{Span}
use Rattle.tla_symbols.specs.declared.level.Rule.TheVariants as rule
use Rattle.tla_tree.specs.declared.form.Form.TheVariants as Form
use Rattle.tla_tree.specs.Forms.{helps}
use Rattle.tla_tree.specs.Syntax.{Tree, Trees, Node as TreeNode, Nil as NoTrees, Cons as ConsTree}
use Rattle.tla_model.specs.Tables.{Named}
use Rattle.tla_model.specs.Entities.{Defines, Meaning, Text, Nothing, Operator, Function, Module, defines, name_of}
use Rattle.module_model.specs.Exports.{entry_of}
use Rattle.kind_text.specs.FlatModule.{FlatModule, Form as NodeForm, IsOrdered}
use Rattle.tree_kinds.specs.Expanding.{Helper, Outer, Part, Whole, part_of, stands_outside}
use Rattle.tree_kinds.specs.TreeLevels.{declared_level}
use Rattle.flat_trees.specs.Layouts.{parameters_of}
use Rattle.flattened_trees.specs.declared.End.TheVariants as end
use Rattle.flattened_trees.specs.Flattened as flattened
use Rattle.flattened_trees.specs.Flattened.{AreOperands, AreRights, AreUpdates, HasNode, IsChain, IsDefined, IsFlattened, IsInstance, IsRoot, IsThrough, Right as FlatRight, all_parts, inside_parts}
use Rattle.flattened_trees.specs.Leads as flat_leads
use Rattle.flattened_trees.specs.NodeForms as nodes
use Rattle.flattened_trees.specs.Questions as flat_questions
use Rattle.resolved_trees.specs.Resolved.{Body, Cons, Parts, Resolved, definition_at, resolved}
use Rattle.written_trees.specs.Leading.{Face, Setting, behind, repeating, setting_in, with_parameters}
use Rattle.written_trees.specs.Written.{AllHoldInstances, HoldsInstances, defined_lead, instance_of, operands_of, operation, root_of, tree_of}
use Rattle.written_trees.proofs.Instances.{instance-told, node-told, rights_in}
use Rattle.written_trees.proofs.Nodes.{trees}
use Rattle.written_trees.proofs.Settings.{parameters-told}
use Rattle.written_trees.proofs.Told.{definition-place, each-told, inner-hold, nodes-told, operands-told, resolved_faces, rights-told, root-told}
use Rattle.written_questions.specs.Questions.{IsShallow, IsShallowInstance, Question, UseAs, asks_at, over, questions_in}
use Rattle.written_questions.specs.Asking.{asked_at, asks_of, chain_asks, definition_asks, instance_asks, operand_asks, right_asks, through_asks, update_asks}
use Rattle.written_questions.proofs.AtTrees.{at-told, both, replacing-asked}

module _ (flat : FlatModule) (ordered : IsOrdered flat) (text : Text) (means : ℕ → Option Meaning) (implied : ℕ → List Meaning) (faces : List ℕ → flat_leads.FlatFace) where
  -- what modules are to their instances, by resolved trees
  abbrev told_faces : List ℕ → Face
  told_faces name = resolved_faces flat ordered text means implied faces name

  abbrev tree_in : Setting → Tree → Resolved
  tree_in setting x = tree_of text means implied told_faces setting x

  abbrev operands_in : (Form.the_data → Bool) → Setting → Trees → Parts
  operands_in taken setting parts = operands_of text means implied told_faces taken setting parts

  abbrev asks_in : Setting → Tree → List Question
  asks_in setting x = asks_of text means implied told_faces setting x

  abbrev operand_asks_in : (Form.the_data → Bool) → Setting → Trees → List Question
  operand_asks_in taken setting parts = operand_asks text means implied told_faces taken setting parts

  -- whatever is asked of a node that an expression becomes is asked of what is written
  abbrev pub IsAsked : Tree → Type 0
  IsAsked x = (setting : flat_leads.Setting) (i : ℕ) (asked : List flat_questions.Question) → IsFlattened text means implied faces flat setting x i asked → questions_in flat asked ≡ asks_in (setting_in flat setting) x

  -- the same of each of these, and of each of their parts
  abbrev pub EachAsked : Trees → Type 0
  EachAsked NoTrees = Unit {0}
  EachAsked (ConsTree (TreeNode form s parts) rest) = IsAsked (TreeNode form s parts) × EachAsked parts × EachAsked rest

  -- ---- operands

  -- what is asked of a part, by whether it is taken, and what it is
  abbrev part_asks : Setting → Form.the_data → Span → Trees → Bool → Part → List Question
  part_asks setting form s parts taken part = elim taken [
    | true ↦ elim part [
      | Outer ↦ operand_asks_in all_parts setting parts
      | Helper ↦ operand_asks_in all_parts setting parts
      | Whole ↦ asks_in setting (TreeNode form s parts)
    ]
    | false ↦ []
  ]

  -- a part is made, by whether it is taken, and what it is
  abbrev IsPartMade : flat_leads.Setting → Form.the_data → Span → Trees → List ℕ → List flat_questions.Question → Bool → Part → Type 0
  IsPartMade setting form s parts first a taken part = elim taken [
    | true ↦ elim part [
      | Outer ↦ AreOperands text means implied faces flat all_parts setting parts first a
      | Helper ↦ AreOperands text means implied faces flat all_parts setting parts first a
      | Whole ↦ (i : ℕ) × (first ≡ i ∷ []) × IsFlattened text means implied faces flat setting (TreeNode form s parts) i a
    ]
    | false ↦ (first ≡ []) × (a ≡ [])
  ]

  operands-asked : (taken : Form.the_data → Bool) (parts : Trees) (setting : flat_leads.Setting) (is : List ℕ) (asked : List flat_questions.Question) → EachAsked parts
      → AreOperands text means implied faces flat taken setting parts is asked → questions_in flat asked ≡ operand_asks_in taken (setting_in flat setting) parts
  operands-asked taken NoTrees setting is asked each (none, asks) = ap (questions_in flat) asks
  operands-asked taken (ConsTree (TreeNode form s parts) rest) setting is asked each (first, others, a, b, joined, asks, here, more) =
      ap (questions_in flat) asks ∙ both flat a b
      ∙ ap (λ z. z ++ questions_in flat b) (by (taken form) (part_of form) here (λ are. operands-asked all_parts parts setting first a each.1 are))
      ∙ ap (λ z. part_asks (setting_in flat setting) form s parts (taken form) (part_of form) ++ z) (operands-asked taken rest setting others b each.2 more)
    where
      by : (t : Bool) (p : Part) → IsPartMade setting form s parts first a t p
          → (AreOperands text means implied faces flat all_parts setting parts first a → questions_in flat a ≡ operand_asks_in all_parts (setting_in flat setting) parts)
          → questions_in flat a ≡ part_asks (setting_in flat setting) form s parts t p
      by true Outer are below = below are
      by true Helper are below = below are
      by true Whole (i, is, so) below = each.0 setting i a so
      by false p (none, asks) below = ap (questions_in flat) asks

  -- ---- updates

  updates-asked : (parts : Trees) (setting : flat_leads.Setting) (f : ℕ) (is : List ℕ) (asked : List flat_questions.Question) → EachAsked parts → AllHoldInstances parts
      → AreUpdates text means implied faces flat setting f parts is asked → questions_in flat asked ≡ update_asks text means implied told_faces (setting_in flat setting) (resolved flat f) parts
  updates-asked NoTrees setting f is asked each holds (none, asks) = ap (questions_in flat) asks
  updates-asked (ConsTree (TreeNode form s parts) rest) setting f is asked each holds (indices, values, others, a, b, c, outer, inner, more, joined, asks) =
      let told = operands-told flat ordered text means implied faces stands_outside parts setting indices a (each-told flat ordered text means implied faces parts (inner-hold flat ordered text means implied faces form s parts holds.0)) outer in
      let at = operands-asked stands_outside parts setting indices a each.1 outer in
      let to = operands-asked inside_parts parts (flat_leads.repeating setting (f ∷ indices)) values b each.1 inner in
      let rest_asked = updates-asked rest setting f others c each.2 holds.1 more in
      let here = setting_in flat setting in
      ap (questions_in flat) asks ∙ both flat a (b ++ c) ∙ ap (λ z. questions_in flat a ++ z) (both flat b c)
      ∙ (λ i. at i ++ (to i ++ rest_asked i))
      ∙ (λ i. operand_asks_in stands_outside here parts ++ (operand_asks_in inside_parts (repeating here (Cons (resolved flat f) (told i))) parts ++ update_asks text means implied told_faces here (resolved flat f) rest))

  -- ---- right sides

  pub rights-asked : (l : Lexeme) (parts : Trees) (setting : flat_leads.Setting) (rights : List FlatRight) (roots : List ℕ) (asked : List flat_questions.Question) → EachAsked parts
      → AreRights text means implied faces flat setting l parts rights roots asked → questions_in flat asked ≡ right_asks text means implied told_faces (setting_in flat setting) l parts
  rights-asked l NoTrees setting rights roots asked each (none, no_roots, asks) = ap (questions_in flat) asks
  rights-asked l (ConsTree (TreeNode (Form.Replacement left) s right) rest) setting rights roots asked each (is, others, a, b, more, are, further, joined, all, asks) =
      let here = operands-asked all_parts right setting is a each.1 are in
      let behind_it = rights-asked l rest setting more others b each.2 further in
      let known_use : Question = record { frame = setting.frame; asked = UseAs left (declared_level (entry_of (flattened.face_of text means implied faces flat l).parameters (name_of text.source left))) } in
      ap (questions_in flat) asks ∙ ap (λ z. known_use ∷ z) (both flat a b) ∙ (λ i. known_use ∷ (here i ++ behind_it i))
  rights-asked l (ConsTree (TreeNode form s parts) rest) setting rights roots asked each are = rights-asked l rest setting rights roots asked each.2 are

  pub instance-asked : (setting : flat_leads.Setting) (outer count : ℕ) (guards : Bool) (l : Lexeme) (rights : List FlatRight) (j : ℕ) (asked : List flat_questions.Question)
      → IsInstance text means implied faces flat setting outer count guards l rights j asked
      → questions_in flat asked ≡ instance_asks text means implied told_faces (setting_in flat setting) l (rights_in flat ordered rights)
  instance-asked setting outer count guards l rights j asked (kept, made, at, stay, replace) =
      let face = flattened.face_of text means implied faces flat l in
      replacing-asked flat ordered setting.leads setting.frame face.is_constant rights l face.parameters (implied l.span.start) made asked replace

  -- ---- definitions

  through-asked : (parts : Trees) (outside setting : flat_leads.Setting) (own : Lexeme) (count : ℕ) (lead : List Named → flat_leads.Lead) (roots : List ℕ) (asked : List flat_questions.Question) → EachAsked parts → AllHoldInstances parts
      → IsThrough text means implied faces flat outside setting own count parts lead roots asked
      → questions_in flat asked ≡ through_asks text means implied told_faces (setting_in flat outside) (setting_in flat setting) own count parts
  through-asked NoTrees outside setting own count lead roots asked each holds (none, asks) = ap (questions_in flat) asks
  through-asked (ConsTree (TreeNode (Form.Instance l) s parts) rest) outside setting own count lead roots asked each holds (rights, j, a, b, are, instance, leads, asks) =
      let here = setting_in flat setting in
      let told = (rights-told flat ordered text means implied faces l parts setting rights roots a (each-told flat ordered text means implied faces parts (inner-hold flat ordered text means implied faces (Form.Instance l) s parts holds.0)) are).0 in
      let made_so = instance-told flat ordered text means implied faces setting (length outside.frame) count true l rights j b instance
      ∙ ap (instance_of text means implied told_faces here (length outside.frame) count true l) told in
      let written = rights-asked l parts setting rights roots a each.1 are in
      let replaced = instance-asked setting (length outside.frame) count true l rights j b instance ∙ ap (instance_asks text means implied told_faces here l) told in
      ap (questions_in flat) asks
      ∙ both flat (flat_questions.over outside.frame (flat_questions.IsShallowInstance own j ∷ [])) (a ++ b)
      ∙ ap (λ z. questions_in flat (flat_questions.over outside.frame (flat_questions.IsShallowInstance own j ∷ [])) ++ z) (both flat a b)
      ∙ (λ i. over outside.frame (IsShallowInstance own (made_so i) ∷ []) ++ (written i ++ replaced i))
  through-asked (ConsTree (TreeNode form s parts) rest) outside setting own count lead roots asked each holds is = through-asked rest outside setting own count lead roots asked each.2 holds.1 is

  -- a definition is made, by what its form defines
  abbrev IsMadeBy : flat_leads.Setting → Form.the_data → Span → Trees → (List Named → flat_leads.Lead) → List ℕ → List flat_questions.Question → Defines → Type 0
  IsMadeBy setting form s parts lead roots asked d = elim d [
    | Nothing ↦ (roots ≡ []) × (asked ≡ [])
    | Operator l ↦ (is : List ℕ) × (root d : ℕ) × (a : List flat_questions.Question)
        × AreOperands text means implied faces flat all_parts (flat_leads.with_parameters text setting form parts) parts is a × IsRoot flat is root
        × (slice_get flat.definitions d ≡ Some (record { outer = length setting.frame; root = root }))
        × (lead ≡ flat_leads.only (end.Definition d)) × (roots ≡ root ∷ [])
        × (asked ≡ flat_questions.over setting.frame (flat_questions.IsShallow l d ∷ []) ++ a)
    | Function l ↦ (is : List ℕ) × (root d : ℕ) × (a : List flat_questions.Question)
        × AreOperands text means implied faces flat all_parts setting parts is a × HasNode flat root (nodes.plain_node (NodeForm.Operation rule.Plain) is)
        × (slice_get flat.definitions d ≡ Some (record { outer = length setting.frame; root = root }))
        × (lead ≡ flat_leads.only (end.Definition d)) × (roots ≡ root ∷ [])
        × (asked ≡ flat_questions.over setting.frame (flat_questions.IsShallow l d ∷ []) ++ (flattened.asked_at text means implied faces flat setting root form s parts ++ a))
    | Module l ↦ IsThrough text means implied faces flat setting (flat_leads.with_parameters text setting form parts) l (length (parameters_of text form parts)) parts lead roots asked
  ]

  -- what is asked of it
  abbrev asks_by : Setting → Form.the_data → Span → Trees → Defines → List Question
  asks_by setting form s parts d = elim d [
    | Nothing ↦ []
    | Operator l ↦ over setting.frame (IsShallow l (Body (length setting.frame) (root_of (operands_in all_parts (with_parameters text setting form parts) parts))) ∷ [])
        ++ operand_asks_in all_parts (with_parameters text setting form parts) parts
    | Function l ↦ over setting.frame (IsShallow l (Body (length setting.frame) (operation rule.Plain (operands_in all_parts setting parts))) ∷ [])
        ++ (asked_at text means implied told_faces setting (operation rule.Plain (operands_in all_parts setting parts)) form s parts ++ operand_asks_in all_parts setting parts)
    | Module l ↦ through_asks text means implied told_faces setting (with_parameters text setting form parts) l (length (parameters_of text form parts)) parts
  ]

  defined-asked : (form : Form.the_data) (s : Span) (parts : Trees) (setting : flat_leads.Setting) (lead : List Named → flat_leads.Lead) (roots : List ℕ) (asked : List flat_questions.Question) → EachAsked parts → AllHoldInstances parts
      → IsDefined text means implied faces flat setting (TreeNode form s parts) lead roots asked → questions_in flat asked ≡ definition_asks text means implied told_faces (setting_in flat setting) (TreeNode form s parts)
  defined-asked form s parts setting lead roots asked each holds is = by (defines form) is
    where
      here : Setting
      here = setting_in flat setting

      told : (inner : flat_leads.Setting) (is : List ℕ) (a : List flat_questions.Question) → AreOperands text means implied faces flat all_parts inner parts is a → trees flat is ≡ operands_in all_parts (setting_in flat inner) parts
      told inner is a are = operands-told flat ordered text means implied faces all_parts parts inner is a (each-told flat ordered text means implied faces parts holds) are

      by : (d : Defines) → IsMadeBy setting form s parts lead roots asked d → questions_in flat asked ≡ asks_by here form s parts d
      by Nothing (none, asks) = ap (questions_in flat) asks
      by (Operator l) (is, root, d, a, are, first, at, leads, counts, asks) =
          let inner = flat_leads.with_parameters text setting form parts in
          let place = parameters-told flat text setting form parts in
          let tree = root-told flat ordered text means implied faces is root first ∙ ap root_of (told inner is a are ∙ ap (λ st. operands_in all_parts st parts) place) in
          let body = ap (definition_at flat (resolved flat)) at ∙ ap (Body (length setting.frame)) tree in
          let operands = operands-asked all_parts parts inner is a each are ∙ ap (λ st. operand_asks_in all_parts st parts) place in
          ap (questions_in flat) asks
          ∙ both flat (flat_questions.over setting.frame (flat_questions.IsShallow l d ∷ [])) a
          ∙ (λ i. over setting.frame (IsShallow l (body i) ∷ []) ++ operands i)
      by (Function l) (is, root, d, a, are, has, at, leads, counts, asks) =
          let tree = node-told flat ordered root (nodes.plain_node (NodeForm.Operation rule.Plain) is) has ∙ ap (operation rule.Plain) (told setting is a are) in
          let body = ap (definition_at flat (resolved flat)) at ∙ ap (Body (length setting.frame)) tree in
          let itself = at-told flat setting.frame root form s parts ∙ ap (λ x. over setting.frame (asks_at x form s parts)) tree in
          let operands = operands-asked all_parts parts setting is a each are in
          ap (questions_in flat) asks
          ∙ both flat (flat_questions.over setting.frame (flat_questions.IsShallow l d ∷ [])) (flattened.asked_at text means implied faces flat setting root form s parts ++ a)
          ∙ ap (λ z. questions_in flat (flat_questions.over setting.frame (flat_questions.IsShallow l d ∷ [])) ++ z) (both flat (flattened.asked_at text means implied faces flat setting root form s parts) a)
          ∙ (λ i. over setting.frame (IsShallow l (body i) ∷ []) ++ (itself i ++ operands i))
      by (Module l) through =
          through-asked parts setting (flat_leads.with_parameters text setting form parts) l (length (parameters_of text form parts)) lead roots asked each holds through
          ∙ ap (λ st. through_asks text means implied told_faces here st l (length (parameters_of text form parts)) parts) (parameters-told flat text setting form parts)

  -- ---- LET

  -- the first of a chain is made, by whether it is a definition
  abbrev IsLinkMade : flat_leads.Setting → Form.the_data → Span → Trees → Trees → Option ℕ → List ℕ → List flat_questions.Question → List flat_questions.Question → Bool → Type 0
  IsLinkMade setting form s parts rest body roots a b help = elim help [
    | true ↦ (lead : List Named → flat_leads.Lead) × (first others : List ℕ) × IsDefined text means implied faces flat setting (TreeNode form s parts) lead first a
        × IsChain text means implied faces flat (flat_leads.behind text setting (TreeNode form s parts) lead) rest body others b × (roots ≡ first ++ others)
    | false ↦ (i : ℕ) × (after : Option ℕ) × IsFlattened text means implied faces flat setting (TreeNode form s parts) i a × IsChain text means implied faces flat setting rest after roots b × (body ≡ Some i)
  ]

  -- what is asked of it, and behind it
  abbrev link_asks : Setting → Form.the_data → Span → Trees → Trees → Bool → List Question
  link_asks setting form s parts rest help = elim help [
    | true ↦ definition_asks text means implied told_faces setting (TreeNode form s parts)
        ++ chain_asks text means implied told_faces (behind text setting (TreeNode form s parts) (defined_lead text means implied told_faces setting (TreeNode form s parts))) rest
    | false ↦ asks_in setting (TreeNode form s parts) ++ chain_asks text means implied told_faces setting rest
  ]

  chain-asked : (parts : Trees) (setting : flat_leads.Setting) (body : Option ℕ) (roots : List ℕ) (asked : List flat_questions.Question) → EachAsked parts → AllHoldInstances parts
      → IsChain text means implied faces flat setting parts body roots asked → questions_in flat asked ≡ chain_asks text means implied told_faces (setting_in flat setting) parts
  chain-asked NoTrees setting body roots asked each holds (no_body, none, asks) = ap (questions_in flat) asks
  chain-asked (ConsTree (TreeNode form s parts) rest) setting body roots asked each holds (a, b, asks, here) =
      ap (questions_in flat) asks ∙ both flat a b ∙ by (helps form) here (λ next after others is. chain-asked rest next after others b each.2 holds.1 is)
    where
      by : (help : Bool) → IsLinkMade setting form s parts rest body roots a b help
          → ((next : flat_leads.Setting) (after : Option ℕ) (others : List ℕ) → IsChain text means implied faces flat next rest after others b → questions_in flat b ≡ chain_asks text means implied told_faces (setting_in flat next) rest)
          → questions_in flat a ++ questions_in flat b ≡ link_asks (setting_in flat setting) form s parts rest help
      by true (lead, first, others, is, chain, joined) again =
          let defined = defined-asked form s parts setting lead first a each.1 (inner-hold flat ordered text means implied faces form s parts holds.0) is in
          let place = definition-place flat ordered text means implied faces (TreeNode form s parts) holds.0 setting lead first a is in
          let more = again (flat_leads.behind text setting (TreeNode form s parts) lead) body others chain ∙ ap (λ st. chain_asks text means implied told_faces st rest) place in
          λ i. defined i ++ more i
      by false (i, after, is, chain, body_is) again =
          let first = each.0 setting i a is in
          let more = again setting after roots chain in
          λ k. first k ++ more k

  -- ---- all forms

  -- a form over its operands
  form-made : (form : Form.the_data) (s : Span) (parts : Trees) (setting : flat_leads.Setting) (i : ℕ) (asked : List flat_questions.Question) → EachAsked parts → resolved flat i ≡ tree_in (setting_in flat setting) (TreeNode form s parts)
      → ((is : List ℕ) × (a : List flat_questions.Question) × AreOperands text means implied faces flat all_parts setting parts is a × HasNode flat i (flattened.written_node text means implied faces flat setting form parts is)
      × (asked ≡ flattened.asked_at text means implied faces flat setting i form s parts ++ a))
      → questions_in flat asked ≡ asked_at text means implied told_faces (setting_in flat setting) (tree_in (setting_in flat setting) (TreeNode form s parts)) form s parts ++ operand_asks_in all_parts (setting_in flat setting) parts
  form-made form s parts setting i asked each tree (is, a, are, has, asks) =
      let itself = at-told flat setting.frame i form s parts ∙ ap (λ x. over setting.frame (asks_at x form s parts)) tree in
      let operands = operands-asked all_parts parts setting is a each are in
      ap (questions_in flat) asks ∙ both flat (flattened.asked_at text means implied faces flat setting i form s parts) a ∙ (λ k. itself k ++ operands k)

  tree-asked : (form : Form.the_data) (s : Span) (parts : Trees) → EachAsked parts → HoldsInstances (TreeNode form s parts) → IsAsked (TreeNode form s parts)
  tree-asked Form.Let s parts each holds setting i asked (body, roots, chain, has) =
      chain-asked parts setting body roots asked each (inner-hold flat ordered text means implied faces Form.Let s parts holds) chain
  tree-asked Form.Except s NoTrees each holds setting i asked so = form-made Form.Except s NoTrees setting i asked each (nodes-told flat ordered text means implied faces (TreeNode Form.Except s NoTrees) holds setting i asked so) so
  tree-asked Form.Except s (ConsTree (TreeNode form at parts) updates) each holds setting i asked so =
      by so (nodes-told flat ordered text means implied faces (TreeNode Form.Except s (ConsTree (TreeNode form at parts) updates)) holds setting i asked so)
    where
      by : IsFlattened text means implied faces flat setting (TreeNode Form.Except s (ConsTree (TreeNode form at parts) updates)) i asked
          → resolved flat i ≡ tree_in (setting_in flat setting) (TreeNode Form.Except s (ConsTree (TreeNode form at parts) updates))
          → questions_in flat asked ≡ asks_in (setting_in flat setting) (TreeNode Form.Except s (ConsTree (TreeNode form at parts) updates))
      by (f, is, a, b, function, changed, has, asks) tree =
          let here = setting_in flat setting in
          let hold = inner-hold flat ordered text means implied faces Form.Except s (ConsTree (TreeNode form at parts) updates) holds in
          let itself = at-told flat setting.frame i Form.Except s (ConsTree (TreeNode form at parts) updates) ∙ ap (λ x. over setting.frame (asks_at x Form.Except s (ConsTree (TreeNode form at parts) updates))) tree in
          let first = each.0 setting f a function in
          let more = updates-asked updates setting f is b each.2 hold.1 changed
          ∙ ap (λ z. update_asks text means implied told_faces here z updates) (nodes-told flat ordered text means implied faces (TreeNode form at parts) hold.0 setting f a function) in
          ap (questions_in flat) asks
          ∙ both flat (flattened.asked_at text means implied faces flat setting i Form.Except s (ConsTree (TreeNode form at parts) updates)) (a ++ b)
          ∙ ap (λ z. questions_in flat (flattened.asked_at text means implied faces flat setting i Form.Except s (ConsTree (TreeNode form at parts) updates)) ++ z) (both flat a b)
          ∙ (λ k. itself k ++ (first k ++ more k))
  tree-asked form s parts each holds setting i asked so = form-made form s parts setting i asked each (nodes-told flat ordered text means implied faces (TreeNode form s parts) holds setting i asked so) so

  pub each-asked : (parts : Trees) → AllHoldInstances parts → EachAsked parts
  each-asked NoTrees holds = tt
  each-asked (ConsTree (TreeNode form s parts) rest) holds =
      let inner = each-asked parts (inner-hold flat ordered text means implied faces form s parts holds.0) in (tree-asked form s parts inner holds.0, inner, each-asked rest holds.1)

  pub nodes-asked : (x : Tree) → HoldsInstances x → IsAsked x
  nodes-asked (TreeNode form s parts) holds = tree-asked form s parts (each-asked parts (inner-hold flat ordered text means implied faces form s parts holds)) holds

  pub definition-asked : (x : Tree) → HoldsInstances x → (setting : flat_leads.Setting) (lead : List Named → flat_leads.Lead) (roots : List ℕ) (asked : List flat_questions.Question) → IsDefined text means implied faces flat setting x lead roots asked
      → questions_in flat asked ≡ definition_asks text means implied told_faces (setting_in flat setting) x
  definition-asked (TreeNode form s parts) holds setting lead roots asked made =
      let hold = inner-hold flat ordered text means implied faces form s parts holds in defined-asked form s parts setting lead roots asked (each-asked parts hold) hold made
