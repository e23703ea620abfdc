-- When nodes of a flat module are a written tree, node by node, with what is asked of them. Names are read by what their lexemes
-- mean, and not by contexts.
use Rattle.std.specs.Prelude.{◌≡◌, ℕ, zero, suc, Bool, true, false, List, [], ◌∷◌, ◌++◌, Option, Some, None, drop, if◌then◌else◌, length, not, slice_get}
use Rattle.tla_symbols.specs.declared.level.Rule.TheVariants.{Plain}
use Rattle.tla_symbols.specs.declared.lexeme.Lexeme.{Lexeme}
use Rattle.tla_symbols.specs.declared.lexeme.Span.{Span}
use Rattle.tla_tree.specs.declared.form.Form.TheVariants as Form
use Rattle.tla_tree.specs.Forms.{helps}
use Rattle.tla_tree.specs.Syntax.{Tree, Trees, Node, Nil, Cons}
use Rattle.tla_model.specs.Tables.{Named, same_named}
use Rattle.tla_model.specs.Entities.{Meaning, Text, Nothing, Operator, Function, Module, defines, name_of}
use Rattle.tla_model.specs.Lexemes.{spelled}
use Rattle.module_model.specs.Exports.{Exports, entry_of}
use Rattle.kind_text.specs.FlatModule.{FlatModule, Form as NodeForm, Node as FlatNode, Replacement}
use Rattle.tree_kinds.specs.Standing.{operator_places}
use Rattle.tree_kinds.specs.Expanding.{Outer, Helper, Whole, greatest_level, part_of, stands_outside}
use Rattle.tree_kinds.specs.TreeLevels.{declared_level}
use Rattle.flat_trees.specs.Layouts.{parameters_of}
use Rattle.flattened_trees.specs.declared.End.TheVariants as end
use Rattle.flattened_trees.specs.Leads.{FlatFace, Lead, Leads, Setting, behind, behind_instance, only, repeating, with_parameters}
use Rattle.flattened_trees.specs.Questions.{Question, IsAtMost, IsShallow, IsShallowInstance, UseAs, asks_at, over}
use Rattle.flattened_trees.specs.NodeForms.{constant_node, form_node, let_node, name_node, plain_node, lead_of}

-- a right side that is written for a name, with its node
pub record Right : Type 0 where
  pub name : Named
  pub node : ℕ
  pub at : Span

-- the first right side that is written for a name
abbrev pub right_for : List Right → Named → Option Right
right_for [] name = None
right_for (right ∷ rest) name = if same_named name right.name then Some right else right_for rest name

-- the right side of a replacement, by the nodes of its parts
abbrev pub right_of : Named → Trees → List ℕ → List Right
right_of name (Cons (Node form at parts) others) (i ∷ is) = record { name = name; node = i; at = at } ∷ []
right_of name _ _ = []

-- all parts of a form are looked at
abbrev pub all_parts : Form.the_data → Bool
all_parts form = true

-- those that do not stand outside of its scope
abbrev pub inside_parts : Form.the_data → Bool
inside_parts form = not (stands_outside form)

module _ (flat : FlatModule) where
  -- this node stands under a number
  abbrev pub HasNode : ℕ → FlatNode → Type 0
  HasNode i node = slice_get flat.nodes i ≡ Some node

  -- the first of these nodes, or a constant where there is none
  abbrev pub IsRoot : List ℕ → ℕ → Type 0
  IsRoot [] root = HasNode root constant_node
  IsRoot (i ∷ is) root = root ≡ i

  -- so many symbols stay, from the one at this place on
  abbrev pub AreStaying : ℕ → ℕ → List Replacement → Type 0
  AreStaying place zero [] = Unit {0}
  AreStaying place (suc count) (r ∷ staying) = HasNode r.root (plain_node (NodeForm.Parameter place) []) × (r.most ≡ None) × AreStaying (suc place) count staying
  AreStaying place count staying = ⊥

  module _ (leads : Leads) (frame : List Meaning) (constant : Bool) (rights : List Right) (l : Lexeme) where
    -- whether a replacement is too high, which is written here
    abbrev pub asks_of : Span → Replacement → Named × Meaning → Question
    asks_of at r parameter = record { frame = frame; asked = IsAtMost at r.root (greatest_level constant parameter.1) }

    -- the parameters of a module are replaced: each by the first right side that is written for it, or else by the next of the symbols
    -- that stand in, at the name of the module; and what is asked of these
    abbrev pub AreReplacing : Exports → List Meaning → List Replacement → List Question → Type 0
    AreReplacing [] symbols made asked = (made ≡ []) × (asked ≡ [])
    AreReplacing (parameter ∷ parameters) symbols [] asked = ⊥
    AreReplacing (parameter ∷ parameters) symbols (r ∷ made) asked =
        (rest : List Question) × (r.most ≡ Some (greatest_level constant parameter.1))
        × (elim (right_for rights parameter.0) [
          | Some right ↦ (r.root ≡ right.node) × (asked ≡ asks_of right.at r parameter ∷ rest) × AreReplacing parameters symbols made rest
          | None ↦ HasNode r.root (name_node (operator_places (Some parameter.1)) (lead_of leads (slice_get symbols 0) []) [])
              × (asked ≡ asks_of l.span r parameter ∷ rest) × AreReplacing parameters (drop 1 symbols) made rest
        ])

-- trees of a text, by what its names mean, where they begin; by the symbols that stand in for the parameters which an INSTANCE does not
-- replace, where the name of its module begins; and by what modules are to their instances
module _ (text : Text) (means : ℕ → Option Meaning) (implied : ℕ → List Meaning) (faces : List ℕ → FlatFace) (flat : FlatModule) where
  -- the module of a name
  abbrev pub face_of : Lexeme → FlatFace
  face_of l = faces (spelled text.source l)

  -- the node of a form, by the nodes of its operands
  abbrev pub written_node : Setting → Form.the_data → Trees → List ℕ → FlatNode
  written_node setting form parts is = form_node text.source means setting form parts is

  -- what is asked of the node of a form itself
  abbrev pub asked_at : Setting → ℕ → Form.the_data → Span → Trees → List Question
  asked_at setting i form s parts = over setting.frame (asks_at i form s parts)

  -- an instance of the module of a name, with so many places round it and so many parameters: the symbols of the modules round that
  -- module stay, and its own are replaced
  abbrev pub IsInstance : Setting → ℕ → ℕ → Bool → Lexeme → List Right → ℕ → List Question → Type 0
  IsInstance setting outer count guards l rights j asked =
      (staying made : List Replacement)
      × (slice_get flat.instances j ≡ Some (record { outer = outer; parameters = count; guards = guards; replacements = staying ++ made }))
      × AreStaying flat 0 (face_of l).outer staying
      × AreReplacing flat setting.leads setting.frame (face_of l).is_constant rights l (face_of l).parameters (implied l.span.start) made asked

  abbrev mutual
    -- a node is an expression, and this is asked
    pub IsFlattened : Setting → Tree → ℕ → List Question → Type 0
    IsFlattened setting (Node Form.Let s parts) i asked =
        (body : Option ℕ) × (roots : List ℕ) × IsChain setting parts body roots asked × HasNode flat i (let_node body roots)
    IsFlattened setting (Node Form.Except s (Cons function updates)) i asked =
        (f : ℕ) × (is : List ℕ) × (a b : List Question) × IsFlattened setting function f a × AreUpdates setting f updates is b
        × HasNode flat i (plain_node (NodeForm.Operation Plain) (f ∷ is))
        × (asked ≡ asked_at setting i Form.Except s (Cons function updates) ++ (a ++ b))
    IsFlattened setting (Node form s parts) i asked =
        (is : List ℕ) × (a : List Question) × AreOperands all_parts setting parts is a
        × HasNode flat i (written_node setting form parts is) × (asked ≡ asked_at setting i form s parts ++ a)

    -- the expressions that some of these parts are made of, in their order
    pub AreOperands : (Form.the_data → Bool) → Setting → Trees → List ℕ → List Question → Type 0
    AreOperands taken setting Nil is asked = (is ≡ []) × (asked ≡ [])
    AreOperands taken setting (Cons (Node form s parts) rest) is asked =
        (first others : List ℕ) × (a b : List Question) × (is ≡ first ++ others) × (asked ≡ a ++ b)
        × (elim (taken form) [
          | true ↦ elim (part_of form) [
            | Outer ↦ AreOperands all_parts setting parts first a
            | Helper ↦ AreOperands all_parts setting parts first a
            | Whole ↦ (i : ℕ) × (first ≡ i ∷ []) × IsFlattened setting (Node form s parts) i a
          ]
          | false ↦ (first ≡ []) × (a ≡ [])
        ])
        × AreOperands taken setting rest others b

    -- the updates of a function: in their right sides `@` repeats the function and the indices
    pub AreUpdates : Setting → ℕ → Trees → List ℕ → List Question → Type 0
    AreUpdates setting f Nil is asked = (is ≡ []) × (asked ≡ [])
    AreUpdates setting f (Cons (Node form s parts) rest) is asked =
        (indices values others : List ℕ) × (a b c : List Question)
        × AreOperands stands_outside setting parts indices a
        × AreOperands inside_parts (repeating setting (f ∷ indices)) parts values b
        × AreUpdates setting f rest others c
        × (is ≡ indices ++ (values ++ others)) × (asked ≡ a ++ (b ++ c))

    -- definitions, and the body behind them, with what counts for the depth of these
    pub IsChain : Setting → Trees → Option ℕ → List ℕ → List Question → Type 0
    IsChain setting Nil body roots asked = (body ≡ None) × (roots ≡ []) × (asked ≡ [])
    IsChain setting (Cons (Node form s parts) rest) body roots asked =
        (a b : List Question) × (asked ≡ a ++ b)
        × (elim (helps form) [
          | true ↦ (lead : List Named → Lead) × (first others : List ℕ) × IsDefined setting (Node form s parts) lead first a
              × IsChain (behind text setting (Node form s parts) lead) rest body others b × (roots ≡ first ++ others)
          | false ↦ (i : ℕ) × (after : Option ℕ) × IsFlattened setting (Node form s parts) i a × IsChain setting rest after roots b × (body ≡ Some i)
        ])

    -- where the name of a definition leads
    pub IsDefined : Setting → Tree → (List Named → Lead) → List ℕ → List Question → Type 0
    IsDefined setting (Node form s parts) lead roots asked = elim (defines form) [
      | Nothing ↦ (roots ≡ []) × (asked ≡ [])
      | Operator l ↦ (is : List ℕ) × (root d : ℕ) × (a : List Question)
          × AreOperands all_parts (with_parameters text setting form parts) parts is a × IsRoot flat is root
          × (slice_get flat.definitions d ≡ Some (record { outer = length setting.frame; root = root }))
          × (lead ≡ only (end.Definition d)) × (roots ≡ root ∷ [])
          × (asked ≡ over setting.frame (IsShallow l d ∷ []) ++ a)
      | Function l ↦ (is : List ℕ) × (root d : ℕ) × (a : List Question)
          × AreOperands all_parts setting parts is a × HasNode flat root (plain_node (NodeForm.Operation Plain) is)
          × (slice_get flat.definitions d ≡ Some (record { outer = length setting.frame; root = root }))
          × (lead ≡ only (end.Definition d)) × (roots ≡ root ∷ [])
          × (asked ≡ over setting.frame (IsShallow l d ∷ []) ++ (asked_at setting root form s parts ++ a))
      | Module l ↦ IsThrough setting (with_parameters text setting form parts) l (length (parameters_of text form parts)) parts lead roots asked
    ]

    -- the name of a module definition leads through the instance that is the first INSTANCE among these
    pub IsThrough : Setting → Setting → Lexeme → ℕ → Trees → (List Named → Lead) → List ℕ → List Question → Type 0
    IsThrough outside setting own count Nil lead roots asked = (roots ≡ []) × (asked ≡ [])
    IsThrough outside setting own count (Cons (Node (Form.Instance l) s parts) rest) lead roots asked =
        (rights : List Right) × (j : ℕ) × (a b : List Question)
        × AreRights setting l parts rights roots a × IsInstance setting (length outside.frame) count true l rights j b
        × (lead ≡ behind_instance j (face_of l))
        × (asked ≡ over outside.frame (IsShallowInstance own j ∷ []) ++ (a ++ b))
    IsThrough outside setting own count (Cons x rest) lead roots asked = IsThrough outside setting own count rest lead roots asked

    -- the right sides of replacements
    pub AreRights : Setting → Lexeme → Trees → List Right → List ℕ → List Question → Type 0
    AreRights setting l Nil rights roots asked = (rights ≡ []) × (roots ≡ []) × (asked ≡ [])
    AreRights setting l (Cons (Node (Form.Replacement left) s right) rest) rights roots asked =
        (is others : List ℕ) × (a b : List Question) × (more : List Right)
        × AreOperands all_parts setting right is a × AreRights setting l rest more others b
        × (rights ≡ right_of (name_of text.source left) right is ++ more) × (roots ≡ is ++ others)
        × (asked ≡ over setting.frame (UseAs left (declared_level (entry_of (face_of l).parameters (name_of text.source left))) ∷ []) ++ (a ++ b))
    AreRights setting l (Cons x rest) rights roots asked = AreRights setting l rest rights roots asked
