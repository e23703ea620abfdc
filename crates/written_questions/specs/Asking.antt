-- What is asked of what is written: as `IsFlattened` of `flattened_trees` says it, by resolved trees.
use Rattle.std.specs.Prelude.{ℕ, Bool, true, false, List, [], ◌∷◌, ◌++◌, Option, Some, None, drop, length, slice_get}
use Rattle.tla_symbols.specs.declared.level.Rule.TheVariants.{Plain}
use Rattle.tla_symbols.specs.declared.lexeme.Lexeme.{Lexeme}
use Rattle.tla_symbols.specs.declared.lexeme.Span.{Span}
use Rattle.tla_tree.specs.declared.form.Form.TheVariants as Form
use Rattle.tla_tree.specs.Forms.{helps}
use Rattle.tla_tree.specs.Syntax.{Tree, Trees, Node as TreeNode, Nil as NoTrees, Cons as ConsTree}
use Rattle.tla_model.specs.Entities.{Meaning, Text, Nothing, Operator, Function, Module, defines, name_of}
use Rattle.module_model.specs.Exports.{Exports, entry_of}
use Rattle.tree_kinds.specs.Standing.{operator_places}
use Rattle.tree_kinds.specs.Expanding.{Outer, Helper, Whole, greatest_level, part_of, stands_outside}
use Rattle.tree_kinds.specs.TreeLevels.{declared_level}
use Rattle.flat_trees.specs.Layouts.{parameters_of}
use Rattle.flattened_trees.specs.Flattened.{all_parts, inside_parts}
use Rattle.resolved_trees.specs.Resolved.{Body, Cons, Nil, Resolved}
use Rattle.written_trees.specs.Leading.{Face, Leads, Setting, behind, repeating, with_parameters}
use Rattle.written_trees.specs.Written.{Right, defined_lead, face_of, instance_of, lead_of, named, operands_of, operation, right_for, rights_of, root_of, tree_of}
use Rattle.written_questions.specs.Questions.{IsAtMost, IsShallow, IsShallowInstance, Question, UseAs, asks_at, over}

-- whether what stands for the parameters of a module is too high: where it is written, or else at the name of the module
abbrev pub replacing_asks : Leads → List Meaning → Bool → List Right → Lexeme → Exports → List Meaning → List Question
replacing_asks leads frame is_constant rights l [] symbols = []
replacing_asks leads frame is_constant rights l (parameter ∷ parameters) symbols = elim (right_for rights parameter.0) [
  | Some right ↦ record { frame = frame; asked = IsAtMost right.at right.tree (greatest_level is_constant parameter.1) } ∷ replacing_asks leads frame is_constant rights l parameters symbols
  | None ↦ record {
    frame = frame;
    asked = IsAtMost l.span (named (operator_places (Some parameter.1)) (lead_of leads (slice_get symbols 0) []) Nil) (greatest_level is_constant parameter.1);
  } ∷ replacing_asks leads frame is_constant rights l parameters (drop 1 symbols)
]

-- of trees of a text, by what its names mean, where they begin; by the symbols that stand in for the parameters which an INSTANCE does
-- not replace, where the name of its module begins; and by what modules are to their instances
module _ (text : Text) (means : ℕ → Option Meaning) (implied : ℕ → List Meaning) (faces : List ℕ → Face) where
  -- what is asked of the tree of a form itself
  abbrev pub asked_at : Setting → Resolved → Form.the_data → Span → Trees → List Question
  asked_at setting x form s parts = over setting.frame (asks_at x form s parts)

  -- what is asked of an instance of the module of a name
  abbrev pub instance_asks : Setting → Lexeme → List Right → List Question
  instance_asks setting l rights =
      replacing_asks setting.leads setting.frame (face_of text means implied faces l).is_constant rights l (face_of text means implied faces l).parameters (implied l.span.start)

  abbrev mutual
    -- what is asked of an expression
    pub asks_of : Setting → Tree → List Question
    asks_of setting (TreeNode Form.Let s parts) = chain_asks setting parts
    asks_of setting (TreeNode Form.Except s (ConsTree function updates)) =
        asked_at setting (tree_of text means implied faces setting (TreeNode Form.Except s (ConsTree function updates))) Form.Except s (ConsTree function updates)
        ++ (asks_of setting function ++ update_asks setting (tree_of text means implied faces setting function) updates)
    asks_of setting (TreeNode form s parts) =
        asked_at setting (tree_of text means implied faces setting (TreeNode form s parts)) form s parts ++ operand_asks all_parts setting parts

    -- of the expressions that some of these parts are made of, in their order
    pub operand_asks : (Form.the_data → Bool) → Setting → Trees → List Question
    operand_asks taken setting NoTrees = []
    operand_asks taken setting (ConsTree (TreeNode form s parts) rest) =
        (elim (taken form) [
          | true ↦ elim (part_of form) [
            | Outer ↦ operand_asks all_parts setting parts
            | Helper ↦ operand_asks all_parts setting parts
            | Whole ↦ asks_of setting (TreeNode form s parts)
          ]
          | false ↦ []
        ])
        ++ operand_asks taken setting rest

    -- of the updates of a function
    pub update_asks : Setting → Resolved → Trees → List Question
    update_asks setting f NoTrees = []
    update_asks setting f (ConsTree (TreeNode form s parts) rest) =
        operand_asks stands_outside setting parts
        ++ (operand_asks inside_parts (repeating setting (Cons f (operands_of text means implied faces stands_outside setting parts))) parts ++ update_asks setting f rest)

    -- of definitions, and of the body behind them
    pub chain_asks : Setting → Trees → List Question
    chain_asks setting NoTrees = []
    chain_asks setting (ConsTree (TreeNode form s parts) rest) = elim (helps form) [
      | true ↦ definition_asks setting (TreeNode form s parts)
          ++ chain_asks (behind text setting (TreeNode form s parts) (defined_lead text means implied faces setting (TreeNode form s parts))) rest
      | false ↦ asks_of setting (TreeNode form s parts) ++ chain_asks setting rest
    ]

    -- of a definition
    pub definition_asks : Setting → Tree → List Question
    definition_asks setting (TreeNode form s parts) = elim (defines form) [
      | Nothing ↦ []
      | Operator l ↦ over setting.frame (IsShallow l (Body (length setting.frame) (root_of (operands_of text means implied faces all_parts (with_parameters text setting form parts) parts))) ∷ [])
          ++ operand_asks all_parts (with_parameters text setting form parts) parts
      | Function l ↦ over setting.frame (IsShallow l (Body (length setting.frame) (operation Plain (operands_of text means implied faces all_parts setting parts))) ∷ [])
          ++ (asked_at setting (operation Plain (operands_of text means implied faces all_parts setting parts)) form s parts ++ operand_asks all_parts setting parts)
      | Module l ↦ through_asks setting (with_parameters text setting form parts) l (length (parameters_of text form parts)) parts
    ]

    -- of the instance of a module definition, which is the first INSTANCE among these
    pub through_asks : Setting → Setting → Lexeme → ℕ → Trees → List Question
    through_asks outside setting own count NoTrees = []
    through_asks outside setting own count (ConsTree (TreeNode (Form.Instance l) s parts) rest) =
        over outside.frame (IsShallowInstance own (instance_of text means implied faces setting (length outside.frame) count true l (rights_of text means implied faces setting parts)) ∷ [])
        ++ (right_asks setting l parts ++ instance_asks setting l (rights_of text means implied faces setting parts))
    through_asks outside setting own count (ConsTree x rest) = through_asks outside setting own count rest

    -- of the right sides of replacements
    pub right_asks : Setting → Lexeme → Trees → List Question
    right_asks setting l NoTrees = []
    right_asks setting l (ConsTree (TreeNode (Form.Replacement left) s right) rest) =
        over setting.frame (UseAs left (declared_level (entry_of (face_of text means implied faces l).parameters (name_of text.source left))) ∷ [])
        ++ (operand_asks all_parts setting right ++ right_asks setting l rest)
    right_asks setting l (ConsTree x rest) = right_asks setting l rest
