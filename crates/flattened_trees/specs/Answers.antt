-- What the kinds of nodes answer to what is asked of them.
use Rattle.std.specs.Prelude.{ℕ, Bool, true, false, List, [], ◌∷◌, ◌++◌, ◌&&◌, Option, Some, None, if◌then◌else◌, is_some, map, not, slice_get}
use Rattle.tla_symbols.specs.declared.level.Kind.{Kind}
use Rattle.tla_model.specs.Entities.{Meaning}
use Rattle.kind_text.specs.ExpandedKind.{kind}
use Rattle.kind_text.specs.FlatModule.{FlatModule, Node, places_of}
use Rattle.kind_text.specs.Expansion.{text}
use Rattle.kind_text.specs.Substitution.{Item, judged}
use Rattle.level_text.specs.Depth.{depth, depth_of, instance_depth, is_too_deep}
use Rattle.tla_symbols.specs.declared.lexeme.Lexeme.{Lexeme}
use Rattle.tree_kinds.specs.TreeLevels.{LevelFinding, Leveled, NotConstant, Refused, TooHigh, is_above, level_word}
use Rattle.flat_kinds.specs.Symbols.{item_itself}
use Rattle.flattened_trees.specs.Questions.{Asked, Question, UseOf, UseAs, HasKind, IsAtMost, IsShallow, IsShallowInstance, IsShallowNode, IsConstant}

-- symbols and parameters by themselves
abbrev pub items_of : List Meaning → List Item
items_of frame = map item_itself frame

module _ (flat : FlatModule) where
  -- the kind of a node over a frame; of a bare operator, that on constants
  abbrev pub kind_in : List Meaning → ℕ → Option Kind
  kind_in frame i = kind (judged (places_of (slice_get flat.nodes i)) (text flat i (items_of frame)))

  -- all of these nodes have kinds
  abbrev pub have_kinds : List Meaning → List ℕ → Bool
  have_kinds frame [] = true
  have_kinds frame (i ∷ is) = is_some (kind_in frame i) && have_kinds frame is

  -- the same of what a node is made of
  abbrev pub parts_have_kinds : List Meaning → Option Node → Bool
  parts_have_kinds frame None = false
  parts_have_kinds frame (Some node) = have_kinds frame node.parts

  -- what is found of levels
  abbrev pub level_answer : List Meaning → Asked → List LevelFinding
  level_answer frame (UseOf l i) = Leveled l (level_word (kind_in frame i)) ∷ []
  level_answer frame (UseAs l level) = Leveled l level ∷ []
  level_answer frame (HasKind s i) = if not (is_some (kind_in frame i)) && parts_have_kinds frame (slice_get flat.nodes i) then Refused s ∷ [] else []
  level_answer frame (IsAtMost s i most) = if is_above most (kind_in frame i) then TooHigh s ∷ [] else []
  level_answer frame (IsConstant s i) = if is_above 0 (kind_in frame i) then NotConstant s ∷ [] else []
  level_answer frame asked = []

  -- the same of all questions, in their order
  abbrev pub level_answers : List Question → List LevelFinding
  level_answers [] = []
  level_answers (q ∷ rest) = level_answer q.frame q.asked ++ level_answers rest

  -- the names of definitions that are too deep, and the words of assumptions and theorems
  abbrev pub deep_answer : Asked → List Lexeme
  deep_answer (IsShallow l d) = if is_too_deep (depth_of (depth flat) (slice_get flat.definitions d)) then l ∷ [] else []
  deep_answer (IsShallowInstance l j) = if is_too_deep (instance_depth (depth flat) (slice_get flat.instances j)) then l ∷ [] else []
  deep_answer (IsShallowNode l i) = if is_too_deep (depth flat i) then l ∷ [] else []
  deep_answer asked = []

  -- the same of all questions, in their order
  abbrev pub deep_answers : List Question → List Lexeme
  deep_answers [] = []
  deep_answers (q ∷ rest) = deep_answer q.asked ++ deep_answers rest
