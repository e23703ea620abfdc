-- What the kinds and the depths of resolved trees answer to what is asked of them: as `Answers` of `flattened_trees`.
use Rattle.std.specs.Prelude.{ℕ, suc, Bool, true, false, List, [], ◌∷◌, ◌++◌, ◌&&◌, Option, Some, None, if◌then◌else◌, is_some, not}
use Rattle.tla_symbols.specs.declared.level.Kind.{Kind}
use Rattle.tla_symbols.specs.declared.lexeme.Lexeme.{Lexeme}
use Rattle.tla_model.specs.Entities.{Meaning}
use Rattle.kind_text.specs.ExpandedKind.{kind}
use Rattle.kind_text.specs.Substitution.{judged}
use Rattle.level_text.specs.Depth.{is_too_deep}
use Rattle.tree_kinds.specs.TreeLevels.{LevelFinding, Leveled, NotConstant, Refused, TooHigh, is_above, level_word}
use Rattle.flattened_trees.specs.Answers.{items_of}
use Rattle.resolved_trees.specs.Resolved.{Absent, Cons, Instance, Lambda, Missing, Name, Nil, Node, Parts, Replaced, Resolved, Use, depth_in, depth_of, greatest_replaced, item_of, places_in}
use Rattle.written_questions.specs.Questions.{Asked, HasKind, IsAtMost, IsConstant, IsShallow, IsShallowInstance, IsShallowTree, Question, UseAs, UseOf}

-- the kind of a tree over a frame; of a bare operator, that on constants
abbrev pub kind_over : List Meaning → Resolved → Option Kind
kind_over frame x = kind (judged (places_in x) (item_of x (items_of frame)))

-- what a tree is made of, if it is there
abbrev pub parts_of : Resolved → Option Parts
parts_of Missing = None
parts_of (Node form places parts) = Some parts
parts_of (Use path definition places parts) = Some parts
parts_of (Name path definition places parts) = Some parts
parts_of (Lambda definition places parts) = Some parts

-- all of these have kinds
abbrev pub have_kinds : List Meaning → Parts → Bool
have_kinds frame Nil = true
have_kinds frame (Cons first rest) = is_some (kind_over frame first) && have_kinds frame rest

-- the same of what a tree is made of
abbrev pub parts_have_kinds : List Meaning → Option Parts → Bool
parts_have_kinds frame None = false
parts_have_kinds frame (Some parts) = have_kinds frame parts

-- what is found of levels
abbrev pub level_answer : List Meaning → Asked → List LevelFinding
level_answer frame (UseOf l x) = Leveled l (level_word (kind_over frame x)) ∷ []
level_answer frame (UseAs l level) = Leveled l level ∷ []
level_answer frame (HasKind s x) = if not (is_some (kind_over frame x)) && parts_have_kinds frame (parts_of x) then Refused s ∷ [] else []
level_answer frame (IsAtMost s x most) = if is_above most (kind_over frame x) then TooHigh s ∷ [] else []
level_answer frame (IsConstant s x) = if is_above 0 (kind_over frame x) then NotConstant s ∷ [] else []
level_answer frame asked = []

-- the same of all questions, in their order
abbrev pub level_answers : List Question → List LevelFinding
level_answers [] = []
level_answers (q ∷ rest) = level_answer q.frame q.asked ++ level_answers rest

-- the depth of a module definition: 1 more than that of its replacements
abbrev pub instance_depth : Instance → ℕ
instance_depth Absent = 0
instance_depth (Replaced outer parameters guards replacements) = suc (greatest_replaced replacements)

-- the names of definitions that are too deep, and the words of assumptions and theorems
abbrev pub deep_answer : Asked → List Lexeme
deep_answer (IsShallow l d) = if is_too_deep (depth_of d) then l ∷ [] else []
deep_answer (IsShallowInstance l j) = if is_too_deep (instance_depth j) then l ∷ [] else []
deep_answer (IsShallowTree l x) = if is_too_deep (depth_in x) then l ∷ [] else []
deep_answer asked = []

-- the same of all questions, in their order
abbrev pub deep_answers : List Question → List Lexeme
deep_answers [] = []
deep_answers (q ∷ rest) = deep_answer q.asked ++ deep_answers rest
