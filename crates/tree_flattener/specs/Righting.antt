-- Right sides that are made.
use Rattle.std.specs.Prelude.{◌≡◌, ℕ, ◌<◌, List, ◌++◌, length}
use Rattle.std.specs.List.{AllByRecursion}
use Rattle.tla_symbols.specs.declared.lexeme.Lexeme.{Lexeme}
use Rattle.tla_tree.specs.Syntax.{Tree, Trees, Cons}
use Rattle.kind_text.specs.FlatModule.{Extends, FlatModule}
use Rattle.flattened_trees.specs.Questions.{Question}
use Rattle.flattened_trees.specs.Flattened as flattened
use Rattle.flattened_trees.specs.Flattened.{AreRights}
use Rattle.tree_flattener.specs.declared.instances.Right.{Right}
use Rattle.tree_flattener.specs.declared.state.Flattening.{Flattening}
use Rattle.tree_flattener.specs.Replacing.{rights_in}
use Rattle.tree_flattener.specs.Steps.{Steps}
use Rattle.tree_flattener.specs.Worlds.{World, setting_of}

module _ (w : World) (old new : Flattening) (frame : ℕ) (olds : List ℕ) (l : Lexeme) where
  -- the right side of one replacement is made, so that all are, where those behind it are
  pub record Rights (x : Tree) (rights_before rights_after : List Right) (before after : List ℕ) : Type 0 where
    pub asked : List Question
    pub steps : Steps old new asked
    pub locals : new.locals.items ≡ old.locals.items
    pub made : List Right
    pub rights : rights_after ≡ rights_before ++ made
    pub rights_there : AllByRecursion (λ right. right.node < length new.flat.nodes) made
    pub first : List ℕ
    pub is : after ≡ before ++ first
    pub there : AllByRecursion (λ i. i < length new.flat.nodes) first
    pub holds : (more : FlatModule) → Extends new.flat more → (rest : Trees) (further : List flattened.Right) (others : List ℕ) (b : List Question)
        → AreRights w.text w.means w.implied w.faces more (setting_of w old frame olds) l rest further others b
        → AreRights w.text w.means w.implied w.faces more (setting_of w old frame olds) l (Cons x rest) (rights_in made ++ further) (first ++ others) (asked ++ b)

  -- the right sides of some first replacements are made
  pub record RightsSome (all rest : Trees) (made : List Right) (before after : List ℕ) : Type 0 where
    pub asked : List Question
    pub steps : Steps old new asked
    pub locals : new.locals.items ≡ old.locals.items
    pub rights_there : AllByRecursion (λ right. right.node < length new.flat.nodes) made
    pub first : List ℕ
    pub is : after ≡ before ++ first
    pub there : AllByRecursion (λ i. i < length new.flat.nodes) first
    pub holds : (more : FlatModule) → Extends new.flat more → (further : List flattened.Right) (others : List ℕ) (b : List Question)
        → AreRights w.text w.means w.implied w.faces more (setting_of w old frame olds) l rest further others b
        → AreRights w.text w.means w.implied w.faces more (setting_of w old frame olds) l all (rights_in made ++ further) (first ++ others) (asked ++ b)

  -- all right sides are made
  pub record RightsAll (all : Trees) (made : List Right) (before after : List ℕ) : Type 0 where
    pub asked : List Question
    pub steps : Steps old new asked
    pub locals : new.locals.items ≡ old.locals.items
    pub rights_there : AllByRecursion (λ right. right.node < length new.flat.nodes) made
    pub first : List ℕ
    pub is : after ≡ before ++ first
    pub there : AllByRecursion (λ i. i < length new.flat.nodes) first
    pub holds : (more : FlatModule) → Extends new.flat more → AreRights w.text w.means w.implied w.faces more (setting_of w old frame olds) l all (rights_in made) first asked
