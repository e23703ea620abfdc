-- What code makes of trees: nodes that are these trees in each flat module that has what was made.
use Rattle.std.specs.Prelude.{◌≡◌, ℕ, ◌<◌, List, [], ◌∷◌, ◌++◌, Option, length, map}
use Rattle.std.specs.List.{AllByRecursion}
use Rattle.std.specs.Option.{option_or}
use Rattle.tla_tree.specs.Arena.{node_at, tree_at}
use Rattle.tla_tree.specs.Syntax.{Tree, Trees, Cons, trees}
use Rattle.tla_model.specs.Tables.{Named}
use Rattle.tla_model.specs.Scopes.{definition}
use Rattle.kind_text.specs.FlatModule.{Extends, FlatModule}
use Rattle.declared_names.specs.Listed.{listed}
use Rattle.flattened_trees.specs.Leads.{Lead, Setting, behind}
use Rattle.flattened_trees.specs.Questions.{Question}
use Rattle.flattened_trees.specs.Flattened.{AreOperands, AreUpdates, IsChain, IsDefined, IsFlattened}
use Rattle.tree_flattener.specs.declared.locals.Entry.{Entry}
use Rattle.tree_flattener.specs.declared.rules.Taken.TheVariants as taken
use Rattle.tree_flattener.specs.declared.state.Flattening.{Flattening}
use Rattle.tree_flattener.specs.Parts.{taken_by}
use Rattle.tree_flattener.specs.Steps.{Steps}
use Rattle.tree_flattener.specs.Worlds.{IsReady, World, lead_by, setting_of}

-- the trees of the children of a node
abbrev pub parts_in : World → ℕ → Trees
parts_in w node = trees (map (tree_at w.nodes) (node_at w.nodes node).children)

-- a node is made of a tree
pub record Flattens (w : World) (old new : Flattening) (frame : ℕ) (olds : List ℕ) (x : Tree) (i : ℕ) : Type 0 where
  pub asked : List Question
  pub steps : Steps old new asked
  pub locals : new.locals.items ≡ old.locals.items
  pub there : i < length new.flat.nodes
  pub holds : (more : FlatModule) → Extends new.flat more → IsFlattened w.text w.means w.implied w.faces more (setting_of w old frame olds) x i asked

-- what is said of parts, with the nodes that are made of them, and what is asked of these
abbrev pub OfParts : Type 1
OfParts = FlatModule → Trees → List ℕ → List Question → Type 0

-- the expressions that parts are made of
abbrev pub operands_of : World → Setting → taken.the_data → OfParts
operands_of w setting which more xs is asked = AreOperands w.text w.means w.implied w.faces more (taken_by which) setting xs is asked

-- the updates of a function
abbrev pub updates_of : World → Setting → ℕ → OfParts
updates_of w setting f more xs is asked = AreUpdates w.text w.means w.implied w.faces more setting f xs is asked

-- nodes are made of a part, so that it holds of it and of others where it holds of the others
pub record Reads (P : OfParts) (old new : Flattening) (x : Tree) (before after : List ℕ) : Type 0 where
  pub asked : List Question
  pub steps : Steps old new asked
  pub locals : new.locals.items ≡ old.locals.items
  pub first : List ℕ
  pub is : after ≡ before ++ first
  pub there : AllByRecursion (λ i. i < length new.flat.nodes) first
  pub holds : (more : FlatModule) → Extends new.flat more → (rest : Trees) (others : List ℕ) (b : List Question) → P more rest others b → P more (Cons x rest) (first ++ others) (asked ++ b)

-- nodes are made of some first parts
pub record ReadsSome (P : OfParts) (old new : Flattening) (all rest : Trees) (before after : List ℕ) : Type 0 where
  pub asked : List Question
  pub steps : Steps old new asked
  pub locals : new.locals.items ≡ old.locals.items
  pub first : List ℕ
  pub is : after ≡ before ++ first
  pub there : AllByRecursion (λ i. i < length new.flat.nodes) first
  pub holds : (more : FlatModule) → Extends new.flat more → (others : List ℕ) (b : List Question) → P more rest others b → P more all (first ++ others) (asked ++ b)

-- nodes are made of all parts
pub record ReadsAll (P : OfParts) (old new : Flattening) (all : Trees) (before after : List ℕ) : Type 0 where
  pub asked : List Question
  pub steps : Steps old new asked
  pub locals : new.locals.items ≡ old.locals.items
  pub first : List ℕ
  pub is : after ≡ before ++ first
  pub there : AllByRecursion (λ i. i < length new.flat.nodes) first
  pub holds : (more : FlatModule) → Extends new.flat more → P more all first asked

-- where the name of a tree leads that is put into scope, if the tree defines one
abbrev pub LeadsTo : World → Tree → List Entry → (List Named → Lead) → Type 0
LeadsTo w x [] lead = definition x ≡ []
LeadsTo w x (entry ∷ []) lead = lead ≡ lead_by w entry.local
LeadsTo w x _ lead = ⊥

-- what a tree defines is made, and its name leads there
pub record IsMadeDefinition (w : World) (old new : Flattening) (frame : ℕ) (olds : List ℕ) (x : Tree) (before after : List ℕ) : Type 0 where
  pub asked : List Question
  pub steps : Steps old new asked
  pub ready : IsReady w new frame olds
  pub put : List Entry
  pub locals : new.locals.items ≡ old.locals.items ++ put
  pub first : List ℕ
  pub is : after ≡ before ++ first
  pub there : AllByRecursion (λ i. i < length new.flat.nodes) first
  pub lead : List Named → Lead
  pub leads : LeadsTo w x put lead
  pub setting : setting_of w new frame olds ≡ behind w.text (setting_of w old frame olds) x lead
  pub holds : (more : FlatModule) → Extends new.flat more → IsDefined w.text w.means w.implied w.faces more (setting_of w old frame olds) x lead first asked

-- a definition of a chain is made, or a body
pub record Links (w : World) (old new : Flattening) (frame : ℕ) (olds : List ℕ) (x : Tree) (body_before body_after : Option ℕ) (before after : List ℕ) : Type 0 where
  pub asked : List Question
  pub steps : Steps old new asked
  pub ready : IsReady w new frame olds
  pub put : List Entry
  pub locals : new.locals.items ≡ old.locals.items ++ put
  pub body : Option ℕ
  pub body_is : body_after ≡ option_or body_before body
  pub body_there : AllByRecursion (λ i. i < length new.flat.nodes) (listed body)
  pub first : List ℕ
  pub is : after ≡ before ++ first
  pub there : AllByRecursion (λ i. i < length new.flat.nodes) first
  pub holds : (more : FlatModule) → Extends new.flat more → (rest : Trees) (next : Option ℕ) (others : List ℕ) (b : List Question)
      → IsChain w.text w.means w.implied w.faces more (setting_of w new frame olds) rest next others b
      → IsChain w.text w.means w.implied w.faces more (setting_of w old frame olds) (Cons x rest) (option_or body next) (first ++ others) (asked ++ b)

-- the first of a chain are made
pub record LinksSome (w : World) (old new : Flattening) (frame : ℕ) (olds : List ℕ) (all rest : Trees) (body : Option ℕ) (roots : List ℕ) : Type 0 where
  pub asked : List Question
  pub steps : Steps old new asked
  pub ready : IsReady w new frame olds
  pub put : List Entry
  pub locals : new.locals.items ≡ old.locals.items ++ put
  pub body_there : AllByRecursion (λ i. i < length new.flat.nodes) (listed body)
  pub there : AllByRecursion (λ i. i < length new.flat.nodes) roots
  pub holds : (more : FlatModule) → Extends new.flat more → (next : Option ℕ) (others : List ℕ) (b : List Question)
      → IsChain w.text w.means w.implied w.faces more (setting_of w new frame olds) rest next others b
      → IsChain w.text w.means w.implied w.faces more (setting_of w old frame olds) all (option_or body next) (roots ++ others) (asked ++ b)
