-- What is known round a tree over whose frame its questions are answered.
use Rattle.std.specs.Prelude.{◌≡◌, ℕ, List, None, slice_get}
use Rattle.std.specs.List.{AllByRecursion}
use Rattle.kind_text.specs.FlatModule.{FlatModule, places_of}
use Rattle.tree_kinds.specs.Expanding.{Around}
use Rattle.flat_trees.specs.Layouts.{Agrees, Layout}
use Rattle.flattened_trees.specs.Leads.{Setting}
use Rattle.flattened_trees.specs.Answers.{items_of}

-- these nodes are no bare operators
abbrev pub AreExpressions : FlatModule → List ℕ → Type 0
AreExpressions flat is = AllByRecursion (λ i. places_of (slice_get flat.nodes i) ≡ None) is

-- the frame of a setting by itself agrees with what stands round a tree, and what `@` repeats are expressions
pub record IsAskedRound (flat : FlatModule) (layout : Layout) (setting : Setting) (around : Around) : Type 0 where
  pub frame : Agrees flat layout (items_of setting.frame) around
  pub olds : AreExpressions flat setting.olds
