-- What is known round a tree whose nodes are to mean it.
use Rattle.std.specs.Prelude.{ℕ, Bool, List, map}
use Rattle.tla_tree.specs.Syntax.{Tree}
use Rattle.tla_model.specs.Entities.{Meaning, Text, meant, within}
use Rattle.module_model.specs.Exports.{Known}
use Rattle.kind_text.specs.FlatModule.{FlatModule}
use Rattle.tree_kinds.specs.Standing.{Outside}
use Rattle.flat_trees.specs.Layouts.{Layout}
use Rattle.flattened_trees.specs.Leads.{FlatFace, Setting}
use Rattle.flattened_trees.specs.Agreeing.{IsFresh, IsSeen, IsSettingOf, IsUnsaid, KeepsOrders, is_seen}
use Rattle.flattened_meanings.specs.Faces.{AreFacesOf, NamesModules}

-- names lead where they stand, which take what they take; those that the tree declares and binds are new, and nothing is said of them; and
-- each INSTANCE in it is of a module that is to its instances what is known of it
pub record IsKnownRound (flat : FlatModule) (text : Text) (known : Known) (named : List ℕ → Outside) (faces : List ℕ → FlatFace) (nameable : List ℕ → Bool) (layout : Layout) (setting : Setting) (seen : List Meaning) (x : Tree) : Type 0 where
  pub settings : IsSettingOf layout setting
  pub orders : KeepsOrders known layout
  pub names : IsSeen seen layout
  pub fresh : IsFresh text seen x
  pub unsaid : IsUnsaid text layout x
  pub modules : AreFacesOf flat nameable (is_seen (map (meant text) (within x))) layout.stands faces named
  pub instances : NamesModules text.source nameable x
