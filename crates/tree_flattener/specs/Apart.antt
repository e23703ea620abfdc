-- What code makes at the outermost level of a module: definitions whose names are kept elsewhere, and claims.
use Rattle.std.specs.Prelude.{◌≡◌, ℕ, ◌<◌, List, [], ◌∷◌, ◌++◌, IfSome, Option, Some, None, length}
use Rattle.std.specs.List.{AllByRecursion}
use Rattle.tla_symbols.specs.declared.lexeme.Lexeme.{Lexeme}
use Rattle.tla_tree.specs.Syntax.{Tree}
use Rattle.tla_model.specs.Scopes.{definition}
use Rattle.tla_model.specs.Tables.{Named}
use Rattle.kind_text.specs.FlatModule.{Extends, FlatModule}
use Rattle.flattened_trees.specs.Leads.{Lead}
use Rattle.flattened_trees.specs.Within.{IsLeadWithin}
use Rattle.flattened_trees.specs.Questions.{IsShallowNode, Question, over}
use Rattle.flattened_trees.specs.Flattened.{IsDefined, IsFlattened}
use Rattle.tree_flattener.specs.declared.locals.Local.{Local}
use Rattle.tree_flattener.specs.declared.state.Flattening.{Flattening}
use Rattle.tree_flattener.specs.Steps.{Steps}
use Rattle.tree_flattener.specs.Worlds.{DoesLie, IsReady, World, frame_at, lead_by, setting_of}

-- where the name of a tree leads, if the tree defines one
abbrev pub IsLeadOf : World → Tree → Option Local → (List Named → Lead) → Type 0
IsLeadOf w x None lead = definition x ≡ []
IsLeadOf w x (Some local) lead = lead ≡ lead_by w local

-- what a tree defines is made; the names in scope are as before, and its name leads there
pub record IsMadeApart (w : World) (old new : Flattening) (frame : ℕ) (olds : List ℕ) (x : Tree) (local : Option Local) (before after : List ℕ) : Type 0 where
  pub asked : List Question
  pub steps : Steps old new asked
  pub locals : new.locals.items ≡ old.locals.items
  pub ready : IsReady w new frame olds
  pub first : List ℕ
  pub is : after ≡ before ++ first
  pub there : AllByRecursion (λ i. i < length new.flat.nodes) first
  pub lead : List Named → Lead
  pub leads : IsLeadOf w x local lead
  pub within : IfSome local (λ l. (names : List Named) → IsLeadWithin new.flat (lead_by w l names))
  pub lies : IfSome local (DoesLie w.text.source)
  pub holds : (more : FlatModule) → Extends new.flat more → IsDefined w.text w.means w.implied w.faces more (setting_of w old frame olds) x lead first asked

-- an assumption or a theorem is made, and it is asked by its first word whether it is not too deep
pub record IsMadeClaim (w : World) (old new : Flattening) (frame : ℕ) (olds : List ℕ) (word : Lexeme) (x : Tree) (i : ℕ) : Type 0 where
  pub asked : List Question
  pub steps : Steps old new (over (frame_at old.frames.items frame) (IsShallowNode word i ∷ []) ++ asked)
  pub locals : new.locals.items ≡ old.locals.items
  pub there : i < length new.flat.nodes
  pub holds : (more : FlatModule) → Extends new.flat more → IsFlattened w.text w.means w.implied w.faces more (setting_of w old frame olds) x i asked
