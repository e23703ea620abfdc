-- Parameters that come into scope in code.
use Rattle.std.specs.Prelude.{◌≡◌, ℕ, suc, List, [], ◌∷◌, ◌++◌, length}
use Rattle.tla_tree.specs.declared.form.Form.{Form}
use Rattle.tla_tree.specs.Syntax.{Trees}
use Rattle.tla_model.specs.declared.names.Binder.{Binder}
use Rattle.tla_model.specs.Entities.{Text, meant, place_in}
use Rattle.tla_model.specs.Scopes.{binders}
use Rattle.flat_trees.specs.Layouts.{order_of, parameters_of}
use Rattle.tree_flattener.specs.declared.locals.Entry.{Entry}
use Rattle.tree_flattener.specs.declared.locals.Local.TheVariants as local
use Rattle.tree_flattener.specs.declared.scopes.Entered.{Entered}
use Rattle.tree_flattener.specs.declared.state.Flattening.{Flattening}
use Rattle.tree_flattener.specs.Worlds.{frame_at}

-- a parameter at a place
abbrev pub entry_of : Text → ℕ → Binder → Entry
entry_of text place binder = record { place = place_in text.starts binder.name.span.start; local = local.Place place (order_of (meant text binder)) }

-- parameters at places from this one on
abbrev pub entries_of : Text → ℕ → List Binder → List Entry
entries_of text place [] = []
entries_of text place (binder ∷ rest) = entry_of text place binder ∷ entries_of text (suc place) rest

-- the parameters of a form come into scope, in a frame that has them at its last places
pub record Enters (text : Text) (old new : Flattening) (frame : ℕ) (form : Form) (parts : Trees) (entered : Entered) : Type 0 where
  pub flat : new.flat ≡ old.flat
  pub questions : new.asked.items ≡ old.asked.items
  pub locals : new.locals.items ≡ old.locals.items ++ entries_of text (length (frame_at old.frames.items frame)) (binders form parts)
  pub frames : new.frames.items ≡ old.frames.items ++ (frame_at old.frames.items frame ++ parameters_of text form parts) ∷ []
  pub number : entered.frame ≡ length old.frames.items
  pub count : entered.count ≡ length (parameters_of text form parts)
