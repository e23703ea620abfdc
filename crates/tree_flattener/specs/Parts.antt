-- Which parts of a form are looked at, and which are expressions by themselves.
use Rattle.std.specs.Prelude.{Bool, ◌&&◌, not}
use Rattle.tla_tree.specs.declared.form.Form.TheVariants as Form
use Rattle.tla_tree.specs.Forms.{helps}
use Rattle.tree_kinds.specs.Expanding.{stands_outside}
use Rattle.flattened_trees.specs.Flattened.{all_parts, inside_parts}
use Rattle.tree_flattener.specs.declared.rules.Taken.TheVariants as taken

-- which parts are looked at
abbrev pub taken_by : taken.the_data → Form.the_data → Bool
taken_by taken.All = all_parts
taken_by taken.Outside = stands_outside
taken_by taken.Inside = inside_parts

-- an expression by itself
abbrev pub is_whole : Form.the_data → Bool
is_whole form = not (stands_outside form) && not (helps form)
