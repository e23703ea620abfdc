-- Instances that a text names, as pairs.
use Rattle.std.specs.Prelude.{◌≡◌, List, [], Option}
use Rattle.tla_symbols.specs.declared.lexeme.Lexeme.{Lexeme}
use Rattle.tla_tree.specs.Arena.{AreThere, Node}
use Rattle.tla_tree.specs.declared.unit.Unit.TheVariants as unit
use Rattle.unit_grammar.specs.UnitNodes.{nodes_in, unit_at}
use Rattle.module_model.specs.Instances.{all_named_instances, unit_trees}
use Rattle.instance_names.specs.declared.named.NamedInstance.{NamedInstance}

-- its name, with the name of its module
abbrev pub named_as : NamedInstance → Lexeme × Option Lexeme
named_as instance = (instance.name, instance.«module»)

-- no unit of these nodes names an instance
abbrev pub NamesNone : List Node → Type 0
NamesNone nodes = (u : unit.the_data) → AreThere nodes (nodes_in u) → all_named_instances (unit_trees (unit_at nodes u)) ≡ []
