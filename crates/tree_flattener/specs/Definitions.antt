-- What forms define, in code.
use Rattle.tla_model.specs.Entities.{Defines, Nothing, Operator, Function, Module}
use Rattle.tree_flattener.specs.declared.shapes.Definition.TheVariants as definition

-- as the definitions have it
abbrev pub definition_in : definition.the_data → Defines
definition_in definition.Nothing = Nothing
definition_in (definition.Operator l) = Operator l
definition_in (definition.Function l) = Function l
definition_in (definition.Module l) = Module l
