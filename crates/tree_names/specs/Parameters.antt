-- Parameters of a module in code, as entries of the definitions.
use Rattle.std.specs.Prelude.{List, map}
use Rattle.tla_model.specs.Tables as tables
use Rattle.tla_model.specs.Entities.{Meaning}
use Rattle.module_model.specs.Exports.{Exports}
use Rattle.tree_names.specs.declared.parameter.Parameter.{Parameter}
use Rattle.tree_names.specs.declared.parameter.Name.TheVariants as name

-- a name that is held, as a name of the definitions
abbrev pub named_in : name.the_data → tables.Named
named_in (name.Word word) = tables.Word word
named_in (name.Symbol op) = tables.Symbol op

-- a parameter, as an entry of its module
abbrev pub entry_in : Parameter → tables.Named × Meaning
entry_in parameter = (named_in parameter.name, parameter.meaning)

-- the same of several parameters, in their order
abbrev pub entries_in : List Parameter → Exports
entries_in parameters = map entry_in parameters
