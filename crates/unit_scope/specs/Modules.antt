-- The module that is read in code, as that of the definitions.
use Rattle.std.specs.Prelude.{List}
use Rattle.module_model.specs.Modules.{Reading}
use Rattle.instance_leads.specs.Leading.{views}
use Rattle.instance_leads.specs.declared.ended.Ended.{Ended}
use Rattle.instance_scope.specs.declared.scope.Scope.{Scope}
use Rattle.name_exports.specs.Brought.{as_read}
use Rattle.unit_scope.specs.declared.reading.Reading.{Reading as Read}

-- the module that code reads, by the nested modules that have ended
abbrev pub reading_in : List Ended → Read → Reading
reading_in nested read = as_read read.name.now (views nested read.modules) read.names

-- the same, by what is kept of the text
abbrev pub reading_of : Scope → Read → Reading
reading_of scope read = reading_in scope.nested.items read
