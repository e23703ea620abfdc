-- Numbers of what imports are to their instances.
use Rattle.std.specs.Prelude.{ℕ, Option, Some, None}
use Rattle.module_model.specs.declared.imported.Import.{Import}

-- the number of an import, if it is accepted
abbrev pub number_by : Option Import → Option ℕ → Option ℕ
number_by (Some (Import.Module face)) number = number
number_by import number = None
