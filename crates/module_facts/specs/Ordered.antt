-- Diagnostics in order, as a function.
use Rattle.std.specs.Prelude.{List, [], ◌∷◌, if◌then◌else◌}
use Rattle.tla_model.specs.declared.Diagnostic.{Diagnostic}
use Rattle.module_model.specs.Bindings.{is_before}

-- one more among diagnostics in order, unless it is there
abbrev pub with_one : Diagnostic → List Diagnostic → List Diagnostic
with_one fault [] = fault ∷ []
with_one fault (next ∷ rest) = if is_before fault next then fault ∷ next ∷ rest else if is_before next fault then next ∷ with_one fault rest else next ∷ rest

-- these diagnostics in order, each once
abbrev pub in_order : List Diagnostic → List Diagnostic
in_order [] = []
in_order (fault ∷ faults) = with_one fault (in_order faults)
