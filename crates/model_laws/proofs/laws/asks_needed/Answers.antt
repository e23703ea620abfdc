use Rattle.std.proofs.lemmas.List.Elements.{recursion_from_All}
use Rattle.module_scope.specs.Imports.{imports_of}
use Rattle.model_laws.proofs.Asking.{findings-ask, outside-asks}
use Rattle.model_laws.proofs.laws.asks_needed.Goals as goal

pub returns : goal.returns
returns c = λ source units. record {
  found = λ files others all. findings-ask files others source units (recursion_from_All _ (imports_of source units) all);
  outside = λ files others all. outside-asks files others source units (recursion_from_All _ (imports_of source units) all);
}
