use Rattle.std.proofs.Common.{◌≡◌, List as ListOf, map, take}
use Rattle.module_model.specs.Exports.{and_known}
use Rattle.instance_leads.specs.Found.{AreOfFace, known_here}
use Rattle.instance_leads.specs.Leading.{known_in}
use Rattle.instance_leads.specs.declared.ended.Ended.{Ended as EndedModule}
use Rattle.instance_leads.proofs.imports.put_symbols.Given as goal

abbrev pub invariant-loop-meaning : goal.invariant-loop-meaning
invariant-loop-meaning l = record {
  led : AreOfFace l.face l.more;
  known : (nested : ListOf EndedModule) → known_in nested l.more ≡ and_known (known_in nested l.initial.more) (known_here l.face (map (λ entry. entry.1) (take l.meaning-index l.symbols)));
}
