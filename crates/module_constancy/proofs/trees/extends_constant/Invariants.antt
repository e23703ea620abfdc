use Rattle.std.proofs.Common.{◌≡◌, drop}
use Rattle.module_kinds.specs.Constancy as constancy
use Rattle.module_constancy.specs.Places.{named_at}
use Rattle.module_constancy.proofs.trees.extends_constant.Given as goal

abbrev pub invariant-loop-name : goal.invariant-loop-name
invariant-loop-name g l =
    let named = named_at (g.F.Files.constant l.files) l.place in
    constancy.extends_constant l.text.source named (drop l.name-index l.names) ≡ constancy.extends_constant l.text.source named l.names
