use Rattle.std.proofs.Common.{◌∙◌, ap, sym}
use Rattle.std.specs.List.{list_any}
use Rattle.std.specs.Str.{bytes_eq}
use Rattle.module_scope.proofs.Keeping.{any-names, round-kept}
use Rattle.module_scope.proofs.nesting.Nesting.is_round.Goals as goal

pub returns : goal.returns
returns g c = λ scope at.
    c.contains.ensures ∙ sym (any-names c.args.name.now c.args.self.now.names.keys) ∙ ap (list_any (bytes_eq c.args.name.now)) at.names ∙ round-kept c.args.name.now scope.round
