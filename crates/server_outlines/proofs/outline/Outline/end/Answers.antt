use Rattle.std.proofs.Common.{◌++◌, ◌∷◌, [], ap, ◌∙◌}
use Rattle.lsp_wire.specs.declared.types.Area.{Area}
use Rattle.server_outlines.specs.Passing.{nested}
use Rattle.server_outlines.proofs.Leading.{names-ended}
use Rattle.server_outlines.proofs.outline.Outline.end.Goals as goal

pub returns-clause-names : goal.returns-clause-names
returns-clause-names c =
    let b = c.in-Some.begun in
    let area : Area = record { start = b.dashes.start; end = c.position-end.result } in
    names-ended c.args.walk.now c.args.closing c.args.self.now.begun.items c.pop.new.self.items b area c.args.self.now.symbols c.in_ok-self.field-0 c.in-Some.ensures.items (ap (λ z. record { start = b.dashes.start; end = z }) c.position-end.ensures.position)
    (c.in_ok-self.ensures ∙ ap (λ z. b.before ++ nested b area z ∷ []) c.replace-inside.ensures.value)
