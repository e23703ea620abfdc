use Rattle.std.proofs.Common.{◌∙◌, ◌++◌}
use Rattle.module_model.specs.Bindings.{decls}
use Rattle.unit_grammar.specs.UnitNodes.{module_of}
use Rattle.sorted_findings.proofs.Sorting.{bound-by}
use Rattle.symbol_scope.proofs.resolution.bind.Goals as goal

pub returns-clause-bound : goal.returns-clause-bound
returns-clause-bound c =
    let new = c.bind_text.new.bound in
    bound-by _ c.args.tree.now.source (module_of c.args.tree.now) new c.push_declarations.new.decls c.in_ok-means.ensures.sorted
    (c.in_ok-push_declarations.ensures ∙ (λ i. new.decls ++ decls (c.requires.text i) (c.requires.names i)))
