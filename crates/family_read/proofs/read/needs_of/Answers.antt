use Rattle.std.proofs.Common.{◌∙◌, sym, subst}
use Rattle.std.specs.List.{AllByRecursion}
use Rattle.tla_model.specs.Lexemes.{LiesIn}
use Rattle.unit_grammar.specs.UnitNodes.{module_of}
use Rattle.family_tables.proofs.LexemesInText.{imports-lie}
use Rattle.family_read.proofs.read.needs_of.Goals as goal

pub named_modules-requires-clause-placed : goal.named_modules-requires-clause-placed
named_modules-requires-clause-placed c = c.lexemes_lie_names.ensures c.args.tree.now.source (module_of c.args.tree.now) c.requires.lie

pub spellings-requires : goal.spellings-requires
spellings-requires c =
    let source = c.args.tree.now.source in
    subst (λ text. AllByRecursion (LiesIn text) c.as_slice.result.now) (sym c.as_str.ensures)
    (subst (λ lexemes. AllByRecursion (LiesIn source) lexemes) (sym (c.as_slice.ensures ∙ c.in_ok-named.ensures.needed)) (imports-lie source (module_of c.args.tree.now) (c.imports_are_lexemes.ensures source (module_of c.args.tree.now)) c.requires.lie))
