use Rattle.tla_tree.specs.declared.form.Form.{Form}
use Rattle.expr_grammar.specs.declared.wait.Wait.{Wait}
use Rattle.expr_grammar.specs.declared.wait.Shape.{Shape}
use Rattle.expr_grammar.specs.Tables.{after_part}
use Rattle.expr_kinds.proofs.Rows.{row, tested, closed, bounded}
use Rattle.expr_parts.proofs.parts.after_helper.Goals as goal

pub returns-in-ExceptUpdates : goal.returns-in-ExceptUpdates
returns-in-ExceptUpdates c = row (λ w. after_part w Shape.Helper c.args.lexeme) c.in-ExceptUpdates.is (closed c.args.lexeme.kind Wait.ExceptUpdates Form.Except c.parted.ensures c.is_right_bracket.ensures)

pub returns-in-DefinitionParameters : goal.returns-in-DefinitionParameters
returns-in-DefinitionParameters c = row (λ w. after_part w Shape.Helper c.args.lexeme) c.in-DefinitionParameters.is (bounded c.args.lexeme.kind (Wait.DefinitionParameters c.in-DefinitionParameters.name) c.after_bound.ensures c.is_right_paren.ensures c.keeps-in-DefinitionParameters.ensures)

pub returns-in-Replacements : goal.returns-in-Replacements
returns-in-Replacements c = row (λ w. after_part w Shape.Helper c.args.lexeme) c.in-Replacements.is (tested _ c.if_goes-in-Replacements.ensures c.is_comma.ensures c.keeps-in-Replacements.ensures)
