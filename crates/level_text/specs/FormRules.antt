-- Which rule of levels the forms of expressions have.
use Rattle.std.specs.Prelude.{Option, Some, None}
use Rattle.tla_symbols.specs.declared.lexeme.LexKind.{LexKind}
use Rattle.tla_symbols.specs.declared.level.Rule.{Rule}
use Rattle.tla_symbols.specs.declared.level.Rule.TheVariants.{Plain, Boolean, Leads, Square, Angle, Fair}
use Rattle.tla_symbols.specs.declared.place.Fix.{Fix}
use Rattle.tla_symbols.specs.declared.place.Fix.TheVariants.{Prefix, Infix, Postfix}
use Rattle.tla_symbols.specs.Symbols.{rule_of}
use Rattle.tla_tree.specs.declared.form.Form.TheVariants as Form
use Rattle.kind_text.specs.ExpandedKind.{Operands, Nil, Cons}

-- the rule of a symbol that is built in at a place
abbrev pub symbol_rule : Fix → LexKind → Option Rule
symbol_rule fix (LexKind.Sym op) = rule_of op fix
symbol_rule fix kind = None

-- the rule of a form over all the expressions that it is made of, in their order; one of `\A` or `\E` over sets judges these
-- by themselves, and a function that is defined is a form like one that is written
abbrev pub form_rule : Form.the_data → Option Rule
form_rule (Form.Prefix l) = symbol_rule Prefix l.kind
form_rule (Form.Infix l) = symbol_rule Infix l.kind
form_rule (Form.Postfix l) = symbol_rule Postfix l.kind
form_rule Form.Product = Some Plain
form_rule (Form.Quantifier l) = Some Boolean
form_rule (Form.TemporalQuantifier l) = Some Leads
form_rule Form.Choose = Some Plain
form_rule Form.BoundedChoose = Some Plain
form_rule Form.SetEnumeration = Some Plain
form_rule Form.SetFilter = Some Plain
form_rule Form.SetImage = Some Plain
form_rule Form.Application = Some Plain
form_rule Form.FunctionConstructor = Some Plain
form_rule Form.FunctionSet = Some Plain
form_rule Form.Record = Some Plain
form_rule Form.RecordSet = Some Plain
form_rule (Form.FieldAccess l) = Some Plain
form_rule Form.Except = Some Plain
form_rule Form.Tuple = Some Plain
form_rule Form.SquareAction = Some Square
form_rule Form.AngleAction = Some Angle
form_rule (Form.Fairness l) = Some Fair
form_rule Form.IfThenElse = Some Boolean
form_rule Form.Case = Some Boolean
form_rule (Form.JunctionList l) = Some Boolean
form_rule (Form.FunctionDefinition l) = Some Plain
form_rule form = None

-- the operands in the order of the rule: `WF_` and `SF_` are written with the subscript first
abbrev pub rule_operands : Form.the_data → Operands → Operands
rule_operands (Form.Fairness l) (Cons subscript (Cons action Nil)) = Cons action (Cons subscript Nil)
rule_operands form operands = operands
