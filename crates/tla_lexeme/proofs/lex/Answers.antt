use Rattle.std.proofs.Common.{sym, ap, ◌∙◌}
use Rattle.tla_lexeme.specs.ModulePart.{header_of}
use Rattle.tla_lexeme.proofs.HeaderLemmas.{header_cut}
use Rattle.tla_lexeme.proofs.lex.Goals as goal

pub part_from-requires-clause-at_char : goal.part_from-requires-clause-at_char
part_from-requires-clause-at_char c = header_cut c.args.text.now c.in-Some.at (ap header_of (sym c.bytes.ensures.value) ∙ sym c.in-Some.ensures.value)
