use Rattle.std.proofs.Common.{◌≡◌, ◌+◌, false, drop, take}
use Rattle.std.specs.List.{prefix_len}
use Rattle.tla_lexeme.specs.declared.class.Class.TheVariants.{WordChar}
use Rattle.tla_lexeme.specs.LexemeSets.{is_in}
use Rattle.tla_lexeme.specs.Lengths.{has_letter}
use Rattle.tla_lexeme.proofs.word.bare_len.Given as goal

abbrev pub invariant-loop-i : goal.invariant-loop-i
invariant-loop-i l =
    (l.i + prefix_len (is_in WordChar) (drop l.i l.text) ≡ prefix_len (is_in WordChar) l.text) × (has_letter (take l.i l.text) ≡ false)
