use Rattle.std.proofs.Common.{[], ◌∷◌, refl, sym, ap, ◌∙◌}
use Rattle.std.proofs.lemmas.Result.{IfOk-weaker}
use Rattle.tla_tree.specs.Syntax.{Nil}
use Rattle.unit_machine.specs.declared.wait.Wait.TheVariants as Wait
use Rattle.unit_machine.specs.Machine as Machine
use Rattle.unit_grammar.specs.Units.{Constants}
use Rattle.unit_steps.proofs.due.after_declared.Goals as goal

pub returns-then-is_comma-clause-moves : goal.returns-then-is_comma-clause-moves
returns-then-is_comma-clause-moves c nodes d us xs i p = rw (sym c.is_comma.ensures ∙ c.if-is_comma.true) (c.begin_part.ensures.moves nodes d us (Machine.OfConstants xs) (Machine.frame Wait.Declaration Nil []) i p (c.new-frame.ensures nodes [] refl))

pub returns-clause-moves : goal.returns-clause-moves
returns-clause-moves c =
    IfOk-weaker c.after_unit.result _ _
    (λ moved h nodes d us xs i p. rw (sym c.is_comma.ensures ∙ c.if-is_comma.false) (h nodes d us (Constants xs) i (record { there = (p.there, tt); are = ap (λ z. Constants z ∷ []) p.are })))
    c.after_unit.ensures.moves
