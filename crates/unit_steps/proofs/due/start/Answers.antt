use Rattle.std.proofs.Common.{[], ◌∷◌, refl}
use Rattle.tla_tree.specs.Syntax.{Nil}
use Rattle.unit_machine.specs.declared.wait.Wait.TheVariants as Wait
use Rattle.unit_machine.specs.Machine as Machine
use Rattle.unit_steps.proofs.Reaching.{no-parts}
use Rattle.unit_steps.proofs.due.start.Goals as goal

pub returns-in-Definition-clause-moves : goal.returns-in-Definition-clause-moves
returns-in-Definition-clause-moves c nodes d us i = rw c.in-Definition.is (c.begin_part.ensures.moves nodes d us (Machine.OfDefinition c.args.local) (Machine.frame c.in-Definition.wait Nil (c.args.lexeme ∷ [])) i refl (c.new-in-Definition.ensures nodes (c.args.lexeme ∷ []) refl))

pub returns-in-Instance-clause-moves : goal.returns-in-Instance-clause-moves
returns-in-Instance-clause-moves c nodes d us i = rw c.in-Instance.is (c.begin_part-in-Instance.ensures.moves nodes d us (Machine.OfInstance c.args.local) (Machine.frame Wait.InstanceName Nil (c.args.lexeme ∷ [])) i refl (c.new-in-Instance.ensures nodes (c.args.lexeme ∷ []) refl))

pub returns-in-Constants-clause-moves : goal.returns-in-Constants-clause-moves
returns-in-Constants-clause-moves c nodes d us i = rw c.in-Constants.is (c.begin_part-in-Constants.ensures.moves nodes d us (Machine.OfConstants Nil) (Machine.frame Wait.Declaration Nil []) i (no-parts nodes _ c.new-in-Constants.ensures) (c.new-in-Constants-2.ensures nodes [] refl))

pub returns-in-Ends-clause-moves : goal.returns-in-Ends-clause-moves
returns-in-Ends-clause-moves c = rw c.in-Ends.is c.end_module.ensures.moves
