use Rattle.std.proofs.Common.{arith}
use Rattle.lexeme_laws.specs.Apart.{begins_at}
use Rattle.accepted_modules.proofs.Reading.{front-known}
use Rattle.accepted_modules.proofs.named_instances_are_known.Goals as goal

pub returns : goal.returns
returns c = λ name bytes units files outsides faces means implied nameable before unit behind front foreign split same names read.
    front-known name bytes units files outsides faces means implied nameable before unit behind front
    (λ start. omega (arith, c.lexemes_are_held_once.ensures.declared (begins_at start) units, c.names_begin_apart.ensures.held name bytes units front start)) foreign split same names read
