use Rattle.std.proofs.Common.{arith}
use Rattle.lexeme_laws.specs.Apart.{begins_at}
use Rattle.accepted_modules.proofs.Reading.{front-known, module-accepted, unit-readable}
use Rattle.accepted_modules.proofs.Views.{named-same}
use Rattle.accepted_modules.proofs.faultless_units_are_read.Goals as goal

pub returns : goal.returns
returns c = λ name bytes units files outsides faces nameable before unit behind front names arities steady beside foreign views split trees read.
    unit-readable bytes units files outsides faces before unit views
    (c.accepted_units_are_read.ensures name bytes units files _ faces before unit behind front (module-accepted files bytes units names arities steady beside) split (named-same outsides files bytes units views before)
    (front-known name bytes units files _ faces _ _ nameable before unit behind front
    (λ start. omega (arith, c.lexemes_are_held_once.ensures.declared (begins_at start) units, c.names_begin_apart.ensures.held name bytes units front start)) foreign split (named-same outsides files bytes units views before) trees read))
