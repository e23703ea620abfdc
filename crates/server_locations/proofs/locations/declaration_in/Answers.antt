use Rattle.std.proofs.Common.{sym, ap, ◌∙◌}
use Rattle.server_locations.specs.Locations.{declared_in}
use Rattle.server_locations.proofs.Placing.{declared-stands}
use Rattle.server_locations.proofs.locations.declaration_in.Goals as goal

pub location_in-requires-clause-stands : goal.location_in-requires-clause-stands
location_in-requires-clause-stands c =
    declared-stands c.args.module.now.bytes c.args.module.now.decls c.args.decl.now c.in-Some.span c.requires.decls
    (sym (c.in-Some.ensures ∙ ap (λ decls. declared_in decls c.args.decl.now) c.decls.ensures))
