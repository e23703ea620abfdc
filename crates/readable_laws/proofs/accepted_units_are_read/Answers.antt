use Rattle.readable_laws.proofs.Units.{front-derives, unit-reads}
use Rattle.readable_laws.proofs.accepted_units_are_read.Goals as goal

pub returns : goal.returns
returns c = λ name bytes units files named faces before unit behind front is split same all.
    let derives = front-derives name bytes units front in
    unit-reads files bytes units named faces derives.0 before unit behind derives.1 (c.names_begin_apart.ensures.held name bytes units front) is split same all
