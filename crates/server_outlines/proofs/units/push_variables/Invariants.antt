use Rattle.std.proofs.Common.{◌≡◌, ◌++◌, map, take}
use Rattle.server_outlines.specs.Outlines.{symbol, variable_kind}
use Rattle.server_outlines.proofs.units.push_variables.Given as goal

abbrev pub invariant-loop-name : goal.invariant-loop-name
invariant-loop-name l = record {
  symbols : l.symbols ≡ l.initial.symbols ++ map (λ name. symbol l.initial.walk variable_kind name.span name) (take l.name-index l.names);
  text : l.walk ≡ l.initial.walk;
}
