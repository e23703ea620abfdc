use Rattle.std.proofs.Common.{◌≡◌, Some, take}
use Rattle.std.specs.Prelude.{slice_get}
use Rattle.fact_values.specs.Values.{all_given, value}
use Rattle.fact_store.specs.Given.{states}
use Rattle.fact_store.specs.Slots.{texts_of}
use Rattle.fact_store.proofs.fresh.given_of.Given as goal

-- what the names so far give
abbrev pub invariant-loop-name : goal.invariant-loop-name
invariant-loop-name g l =
    let texts = texts_of l.slots in
    (slot : _) → slice_get l.slots l.index ≡ Some slot → states l.given ≡ all_given g.D.Derive.own_of g.D.Derive.needs_of g.D.Derive.fact_of texts (value g.D.Derive.own_of g.D.Derive.needs_of g.D.Derive.fact_of texts) slot.name (take l.name-index l.name-items)
