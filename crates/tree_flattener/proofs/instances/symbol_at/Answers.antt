use Rattle.std.proofs.Common.{refl, sym, length}
use Rattle.std.proofs.lemmas.Option.{slice_get_past, slice_get_read}
use Rattle.tree_flattener.proofs.instances.symbol_at.Goals as goal

pub returns-in-Some : goal.returns-in-Some
returns-in-Some c = sym (slice_get_read c.args.symbols.now (length c.args.symbols.now) c.args.next c.in-Some.symbol.now refl c.in-Some.ensures.lookup.3.0 c.in-Some.ensures.lookup.1)

pub returns-in-None : goal.returns-in-None
returns-in-None c = sym (slice_get_past c.args.symbols.now c.args.next c.in-None.ensures.lookup.3)
