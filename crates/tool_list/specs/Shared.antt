-- Items that copies share.
use Rattle.std.specs.Prelude.{List, [], Option, Some, None}
use Rattle.std.specs.Arc.{arc_slice_items}
use Rattle.std.specs.declared.sync.ArcSlice.{ArcSlice}

-- the items that are shared, if there are any
abbrev pub shared_items : {T A : Type 0} → Option (ArcSlice T A) → List T
shared_items None = []
shared_items (Some items) = arc_slice_items items
