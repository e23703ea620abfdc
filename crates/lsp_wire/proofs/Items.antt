-- A walk over the items of an array.
use Rattle.std.proofs.Common.{◌≡◌, ℕ, List, ◌++◌, drop, Option, Some, None}
use Rattle.serde_json.specs.Data.{Data}
use Rattle.serde_json.specs.View.{items_view}
use Rattle.serde_json.specs.declared.value.Value.{Value}
use Rattle.lsp_wire.specs.Params.{all_of}

-- a list that goes on, if there is one
abbrev pub onto : {A : Type 0} → List A → Option (List A) → Option (List A)
onto front None = None
onto front (Some more) = Some (front ++ more)

-- what was found, and what the items behind it say, make what all say
abbrev pub GoesOn : {A : Type 0} (one : Data → Option A) (items : List Value) (at : ℕ) (found : List A) → Type 0
GoesOn one items at found = onto found (all_of one (items_view (drop at items))) ≡ all_of one (items_view items)
