-- What the changes of a document make of its text, in their order.
use Rattle.std.specs.Prelude.{ℕ, ◌≡◌, ◌+◌, ◌^◌, ◌==◌, ◌&&◌, ◌||◌, nat_lt, Bool, false, if◌then◌else◌, List, [], ◌∷◌, length, Option, Some, None}
use Rattle.tla_text.specs.Places.{offset_of_unit, spliced}
use Rattle.lsp_wire.specs.declared.types.Position.{Position}
use Rattle.lsp_wire.specs.declared.types.Area.{Area}
use Rattle.lsp_wire.specs.declared.types.Change.{Change}
use Rattle.doc_edit.specs.declared.EditError.{EditError}
use Rattle.doc_edit.specs.declared.EditError.TheVariants.{BackwardRange, TooLarge, Memory}

-- the most bytes that a text may have after a change
abbrev pub most_bytes : ℕ
most_bytes = 2 ^ 25

-- the offset of a position: units beyond its line's end, and lines beyond the last, mean that end
abbrev pub offset_of : List ℕ → Position → ℕ
offset_of text at = offset_of_unit text at.line at.unit

-- where what is replaced starts: at the text's start where no area is given
abbrev pub start_of : List ℕ → Option Area → ℕ
start_of text None = 0
start_of text (Some area) = offset_of text area.start

-- where what is replaced ends: at the text's end where no area is given
abbrev pub end_of : List ℕ → Option Area → ℕ
end_of text None = length text
end_of text (Some area) = offset_of text area.end

-- a text after one change: the change's text stands in place of what is replaced
abbrev pub after_change : List ℕ → Change → List ℕ
after_change text c = spliced text (start_of text c.area) (end_of text c.area) c.text

-- a text after all changes, each of the text that those before it left
abbrev pub after_changes : List ℕ → List Change → List ℕ
after_changes text [] = text
after_changes text (c ∷ cs) = after_changes (after_change text c) cs

-- a position is after another by its numbers: in a later line, or further on in the same
abbrev pub is_after : Position → Position → Bool
is_after a b = nat_lt b.line a.line || (a.line == b.line && nat_lt b.unit a.unit)

-- an area starts after its end
abbrev pub is_backward : Option Area → Bool
is_backward None = false
is_backward (Some area) = is_after area.start area.end

-- the first change whose area is backward, where they are counted from a number
abbrev pub backward_from : ℕ → List Change → Option ℕ
backward_from index [] = None
backward_from index (c ∷ cs) = if is_backward c.area then Some index else backward_from (index + 1) cs

-- the first change whose area is backward
abbrev pub first_backward : List Change → Option ℕ
first_backward changes = backward_from 0 changes

-- the length of the text after the first change that makes it too long
abbrev pub first_excess : List ℕ → List Change → Option ℕ
first_excess text [] = None
first_excess text (c ∷ cs) =
    if nat_lt most_bytes (length (after_change text c)) then Some (length (after_change text c)) else first_excess (after_change text c) cs

-- what a refusal says, by the first backward area and the first length that is too long
abbrev pub IsRefused : Option ℕ → Option ℕ → EditError → Type 0
IsRefused backward excess (BackwardRange index) = backward ≡ Some index
IsRefused backward excess (TooLarge bytes) = (backward ≡ None) × (excess ≡ Some bytes)
IsRefused backward excess Memory = Unit {0}
