-- The names of a module whose units are passed one after another.
use Rattle.std.proofs.Common.{◌≡◌, ℕ, ◌≤◌, length, map, drop, List, [], ◌∷◌, ◌++◌, Option, Some, None, append_assoc, refl, sym, ap, ◌∙◌, subst, reverse}
use Rattle.std.proofs.lemmas.List.{append-nil, at_drop_all, reverse-append}
use Rattle.tla_symbols.specs.declared.lexeme.Lexeme.{Lexeme}
use Rattle.lsp_wire.specs.declared.types.Area.{Area}
use Rattle.lsp_wire.specs.declared.types.Symbol.{Symbol}
use Rattle.tla_model.specs.Lexemes.{spelled}
use Rattle.tla_tree.specs.Arena.{Node}
use Rattle.tla_tree.specs.declared.unit.Unit.TheVariants as unit
use Rattle.unit_grammar.specs.UnitNodes.{unit_at}
use Rattle.server_notes.specs.Areas.{area_at, position_at}
use Rattle.server_outlines.specs.declared.outline.Begun.{Begun}
use Rattle.server_outlines.specs.Outlines.{Level, before_unit, begun, closed_by, levels_of, outermost, unit_symbols, with_symbols}
use Rattle.server_outlines.specs.Passing.{begun_before, module_area, names_at_end, names_round, nested}

-- ---- one step

with-more : (found more : List Symbol) (levels : List Level) → with_symbols (found ++ more) levels ≡ with_symbols found (with_symbols more levels)
with-more found more [] = refl
with-more found more (level ∷ round) = ap (λ z. record { closing = level.closing; symbols = z } ∷ round) (append_assoc found more level.symbols)

-- names in the innermost module
pub names-more : (text : List ℕ) (round : List Begun) (old more new : List Symbol) → new ≡ old ++ more → (levels : List Level) → names_round text round new levels ≡ names_round text round old (with_symbols more levels)
names-more text [] old more new is levels = ap (λ z. outermost (with_symbols z levels)) is ∙ ap outermost (with-more old more levels)
names-more text (b ∷ round) old more new is levels =
    ap (λ z. names_round text round b.before (begun_before text b (with_symbols z levels))) is
    ∙ ap (λ z. names_round text round b.before (begun_before text b z)) (with-more old more levels)

-- a unit that begins and ends no nested module
pub other-unit : (text : List ℕ) (nodes : List Node) (u : unit.the_data) → ((dashes name : Lexeme) (extends : List Lexeme) → u ≡ unit.ModuleBegin dashes name extends → ⊥) → ((closing : Lexeme) → u ≡ unit.ModuleEnd closing → ⊥) →
    (levels : List Level) → before_unit text (unit_at nodes u) levels ≡ with_symbols (unit_symbols text (unit_at nodes u)) levels
other-unit text nodes (unit.ModuleBegin dashes name extends) no_begin no_end levels = absurd (no_begin dashes name extends refl)
other-unit text nodes (unit.ModuleEnd closing) no_begin no_end levels = absurd (no_end closing refl)
other-unit text nodes _ no_begin no_end levels = refl

-- a nested module ends
pub names-ended : (text : List ℕ) (closing : Lexeme) (old new : List Begun) (b : Begun) (area : Area) (found more : List Symbol) → old ≡ new ++ b ∷ [] → area ≡ module_area text b.dashes (Some closing) → more ≡ b.before ++ nested b area found ∷ [] →
    (levels : List Level) → names_round text (reverse new) more levels ≡ names_round text (reverse old) found (closed_by (Some closing) ∷ levels)
names-ended text closing old new b area found more is over e levels =
    names-more text (reverse new) b.before (nested b area found ∷ []) more e levels
    ∙ ap (λ z. names_round text (reverse new) b.before (with_symbols (nested b z found ∷ []) levels)) over
    ∙ ap (λ z. names_round text (reverse new) b.before (with_symbols (nested b (module_area text b.dashes (Some closing)) z ∷ []) levels)) (sym (append-nil found))
    ∙ ap (λ z. names_round text z found (closed_by (Some closing) ∷ levels)) (sym (ap reverse is ∙ reverse-append new (b ∷ [])))

-- ---- behind the units

-- of no level
names-none : (text : List ℕ) (round : List Begun) (found : List Symbol) → names_round text round found [] ≡ []
names-none text [] found = refl
names-none text (b ∷ round) found = names-none text round b.before

names-open : (text : List ℕ) (round more : List Begun) (b : Begun) (found : List Symbol) → round ≡ more ++ b ∷ [] → names_round text round found (closed_by None ∷ []) ≡ []
names-open text round [] b found is = ap (λ z. names_round text z found (closed_by None ∷ [])) is
names-open text round (c ∷ more) b found is = ap (λ z. names_round text z found (closed_by None ∷ [])) is ∙ names-none text (more ++ b ∷ []) c.before

pub names-end : (text : List ℕ) (round : List Begun) (found : List Symbol) → names_round text (reverse round) found (closed_by None ∷ []) ≡ names_at_end round found
names-end text [] found = append-nil found
names-end text (b ∷ round) found = names-open text (reverse (b ∷ round)) (reverse round) b found (reverse-append (b ∷ []) round)

-- behind the last unit
pub names-finished : (text : List ℕ) (nodes : List Node) (units : List unit.the_data) (i : ℕ) (round : List Begun) (found result all : List Symbol) → length units ≤ i → result ≡ names_at_end round found →
    names_round text (reverse round) found (levels_of text (map (unit_at nodes) (drop i units))) ≡ all → result ≡ all
names-finished text nodes units i round found result all le is before =
    is ∙ sym (names-end text round found) ∙ sym (at_drop_all (λ z. names_round text (reverse round) found (levels_of text (map (unit_at nodes) z))) units i le) ∙ before
