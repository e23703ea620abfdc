-- Places behind units.
use Rattle.std.proofs.Common.{◌≡◌, ℕ, Bool, false, List, [], ◌∷◌, refl, sym, ap, ◌∙◌, length, drop, arith}
use Rattle.std.specs.Prelude.{map}
use Rattle.tla_symbols.specs.declared.lexeme.Lexeme.{Lexeme}
use Rattle.tla_model.specs.Entities.{Text}
use Rattle.unit_grammar.specs.Units.{ModuleEnd}
use Rattle.module_scope.specs.Environments.{Environment, behind, ended}
use Rattle.module_model.specs.Modules.{Reading, left}
use Rattle.module_model.specs.Exports.{Known}
use Rattle.tree_kinds.specs.Standing.{Outside}
use Rattle.module_kinds.specs.ModuleKinds.{KindState, nested_outside}
use Rattle.module_constancy.specs.declared.place.Place.{Place}
use Rattle.module_constancy.specs.Places.{Passes, constancies, leaving, outermost_of, titles_of}
use Rattle.module_constancy.proofs.Constancies.{constancies-behind}

abbrev Round : Type 0
Round = List (List ℕ × Environment Outside)

-- a nested module is left
module _ (known : Outside) (constant : known.is_constant ≡ false) where
  left-modules : (here : Environment Outside) (round : Round) (modules : Environment Bool) (titles : List (List ℕ)) → modules ≡ constancies (outermost_of here round) → titles ≡ map (λ (nested : List ℕ × Environment Outside). nested.0) round
      → leaving titles modules ≡ constancies (outermost_of (ended known here round).here (ended known here round).round)
  left-modules here [] modules titles at same = rw same at
  left-modules here (nested ∷ []) modules titles at same =
      rw same (rw at (sym (constancies-behind nested.1 nested.0 known ∙ ap (λ b. behind (constancies nested.1) nested.0 b) constant)))
  left-modules here (nested ∷ (next ∷ round)) modules titles at same = rw same at

left-titles : (known : Outside) (here : Environment Outside) (round : Round) → drop 1 (map (λ (nested : List ℕ × Environment Outside). nested.0) round) ≡ map (λ (nested : List ℕ × Environment Outside). nested.0) (ended known here round).round
left-titles known here [] = refl
left-titles known here (nested ∷ round) = refl

-- what is known of the module that is left, by the modules round it
left-constancies : (state : KindState) (readings : List Reading) (here : Environment Outside) (round : Round) (modules : Environment Bool) (titles : List (List ℕ)) → length readings ≡ length round
    → modules ≡ constancies (outermost_of here round) → titles ≡ map (λ (nested : List ℕ × Environment Outside). nested.0) round
    → leaving titles modules ≡ constancies (outermost_of (ended (nested_outside state readings) here round).here (ended (nested_outside state readings) here round).round)
left-constancies state [] here [] modules titles depth at same = rw same at
left-constancies state [] here (nested ∷ round) modules titles depth at same = absurd (let impossible : ⊥ = omega (arith, depth) in impossible)
left-constancies state (outer ∷ readings) here round modules titles depth at same = left-modules (nested_outside state (outer ∷ readings)) refl here round modules titles at same

left-depth : (known : Known) (inner : Reading) (outside : Outside) (readings : List Reading) (here : Environment Outside) (round : Round) → length readings ≡ length round → length (left known inner readings).round ≡ length (ended outside here round).round
left-depth known inner outside [] here [] depth = refl
left-depth known inner outside [] here (nested ∷ round) depth = absurd (let impossible : ⊥ = omega (arith, depth) in impossible)
left-depth known inner outside (outer ∷ readings) here [] depth = absurd (let impossible : ⊥ = omega (arith, depth) in impossible)
left-depth known inner outside (outer ∷ readings) here (nested ∷ round) depth = omega (arith, depth)

pub ended-passes : (text : Text) (closing : Lexeme) (old new : Place) → new.modules ≡ leaving (titles_of old.round.items) old.modules → titles_of new.round.items ≡ drop 1 (titles_of old.round.items)
    → Passes text (ModuleEnd closing) old new
ended-passes text closing old new modules titles files words state at =
    let known = nested_outside state state.read.place.round in
    record {
      modules = modules ∙ left-constancies state state.read.place.round state.modules.here state.modules.round old.modules (titles_of old.round.items) at.depth at.modules at.titles;
      titles = titles ∙ ap (drop 1) at.titles ∙ left-titles known state.modules.here state.modules.round;
      depth = left-depth state.read.known state.read.place.here known state.read.place.round state.modules.here state.modules.round at.depth;
    }
