-- Units that are read one after another, and modules.
use Rattle.std.proofs.Common.{◌≡◌, ℕ, Bool, true, false, List, [], ◌∷◌, refl, sym, ap, ◌∙◌, length}
use Rattle.std.specs.Prelude.{◌&&◌, None, if◌then◌else◌, map, nat_eq}
use Rattle.std.specs.Borrow.{Bor}
use Rattle.std.proofs.lemmas.List.{length-map, length-reverse}
use Rattle.std.proofs.Math.Dec.{eqb-suc-zero}
use Rattle.tla_model.specs.Entities.{Text}
use Rattle.unit_grammar.specs.Units.{ModuleUnits, UnitTree}
use Rattle.module_scope.specs.Environments.{Environment, meaning}
use Rattle.module_model.specs.Modules.{Reading, text_of}
use Rattle.module_model.specs.Resolution.{words_of}
use Rattle.tree_kinds.specs.Standing.{Outside}
use Rattle.module_kinds.specs.Constancy.{extends_constant, is_constant_unit}
use Rattle.module_kinds.specs.ModuleKinds.{KindState, after, first, is_outermost, named, read_all}
use Rattle.module_constancy.specs.declared.place.Place.{Place}
use Rattle.module_constancy.specs.Places.{AreConstancies, AreConstant, IsAt, IsConstancyOf, Passes, constancies, constant_by, named_at, outermost_of, titles_of}
use Rattle.module_constancy.proofs.Constancies.{constancies-meaning, same-extends, same-unit, under-constant}

abbrev Round : Type 0
Round = List (List ℕ × Environment Outside)

-- ---- where no nested module is round a place

-- as many are round it in code
depth-is : (place : Place) (state : KindState) → IsAt place state → length state.read.place.round ≡ length place.round.items
depth-is place state at =
    at.depth ∙ sym (length-map state.modules.round (λ (nested : List ℕ × Environment Outside). nested.0)) ∙ ap length (sym at.titles)
    ∙ length-reverse (map (λ (name : Bor (List ℕ)). name.now) place.round.items) ∙ length-map place.round.items (λ (name : Bor (List ℕ)). name.now)

outermost-is : (readings : List Reading) → is_outermost readings ≡ nat_eq (length readings) 0
outermost-is [] = refl
outermost-is (outer ∷ readings) = sym (eqb-suc-zero (length readings))

none-round : (round : Round) → nat_eq (length round) 0 ≡ true → round ≡ []
none-round [] none = refl
none-round (nested ∷ round) none = absurd (let e : false ≡ true = sym (eqb-suc-zero (length round)) ∙ none in let impossible : ⊥ = cc in impossible)

module _ (constant : List ℕ → Bool) (text : Text) (files : List ℕ → Outside) (words : List ℕ) (are : AreConstancies constant files) (place : Place) (state : KindState) (at : IsAt place state) where
  -- which modules are constant is known there
  same-named : state.modules.round ≡ [] → (name : List ℕ) → (named text files words state name).is_constant ≡ (named_at constant place name).is_constant
  same-named none name =
      under-constant constant files are (meaning state.modules.here name) name
      ∙ ap (λ known. constant_by constant known name) (sym (constancies-meaning state.modules.here name))
      ∙ ap (λ modules. constant_by constant (meaning modules name) name) (sym (at.modules ∙ ap (λ round. constancies (outermost_of state.modules.here round)) none))

  outermost-same : (nat_eq (length place.round.items) 0 ≡ true) → state.modules.round ≡ []
  outermost-same none = none-round state.modules.round (ap (λ n. nat_eq n 0) (sym at.depth ∙ depth-is place state at) ∙ none)

  -- behind a unit
  constant-behind : (unit : UnitTree) → state.is_constant ≡ true
      → (after text files words state unit).is_constant ≡ (if nat_eq (length place.round.items) 0 then is_constant_unit text.source (named_at constant place) unit else true)
  constant-behind unit so_far =
      ap (λ b. if b then state.is_constant && is_constant_unit text.source (named text files words state) unit else state.is_constant)
      (outermost-is state.read.place.round ∙ ap (λ n. nat_eq n 0) (depth-is place state at))
      ∙ by (nat_eq (length place.round.items) 0) refl
    where
      by : (b : Bool) → nat_eq (length place.round.items) 0 ≡ b → (if b then state.is_constant && is_constant_unit text.source (named text files words state) unit else state.is_constant)
          ≡ (if b then is_constant_unit text.source (named_at constant place) unit else true)
      by true none =
          ap (λ c. c && is_constant_unit text.source (named text files words state) unit) so_far
          ∙ same-unit text.source (named text files words state) (named_at constant place) (same-named (outermost-same none)) unit
      by false some = so_far

-- what went beyond constants stays so
false-stays : (text : Text) (files : List ℕ → Outside) (words : List ℕ) (units : List UnitTree) (state : KindState) → state.is_constant ≡ false → (read_all text files words state units).is_constant ≡ false
false-stays text files words [] state beyond = beyond
false-stays text files words (unit ∷ units) state beyond = false-stays text files words units (after text files words state unit) (by (is_outermost state.read.place.round))
  where
    by : (b : Bool) → (if b then state.is_constant && is_constant_unit text.source (named text files words state) unit else state.is_constant) ≡ false
    by true = ap (λ c. c && is_constant_unit text.source (named text files words state) unit) beyond
    by false = beyond

-- ---- units

-- wherever code stood before units, it stands at a state now behind which these are left
pub record IsReadTo (text : Text) (old now : Place) (all left : List UnitTree) (constant : List ℕ → Bool) : Type 0 where
  pub reads : (files : List ℕ → Outside) (words : List ℕ) → AreConstancies constant files → (state : KindState) → IsAt old state → state.is_constant ≡ true
      → (next : KindState) × IsAt now next × (next.is_constant ≡ true) × (read_all text files words next left ≡ read_all text files words state all)

pub read-start : (text : Text) (place : Place) (all : List UnitTree) (constant : List ℕ → Bool) → IsReadTo text place place all all constant
read-start text place all constant = record { reads = λ files words are state at so_far. (state, at, so_far, refl) }

module _ (constant : List ℕ → Bool) (text : Text) (old now : Place) (all : List UnitTree) (unit : UnitTree) (left : List UnitTree) (to : IsReadTo text old now all (unit ∷ left) constant) where
  pub read-on : (new : Place) (keeps : Bool) → keeps ≡ (if nat_eq (length now.round.items) 0 then is_constant_unit text.source (named_at constant now) unit else true) → keeps ≡ true → Passes text unit now new
      → IsReadTo text old new all left constant
  read-on new keeps is kept passes =
      record {
        reads = λ files words are state at so_far.
            let here = to.reads files words are state at so_far in (
              after text files words here.0 unit,
              passes files words here.0 here.1,
              constant-behind constant text files words are now here.0 here.1 unit here.2 ∙ sym is ∙ kept,
              here.3,
            );
      }

  pub read-beyond : (keeps : Bool) → keeps ≡ (if nat_eq (length now.round.items) 0 then is_constant_unit text.source (named_at constant now) unit else true) → keeps ≡ false → AreConstant constant text all old false
  read-beyond keeps is beyond files words are state at so_far =
      let here = to.reads files words are state at so_far in
      sym (ap (λ (s : KindState). s.is_constant) (sym here.3)
      ∙ false-stays text files words left (after text files words here.0 unit) (constant-behind constant text files words are now here.0 here.1 unit here.2 ∙ sym is ∙ beyond))

pub read-done : (constant : List ℕ → Bool) (text : Text) (old now : Place) (all : List UnitTree) → IsReadTo text old now all [] constant → AreConstant constant text all old true
read-done constant text old now all to files words are state at so_far =
    let here = to.reads files words are state at so_far in
    sym here.2 ∙ ap (λ (s : KindState). s.is_constant) here.3

-- ---- modules

module _ (constant : List ℕ → Bool) (text : Text) (source : List ℕ) (units : ModuleUnits) (is : text ≡ text_of source units) (place : Place) (modules : place.modules ≡ (text.file, None) ∷ []) (round : place.round.items ≡ []) where
  at-first : (files : List ℕ → Outside) → IsAt place (first files source units)
  at-first files =
      record {
        modules = modules ∙ ap (λ (t : Text). (t.file, None) ∷ []) is;
        titles = ap titles_of round;
        depth = refl;
      }

  first-constant : (files : List ℕ → Outside) → AreConstancies constant files → (answer : Bool) → answer ≡ extends_constant text.source (named_at constant place) units.extends → answer ≡ (first files source units).is_constant
  first-constant files are answer found =
      found
      ∙ sym (same-extends text.source (named text files (words_of units) (first files source units)) (named_at constant place)
      (same-named constant text files (words_of units) are place (first files source units) (at-first files) refl) units.extends)
      ∙ ap (λ (t : Text). extends_constant t.source (named t files (words_of units) (first files source units)) units.extends) is

  pub module-beyond : (answer : Bool) → answer ≡ extends_constant text.source (named_at constant place) units.extends → answer ≡ false → IsConstancyOf constant source units false
  module-beyond answer found beyond files are =
      sym (false-stays (text_of source units) files (words_of units) units.units (first files source units) (sym (first-constant files are answer found) ∙ beyond))

  pub module-read : (answer last_answer : Bool) → answer ≡ extends_constant text.source (named_at constant place) units.extends → answer ≡ true → AreConstant constant text units.units place last_answer
      → IsConstancyOf constant source units last_answer
  module-read answer last_answer found so_far read files are =
      read files (words_of units) are (first files source units) (at-first files) (sym (first-constant files are answer found) ∙ so_far)
      ∙ ap (λ (t : Text). (read_all t files (words_of units) (first files source units) units.units).is_constant) is
