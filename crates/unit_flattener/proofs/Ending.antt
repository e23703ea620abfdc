-- Own symbols at the ends of nested modules, read unit by unit.
use Rattle.std.proofs.Common.{◌≡◌, ℕ, ◌+◌, ◌<◌, List, [], ◌∷◌, ◌++◌, get_or, length, map, reverse, take, refl, sym, ap, subst, ◌∙◌}
use Rattle.std.specs.Prelude.{⊤, true, false, nat_eq}
use Rattle.std.proofs.lemmas.List.{append-nil, map-append, reverse-reverse, take_more}
use Rattle.tla_symbols.specs.declared.lexeme.LexKind.TheVariants as LexKind
use Rattle.tla_symbols.specs.declared.lexeme.Lexeme.{Lexeme}
use Rattle.tla_tree.specs.Arena.{Node}
use Rattle.tla_tree.specs.declared.unit.Unit.TheVariants as code
use Rattle.unit_grammar.specs.UnitNodes.{unit_at}
use Rattle.unit_grammar.specs.Units.{UnitTree, Variables, Constants, OperatorDefinition, FunctionDefinition, ModuleDefinition, Instance, Assumption, Theorem, Line, ModuleBegin, ModuleEnd}
use Rattle.tla_model.specs.Contexts.{Context}
use Rattle.tla_model.specs.Entities.{Meaning, Text}
use Rattle.name_exports.specs.Brought.{ModuleNames}
use Rattle.module_model.specs.Exports.{Exports, ModuleView}
use Rattle.module_model.specs.Modules.{Reading, left}
use Rattle.module_model.specs.Resolution.{ReadState, after, read_all}
use Rattle.model_laws.proofs.Settling.{settled-after}
use Rattle.flattened_units.specs.Units.{meanings_of}
use Rattle.brought_entries.specs.Entries.{AreOwn}
use Rattle.unit_scope.specs.EnclosingReadings.{AreRound, IsAt, IsSomewhere}
use Rattle.unit_scope.specs.Readings.{Over, files_over}
use Rattle.unit_scope.specs.Steps.{Leads, behind_unit, behind_units}
use Rattle.unit_scope.specs.declared.reader.Outer.{Outer}
use Rattle.unit_scope.specs.declared.reader.ModuleReader.{ModuleReader}
use Rattle.own_symbols.specs.Ahead.{own_at}
use Rattle.unit_flattener.specs.Ahead.{AppendsEnds, ends_ahead}

-- ---- units, one after another

module _ (text : Text) (files : List ℕ → ModuleView) (words : List ℕ) where
  -- behind units and more
  pub read-both : (state : ReadState) (units more : List UnitTree) → read_all text files words state (units ++ more) ≡ read_all text files words (read_all text files words state units) more
  read-both state [] more = refl
  read-both state (unit ∷ units) more = read-both (after text files words state unit) units more

  -- the ends in units and in more
  pub ends-both : (state : ReadState) (units more : List UnitTree)
      → ends_ahead text files words state (units ++ more) ≡ ends_ahead text files words state units ++ ends_ahead text files words (read_all text files words state units) more
  ends-both state [] more = refl
  ends-both state (ModuleEnd closing ∷ units) more = ap (λ ends. own_at state state.place.round ∷ ends) (ends-both (after text files words state (ModuleEnd closing)) units more)
  ends-both state (ModuleBegin dashes name extends ∷ units) more = ends-both (after text files words state (ModuleBegin dashes name extends)) units more
  ends-both state (Variables names ∷ units) more = ends-both (after text files words state (Variables names)) units more
  ends-both state (Constants declarations ∷ units) more = ends-both (after text files words state (Constants declarations)) units more
  ends-both state (OperatorDefinition local x ∷ units) more = ends-both (after text files words state (OperatorDefinition local x)) units more
  ends-both state (FunctionDefinition local x ∷ units) more = ends-both (after text files words state (FunctionDefinition local x)) units more
  ends-both state (ModuleDefinition local x ∷ units) more = ends-both (after text files words state (ModuleDefinition local x)) units more
  ends-both state (Instance local x ∷ units) more = ends-both (after text files words state (Instance local x)) units more
  ends-both state (Assumption word name x ∷ units) more = ends-both (after text files words state (Assumption word name x)) units more
  ends-both state (Theorem word name x ∷ units) more = ends-both (after text files words state (Theorem word name x)) units more
  ends-both state (Line dashes ∷ units) more = ends-both (after text files words state (Line dashes)) units more

-- it ends no module
abbrev pub IsNoEnd : UnitTree → Type 0
IsNoEnd (ModuleEnd closing) = ⊥
IsNoEnd unit = ⊤

-- then there is no end in it
pub no-end : (text : Text) (files : List ℕ → ModuleView) (words : List ℕ) (state : ReadState) (unit : UnitTree) → IsNoEnd unit → ends_ahead text files words state (unit ∷ []) ≡ []
no-end text files words state (ModuleEnd closing) none = absurd none
no-end text files words state (ModuleBegin dashes name extends) none = refl
no-end text files words state (Variables names) none = refl
no-end text files words state (Constants declarations) none = refl
no-end text files words state (OperatorDefinition local x) none = refl
no-end text files words state (FunctionDefinition local x) none = refl
no-end text files words state (ModuleDefinition local x) none = refl
no-end text files words state (Instance local x) none = refl
no-end text files words state (Assumption word name x) none = refl
no-end text files words state (Theorem word name x) none = refl
no-end text files words state (Line dashes) none = refl

pub appends-none : (text : Text) (read : ModuleReader) (unit : UnitTree) (ends : List (List Meaning)) → IsNoEnd unit → AppendsEnds text read (unit ∷ []) ends ends
appends-none text read unit ends none = λ over state at. sym (ap (λ more. ends ++ more) (no-end text (files_over over) over.words state unit none) ∙ append-nil ends)

-- behind a unit code reads somewhere
pub unit-somewhere : (text : Text) (unit : UnitTree) (old new : ModuleReader) → Leads text (behind_unit text unit) old new → IsSomewhere text old → IsSomewhere text new
unit-somewhere text unit old new leads there =
    record {
      over = there.over;
      state = after text (files_over there.over) there.over.words there.state unit;
      at = leads there.over there.state there.at;
      settled = settled-after text (files_over there.over) there.over.words there.state unit there.settled;
    }

-- one unit more is taken
pub took-one : (nodes : List Node) (units : List code.the_data) (i : ℕ) (x : code.the_data) → i < length units → x ≡ get_or units i x
    → map (unit_at nodes) (take (i + 1) units) ≡ map (unit_at nodes) (take i units) ++ unit_at nodes x ∷ []
took-one nodes units i x there is = ap (map (unit_at nodes)) (take_more units i x there ∙ ap (λ y. take i units ++ y ∷ []) (sym is)) ∙ map-append (unit_at nodes) (take i units) (x ∷ [])

module _ (text : Text) (first old new : ModuleReader) (units : List UnitTree) (unit : UnitTree) (reads : Leads text (behind_units text units) first old) where
  -- code reads behind one unit more
  pub reads-more : Leads text (behind_unit text unit) old new → Leads text (behind_units text (units ++ unit ∷ [])) first new
  reads-more leads = λ over state at.
      subst (IsAt text over new) (sym (read-both text (files_over over) over.words state units (unit ∷ [])))
      (leads over (read_all text (files_over over) over.words state units) (reads over state at))

  -- and has appended what ends in it
  pub ends-more : (ends more : List (List Meaning)) → AppendsEnds text first units [] ends → AppendsEnds text old (unit ∷ []) ends more → AppendsEnds text first (units ++ unit ∷ []) [] more
  ends-more ends more are appends = λ over state at.
      let behind : ReadState = read_all text (files_over over) over.words state units in
      appends over behind (reads over state at)
      ∙ ap (λ front. front ++ ends_ahead text (files_over over) over.words behind (unit ∷ [])) (are over state at)
      ∙ sym (ends-both text (files_over over) over.words state units (unit ∷ []))

-- ---- an end

-- code has as many modules round a place as the definitions
round-nothing : (context : Context) (taken : ModuleNames) (round : List Reading) → AreRound context taken [] round → round ≡ []
round-nothing context taken [] are = refl
round-nothing context taken (reading ∷ round) are = absurd are

module _ (text : Text) (read : ModuleReader) (closing : Lexeme) where
  module _ (none : read.round.items ≡ []) where
    nothing : (over : Over) (state : ReadState) → IsAt text over read state → state.place.round ≡ []
    nothing over state at =
        round-nothing state.place.here.context state.place.here.modules state.place.round
        (subst (λ outers. AreRound state.place.here.context state.place.here.modules (reverse outers) state.place.round) none at.round)

    -- where no module is round the place, all stays
    pub end-stays : Leads text (behind_unit text (ModuleEnd closing)) read read
    end-stays = λ over state at.
        subst (λ round. IsAt text over read (record { place = left state.known state.place.here round; known = state.known })) (sym (nothing over state at))
        (subst (λ round. IsAt text over read (record { place = record { here = state.place.here; round = round }; known = state.known })) (nothing over state at) at)

    -- and there are no symbols of its own
    pub end-nothing : (ends : List (List Meaning)) → AppendsEnds text read (ModuleEnd closing ∷ []) ends (ends ++ [] ∷ [])
    end-nothing ends = λ over state at. ap (λ round. ends ++ own_at state round ∷ []) (sym (nothing over state at))

  -- else these are the symbols of the module that ends
  pub end-own : (parameters : Exports) (ends : List (List Meaning)) → (read.round.items ≡ [] → ⊥) → AreOwn text read parameters → AppendsEnds text read (ModuleEnd closing ∷ []) ends (ends ++ meanings_of parameters ∷ [])
  end-own parameters ends some own = λ over state at. by over state at (reverse read.round.items) refl state.place.round refl at.round
    where
      by : (over : Over) (state : ReadState) → IsAt text over read state → (outers : List Outer) → reverse read.round.items ≡ outers → (round : List Reading) → state.place.round ≡ round
          → AreRound state.place.here.context state.place.here.modules outers round
          → ends ++ meanings_of parameters ∷ [] ≡ ends ++ own_at state state.place.round ∷ []
      by over state at [] none round is are = absurd (some (sym (reverse-reverse read.round.items) ∙ ap reverse none))
      by over state at (outer ∷ outers) there [] is are = absurd are
      by over state at (outer ∷ outers) there (reading ∷ round) is are =
          ap (λ entries. ends ++ meanings_of entries ∷ []) (own over state reading round at is)
          ∙ ap (λ rs. ends ++ own_at state rs ∷ []) (sym is)

-- ---- what is known there

-- an end, whatever closes it
any_closing : Lexeme
any_closing = record { kind = LexKind.Name; span = record { start = 0; end = 0 }; line = 0; col = 0 }

-- behind an end code reads somewhere
pub end-somewhere : (text : Text) (old new : ModuleReader) → ((closing : Lexeme) → Leads text (behind_unit text (ModuleEnd closing)) old new) → IsSomewhere text old → IsSomewhere text new
end-somewhere text old new leads there =
    unit-somewhere text (ModuleEnd any_closing) old new (leads any_closing) there

-- a list that is not empty
pub not-empty : {A : Type 0} (count : ℕ) (items : List A) → count ≡ length items → nat_eq count 0 ≡ false → items ≡ [] → ⊥
not-empty count items is some none =
    let empty : count ≡ 0 = is ∙ ap (λ z. length z) none in
    let same : nat_eq count 0 ≡ true = ap (λ n. nat_eq n 0) empty in
    cc
