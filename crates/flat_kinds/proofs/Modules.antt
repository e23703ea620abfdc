-- Modules with those that are nested in them, read unit by unit.
use Rattle.std.proofs.Common.{◌≡◌, ℕ, List, [], ◌∷◌, refl, sym, ap, ◌∙◌, subst}
use Rattle.unit_grammar.specs.Units.{UnitTree, Variables, Constants, OperatorDefinition, FunctionDefinition, ModuleDefinition, Instance, Assumption, Theorem, Line, ModuleBegin, ModuleEnd, ModuleUnits}
use Rattle.tla_model.specs.Entities.{Meaning, Text}
use Rattle.module_scope.specs.Environments.{first as first_scope}
use Rattle.module_model.specs.Modules.{Reading, left, text_of}
use Rattle.module_model.specs.Resolution.{outside_in, words_of}
use Rattle.kind_text.specs.FlatModule.{FlatModule}
use Rattle.tree_kinds.specs.Standing.{Outside}
use Rattle.module_kinds.specs.ModuleKinds.{KindState, after, first, last, outside, read_all, views}
use Rattle.flat_trees.specs.Stands.{Stand}
use Rattle.flat_trees.specs.Layouts.{Layout}
use Rattle.flat_trees.specs.Instances.{IsModule}
use Rattle.flat_kinds.specs.Readings.{Extension, IsUnitRead, KeepsState}
use Rattle.flat_kinds.specs.Modules.{AllStayBehind, AreRead, Coming, Current, Stands, Begins, Ends, IsBuiltAlong, IsExtended, IsRead, KeepsAll, KeepsRound, first_current, first_layout, here_behind, module_stands, round_behind}
use Rattle.flat_kinds.proofs.Units.{extensions-stand, state-after, state-exported}
use Rattle.flat_kinds.proofs.Nested.{nested-begins}
use Rattle.flat_kinds.proofs.Leaving.{nested-ends, round-stands}

-- the outermost of modules that are being read
abbrev bottom : Current → List Current → Current
bottom here [] = here
bottom here (outer ∷ round) = bottom outer round

-- they have the same symbols at the same places
abbrev SameSymbols : Current → Current → Type 0
SameSymbols a b = (a.symbols ≡ b.symbols) × (a.layout.places ≡ b.layout.places)

module _ (flat : FlatModule) (text : Text) (files : List ℕ → Outside) (words : List ℕ) where
  rounds-stand : (state : KindState) (unit : UnitTree) (readings : List Reading) (round : List Current) → KeepsRound flat readings round state.standing → AllStayBehind text files words flat state unit round → KeepsRound flat readings round (after text files words state unit).standing
  rounds-stand state unit [] [] keeps stays = tt
  rounds-stand state unit [] (outer ∷ round) keeps stays = absurd keeps
  rounds-stand state unit (reading ∷ readings) [] keeps stays = absurd keeps
  rounds-stand state unit (reading ∷ readings) (outer ∷ round) keeps stays =
      ((keeps.0.0, keeps.0.1, round-stands text files words flat outer.symbols outer.layout state unit keeps.0.2 stays.0), rounds-stand state unit readings round keeps.1 stays.1)

  round-same : (state : KindState) (layout : Layout) (unit : UnitTree) (next : Meaning → Stand) → IsUnitRead text files words flat state layout unit next → (after text files words state unit).read.place.round ≡ state.read.place.round
  round-same state layout (OperatorDefinition local x) next read = refl
  round-same state layout (FunctionDefinition local x) next read = refl
  round-same state layout (ModuleDefinition local x) next read = refl
  round-same state layout (Instance local x) next read = refl
  round-same state layout (ModuleBegin dashes name extends) next read = absurd read
  round-same state layout (ModuleEnd closing) next read = absurd read
  round-same state layout (Variables names) next read = refl
  round-same state layout (Constants declarations) next read = refl
  round-same state layout (Assumption word name x) next read = refl
  round-same state layout (Theorem word name x) next read = refl
  round-same state layout (Line dashes) next read = refl

  -- behind a nested module, by the modules round it
  ended : (state : KindState) (unit : UnitTree) (outer : Current) (round : List Current) → IsRead text files words flat state outer (outer ∷ round) unit Ends → (readings : List Reading) → state.read.place.round ≡ readings → KeepsRound flat readings (outer ∷ round) state.standing → KeepsAll flat (after text files words state unit) outer round
  ended state (ModuleEnd closing) outer round read [] is keeps = absurd keeps
  ended state (ModuleEnd closing) outer round read (reading ∷ readings) is keeps =
      record {
        here = nested-ends text files words flat outer.symbols outer.layout state closing reading readings is keeps.0.0 keeps.0.1 keeps.0.2;
        round = subst (λ t. KeepsRound flat t round state.standing) (sym (ap (λ t. (left state.read.known state.read.place.here t).round) is)) keeps.1;
      }
  ended state unit outer round read readings is keeps = absurd read

  begun : (state : KindState) (here : Current) (round : List Current) (unit : UnitTree) (own : Meaning → Stand) (count : ℕ) (extensions : List Extension) → KeepsAll flat state here round → IsRead text files words flat state here round unit (Begins own count extensions) → KeepsAll flat (after text files words state unit) (here_behind text files words state here round unit (Begins own count extensions)) (here ∷ round)
  begun state here round (ModuleBegin dashes name extends) own count extensions keeps read =
      record {
        here = nested-begins flat here.symbols here.layout state own keeps.here read.0 text files words count dashes name extends extensions read.1;
        round = rounds-stand state (ModuleBegin dashes name extends) (state.read.place.here ∷ state.read.place.round) (here ∷ round) ((keeps.here.context, keeps.here.olds, keeps.here.standing), keeps.round) read.2;
      }
  begun state here round unit own count extensions keeps read = absurd read

  pub unit-all : (state : KindState) (here : Current) (round : List Current) (unit : UnitTree) (one : Coming) → KeepsAll flat state here round → IsRead text files words flat state here round unit one → KeepsAll flat (after text files words state unit) (here_behind text files words state here round unit one) (round_behind text files words here round one)
  unit-all state here round unit (Stands next) keeps read =
      record {
        here = state-after flat text files words here.symbols state here.layout keeps.here unit next read.0;
        round =
            subst (λ readings. KeepsRound flat readings round (after text files words state unit).standing) (sym (round-same state here.layout unit next read.0))
            (rounds-stand state unit state.read.place.round round keeps.round read.1);
      }
  unit-all state here round unit (Begins own count extensions) keeps read = begun state here round unit own count extensions keeps read
  unit-all state here (outer ∷ round) unit Ends keeps read = ended state unit outer round read state.read.place.round refl keeps.round
  unit-all state here [] unit Ends keeps read = absurd (none unit read)
    where
      none : (u : UnitTree) → IsRead text files words flat state here [] u Ends → ⊥
      none u read = read

  all-read : (state : KindState) (units : List UnitTree) (comings : List Coming) (here : Current) (round : List Current) (behind : Current) → KeepsAll flat state here round → AreRead text files words flat state units comings here round behind → KeepsAll flat (read_all text files words state units) behind []
  all-read state [] [] here [] behind keeps read = subst (λ b. KeepsAll flat state b []) (sym read) keeps
  all-read state [] [] here (outer ∷ round) behind keeps read = absurd read
  all-read state [] (one ∷ rest) here round behind keeps read = absurd read
  all-read state (unit ∷ units) [] here round behind keeps read = absurd read
  all-read state (unit ∷ units) (one ∷ rest) here round behind keeps read =
      all-read (after text files words state unit) units rest (here_behind text files words state here round unit one) (round_behind text files words here round one) behind (unit-all state here round unit one keeps read.0) read.1

  same-behind : (state : KindState) (here : Current) (round : List Current) (unit : UnitTree) (one : Coming) → SameSymbols (bottom (here_behind text files words state here round unit one) (round_behind text files words here round one)) (bottom here round)
  same-behind state here [] unit (Stands next) = (refl, refl)
  same-behind state here (outer ∷ round) unit (Stands next) = (refl, refl)
  same-behind state here round unit (Begins own count extensions) = (refl, refl)
  same-behind state here [] unit Ends = (refl, refl)
  same-behind state here (outer ∷ round) unit Ends = (refl, refl)

  all-same : (state : KindState) (units : List UnitTree) (comings : List Coming) (here : Current) (round : List Current) (behind : Current) → AreRead text files words flat state units comings here round behind → SameSymbols behind (bottom here round)
  all-same state [] [] here [] behind read = (ap (λ (c : Current). c.symbols) read, ap (λ (c : Current). c.layout.places) read)
  all-same state [] [] here (outer ∷ round) behind read = absurd read
  all-same state [] (one ∷ rest) here round behind read = absurd read
  all-same state (unit ∷ units) [] here round behind read = absurd read
  all-same state (unit ∷ units) (one ∷ rest) here round behind read =
      let others = all-same (after text files words state unit) units rest (here_behind text files words state here round unit one) (round_behind text files words here round one) behind read.1 in
      let this = same-behind state here round unit one in
      (others.0 ∙ this.0, others.1 ∙ this.1)

-- a module behind what it extends
pub module-begins : (flat : FlatModule) (files : List ℕ → Outside) (source : List ℕ) (units : ModuleUnits) (symbols : Meaning → Stand) (places : ℕ) (extensions : List Extension) → IsExtended files source units flat symbols places extensions → KeepsAll flat (first files source units) (first_current files source units symbols places extensions) []
module-begins flat files source units symbols places extensions extended =
    let text = text_of source units in
    let begins : KeepsState flat symbols (first_layout files source units symbols places extensions) (first files source units) =
    record {
      context = refl;
      olds = refl;
      standing = λ frame parameters room stands. extensions-stand flat text files (words_of units) (first_layout files source units symbols places extensions) symbols (first_scope text.file) units.extends extensions symbols frame parameters parameters extended room stands stands;
    } in
    record { here = begins; round = tt }

-- a module that a flat one is built along
pub module-read : (flat : FlatModule) (files : List ℕ → Outside) (source : List ℕ) (units : ModuleUnits) (symbols : Meaning → Stand) (places : ℕ) (extensions : List Extension) (comings : List Coming) (behind : Current) → IsBuiltAlong files source units flat symbols places extensions comings behind → IsModule flat symbols places (module_stands files source units behind.layout) (outside files source units)
module-read flat files source units symbols places extensions comings behind built =
    let text = text_of source units in
    let words = words_of units in
    let here = first_current files source units symbols places extensions in
    let begins = module-begins flat files source units symbols places extensions built.extended in
    let all = all-read flat text files words (first files source units) units.units comings here [] behind begins built.read in
    let same = all-same flat text files words (first files source units) units.units comings here [] behind built.read in
    let view = outside_in (views text files words) source units in
    let kept = state-exported flat behind.symbols behind.layout (last files source units) view (last files source units).is_constant all.here in
    subst (λ n. IsModule flat symbols n (module_stands files source units behind.layout) (outside files source units)) same.1
    (subst (λ (s : Meaning → Stand). IsModule flat s behind.layout.places (module_stands files source units behind.layout) (outside files source units)) same.0 kept)
