-- Reading on behind a unit.
use Rattle.std.proofs.Common.{◌≡◌, ℕ, List, [], ◌∷◌, ◌++◌, refl, sym, ap, subst, ◌∙◌}
use Rattle.unit_grammar.specs.Units.{UnitTree}
use Rattle.tla_model.specs.Entities.{Text}
use Rattle.module_model.specs.Exports.{files_of}
use Rattle.module_model.specs.Modules.{text_of}
use Rattle.module_model.specs.Resolution as resolution
use Rattle.module_model.specs.Resolution.{words_of}
use Rattle.model_laws.specs.Settled.{IsSettled}
use Rattle.model_laws.proofs.Settling.{settled-after}
use Rattle.tree_kinds.specs.Standing.{Outside}
use Rattle.module_kinds.specs.ModuleKinds.{KindState, after, first, read_all}
use Rattle.flattened_units.specs.Units.{Reader}
use Rattle.unit_scope.specs.EnclosingReadings.{IsAt, IsSomewhere}
use Rattle.unit_scope.specs.Steps.{Leads, behind_unit}
use Rattle.unit_scope.specs.declared.reader.ModuleReader.{ModuleReader}
use Rattle.unit_flattener.specs.Walking.{IsWalking, Walk, over_in, state_at}
use Rattle.unit_flattener.specs.declared.flattener.UnitFlattener.{UnitFlattener}

-- the state behind one unit more
module _ (text : Text) (outsides : List ℕ → Outside) (words : List ℕ) where
  read-next : (state : KindState) (units : List UnitTree) (unit : UnitTree) → read_all text outsides words state (units ++ unit ∷ []) ≡ after text outsides words (read_all text outsides words state units) unit
  read-next state [] unit = refl
  read-next state (x ∷ units) unit = read-next (after text outsides words state x) units unit

pub state-next : (walk : Walk) (before : List UnitTree) (unit : UnitTree) → state_at walk (before ++ unit ∷ []) ≡ after (text_of walk.source walk.units) walk.outsides (words_of walk.units) (state_at walk before) unit
state-next walk before unit = read-next (text_of walk.source walk.units) walk.outsides (words_of walk.units) (first walk.outsides walk.source walk.units) before unit

module _ (text : Text) (walk : Walk) (before rest : List UnitTree) (code : UnitFlattener) (reader : Reader) (at : IsWalking text walk before rest code reader) (unit : UnitTree) where
  -- what is read then
  pub read-is : behind_unit text unit (over_in walk) (state_at walk before).read ≡ (state_at walk (before ++ unit ∷ [])).read
  read-is = (λ i. resolution.after (at.same i) (sym at.views i) (words_of walk.units) (state_at walk before).read unit) ∙ ap (λ state. state.read) (sym (state-next walk before unit))

  pub reads-next : (next : ModuleReader) → Leads text (behind_unit text unit) code.reader next → IsAt text (over_in walk) next (state_at walk (before ++ unit ∷ [])).read
  reads-next next leads = subst (IsAt text (over_in walk) next) read-is (leads (over_in walk) (state_at walk before).read at.reads)

  pub settled-next : IsSettled (state_at walk (before ++ unit ∷ [])).read
  settled-next = subst IsSettled read-is (settled-after text (files_of walk.imports) (words_of walk.units) (state_at walk before).read unit at.settled)

  -- the reader of units can go on
  pub somewhere : IsSomewhere text code.reader
  somewhere = record { over = over_in walk; state = (state_at walk before).read; at = at.reads; settled = at.settled }
