-- What can be used round a nested module can be used in it.
use Rattle.std.proofs.Common.{◌≡◌, ℕ, Bool, true, false, cond, List, [], ◌∷◌, Option, Some, is_some, sym, subst}
use Rattle.tla_symbols.specs.declared.lexeme.Lexeme.{Lexeme}
use Rattle.unit_grammar.specs.Units.{UnitTree, Variables, Constants, OperatorDefinition, FunctionDefinition, ModuleDefinition, Instance, Assumption, Theorem, Line, ModuleBegin, ModuleEnd, ModuleUnits}
use Rattle.tla_model.specs.Contexts.{Context}
use Rattle.tla_model.specs.Entities.{Meaning, Text, variables}
use Rattle.tla_model.specs.Scopes.{definition}
use Rattle.tla_model.specs.Tables.{Named, find}
use Rattle.module_model.specs.Exports.{Exports, Known, ModuleView, exports_by}
use Rattle.module_model.specs.Modules.{Reading, brings, clashes, constants, extended, extends_all, joined, left, nested, text_of, with_entry}
use Rattle.module_model.specs.Resolution.{ReadState, after, first, instance_brings, read_all, words_of}
use Rattle.tree_kinds.specs.Standing.{Outside}
use Rattle.module_kinds.specs.ModuleKinds.{views}
use Rattle.accepted_modules.specs.States.{kinds_behind}
use Rattle.accepted_modules.proofs.Declaring.{declared-stays}
use Rattle.accepted_modules.proofs.Tables.{put-keeps}
use Rattle.accepted_modules.proofs.Views.{own-read}

-- what can be used in one context can be in another
abbrev pub Continues : Context → Context → Type 0
Continues old new = (name : Named) (there : Option Meaning) → find old name ≡ Some there → find new name ≡ Some there

pub joined-continues : (local : Bool) (reading : Reading) (entries : Exports) → Continues reading.context (joined local reading entries).context
joined-continues local reading [] name there at = at
joined-continues local reading (entry ∷ rest) name there at =
    joined-continues local (cond (clashes reading.context entry) reading (with_entry local reading entry.0 entry.1)) rest name there (by (clashes reading.context entry))
  where
    by : (b : Bool) → find (cond b reading (with_entry local reading entry.0 entry.1)).context name ≡ Some there
    by true = at
    by false = put-keeps reading.context entry.0 (Some entry.1) name there at

pub extends-continue : (text : Text) (files : List ℕ → Exports) (reading : Reading) (ls : List Lexeme) → Continues reading.context (extends_all text files reading ls).context
extends-continue text files reading [] name there at = at
extends-continue text files reading (l ∷ rest) name there at = extends-continue text files (extended reading (brings text files reading l)) rest name there (joined-continues false reading (brings text files reading l) name there at)

-- the same of modules one round another
abbrev pub AreInside : Reading → List Reading → Type 0
AreInside here [] = Unit {0}
AreInside here (outer ∷ round) = Continues outer.context here.context × AreInside outer round

with-inside : (here next : Reading) (round : List Reading) → Continues here.context next.context → AreInside here round → AreInside next round
with-inside here next [] more is = tt
with-inside here next (outer ∷ round) more is = ((λ name there at. more name there (is.0 name there at)), is.1)

left-inside : (known : Known) (inner : Reading) (round : List Reading) → AreInside inner round → AreInside (left known inner round).here (left known inner round).round
left-inside known inner [] is = tt
left-inside known inner (outer ∷ round) is = with-inside outer (left known inner (outer ∷ round)).here round (λ name there at. at) is.1

module _ (text : Text) (files : List ℕ → ModuleView) (words : List ℕ) where
  after-inside : (state : ReadState) (unit : UnitTree) → AreInside state.place.here state.place.round → AreInside (after text files words state unit).place.here (after text files words state unit).place.round
  after-inside state (Variables names) is = with-inside state.place.here _ state.place.round (declared-stays text false state.place.here (variables names)) is
  after-inside state (Constants declarations) is = with-inside state.place.here _ state.place.round (declared-stays text false state.place.here (constants declarations)) is
  after-inside state (OperatorDefinition local x) is = with-inside state.place.here _ state.place.round (declared-stays text (is_some local) state.place.here (definition x)) is
  after-inside state (FunctionDefinition local x) is = with-inside state.place.here _ state.place.round (declared-stays text (is_some local) state.place.here (definition x)) is
  after-inside state (ModuleDefinition local x) is = with-inside state.place.here _ state.place.round (declared-stays text (is_some local) state.place.here (definition x)) is
  after-inside state (Instance local x) is = with-inside state.place.here _ state.place.round (joined-continues (is_some local) state.place.here (instance_brings text files words state x)) is
  after-inside state (Assumption word name x) is = is
  after-inside state (Theorem word name x) is = is
  after-inside state (Line dashes) is = is
  after-inside state (ModuleBegin dashes name extends) is = (extends-continue text (exports_by files) (nested text state.place.here name) extends, is)
  after-inside state (ModuleEnd closing) is = left-inside state.known state.place.here state.place.round is

  all-inside : (state : ReadState) (units : List UnitTree) → AreInside state.place.here state.place.round → AreInside (read_all text files words state units).place.here (read_all text files words state units).place.round
  all-inside state [] is = is
  all-inside state (unit ∷ units) is = all-inside (after text files words state unit) units (after-inside state unit is)

-- wherever a unit is read
pub behind-inside : (outsides : List ℕ → Outside) (source : List ℕ) (units : ModuleUnits) (before : List UnitTree) → AreInside (kinds_behind outsides source units before).read.place.here (kinds_behind outsides source units before).read.place.round
behind-inside outsides source units before =
    let files = views (text_of source units) outsides (words_of units) in
    subst (λ (s : ReadState). AreInside s.place.here s.place.round) (sym (own-read outsides source units before))
    (all-inside (text_of source units) files (words_of units) (first files source units) before tt)
