-- Symbols that units of a module without faults declare are parameters of the module.
use Rattle.std.proofs.Common.{◌≡◌, ℕ, Bool, true, false, cond, List, [], ◌∷◌, ◌++◌, Option, Some, None, is_some, refl, sym, ap, subst, ◌∙◌, append_assoc}
use Rattle.std.specs.List.{AllByRecursion}
use Rattle.list_laws.proofs.Lists.{all-weaker}
use Rattle.tla_symbols.specs.declared.lexeme.Lexeme.{Lexeme}
use Rattle.tla_tree.specs.Syntax.{Tree}
use Rattle.unit_grammar.specs.Derivation.{DerivesModule}
use Rattle.unit_grammar.specs.Units.{UnitTree, Variables, Constants, OperatorDefinition, FunctionDefinition, ModuleDefinition, Instance, Assumption, Theorem, Line, ModuleBegin, ModuleEnd, ModuleUnits}
use Rattle.tla_model.specs.declared.names.Binder.{Binder}
use Rattle.tla_model.specs.declared.names.Finding.TheVariants.{Taken}
use Rattle.tla_model.specs.Tables.{Named, find, has}
use Rattle.tla_model.specs.Entities.{Meaning, Text, meant, name_of, variables}
use Rattle.tla_model.specs.Contexts.{Context, bind, meaning_of, usable}
use Rattle.tla_model.specs.Scopes.{Finding, all_refused, definition, taken_findings}
use Rattle.module_model.specs.Bindings.{fault, faults}
use Rattle.module_model.specs.Exports.{ModuleView, entry_of, exports_by}
use Rattle.module_model.specs.Instances.{paths_in}
use Rattle.module_model.specs.Modules.{Reading, all_clashing, constants, declare_all, text_of, unread, with_entry}
use Rattle.module_model.specs.Resolution.{ReadState, after, findings, first, found_from, found_in, outside_in, read_all, words_of}
use Rattle.flat_kinds.specs.Declarations.{declared_names}
use Rattle.readable_laws.specs.Steady.{state_behind}
use Rattle.accepted_modules.proofs.Symbols.{IsSymbol, append-read, defined-none, put-new, symbols-stay}
use Rattle.accepted_modules.proofs.Tables.{put-keeps}

-- ---- no faults

pub faults-append : (a b : List Finding) → faults (a ++ b) ≡ faults a ++ faults b
faults-append [] b = refl
faults-append (f ∷ a) b = ap (λ fs. fault f ++ fs) (faults-append a b) ∙ sym (append_assoc (fault f) (faults a) (faults b))

pub left-empty : {A : Type 0} (a b : List A) → a ++ b ≡ [] → a ≡ []
left-empty [] b none = refl
left-empty (x ∷ a) b none = absurd (cc none)

pub right-empty : {A : Type 0} (a b : List A) → a ++ b ≡ [] → b ≡ []
right-empty [] b none = none
right-empty (x ∷ a) b none = absurd (cc none)

module _ (text : Text) where
  -- names that are no fault are refused nowhere
  pub none-refused : (context : Context) (binders : List Binder) → faults (all_refused text context binders) ≡ [] → all_refused text context binders ≡ []
  none-refused context [] none = refl
  none-refused context (binder ∷ rest) none =
      let here : List Finding = taken_findings text context binder.name in
      let later : List Finding = all_refused text (bind text context binder) rest in
      let both = sym (faults-append here later) ∙ none in
      by (has context (name_of text.source binder.name)) (left-empty (faults here) (faults later) both) (none-refused (bind text context binder) rest (right-empty (faults here) (faults later) both))
    where
      by : (b : Bool) → faults (cond b (Taken binder.name ∷ []) []) ≡ [] → all_refused text (bind text context binder) rest ≡ [] → cond b (Taken binder.name ∷ []) [] ++ all_refused text (bind text context binder) rest ≡ []
      by true none later = absurd (cc none)
      by false none later = later

  -- what is there stays where names are declared
  pub declared-stays : (local : Bool) (reading : Reading) (binders : List Binder) (name : Named) (there : Option Meaning) → find reading.context name ≡ Some there → find (declare_all text local reading binders).context name ≡ Some there
  declared-stays local reading [] name there at = at
  declared-stays local reading (binder ∷ rest) name there at =
      declared-stays local (cond (has reading.context (name_of text.source binder.name)) reading (with_entry local reading (name_of text.source binder.name) (meant text binder))) rest name there (by (has reading.context (name_of text.source binder.name)))
    where
      by : (b : Bool) → find (cond b reading (with_entry local reading (name_of text.source binder.name) (meant text binder))).context name ≡ Some there
      by true = at
      by false = put-keeps reading.context (name_of text.source binder.name) (Some (meant text binder)) name there at

  -- names that are refused nowhere can be used
  pub declared-means : (local : Bool) (reading : Reading) (binders : List Binder) → all_refused text reading.context binders ≡ [] → AllByRecursion (λ binder. meaning_of (declare_all text local reading binders).context (name_of text.source binder.name) ≡ Some (meant text binder)) binders
  declared-means local reading [] none = tt
  declared-means local reading (binder ∷ rest) none =
      by (find reading.context (name_of text.source binder.name)) refl none
      (λ later. declared-means local (with_entry local reading (name_of text.source binder.name) (meant text binder)) rest later)
    where
      name : Named
      name = name_of text.source binder.name

      other : Reading
      other = with_entry local reading name (meant text binder)

      by : (o : Option (Option Meaning)) → find reading.context name ≡ o → cond (is_some o) (Taken binder.name ∷ []) [] ++ all_refused text (bind text reading.context binder) rest ≡ []
          → (all_refused text (bind text reading.context binder) rest ≡ [] → AllByRecursion (λ (b : Binder). meaning_of (declare_all text local (with_entry local reading name (meant text binder)) rest).context (name_of text.source b.name) ≡ Some (meant text b)) rest)
          → AllByRecursion (λ (b : Binder). meaning_of (declare_all text local (cond (is_some o) reading (with_entry local reading name (meant text binder))) rest).context (name_of text.source b.name) ≡ Some (meant text b)) (binder ∷ rest)
      by (Some there) at none later = absurd (cc none)
      by None at none later = (ap usable (declared-stays local other rest name (Some (meant text binder)) (put-new reading.context name (Some (meant text binder)) at)), later none)

  module _ (files : List ℕ → ModuleView) (words paths : List ℕ) where
    pub unit-faultless : (state : ReadState) (before : List UnitTree) (unit : UnitTree) (behind : List UnitTree) → faults (found_from text files words paths state (before ++ unit ∷ behind)) ≡ [] → faults (found_in text files words paths (read_all text files words state before) unit) ≡ []
    unit-faultless state [] unit behind none =
        left-empty (faults (found_in text files words paths state unit)) (faults (found_from text files words paths (after text files words state unit) behind))
        (sym (faults-append (found_in text files words paths state unit) (found_from text files words paths (after text files words state unit) behind)) ∙ none)
    unit-faultless state (first ∷ before) unit behind none =
        unit-faultless (after text files words state first) before unit behind
        (right-empty (faults (found_in text files words paths state first)) (faults (found_from text files words paths (after text files words state first) (before ++ unit ∷ behind)))
        (sym (faults-append (found_in text files words paths state first) (found_from text files words paths (after text files words state first) (before ++ unit ∷ behind))) ∙ none))

-- ---- symbols of a unit

module _ (files : List ℕ → ModuleView) (source : List ℕ) (units : ModuleUnits) (a : List Lexeme) (before : List UnitTree) (unit : UnitTree) (behind : List UnitTree) (derives : DerivesModule units a) (none : faults (findings files source units) ≡ []) (split : units.units ≡ before ++ unit ∷ behind)
    (flat : (state_behind files source units before).place.round ≡ []) where
  -- a name is a parameter, if it is a symbol
  abbrev IsParameter : Binder → Type 0
  IsParameter binder = IsSymbol (meant (text_of source units) binder) → entry_of (outside_in files source units).parameters (name_of source binder.name) ≡ Some (meant (text_of source units) binder)

  found-none : faults (found_in (text_of source units) files (words_of units) (paths_in units.units) (state_behind files source units before) unit) ≡ []
  found-none =
      let text = text_of source units in
      let words = words_of units in
      let paths = paths_in units.units in
      let clashing = all_clashing text (exports_by files) (unread text) units.extends in
      let found = found_from text files words paths (first files source units) units.units in
      let later = right-empty (faults clashing) (faults found) (sym (faults-append clashing found) ∙ none) in
      unit-faultless text files words paths (first files source units) before unit behind (subst (λ us. faults (found_from text files words paths (first files source units) us) ≡ []) split later)

  -- names that can be used behind the unit are
  declared-parameters : (binders : List Binder) → (after (text_of source units) files (words_of units) (state_behind files source units before) unit).place.round ≡ []
      → AllByRecursion (λ (b : Binder). meaning_of (after (text_of source units) files (words_of units) (state_behind files source units before) unit).place.here.context (name_of source b.name) ≡ Some (meant (text_of source units) b)) binders → AllByRecursion IsParameter binders
  declared-parameters binders round all =
      let text = text_of source units in
      let words = words_of units in
      let next : ReadState = after text files words (state_behind files source units before) unit in
      let same : state_behind files source units (before ++ unit ∷ []) ≡ next = append-read text files words (first files source units) before (unit ∷ []) in
      let longer : units.units ≡ (before ++ unit ∷ []) ++ behind = split ∙ sym (append_assoc before (unit ∷ []) behind) in
      all-weaker (λ (b : Binder). meaning_of next.place.here.context (name_of source b.name) ≡ Some (meant text b)) IsParameter
      (λ b means symbol.
      symbols-stay files source units a (before ++ unit ∷ []) behind (name_of source b.name) (meant text b) derives longer (ap (λ (s : ReadState). s.place.round) same ∙ round)
      (ap (λ (s : ReadState). meaning_of s.place.here.context (name_of source b.name)) same ∙ means) symbol) binders all

  defined-parameters : (x : Tree) → AllByRecursion IsParameter (definition x)
  defined-parameters x = all-weaker (λ (b : Binder). IsSymbol (meant (text_of source units) b) → ⊥) IsParameter (λ b never symbol. absurd (never symbol)) (definition x) (defined-none (text_of source units) x)

-- the symbols that a unit declares are parameters
pub unit-parameters : (files : List ℕ → ModuleView) (source : List ℕ) (units : ModuleUnits) (a : List Lexeme) (before : List UnitTree) (unit : UnitTree) (behind : List UnitTree) (derives : DerivesModule units a) (none : faults (findings files source units) ≡ []) (split : units.units ≡ before ++ unit ∷ behind)
    (flat : (state_behind files source units before).place.round ≡ []) → AllByRecursion (λ (binder : Binder). IsSymbol (meant (text_of source units) binder) → entry_of (outside_in files source units).parameters (name_of source binder.name) ≡ Some (meant (text_of source units) binder)) (declared_names unit)
unit-parameters files source units a before (Variables names) behind derives none split flat =
    let text = text_of source units in
    let here : Reading = (state_behind files source units before).place.here in
    declared-parameters files source units a before (Variables names) behind derives none split flat (variables names) flat
    (declared-means text false here (variables names) (none-refused text here.context (variables names) (found-none files source units a before (Variables names) behind derives none split flat)))
unit-parameters files source units a before (Constants declarations) behind derives none split flat =
    let text = text_of source units in
    let here : Reading = (state_behind files source units before).place.here in
    declared-parameters files source units a before (Constants declarations) behind derives none split flat (constants declarations) flat
    (declared-means text false here (constants declarations) (none-refused text here.context (constants declarations) (found-none files source units a before (Constants declarations) behind derives none split flat)))
unit-parameters files source units a before (OperatorDefinition local x) behind derives none split flat = defined-parameters files source units a before (OperatorDefinition local x) behind derives none split flat x
unit-parameters files source units a before (FunctionDefinition local x) behind derives none split flat = defined-parameters files source units a before (FunctionDefinition local x) behind derives none split flat x
unit-parameters files source units a before (ModuleDefinition local x) behind derives none split flat = defined-parameters files source units a before (ModuleDefinition local x) behind derives none split flat x
unit-parameters files source units a before (Instance local x) behind derives none split flat = tt
unit-parameters files source units a before (Assumption word name x) behind derives none split flat = tt
unit-parameters files source units a before (Theorem word name x) behind derives none split flat = tt
unit-parameters files source units a before (Line dashes) behind derives none split flat = tt
unit-parameters files source units a before (ModuleBegin dashes name extends) behind derives none split flat = tt
unit-parameters files source units a before (ModuleEnd closing) behind derives none split flat = tt
