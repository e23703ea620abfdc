-- A module that is read asks the files of its needs alone.
use Rattle.std.proofs.Common.{◌≡◌, ℕ, true, false, List, [], ◌∷◌, ◌++◌, Option, Some, None, is_some, if◌then◌else◌, refl, ap, sym, subst, ◌∙◌}
use Rattle.std.specs.Prelude.{⊤, ◌||◌, ◌&&◌, filter, not}
use Rattle.std.specs.List.{AllByRecursion}
use Rattle.std.specs.Str.{bytes_eq}
use Rattle.tla_symbols.specs.declared.lexeme.Lexeme.{Lexeme}
use Rattle.tla_tree.specs.declared.form.Form.TheVariants as Form
use Rattle.tla_tree.specs.Syntax.{Tree, Trees, Node, Nil, Cons}
use Rattle.unit_grammar.specs.Units.{UnitTree, Variables, Constants, OperatorDefinition, FunctionDefinition, ModuleDefinition, Instance, Assumption, Theorem, Line, ModuleBegin, ModuleEnd, ModuleUnits}
use Rattle.list_laws.proofs.Lists.{all-both, all-left, all-right, all-weaker}
use Rattle.tla_model.specs.declared.names.Finding.TheVariants.{Clashes, InstanceClashes, Taken}
use Rattle.tla_model.specs.Entities.{Text, declaration}
use Rattle.tla_model.specs.Lexemes.{spelled}
use Rattle.tla_model.specs.ModuleNames.{instances, instances_in, instantiated, module_names}
use Rattle.tla_model.specs.Scopes.{Finding}
use Rattle.module_scope.specs.Environments.{Environment, Scope, begun, first, inside, is_round, is_taken, meaning}
use Rattle.module_scope.specs.Imports.{imports_from, imports_of, is_needed, scope_at}
use Rattle.module_model.specs.Exports.{ModuleView, and_known, behind_instance, entries_from, exported, exports_by, exports_of, known_as, none_known, parameters_in}
use Rattle.module_model.specs.Instances as i
use Rattle.module_model.specs.Modules as m
use Rattle.module_model.specs.Modules.{Reading, text_of}
use Rattle.module_model.specs.NamedModules as n
use Rattle.module_model.specs.Resolution as r
use Rattle.module_model.specs.Resolution.{ReadState}
use Rattle.module_model.specs.TreeFindings.{walk}
use Rattle.model_laws.proofs.Forgetting.{extends-keep, forget, forget-added, joined-keeps, scope_of, scope-after, taken-forget}
use Rattle.model_laws.proofs.Items.{all-kept}
use Rattle.model_laws.proofs.SameModules.{walk-same}

-- the names of modules of instances are among the names behind INSTANCE
module _ (P : Lexeme → Type 0) where
  -- it holds of a name of a module, if there is one
  abbrev OfThat : Option Lexeme → Type 0
  OfThat None = ⊤
  OfThat (Some l) = P l

  abbrev Names : Lexeme × Option Lexeme → Type 0
  Names instance = OfThat instance.1

  instance-among : (parts : Trees) → AllByRecursion P (instances_in parts) → OfThat (i.instance_among parts)
  instance-among Nil all = tt
  instance-among (Cons (Node (Form.Instance l) span parts) rest) all = all.0
  instance-among (Cons (Node form span parts) rest) all = instance-among rest (all-right P (instances (Node form span parts)) (instances_in rest) all)

  named-instance : (form : Form.the_data) (parts : Trees) → AllByRecursion P (instances_in parts) → AllByRecursion Names (i.named_instance form parts)
  named-instance (Form.ModuleDefinition name) parts all = (instance-among parts all, tt)
  named-instance _ parts all = tt

  mutual
    instances-named : (x : Tree) → AllByRecursion P (instances x) → AllByRecursion Names (i.named_instances x)
    instances-named (Node form span parts) all =
        let inner : AllByRecursion P (instances_in parts) = all-right P (instantiated form) (instances_in parts) all in
        all-both Names (i.named_instance form parts) (i.all_named_instances parts) (named-instance form parts inner) (all-instances-named parts inner)

    pub all-instances-named : (parts : Trees) → AllByRecursion P (instances_in parts) → AllByRecursion Names (i.all_named_instances parts)
    all-instances-named Nil all = tt
    all-instances-named (Cons x rest) all =
        all-both Names (i.named_instances x) (i.all_named_instances rest) (instances-named x (all-left P (instances x) (instances_in rest) all)) (all-instances-named rest (all-right P (instances x) (instances_in rest) all))

module _ (text : Text) (files others : List ℕ → ModuleView) where
  abbrev Same : Lexeme → Type 0
  Same l = files (spelled text.source l) ≡ others (spelled text.source l)

  -- a name that means a file is that of a file which is the same
  abbrev Asks : Environment ModuleView → Lexeme → Type 0
  Asks modules l = is_taken modules (spelled text.source l) ≡ false → Same l

  -- those that are needed are the same
  asks-all : (modules : Environment ModuleView) (scope : Scope ⊤) (names : List Lexeme) → forget modules ≡ scope.here → AllByRecursion Same (filter (is_needed text.source text.file scope) names) → AllByRecursion (Asks modules) names
  asks-all modules scope names is all =
      all-weaker (λ l. is_needed text.source text.file scope l ≡ true → Same l) (Asks modules) (λ l same free. same (needed l free)) names (all-kept Same (is_needed text.source text.file scope) names all)
    where
      needed : (l : Lexeme) → is_taken modules (spelled text.source l) ≡ false → is_needed text.source text.file scope l ≡ true
      needed l free = ap (λ b. not b || (bytes_eq (spelled text.source l) text.file && not (is_round scope.round (spelled text.source l)))) (ap (λ z. is_taken z (spelled text.source l)) (sym is) ∙ taken-forget modules (spelled text.source l) ∙ free)

  -- ---- what a module brings

  under-same : (found : Option (Option ModuleView)) (name : List ℕ) → (is_some found ≡ false → files name ≡ others name) → m.exports_under (exports_by files) found name ≡ m.exports_under (exports_by others) found name
  under-same None name same = ap exported (same refl)
  under-same (Some None) name same = refl
  under-same (Some (Some view)) name same = refl

  brings-same : (reading : Reading) (l : Lexeme) → Asks reading.modules l → m.brings text (exports_by files) reading l ≡ m.brings text (exports_by others) reading l
  brings-same reading l same = under-same (meaning reading.modules (spelled text.source l)) (spelled text.source l) same

  extends-same : (reading : Reading) (names : List Lexeme) → AllByRecursion (Asks reading.modules) names → m.extends_all text (exports_by files) reading names ≡ m.extends_all text (exports_by others) reading names
  extends-same reading [] all = refl
  extends-same reading (l ∷ rest) all =
      let kept = (joined-keeps false reading (m.brings text (exports_by files) reading l)).modules in
      extends-same (m.extended reading (m.brings text (exports_by files) reading l)) rest (subst (λ modules. AllByRecursion (Asks modules) rest) (sym kept) all.1)
      ∙ ap (λ brought. m.extends_all text (exports_by others) (m.extended reading brought) rest) (brings-same reading l all.0)

  clashing-same : (reading : Reading) (names : List Lexeme) → AllByRecursion (Asks reading.modules) names → m.all_clashing text (exports_by files) reading names ≡ m.all_clashing text (exports_by others) reading names
  clashing-same reading [] all = refl
  clashing-same reading (l ∷ rest) all =
      let kept = (joined-keeps false reading (m.brings text (exports_by files) reading l)).modules in
      ap (λ z. (if m.brings_clash reading (m.brings text (exports_by files) reading l) then Clashes l ∷ [] else []) ++ z) (clashing-same (m.extended reading (m.brings text (exports_by files) reading l)) rest (subst (λ modules. AllByRecursion (Asks modules) rest) (sym kept) all.1))
      ∙ ap (λ brought. (if m.brings_clash reading brought then Clashes l ∷ [] else []) ++ m.all_clashing text (exports_by others) (m.extended reading brought) rest) (brings-same reading l all.0)

  module _ (words : List ℕ) where
    -- ---- what a module name means

    module-same : (found : Option (Option ModuleView)) (name : List ℕ) → (is_some found ≡ false → files name ≡ others name) → n.module_under files found name ≡ n.module_under others found name
    module-same None name same = same refl
    module-same (Some None) name same = refl
    module-same (Some (Some view)) name same = refl

    abbrev Means : ReadState → Lexeme → Type 0
    Means state l = r.module_named text files words state (spelled text.source l) ≡ r.module_named text others words state (spelled text.source l)

    means-all : (state : ReadState) (names : List Lexeme) → AllByRecursion (Asks state.place.here.modules) names → AllByRecursion (Means state) names
    means-all state names all =
        all-weaker (Asks state.place.here.modules) (Means state) (λ l same. module-same (meaning state.place.here.modules (spelled text.source l)) (spelled text.source l) same) names all

    instance-brings : (state : ReadState) (x : Tree) → AllByRecursion (Means state) (instances x) → r.instance_brings text files words state x ≡ r.instance_brings text others words state x
    instance-brings state (Node (Form.Instance l) span parts) all = ap (i.brought_by (n.unit_of text words l)) all.0
    instance-brings state (Node form span parts) all = refl

    clash-same : (state : ReadState) (x : Tree) → AllByRecursion (Means state) (instances x) → r.clash_by text files words state x ≡ r.clash_by text others words state x
    clash-same state (Node (Form.Instance l) span parts) all =
        ap (λ brought. if m.brings_clash state.place.here (i.brought_by (n.unit_of text words l) brought) then InstanceClashes l ∷ [] else []) all.0
    clash-same state (Node form span parts) all = refl

    -- ---- what stands behind instances

    known-from-all : (state : ReadState) (names : List Lexeme) → AllByRecursion (Means state) names
        → n.known_from_all text (r.module_named text files words state) names ≡ n.known_from_all text (r.module_named text others words state) names
    known-from-all state [] all = refl
    known-from-all state (l ∷ rest) all = λ k. and_known (n.exported_known (all.0 k)) (known-from-all state rest all.1 k)

    known-brought : (state : ReadState) (x : Tree) → AllByRecursion (Means state) (instances x) → r.known_brought text files words state x ≡ r.known_brought text others words state x
    known-brought state (Node (Form.Instance l) span parts) all = ap n.exported_known all.0
    known-brought state (Node form span parts) all = refl

    behind-named : (state : ReadState) (name : Option Lexeme) → OfThat (Means state) name
        → n.behind_named text (r.module_named text files words state) name ≡ n.behind_named text (r.module_named text others words state) name
    behind-named state None same = refl
    behind-named state (Some l) same = ap behind_instance same

    known-named : (state : ReadState) (names : List (Lexeme × Option Lexeme)) → AllByRecursion (Names (Means state)) names
        → n.known_named text (r.module_named text files words state) names ≡ n.known_named text (r.module_named text others words state) names
    known-named state [] all = refl
    known-named state (instance ∷ names) all = λ k. and_known (known_as (declaration text instance.0) (behind-named state instance.1 all.0 k)) (known-named state names all.1 k)

    -- ---- units

    -- the module names of a unit that are needed there are the same
    abbrev Holds : ReadState → UnitTree → Type 0
    Holds state unit = AllByRecursion Same (filter (is_needed text.source text.file (scope_at text.source (scope_of state.place) unit)) (module_names unit))

    -- of a unit that begins no module
    abbrev asked : (state : ReadState) (names : List Lexeme) → AllByRecursion Same (filter (is_needed text.source text.file (scope_of state.place)) names) → AllByRecursion (Means state) names
    asked state names all = means-all state names (asks-all state.place.here.modules (scope_of state.place) names refl all)

    begun-asks : (state : ReadState) (name : Lexeme) (extends : List Lexeme) → AllByRecursion Same (filter (is_needed text.source text.file (begun (scope_of state.place) (spelled text.source name))) extends)
        → AllByRecursion (Asks (inside state.place.here.modules (spelled text.source name))) extends
    begun-asks state name extends all =
        asks-all (inside state.place.here.modules (spelled text.source name)) (begun (scope_of state.place) (spelled text.source name)) extends (forget-added state.place.here.modules (spelled text.source name) None) all

    in-tree : (state : ReadState) (x : Tree) → AllByRecursion (Means state) (instances x) → AllByRecursion (Means state) (instances x ++ [])
    in-tree state x all = all-both (Means state) (instances x) [] all tt

    -- a unit that begins or ends a module holds no names of instances
    names-mean : (state : ReadState) (unit : UnitTree) → Holds state unit → AllByRecursion (Means state) (instances_in (i.unit_trees unit))
    names-mean state (OperatorDefinition local x) all = in-tree state x (asked state (instances x) all)
    names-mean state (FunctionDefinition local x) all = in-tree state x (asked state (instances x) all)
    names-mean state (ModuleDefinition local x) all = in-tree state x (asked state (instances x) all)
    names-mean state (Instance local x) all = in-tree state x (asked state (instances x) all)
    names-mean state (Assumption word name x) all = in-tree state x (asked state (instances x) all)
    names-mean state (Theorem word name x) all = in-tree state x (asked state (instances x) all)
    names-mean state (Variables names) all = tt
    names-mean state (Constants declarations) all = tt
    names-mean state (Line dashes) all = tt
    names-mean state (ModuleBegin dashes name extends) all = tt
    names-mean state (ModuleEnd closing) all = tt

    known-in : (state : ReadState) (unit : UnitTree) → Holds state unit → r.known_in text files words state unit ≡ r.known_in text others words state unit
    known-in state unit all =
        ap (λ z. and_known state.known z) (known-named state (i.all_named_instances (i.unit_trees unit)) (all-instances-named (Means state) (i.unit_trees unit) (names-mean state unit all)))

    read-on : (state : ReadState) (unit : UnitTree) (one two : Reading) → one ≡ two → Holds state unit → r.read_on text files words state unit one ≡ r.read_on text others words state unit two
    read-on state unit one two same all = λ k. record state { place = record { here = same k; round = state.place.round }; known = known-in state unit all k }

    -- inside a nested module, behind what it extends
    inside-same : (state : ReadState) (name : Lexeme) (extends : List Lexeme) → AllByRecursion (Asks (inside state.place.here.modules (spelled text.source name))) extends
        → r.inside_nested text files words state name extends ≡ r.inside_nested text others words state name extends
    inside-same state name extends asks =
        ap (λ here. record state { place = record { here = here; round = state.place.here ∷ state.place.round } }) (extends-same (m.nested text state.place.here name) extends asks)

    inside-means : (state : ReadState) (name : Lexeme) (extends : List Lexeme) → AllByRecursion (Asks (inside state.place.here.modules (spelled text.source name))) extends
        → AllByRecursion (Means (r.inside_nested text files words state name extends)) extends
    inside-means state name extends asks =
        means-all (r.inside_nested text files words state name extends) extends
        (subst (λ modules. AllByRecursion (Asks modules) extends) (sym (extends-keep text files words (m.nested text state.place.here name) extends).modules) asks)

    begins-same : (state : ReadState) (dashes name : Lexeme) (extends : List Lexeme) → AllByRecursion (Asks (inside state.place.here.modules (spelled text.source name))) extends
        → r.after text files words state (ModuleBegin dashes name extends) ≡ r.after text others words state (ModuleBegin dashes name extends)
    begins-same state dashes name extends asks =
        ap (r.with_known text files words (r.inside_nested text files words state name extends)) (known-from-all (r.inside_nested text files words state name extends) extends (inside-means state name extends asks))
        ∙ ap (λ within. r.with_known text others words within (n.known_from_all text (r.module_named text others words within) extends)) (inside-same state name extends asks)

    after-same : (state : ReadState) (unit : UnitTree) → Holds state unit → r.after text files words state unit ≡ r.after text others words state unit
    after-same state (Variables names) all = read-on state (Variables names) _ _ refl all
    after-same state (Constants declarations) all = read-on state (Constants declarations) _ _ refl all
    after-same state (OperatorDefinition local x) all = read-on state (OperatorDefinition local x) _ _ refl all
    after-same state (FunctionDefinition local x) all = read-on state (FunctionDefinition local x) _ _ refl all
    after-same state (ModuleDefinition local x) all = read-on state (ModuleDefinition local x) _ _ refl all
    after-same state (Instance local x) all =
        let brought = instance-brings state x (asked state (instances x) all) in λ k.
        r.with_known text others words (read-on state (Instance local x) _ _ (ap (m.joined (is_some local) state.place.here) brought) all k) (known-brought state x (asked state (instances x) all) k)
    after-same state (Assumption word name x) all = read-on state (Assumption word name x) _ _ refl all
    after-same state (Theorem word name x) all = read-on state (Theorem word name x) _ _ refl all
    after-same state (Line dashes) all = read-on state (Line dashes) _ _ refl all
    after-same state (ModuleBegin dashes name extends) all = begins-same state dashes name extends (begun-asks state name extends all)
    after-same state (ModuleEnd closing) all = refl

    -- ---- units in a row, by the needs of all of them

    abbrev HoldAll : ReadState → List UnitTree → Type 0
    HoldAll state units = AllByRecursion Same (imports_from text.source text.file (scope_of state.place) units)

    first-holds : (state : ReadState) (unit : UnitTree) (units : List UnitTree) → HoldAll state (unit ∷ units) → Holds state unit
    first-holds state unit units all =
        let scope : Scope ⊤ = scope_at text.source (scope_of state.place) unit in
        all-left Same (filter (is_needed text.source text.file scope) (module_names unit)) (imports_from text.source text.file scope units) all

    rest-hold : (state : ReadState) (unit : UnitTree) (units : List UnitTree) → HoldAll state (unit ∷ units) → HoldAll (r.after text files words state unit) units
    rest-hold state unit units all =
        let scope : Scope ⊤ = scope_at text.source (scope_of state.place) unit in
        subst (λ z. AllByRecursion Same (imports_from text.source text.file z units)) (sym (scope-after text files words state unit))
        (all-right Same (filter (is_needed text.source text.file scope) (module_names unit)) (imports_from text.source text.file scope units) all)

    read-same : (state : ReadState) (units : List UnitTree) → HoldAll state units → r.read_all text files words state units ≡ r.read_all text others words state units
    read-same state [] all = refl
    read-same state (unit ∷ units) all =
        read-same (r.after text files words state unit) units (rest-hold state unit units all)
        ∙ ap (λ next. r.read_all text others words next units) (after-same state unit (first-holds state unit units all))

    module _ (paths : List ℕ) where
      trees-same : (state : ReadState) (unit : UnitTree) (x : Tree) → AllByRecursion (Means state) (instances x) → Holds state unit → r.found_of text files words paths state unit x ≡ r.found_of text others words paths state unit x
      trees-same state unit x asks all =
          walk-same text (r.module_named text files words state) (r.module_named text others words state) (r.known_in text files words state unit) paths state.place.here.context x asks
          ∙ ap (λ known. walk text (record { named = r.module_named text others words state; known = known; paths = paths }) state.place.here.context x) (known-in state unit all)

      found-same : (state : ReadState) (unit : UnitTree) → Holds state unit → r.found_in text files words paths state unit ≡ r.found_in text others words paths state unit
      found-same state (Variables names) all = refl
      found-same state (Constants declarations) all = refl
      found-same state (OperatorDefinition local x) all = trees-same state (OperatorDefinition local x) x (asked state (instances x) all) all
      found-same state (FunctionDefinition local x) all = trees-same state (FunctionDefinition local x) x (asked state (instances x) all) all
      found-same state (ModuleDefinition local x) all = trees-same state (ModuleDefinition local x) x (asked state (instances x) all) all
      found-same state (Instance local x) all = λ k.
          trees-same state (Instance local x) x (asked state (instances x) all) all k ++ clash-same state x (asked state (instances x) all) k
      found-same state (Assumption word name x) all = trees-same state (Assumption word name x) x (asked state (instances x) all) all
      found-same state (Theorem word name x) all = trees-same state (Theorem word name x) x (asked state (instances x) all) all
      found-same state (Line dashes) all = refl
      found-same state (ModuleBegin dashes name extends) all =
          ap (λ z. (if m.is_named text state.place.here name then Taken name ∷ [] else []) ++ z) (clashing-same (m.nested text state.place.here name) extends (begun-asks state name extends all))
      found-same state (ModuleEnd closing) all = refl

      found-all-same : (state : ReadState) (units : List UnitTree) → HoldAll state units → r.found_from text files words paths state units ≡ r.found_from text others words paths state units
      found-all-same state [] all = refl
      found-all-same state (unit ∷ units) all =
          ap (λ z. r.found_in text files words paths state unit ++ z) (found-all-same (r.after text files words state unit) units (rest-hold state unit units all))
          ∙ (λ k. found-same state unit (first-holds state unit units all) k ++ r.found_from text others words paths (after-same state unit (first-holds state unit units all) k) units)

-- ---- modules

module _ (files others : List ℕ → ModuleView) (source : List ℕ) (units : ModuleUnits) (all : AllByRecursion (λ l. files (spelled source l) ≡ others (spelled source l)) (imports_of source units)) where
  abbrev read : Text
  read = text_of source units

  abbrev title : List ℕ
  title = spelled source units.name

  abbrev words : List ℕ
  words = r.words_of units

  abbrev Agrees : Lexeme → Type 0
  Agrees l = files (spelled source l) ≡ others (spelled source l)

  needs-extended : AllByRecursion Agrees units.extends
  needs-extended = all-left Agrees units.extends (imports_from source title (first title) units.units) all

  inside-units : AllByRecursion Agrees (imports_from source title (first title) units.units)
  inside-units = all-right Agrees units.extends (imports_from source title (first title) units.units) all

  extends-asked : AllByRecursion (Asks read files others (m.unread read).modules) units.extends
  extends-asked = all-weaker Agrees (Asks read files others (m.unread read).modules) (λ l same free. same) units.extends needs-extended

  begun-same : r.begun_state files source units ≡ r.begun_state others source units
  begun-same = ap (λ here. record { place = record { here = here; round = [] }; known = none_known }) (extends-same read files others (m.unread read) units.extends extends-asked)

  begun-means : AllByRecursion (Means read files others words (r.begun_state files source units)) units.extends
  begun-means =
      means-all read files others words (r.begun_state files source units) units.extends
      (subst (λ modules. AllByRecursion (Asks read files others modules) units.extends) (sym (extends-keep read files words (m.unread read) units.extends).modules) extends-asked)

  first-same : r.first files source units ≡ r.first others source units
  first-same =
      ap (r.with_known read files words (r.begun_state files source units)) (known-from-all read files others words (r.begun_state files source units) units.extends begun-means)
      ∙ ap (λ begun. r.with_known read others words begun (n.known_from_all read (r.module_named read others words begun) units.extends)) begun-same

  first-scope : scope_of (r.first files source units).place ≡ first title
  first-scope = ap (λ modules. record { here = forget modules; round = [] }) (extends-keep read files words (m.unread read) units.extends).modules

  units-hold : AllByRecursion Agrees (imports_from source title (scope_of (r.first files source units).place) units.units)
  units-hold = subst (λ scope. AllByRecursion Agrees (imports_from source title scope units.units)) (sym first-scope) inside-units

  last-same : r.last files source units ≡ r.last others source units
  last-same =
      read-same read files others words (r.first files source units) units.units units-hold
      ∙ ap (λ first. r.read_all read others words first units.units) first-same

  -- what is found
  pub findings-ask : r.findings files source units ≡ r.findings others source units
  findings-ask =
      let first : ReadState = r.first files source units in
      let paths : List ℕ = i.paths_in units.units in
      let clashing : List Finding = m.all_clashing read (exports_by files) (m.unread read) units.extends in
      ap (λ z. clashing ++ z) (found-all-same read files others words paths first units.units units-hold)
      ∙ (λ k. clashing-same read files others (m.unread read) units.extends extends-asked k ++ r.found_from read others words paths (first-same k) units.units)

  -- what it is to others
  pub outside-asks : r.outside_in files source units ≡ r.outside_in others source units
  outside-asks =
      ap (λ (state : ReadState). record { entries = entries_from state.known (exports_of state.place.here.exports); parameters = parameters_in (exports_of state.place.here.exports) }) last-same
