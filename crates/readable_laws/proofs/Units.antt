-- The units of an accepted module can be read.
use Rattle.std.proofs.Common.{◌≡◌, ℕ, List, [], ◌∷◌, ◌++◌, false, Option, Some, None, refl, sym, ap, subst, ◌∙◌, append_assoc, arith}
use Rattle.std.specs.List.{AllByRecursion}
use Rattle.list_laws.proofs.Lists.{all-both, all-left, all-right}
use Rattle.tla_symbols.specs.declared.lexeme.Lexeme.{Lexeme}
use Rattle.tla_symbols.specs.declared.lexeme.Span.{Span}
use Rattle.tla_tree.specs.declared.form.Form.TheVariants as Form
use Rattle.tla_tree.specs.Derivation.{Derives, DerivesDefinition, DerivesInstance}
use Rattle.tla_tree.specs.Syntax.{Tree, Trees, Node, Nil, Cons}
use Rattle.unit_grammar.specs.Derivation as u
use Rattle.unit_grammar.specs.Units.{UnitTree, Variables, Constants, OperatorDefinition, FunctionDefinition, ModuleDefinition, Instance, Assumption, Theorem, Line, ModuleBegin, ModuleEnd, ModuleUnits, defined as defined_unit}
use Rattle.tla_model.specs.declared.names.Finding.TheVariants.{Means, Implied}
use Rattle.tla_model.specs.Contexts.{Context}
use Rattle.tla_model.specs.Entities.{Text}
use Rattle.tla_model.specs.Lexemes.{module_lexemes}
use Rattle.tla_model.specs.Scopes.{Finding}
use Rattle.module_model.specs.Bindings.{faults, implied}
use Rattle.module_model.specs.Exports.{Known, ModuleView, exports_by}
use Rattle.module_model.specs.Instances.{instance_among, paths_in, unit_trees}
use Rattle.module_model.specs.Modules.{all_clashing, text_of, unread}
use Rattle.module_model.specs.Resolution.{ReadState, after, clash_by, findings, first, found_from, found_in, found_of, known_in, module_named, read_all, words_of}
use Rattle.module_model.specs.TreeFindings.{walk}
use Rattle.front_laws.specs.Fronts.{IsFront, Tree as TreeFront, read, whole}
use Rattle.tree_kinds.specs.Expanding.{places_at}
use Rattle.tree_kinds.specs.Standing.{Outside}
use Rattle.arity_rules.specs.Arities.{all_unit_faults, implied_faults, meaning, tree_faults, unit_faults}
use Rattle.arity_rules.specs.declared.place.Due.TheVariants as due
use Rattle.flattened_trees.specs.Leads.{FlatFace}
use Rattle.flattened_trees.specs.Readable.{IsKnownBehind, IsReadable, IsReadableDefinition}
use Rattle.lexeme_laws.specs.Apart.{BeginApart, begins_at}
use Rattle.readable_laws.specs.Accepted.{AreAcceptedAmong, AreAcceptedIn, AreSound, IsAccepted, IsAcceptedAmong, IsAcceptedForm, IsAcceptedUnit, IsPart, TakePlaces}
use Rattle.readable_laws.specs.ReadUnits.{AreKnownAmong, AreKnownIn, IsAcceptedModule, IsReadableUnit}
use Rattle.readable_laws.specs.StandIns.{AreAllFilled, AreFilled}
use Rattle.readable_laws.specs.Steady.{IsSteady}
use Rattle.readable_laws.specs.Uses.{IsSound, implied_by, means_by}
use Rattle.readable_laws.proofs.Accepting.{definition-reads, expression-reads, instance-reads}
use Rattle.readable_laws.proofs.Counts.{module-few}
use Rattle.readable_laws.proofs.Filling.{unit-fills}
use Rattle.readable_laws.proofs.Fitting.{module-fits}
use Rattle.readable_laws.proofs.Orders.{first-empty, rest-empty}
use Rattle.readable_laws.proofs.Steadiness.{UnitFits, all-steady, first-steady, known-steady}

-- ---- what was found

-- findings of no fault are sound
all-sound : (found : List Finding) → faults found ≡ [] → AllByRecursion IsSound found
all-sound [] none = tt
all-sound (Means l m ∷ rest) none = (tt, all-sound rest none)
all-sound (Implied l p m ∷ rest) none = (tt, all-sound rest none)
all-sound (_ ∷ rest) none = absurd (cc)

-- what stands in a row in a part does so in the whole
left-part : (a b all : List Finding) → IsPart (a ++ b) all → IsPart a all
left-part a b all part = record {
  before = part.before;
  behind = b ++ part.behind;
  whole = part.whole ∙ (ap (λ fs. fs ++ part.behind) (sym (append_assoc part.before a b)) ∙ append_assoc (part.before ++ a) b part.behind);
}

behind-part : (a b part : List Finding) → IsPart part b → IsPart part (a ++ b)
behind-part a b part is = record {
  before = a ++ is.before;
  behind = is.behind;
  whole = ap (λ fs. a ++ fs) is.whole ∙ (sym (append_assoc a (is.before ++ part) is.behind) ∙ ap (λ fs. fs ++ is.behind) (sym (append_assoc a is.before part)));
}

module _ (text : Text) (files : List ℕ → ModuleView) (words paths : List ℕ) where
  unit-part : (state : ReadState) (before : List UnitTree) (unit : UnitTree) (behind : List UnitTree) → IsPart (found_in text files words paths (read_all text files words state before) unit) (found_from text files words paths state (before ++ unit ∷ behind))
  unit-part state [] unit behind = record { before = []; behind = found_from text files words paths (after text files words state unit) behind; whole = refl }
  unit-part state (other ∷ before) unit behind =
      behind-part (found_in text files words paths state other) (found_from text files words paths (after text files words state other) (before ++ unit ∷ behind))
      (found_in text files words paths (read_all text files words (after text files words state other) before) unit) (unit-part (after text files words state other) before unit behind)

unit-orderly : (found : List Finding) (before : List UnitTree) (unit : UnitTree) (behind : List UnitTree) → all_unit_faults (meaning found) (before ++ unit ∷ behind) ≡ [] → unit_faults (meaning found) unit ≡ []
unit-orderly found [] unit behind none = first-empty (unit_faults (meaning found) unit) (all_unit_faults (meaning found) behind) none
unit-orderly found (other ∷ before) unit behind none = unit-orderly found before unit behind (rest-empty (unit_faults (meaning found) other) (all_unit_faults (meaning found) (before ++ unit ∷ behind)) none)

-- ---- INSTANCEs

module _ (text : Text) (known : Known) (named : List ℕ → Outside) (found : List Finding) (faces : List ℕ → FlatFace) where
  abbrev views : List ℕ → ModuleView
  views name = (named name).view

  abbrev known_among : Trees → Type 0
  known_among xs = AreKnownAmong text known named (means_by found) (implied_by found) faces xs

  among-accepted : (own : Lexeme) (parts : Trees) → IsKnownBehind text known named (means_by found) (implied_by found) faces own (instance_among parts) → known_among parts → AreAllFilled text views found parts → IsAcceptedAmong text known named found faces own parts
  among-accepted own Nil is all filled = tt
  among-accepted own (Cons (Node (Form.Instance l) s rights) rest) is all filled = (is, record { face = all.0.0; stand_in = filled.0.0 })
  among-accepted own (Cons (Node Form.Let s parts) rest) is all filled = among-accepted own rest is all.1 filled.1
  among-accepted own (Cons (Node _ s parts) rest) is all filled = among-accepted own rest is all.1 filled.1

  form-accepted : (f : Form.the_data) (s : Span) (parts : Trees) → AreKnownIn text known named (means_by found) (implied_by found) faces (Node f s parts) → AreAllFilled text views found parts → IsAcceptedForm text known named found faces f parts
  form-accepted (Form.ModuleDefinition own) s parts all filled = among-accepted own parts all.0 all.1 filled
  form-accepted Form.Let s parts all filled = tt
  form-accepted _ s parts all filled = tt

  mutual
    tree-accepted : (x : Tree) → AreKnownIn text known named (means_by found) (implied_by found) faces x → AreFilled text views found x → AreAcceptedIn text known named found faces x
    tree-accepted (Node f s parts) all filled = (form-accepted f s parts all filled.1, trees-accepted parts all.1 filled.1)

    trees-accepted : (xs : Trees) → known_among xs → AreAllFilled text views found xs → AreAcceptedAmong text known named found faces xs
    trees-accepted Nil all filled = tt
    trees-accepted (Cons x rest) all filled = (tree-accepted x all.0 filled.0, trees-accepted rest all.1 filled.1)

  unit-accepted : (x : Tree) → AreKnownIn text known named (means_by found) (implied_by found) faces x → AreFilled text views found x → IsAcceptedUnit text known named found faces x
  unit-accepted (Node (Form.Instance l) s rights) all filled = record { face = all.0; stand_in = filled.0 }
  unit-accepted (Node Form.Let s parts) all filled = tt
  unit-accepted (Node _ s parts) all filled = tt

-- ---- derivations

-- the tree of a unit derives its lexemes
abbrev UnitDerives : UnitTree → Type 0
UnitDerives (OperatorDefinition local x) = (a : List Lexeme) × (i : ℕ) × (o : Option Lexeme) × DerivesDefinition x a i o
UnitDerives (FunctionDefinition local x) = (a : List Lexeme) × (i : ℕ) × (o : Option Lexeme) × DerivesDefinition x a i o
UnitDerives (ModuleDefinition local x) = (a : List Lexeme) × (i : ℕ) × (o : Option Lexeme) × DerivesDefinition x a i o
UnitDerives (Instance local x) = (a : List Lexeme) × (i : ℕ) × (o : Option Lexeme) × DerivesInstance x a i o
UnitDerives (Assumption word name x) = (a : List Lexeme) × (i : ℕ) × (o : Option Lexeme) × Derives x a i o
UnitDerives (Theorem word name x) = (a : List Lexeme) × (i : ℕ) × (o : Option Lexeme) × Derives x a i o
UnitDerives unit = Unit {0}

definition-derives : (local : Option Lexeme) (x : Tree) → ((a : List Lexeme) × (i : ℕ) × (o : Option Lexeme) × DerivesDefinition x a i o) → UnitDerives (defined_unit local x)
definition-derives local (Node (Form.FunctionDefinition n) s parts) d = d
definition-derives local (Node (Form.ModuleDefinition n) s parts) d = d
definition-derives local (Node _ s parts) d = d

mutual
  unit-derives : {units : List UnitTree} {a : List Lexeme} {t : Lexeme} → u.DerivesUnit units a t → AllByRecursion UnitDerives units
  unit-derives (u.variables k ns) = (tt, tt)
  unit-derives (u.constants k ds) = (tt, tt)
  unit-derives (u.definition {before = local} {x = x} {b = b} {next = t} l y) = (definition-derives local x (b, 0, Some t, y), tt)
  unit-derives (u.instance {b = b} {next = t} l x) = ((b, 0, Some t, x), tt)
  unit-derives (u.assumption {next = t} {a = a} k x) = ((a, 0, Some t, x), tt)
  unit-derives (u.theorem {next = t} {a = a} k x) = ((a, 0, Some t, x), tt)
  unit-derives (u.line k m) = (tt, tt)
  unit-derives (u.nested {units = units} e k us m) = (tt, all-both UnitDerives units (ModuleEnd e ∷ []) (units-derive us) (tt, tt))

  units-derive : {units : List UnitTree} {a : List Lexeme} {t : Lexeme} → u.DerivesUnits units a t → AllByRecursion UnitDerives units
  units-derive u.no_units = tt
  units-derive (u.more_units {unit = unit} {units = units} y ys) = all-both UnitDerives unit units (unit-derives y) (units-derive ys)

module-derives : {found : ModuleUnits} {a : List Lexeme} → u.DerivesModule found a → AllByRecursion UnitDerives found.units
module-derives (u.outermost c k us m) = units-derive us

-- ---- units

module _ (text : Text) (files : List ℕ → ModuleView) (words paths : List ℕ) (named : List ℕ → Outside) (found : List Finding) (faces : List ℕ → FlatFace) (state : ReadState)
    (same : (name : List ℕ) → (named name).view ≡ module_named text files words state name) (places : TakePlaces state.place.here.context) where
  abbrev context : Context
  context = state.place.here.context

  -- what is known in a unit
  abbrev known : UnitTree → Known
  known unit = known_in text files words state unit

  -- the tree of a unit is accepted
  unit-tree : (unit : UnitTree) (x : Tree) → IsPart (found_of text files words paths state unit x) found → tree_faults (meaning found) due.Expression false x ++ [] ≡ [] → AreKnownIn text (known unit) named (means_by found) (implied_by found) faces x → AreFilled text (λ name. (named name).view) found x
      → IsAccepted text (known unit) named found faces paths context due.Expression false x
  unit-tree unit x part none all filled =
      let view_is : module_named text files words state ≡ (λ name. (named name).view) = λ i name. sym (same name) i in
      record {
        places = places;
        found_in = subst (λ (views : List ℕ → ModuleView). IsPart (walk text (record { named = views; known = known unit; paths = paths }) context x) found) view_is part;
        orderly = first-empty (tree_faults (meaning found) due.Expression false x) [] none;
        instances = tree-accepted text (known unit) named found faces x all filled;
      }

  abbrev Ready : UnitTree → Type 0
  Ready unit =
      (AreSound (known unit) found) × (IsPart (found_in text files words paths state unit) found) × (unit_faults (meaning found) unit ≡ []) × (AreKnownAmong text (known unit) named (means_by found) (implied_by found) faces (unit_trees unit))
      × (AreAllFilled text (λ name. (named name).view) found (unit_trees unit))

  definition-unit : (unit : UnitTree) (x : Tree) → ((a : List Lexeme) × (i : ℕ) × (o : Option Lexeme) × DerivesDefinition x a i o) → AreSound (known unit) found → IsAccepted text (known unit) named found faces paths context due.Expression false x
      → IsReadableDefinition text (known unit) named (means_by found) (implied_by found) faces context x
  definition-unit unit x derives sound is = definition-reads text (known unit) named paths found faces context false x derives.0 derives.1 derives.2 derives.3 sound is

  expression-unit : (unit : UnitTree) (x : Tree) → ((a : List Lexeme) × (i : ℕ) × (o : Option Lexeme) × Derives x a i o) → AreSound (known unit) found → IsAccepted text (known unit) named found faces paths context due.Expression false x
      → IsReadable text (known unit) named (means_by found) (implied_by found) faces context x × (places_at text (known unit) named context x ≡ None)
  expression-unit unit x derives sound is = expression-reads text (known unit) named paths found faces context 0 (record { start = 0; end = 0 }) false x derives.0 derives.1 derives.2 derives.3 sound is

  read-unit : (unit : UnitTree) → UnitDerives unit → Ready unit → IsReadableUnit text (known unit) named (means_by found) (implied_by found) faces context unit
  read-unit (OperatorDefinition local x) derives is = definition-unit (OperatorDefinition local x) x derives is.0 (unit-tree (OperatorDefinition local x) x is.1 is.2 is.3.0 is.4.0)
  read-unit (FunctionDefinition local x) derives is = definition-unit (FunctionDefinition local x) x derives is.0 (unit-tree (FunctionDefinition local x) x is.1 is.2 is.3.0 is.4.0)
  read-unit (ModuleDefinition local x) derives is = definition-unit (ModuleDefinition local x) x derives is.0 (unit-tree (ModuleDefinition local x) x is.1 is.2 is.3.0 is.4.0)
  read-unit (Instance local x) derives is =
      let unit = Instance local x in
      let part = left-part (found_of text files words paths state unit x) (clash_by text files words state x) found is.1 in
      instance-reads text (known unit) named paths found faces context false x derives.0 derives.1 derives.2 derives.3 is.0 (unit-tree unit x part is.2 is.3.0 is.4.0) (unit-accepted text (known unit) named found faces x is.3.0 is.4.0)
  read-unit (Assumption word name x) derives is = expression-unit (Assumption word name x) x derives is.0 (unit-tree (Assumption word name x) x is.1 is.2 is.3.0 is.4.0)
  read-unit (Theorem word name x) derives is = expression-unit (Theorem word name x) x derives is.0 (unit-tree (Theorem word name x) x is.1 is.2 is.3.0 is.4.0)
  read-unit (Variables names) derives is = tt
  read-unit (Constants declarations) derives is = tt
  read-unit (Line dashes) derives is = tt
  read-unit (ModuleBegin dashes name extends) derives is = tt
  read-unit (ModuleEnd closing) derives is = tt

-- ---- modules

module _ (files : List ℕ → ModuleView) (source : List ℕ) (units : ModuleUnits) (named : List ℕ → Outside) (faces : List ℕ → FlatFace) where
  abbrev here : Text
  here = text_of source units

  abbrev all_found : List Finding
  all_found = findings files source units

  -- where a unit behind these is read
  abbrev at : List UnitTree → ReadState
  at before = read_all here files (words_of units) (first files source units) before

  pub unit-reads : (a : List Lexeme) (before : List UnitTree) (unit : UnitTree) (behind : List UnitTree) → u.DerivesModule units a → BeginApart (module_lexemes units) → IsAcceptedModule files source units → units.units ≡ before ++ unit ∷ behind
      → ((name : List ℕ) → (named name).view ≡ module_named here files (words_of units) (at before) name)
      → AreKnownAmong here (known_in here files (words_of units) (at before) unit) named (means_by all_found) (implied_by all_found) faces (unit_trees unit)
      → IsReadableUnit here (known_in here files (words_of units) (at before) unit) named (means_by all_found) (implied_by all_found) faces (at before).place.here.context unit
  unit-reads a before unit behind derives apart is split same all =
      let words = words_of units in
      let paths = paths_in units.units in
      let state = at before in
      let begun = first files source units in
      let fits = subst (AllByRecursion UnitFits) split (module-fits derives) in
      let steady : IsSteady state = all-steady here files words is.steady begun before (all-left UnitFits before (unit ∷ behind) fits) (first-steady files source units is.steady) in
      let own = all-right UnitDerives before (unit ∷ behind) (subst (AllByRecursion UnitDerives) split (module-derives derives)) in
      let faulty = all_unit_faults (meaning all_found) units.units in
      let sound : AreSound (known_in here files words state unit) all_found = record {
        sound = all-sound all_found is.names;
        apart = λ start. omega (arith, module-few (begins_at start) files source units, apart start);
        declared = is.declared;
        orderly = rest-empty faulty (implied_faults (implied all_found)) is.arities;
        behind = known-steady here files words is.steady state unit steady;
      } in
      let clashing = all_clashing here (exports_by files) (unread here) units.extends in
      let row = subst (λ us. IsPart (found_in here files words paths state unit) (found_from here files words paths begun us)) (sym split) (unit-part here files words paths begun before unit behind) in
      let part = behind-part clashing (found_from here files words paths begun units.units) (found_in here files words paths state unit) row in
      let orderly = unit-orderly all_found before unit behind (subst (λ us. all_unit_faults (meaning all_found) us ≡ []) split (first-empty faulty (implied_faults (implied all_found)) is.arities)) in
      let view_is : module_named here files words state ≡ (λ name. (named name).view) = λ i name. sym (same name) i in
      let filled = subst (λ (views : List ℕ → ModuleView). AreAllFilled here views all_found (unit_trees unit)) view_is (unit-fills files source units before unit behind apart split) in
      read-unit here files words paths named all_found faces state same steady.here.context unit own.0 (sound, part, orderly, all, filled)

pub front-derives : (name bytes : List ℕ) (units : ModuleUnits) → IsFront name bytes (TreeFront units) → (a : List Lexeme) × u.DerivesModule units a
front-derives name bytes units (read {lexemes = lexemes} r l m (whole d h s)) = (lexemes, d)
