-- What stands behind the names of instances is known at the units that name them.
use Rattle.std.proofs.Common.{◌≡◌, ◌≤◌, ◌+◌, ℕ, Bool, true, false, cond, List, [], ◌∷◌, ◌++◌, Option, Some, None, refl, sym, ap, subst, ◌∙◌, map, arith}
use Rattle.std.specs.Option.{option_or}
use Rattle.std.specs.List.{AllByRecursion}
use Rattle.std.specs.Str.{bytes_eq}
use Rattle.std.proofs.lemmas.Bool.{eq-eqb, false≢true}
use Rattle.list_laws.proofs.Texts.{text-itself}
use Rattle.list_laws.proofs.Lists.{all-left, all-right, all-weaker}
use Rattle.tla_symbols.specs.declared.lexeme.Lexeme.{Lexeme}
use Rattle.tla_symbols.specs.declared.lexeme.Span.{Span}
use Rattle.tla_tree.specs.declared.form.Form.TheVariants as Form
use Rattle.tla_tree.specs.Syntax.{Tree, Trees, Node, Nil, Cons}
use Rattle.unit_grammar.specs.Units.{UnitTree, Variables, Constants, OperatorDefinition, FunctionDefinition, ModuleDefinition, Instance, Assumption, Theorem, Line, ModuleBegin, ModuleEnd, ModuleUnits}
use Rattle.tla_model.specs.declared.ids.DeclId.{DeclId}
use Rattle.tla_model.specs.declared.ids.UnitId.{UnitId}
use Rattle.tla_model.specs.declared.names.Binder.{Binder}
use Rattle.tla_model.specs.declared.names.Meaning.TheVariants.{BuiltIn, Declared}
use Rattle.tla_model.specs.Tables.{Named}
use Rattle.tla_model.specs.Entities.{Meaning, Text, declaration, declared_by, declaring, place_in, same_decl}
use Rattle.tla_model.specs.Lexemes.{spelled}
use Rattle.tla_model.specs.Same.{decl-equal, decl-itself}
use Rattle.module_model.specs.Exports.{Behind, Exports, Known, ModuleView, and_known, behind_instance, exported, is_instance, known_among, known_as, known_by, none_known, onward}
use Rattle.module_model.specs.Instances.{all_named_instances, instance_among, named_instance, named_instances, through, unit_trees}
use Rattle.module_model.specs.Modules.{text_of}
use Rattle.module_model.specs.NamedModules.{behind_named, exported_known, known_from_all, known_named, view_of}
use Rattle.module_model.specs.Resolution.{ReadState, after, begun_state, first, inside_nested, known_brought, known_in, module_named, read_all, words_of}
use Rattle.tree_kinds.specs.Standing.{Outside}
use Rattle.flat_kinds.specs.Declarations.{declared_names}
use Rattle.flattened_meanings.specs.Faces.{NameModules, NamesModules}
use Rattle.flattened_trees.specs.Leads.{FlatFace}
use Rattle.flattened_trees.specs.Readable.{IsKnownBehind}
use Rattle.lexeme_laws.specs.Apart.{begins_at, counted}
use Rattle.readable_laws.specs.ReadUnits.{AreKnownAmong, AreKnownIn, IsKnownForm}
use Rattle.readable_laws.specs.Steady.{state_behind}
use Rattle.accepted_modules.specs.Behind.{IsForeign, IsForeignView}
use Rattle.accepted_modules.specs.Faces.{ReadsAs}
use Rattle.accepted_modules.specs.Named.{AllNamed}
use Rattle.accepted_modules.proofs.Holding.{HoldsPlace, Own, after-holds, first-holds, module-says, nothing-holds}
use Rattle.accepted_modules.proofs.Instanced.{HasInstance, HasInstances, HaveInstances}
use Rattle.accepted_modules.proofs.Starts.{declaring-append, each-counts, instances-few, named-append, names-few, names_in, names_of, others-begin, same-start}

-- ---- declarations of the names before a unit

module _ (text : Text) (names : List Lexeme) where
  -- one of these names begins here
  abbrev Begins : ℕ → Type 0
  Begins start = 1 ≤ counted (begins_at start) names

  -- a declaration of the text is one of these names
  abbrev IsBefore : DeclId → Type 0
  IsBefore decl = bytes_eq decl.«module» text.file ≡ true → (start : ℕ) × Begins start × (decl.place ≡ place_in text.starts start)

  -- so is that of what a name means
  abbrev MeansBefore : Named → Meaning → Type 0
  MeansBefore name BuiltIn = Unit {0}
  MeansBefore name (Declared e callee) = IsBefore callee.decl

  passes : (unit : UnitId) (name : Named) (m : Meaning) → MeansBefore name m → MeansBefore name (through unit m)
  passes unit name BuiltIn is = tt
  passes unit name (Declared e callee) is = is

  foreign-before : (name : Named) (m : Meaning) → IsForeign text.file name m → MeansBefore name m
  foreign-before name BuiltIn other = tt
  foreign-before name (Declared e callee) other = λ own. absurd (false≢true (sym other ∙ own))

  all-before : (entries : Exports) → AllByRecursion (λ entry. IsForeign text.file entry.0 entry.1) entries → AllByRecursion (λ entry. MeansBefore entry.0 entry.1) entries
  all-before entries all = all-weaker (λ entry. IsForeign text.file entry.0 entry.1) (λ entry. MeansBefore entry.0 entry.1) (λ entry one. foreign-before entry.0 entry.1 one) entries all

  view-before : (view : ModuleView) → IsForeignView text.file view → AllNamed MeansBefore view
  view-before view is = record { entries = all-before (exported view) is.entries; parameters = all-before view.parameters is.parameters; once = is.once }

  own-before : (l : Lexeme) (decl : DeclId) → Begins l.span.start → decl ≡ declaration text l → IsBefore decl
  own-before l decl begins is own = (l.span.start, begins, ap (λ (d : DeclId). d.place) is)

  -- ---- what is known before a unit

  abbrev IsKnownBefore : Known → Type 0
  IsKnownBefore known = (decl : DeclId) (held : Behind) → known decl ≡ Some held → IsBefore decl

  none-before : IsKnownBefore none_known
  none-before decl held at = absurd (cc)

  both-before : (a b : Known) → IsKnownBefore a → IsKnownBefore b → IsKnownBefore (and_known a b)
  both-before a b is also decl held at = by (a decl) refl at
    where
      by : (o : Option Behind) → a decl ≡ o → option_or o (b decl) ≡ Some held → IsBefore decl
      by None e at = also decl held at
      by (Some found) e at = is decl held (e ∙ at)

  as-before : (instance : DeclId) (behind : Behind) → IsBefore instance → IsKnownBefore (known_as instance behind)
  as-before instance behind is decl held at = by (same_decl decl instance) refl at
    where
      by : (b : Bool) → same_decl decl instance ≡ b → cond b (Some behind) None ≡ Some held → IsBefore decl
      by true same at = subst IsBefore (sym (decl-equal decl instance same)) is
      by false same at = absurd (cc at)

  among-before : (view : ModuleView) (entries : Exports) → AllByRecursion (λ entry. MeansBefore entry.0 entry.1) entries → IsKnownBefore (known_among view entries)
  among-before view [] all = none-before
  among-before view ((name, m) ∷ rest) all = both-before (known_by (onward view.entries name) m) (known_among view rest) (by m all.0) (among-before view rest all.1)
    where
      by : (m : Meaning) → MeansBefore name m → IsKnownBefore (known_by (onward view.entries name) m)
      by BuiltIn is = none-before
      by (Declared e callee) is = kind (is_instance e)
        where
          kind : (b : Bool) → IsKnownBefore (cond b (known_as callee.decl (onward view.entries name)) none_known)
          kind true = as-before callee.decl (onward view.entries name) is
          kind false = none-before

  named-before : (named : List ℕ → ModuleView) (instances : List (Lexeme × Option Lexeme)) → AllByRecursion (λ l. Begins l.span.start) (names_in instances) → IsKnownBefore (known_named text named instances)
  named-before named [] all = none-before
  named-before named (instance ∷ rest) all =
      both-before (known_as (declaration text instance.0) (behind_named text named instance.1)) (known_named text named rest)
      (as-before (declaration text instance.0) (behind_named text named instance.1) (own-before instance.0 (declaration text instance.0) all.0 refl)) (named-before named rest all.1)

  -- the names of a unit are among those
  record IsUnitBefore (unit : UnitTree) : Type 0 where
    declared : AllByRecursion (λ l. Begins l.span.start) (names_of (declared_names unit))
    instances : AllByRecursion (λ l. Begins l.span.start) (names_in (all_named_instances (unit_trees unit)))

  module _ (files : List ℕ → ModuleView) (words : List ℕ) (given : (name : List ℕ) → AllNamed MeansBefore (files name)) where
    view-holds : (state : ReadState) (name : List ℕ) → HoldsPlace MeansBefore state.place → AllNamed MeansBefore (module_named text files words state name)
    view-holds state name is = module-says (AllNamed MeansBefore) files state.place.here.modules name (nothing-holds MeansBefore) given is.0.modules

    from-before : (state : ReadState) (ls : List Lexeme) → HoldsPlace MeansBefore state.place → IsKnownBefore (known_from_all text (module_named text files words state) ls)
    from-before state [] is = none-before
    from-before state (l ∷ rest) is =
        let view : ModuleView = module_named text files words state (spelled text.source l) in
        both-before (exported_known view) (known_from_all text (module_named text files words state) rest) (among-before view (exported view) (view-holds state (spelled text.source l) is).entries) (from-before state rest is)

    brought-before : (state : ReadState) (x : Tree) → HoldsPlace MeansBefore state.place → IsKnownBefore (known_brought text files words state x)
    brought-before state (Node (Form.Instance l) s parts) is =
        let view : ModuleView = view_of text (module_named text files words state) l in
        among-before view (exported view) (view-holds state (spelled text.source l) is).entries
    brought-before state (Node Form.Let s parts) is = none-before
    brought-before state (Node _ s parts) is = none-before

    own-names : (binders : List Binder) → AllByRecursion (λ l. Begins l.span.start) (names_of binders) → AllByRecursion (Own MeansBefore text) binders
    own-names [] all = tt
    own-names (binder ∷ rest) all = ((λ none own. (binder.name.span.start, all.0, refl)), own-names rest all.1)

    unit-before : (state : ReadState) (unit : UnitTree) → IsUnitBefore unit → IsKnownBefore state.known → IsKnownBefore (known_in text files words state unit)
    unit-before state unit own is =
        both-before state.known (known_named text (module_named text files words state) (all_named_instances (unit_trees unit))) is (named-before (module_named text files words state) (all_named_instances (unit_trees unit)) own.instances)

    after-before : (state : ReadState) (unit : UnitTree) → IsUnitBefore unit → HoldsPlace MeansBefore state.place → HoldsPlace MeansBefore (after text files words state unit).place → IsKnownBefore state.known → IsKnownBefore (after text files words state unit).known
    after-before state (Instance local x) own holds next is =
        both-before (known_in text files words state (Instance local x)) (known_brought text files words state x) (unit-before state (Instance local x) own is) (brought-before state x holds)
    after-before state (ModuleBegin dashes name extends) own holds next is =
        both-before state.known (known_from_all text (module_named text files words (inside_nested text files words state name extends)) extends) is (from-before (inside_nested text files words state name extends) extends next)
    after-before state (ModuleEnd closing) own holds next is = is
    after-before state (Variables names) own holds next is = unit-before state (Variables names) own is
    after-before state (Constants declarations) own holds next is = unit-before state (Constants declarations) own is
    after-before state (OperatorDefinition local x) own holds next is = unit-before state (OperatorDefinition local x) own is
    after-before state (FunctionDefinition local x) own holds next is = unit-before state (FunctionDefinition local x) own is
    after-before state (ModuleDefinition local x) own holds next is = unit-before state (ModuleDefinition local x) own is
    after-before state (Assumption word name x) own holds next is = unit-before state (Assumption word name x) own is
    after-before state (Theorem word name x) own holds next is = unit-before state (Theorem word name x) own is
    after-before state (Line dashes) own holds next is = unit-before state (Line dashes) own is

    all-known : (state : ReadState) (units : List UnitTree) → AllByRecursion IsUnitBefore units → HoldsPlace MeansBefore state.place → IsKnownBefore state.known → IsKnownBefore (read_all text files words state units).known
    all-known state [] own holds is = is
    all-known state (unit ∷ units) own holds is =
        let next : ReadState = after text files words state unit in
        let there : HoldsPlace MeansBefore next.place = after-holds MeansBefore text files words passes given state unit (own-names (declared_names unit) own.0.declared) holds in
        all-known next units own.1 there (after-before state unit own.0 holds there is)

-- ---- a unit

-- all of two
all-zip : {A : Type 0} (P Q R : A → Type 0) → ((x : A) → P x → Q x → R x) → (xs : List A) → AllByRecursion P xs → AllByRecursion Q xs → AllByRecursion R xs
all-zip P Q R zip [] all others = tt
all-zip P Q R zip (x ∷ xs) all others = (zip x all.0 others.0, all-zip P Q R zip xs all.1 others.1)

unmapped : {A B : Type 0} (f : A → B) (P : B → Type 0) (xs : List A) → AllByRecursion P (map f xs) → AllByRecursion (λ x. P (f x)) xs
unmapped f P [] all = tt
unmapped f P (x ∷ xs) all = (all.0, unmapped f P xs all.1)

module _ (source : List ℕ) (units : ModuleUnits) (apart : (start : ℕ) → counted (begins_at start) (names_of (declaring units.units)) ≤ 1) where
  abbrev own_text : Text
  own_text = text_of source units

  -- a name of the module begins here
  abbrev IsOwn : ℕ → Type 0
  IsOwn start = 1 ≤ counted (begins_at start) (names_of (declaring units.units))

  -- names that begin elsewhere have other declarations
  declared-apart : (a b : Lexeme) → IsOwn a.span.start → IsOwn b.span.start → begins_at b.span.start a ≡ false → same_decl (declaration own_text a) (declaration own_text b) ≡ false
  declared-apart a b one two other = by (same_decl (declaration own_text a) (declaration own_text b)) refl
    where
      by : (t : Bool) → same_decl (declaration own_text a) (declaration own_text b) ≡ t → t ≡ false
      by false same = refl
      by true same =
          let places : place_in own_text.starts a.span.start ≡ place_in own_text.starts b.span.start = ap (λ (d : DeclId). d.place) (decl-equal (declaration own_text a) (declaration own_text b) same) in
          let starts : a.span.start ≡ b.span.start = same-start (declaring units.units) a.span.start b.span.start one two places in
          absurd (false≢true (sym other ∙ eq-eqb a.span.start b.span.start starts))

  -- behind each of the instances that a unit names is what is said of it
  abbrev IsNamedAs : (List ℕ → ModuleView) → List (Lexeme × Option Lexeme) → Lexeme × Option Lexeme → Type 0
  IsNamedAs named instances instance = known_named own_text named instances (declaration own_text instance.0) ≡ Some (behind_named own_text named instance.1)

  named-known : (named : List ℕ → ModuleView) (instances : List (Lexeme × Option Lexeme)) → AllByRecursion (λ l. IsOwn l.span.start) (names_in instances) → ((start : ℕ) → counted (begins_at start) (names_in instances) ≤ 1)
      → AllByRecursion (IsNamedAs named instances) instances
  named-known named [] all few = tt
  named-known named (instance ∷ rest) all few = (
    ap (λ b. option_or (cond b (Some (behind_named own_text named instance.1)) None) (known_named own_text named rest (declaration own_text instance.0))) (decl-itself (declaration own_text instance.0)),
    all-zip (λ other. IsOwn other.0.span.start × (begins_at instance.0.span.start other.0 ≡ false)) (IsNamedAs named rest) (IsNamedAs named (instance ∷ rest)) later rest
        (all-zip (λ (other : Lexeme × Option Lexeme). IsOwn other.0.span.start) (λ (other : Lexeme × Option Lexeme). begins_at instance.0.span.start other.0 ≡ false) (λ (other : Lexeme × Option Lexeme). IsOwn other.0.span.start × (begins_at instance.0.span.start other.0 ≡ false)) (λ other one two. (one, two)) rest
        (unmapped (λ (other : Lexeme × Option Lexeme). other.0) (λ (l : Lexeme). IsOwn l.span.start) rest all.1)
        (unmapped (λ (other : Lexeme × Option Lexeme). other.0) (λ (l : Lexeme). begins_at instance.0.span.start l ≡ false) rest (others-begin instance.0 (names_in rest) (few instance.0.span.start))))
        (named-known named rest all.1 (λ start. omega (arith, few start))),
  )
    where
      later : (other : Lexeme × Option Lexeme) → IsOwn other.0.span.start × (begins_at instance.0.span.start other.0 ≡ false) → IsNamedAs named rest other → IsNamedAs named (instance ∷ rest) other
      later other own is =
          ap (λ b. option_or (cond b (Some (behind_named own_text named instance.1)) None) (known_named own_text named rest (declaration own_text other.0))) (declared-apart other.0 instance.0 own.0 all.0 own.1) ∙ is

  -- ---- a unit behind those before it

  module _ (files : List ℕ → ModuleView) (foreign : (name : List ℕ) → IsForeignView (text_of source units).file (files name)) (before : List UnitTree) (unit : UnitTree) (behind : List UnitTree) (split : units.units ≡ before ++ unit ∷ behind) where
    abbrev earlier : List Lexeme
    earlier = names_of (declaring before)

    -- the names before it and its own are those of the module
    unit-few : (start : ℕ) → counted (begins_at start) earlier + counted (begins_at start) (names_of (declared_by unit)) ≤ counted (begins_at start) (names_of (declaring units.units))
    unit-few start =
        subst (λ us. counted (begins_at start) earlier + counted (begins_at start) (names_of (declared_by unit)) ≤ counted (begins_at start) (names_of (declaring us))) (sym split)
        (omega (arith, declaring-append (begins_at start) before (unit ∷ behind), declared-append start))
      where
        declared-append : (start : ℕ) → counted (begins_at start) (names_of (declared_by unit)) ≤ counted (begins_at start) (names_of (declaring (unit ∷ behind)))
        declared-append start = omega (arith, named-append (begins_at start) (declared_by unit) (declaring behind))

    units-before : (all us : List UnitTree) → ((start : ℕ) → counted (begins_at start) (names_of (declaring us)) ≤ counted (begins_at start) (names_of (declaring all))) → AllByRecursion (IsUnitBefore own_text (names_of (declaring all))) us
    units-before all [] few = tt
    units-before all (u ∷ us) few = (
      record {
        declared = each-counts (names_of (declared_names u)) (names_of (declaring all)) (λ start. omega (arith, few start, names-few (begins_at start) u, named-append (begins_at start) (declared_by u) (declaring us)));
        instances = each-counts (names_in (all_named_instances (unit_trees u))) (names_of (declaring all)) (λ start. omega (arith, few start, instances-few (begins_at start) u, named-append (begins_at start) (declared_by u) (declaring us)));
      },
      units-before all us (λ start. omega (arith, few start, named-append (begins_at start) (declared_by u) (declaring us))),
    )

    known-before : IsKnownBefore own_text earlier (state_behind files source units before).known
    known-before =
        let words = words_of units in
        let given = λ (name : List ℕ). view-before own_text earlier (files name) (foreign name) in
        let begins : HoldsPlace (MeansBefore own_text earlier) (first files source units).place = first-holds (MeansBefore own_text earlier) files source units (passes own_text earlier) given in
        all-known own_text earlier files words given (first files source units) before (units-before before before (λ start. omega arith)) begins
        (both-before own_text earlier none_known (known_from_all own_text (module_named own_text files words (begun_state files source units)) units.extends) (none-before own_text earlier)
        (from-before own_text earlier files words given (begun_state files source units) units.extends begins))

    -- nothing is known behind the instances of the unit before it
    new-known : (l : Lexeme) → 1 ≤ counted (begins_at l.span.start) (names_of (declared_by unit)) → (state_behind files source units before).known (declaration own_text l) ≡ None
    new-known l one = by ((state_behind files source units before).known (declaration own_text l)) refl
      where
        never : (held : Behind) → (state_behind files source units before).known (declaration own_text l) ≡ Some held → ⊥
        never held at =
            let found = known-before (declaration own_text l) held at (text-itself own_text.file own_text.file refl) in
            let start : ℕ = found.0 in
            let same : l.span.start ≡ start = same-start (declaring units.units) l.span.start start (omega (arith, one, unit-few l.span.start)) (omega (arith, found.1, unit-few start)) found.2 in
            let one_there : 1 ≤ counted (begins_at start) (names_of (declared_by unit)) = subst (λ s. 1 ≤ counted (begins_at s) (names_of (declared_by unit))) same one in
            omega (arith, found.1, one_there, unit-few start, apart start)

        by : (o : Option Behind) → (state_behind files source units before).known (declaration own_text l) ≡ o → o ≡ None
        by None at = refl
        by (Some held) at = absurd (never held at)

    -- behind each instance that the unit names is known what its module has
    abbrev IsTold : Lexeme × Option Lexeme → Type 0
    IsTold instance =
        known_in own_text files (words_of units) (state_behind files source units before) unit (declaration own_text instance.0)
        ≡ Some (behind_named own_text (module_named own_text files (words_of units) (state_behind files source units before)) instance.1)

    unit-told : AllByRecursion IsTold (all_named_instances (unit_trees unit))
    unit-told =
        let named = module_named own_text files (words_of units) (state_behind files source units before) in
        let instances = all_named_instances (unit_trees unit) in
        let own = each-counts (names_in instances) (names_of (declared_by unit)) (λ start. instances-few (begins_at start) unit) in
        let all = all-weaker (λ (l : Lexeme). 1 ≤ counted (begins_at l.span.start) (names_of (declared_by unit))) (λ (l : Lexeme). IsOwn l.span.start) (λ l one. omega (arith, one, unit-few l.span.start)) (names_in instances) own in
        all-zip (λ (x : Lexeme × Option Lexeme). 1 ≤ counted (begins_at x.0.span.start) (names_of (declared_by unit))) (IsNamedAs named instances) IsTold
        (λ x one is. ap (λ o. option_or o (known_named own_text named instances (declaration own_text x.0))) (new-known x.0 one) ∙ is) instances
        (unmapped (λ (x : Lexeme × Option Lexeme). x.0) (λ (l : Lexeme). 1 ≤ counted (begins_at l.span.start) (names_of (declared_by unit))) instances own)
        (named-known named instances all (λ start. omega (arith, instances-few (begins_at start) unit, unit-few start, apart start)))

    -- ---- trees

    module _ (outsides : List ℕ → Outside) (faces : List ℕ → FlatFace) (means : ℕ → Option Meaning) (implied : ℕ → List Meaning) (nameable : List ℕ → Bool)
        (same : (name : List ℕ) → (outsides name).view ≡ module_named (text_of source units) files (words_of units) (state_behind files source units before) name)
        (read : (name : List ℕ) → nameable name ≡ true → ReadsAs (faces name) (outsides name)) where
      abbrev known : Known
      known = known_in own_text files (words_of units) (state_behind files source units before) unit

      form-known : (form : Form.the_data) (parts : Trees) → HasInstance form parts → (s : Span) → NamesModules source nameable (Node form s parts) → AllByRecursion IsTold (named_instance form parts) → IsKnownForm own_text known outsides means implied faces form parts
      form-known (Form.Instance l) parts has s names all = let face = read (spelled source l) names.0 in record { parameters = face.parameters; constant = face.constant }
      form-known (Form.ModuleDefinition own) parts has s names all = by (instance_among parts) has.1 all.0
        where
          by : (o : Option Lexeme) → o ≡ Some has.0 → known (declaration own_text own) ≡ Some (behind_named own_text (module_named own_text files (words_of units) (state_behind files source units before)) o)
              → IsKnownBehind own_text known outsides means implied faces own o
          by None is told = absurd (cc is)
          by (Some l) is told = told ∙ ap (λ view. Some (behind_instance view)) (sym (same (spelled source l)))
      form-known Form.Let parts has s names all = tt
      form-known _ parts has s names all = tt

      mutual
        tree-known : (x : Tree) → HasInstances x → NamesModules source nameable x → AllByRecursion IsTold (named_instances x) → AreKnownIn own_text known outsides means implied faces x
        tree-known (Node form s parts) has names all = (
          form-known form parts has.0 s names (all-left IsTold (named_instance form parts) (all_named_instances parts) all),
          trees-known parts has.1 names.1 (all-right IsTold (named_instance form parts) (all_named_instances parts) all),
        )

        trees-known : (xs : Trees) → HaveInstances xs → NameModules source nameable xs → AllByRecursion IsTold (all_named_instances xs) → AreKnownAmong own_text known outsides means implied faces xs
        trees-known Nil has names all = tt
        trees-known (Cons x rest) has names all = (
          tree-known x has.0 names.0 (all-left IsTold (named_instances x) (all_named_instances rest) all),
          trees-known rest has.1 names.1 (all-right IsTold (named_instances x) (all_named_instances rest) all),
        )

      pub unit-known : HaveInstances (unit_trees unit) → NameModules source nameable (unit_trees unit) → AreKnownAmong own_text known outsides means implied faces (unit_trees unit)
      unit-known has names = trees-known (unit_trees unit) has names unit-told
