-- While a module is read, it is known what stands behind each instance that it exports so far.
use Rattle.std.proofs.Common.{◌≡◌, ℕ, Bool, true, false, cond, List, [], ◌∷◌, ◌++◌, ◌⊎◌, inl, inr, Option, Some, None, is_some, if◌then◌else◌, refl, ap, sym, subst, ◌∙◌}
use Rattle.std.specs.Prelude.{⊤}
use Rattle.std.specs.Option.{option_or}
use Rattle.std.specs.List.{AllByRecursion}
use Rattle.std.specs.Str.{bytes_eq}
use Rattle.tla_symbols.specs.declared.lexeme.Lexeme.{Lexeme}
use Rattle.tla_tree.specs.declared.form.Form.TheVariants as Form
use Rattle.tla_tree.specs.Syntax.{Tree, Node, Nil, Cons}
use Rattle.unit_grammar.specs.Units.{UnitTree, Variables, Constants, OperatorDefinition, FunctionDefinition, ModuleDefinition, Instance, Assumption, Theorem, Line, ModuleBegin, ModuleEnd, ModuleUnits}
use Rattle.tla_model.specs.declared.ids.DeclId.{DeclId}
use Rattle.tla_model.specs.declared.ids.UnitId.{UnitId}
use Rattle.tla_model.specs.declared.names.Binder.{Binder}
use Rattle.tla_model.specs.declared.names.Binding.TheVariants as as_binding
use Rattle.tla_model.specs.declared.names.Meaning.TheVariants.{BuiltIn, Declared}
use Rattle.tla_model.specs.Entities.{Meaning, Text, all_placed, bound_as, declaration, meant, name_of, variables}
use Rattle.tla_model.specs.EntityKinds.{is_instance}
use Rattle.tla_model.specs.Lexemes.{spelled}
use Rattle.tla_model.specs.Scopes.{definition}
use Rattle.tla_model.specs.Tables.{Table, Named, Word, Symbol, added, empty, find, has, lookup, put, same_symbol}
use Rattle.tla_model.specs.Same.{decl-itself}
use Rattle.module_scope.specs.Environments.{Environment, meaning}
use Rattle.module_model.specs.Exports.{Behind, Exports, Known, ModuleView, and_known, exported, exports_by, exports_of, instantiable, is_meant, known_among, known_as, known_by, none_known, onward, stands_behind}
use Rattle.module_model.specs.Given.{AreReached}
use Rattle.module_model.specs.Instances as i
use Rattle.module_model.specs.Modules as m
use Rattle.module_model.specs.Modules.{Reading}
use Rattle.module_model.specs.NamedModules as n
use Rattle.module_model.specs.Resolution as r
use Rattle.module_model.specs.Resolution.{ReadState}
use Rattle.module_model.proofs.Entries.{entry-of-table}
use Rattle.list_laws.proofs.Lists.{all-weaker}
use Rattle.model_laws.specs.Settled.{IsKnown, IsSettled}
use Rattle.model_laws.proofs.Forgetting.{extends-keep, joined-keeps}
use Rattle.model_laws.proofs.Items.{all-mapped, all-passing}

-- ---- tables

-- what stands under a key is what stood there, or what was put
added-gives : {K V : Type 0} (same : K → K → Bool) (entries : List (K × V)) (key : K) (value : V) (other : K) (found : V) → lookup same (added same entries key value) other ≡ Some found → (lookup same entries other ≡ Some found) ⊎ (value ≡ found)
added-gives same entries key value other found at = by (is_some (lookup same entries key)) at
  where
    behind : (before : List (_ × _)) → lookup same (before ++ (key, value) ∷ []) other ≡ Some found → (lookup same before other ≡ Some found) ⊎ (value ≡ found)
    behind [] at = last (same other key) at
      where
        last : (b : Bool) → cond b (Some value) None ≡ Some found → (None ≡ Some found) ⊎ (value ≡ found)
        last true at = inr cc
        last false at = inl at
    behind (entry ∷ rest) at = first (same other entry.0) (behind rest) at
      where
        first : (b : Bool) → (lookup same (rest ++ (key, value) ∷ []) other ≡ Some found → (lookup same rest other ≡ Some found) ⊎ (value ≡ found))
            → cond b (Some entry.1) (lookup same (rest ++ (key, value) ∷ []) other) ≡ Some found → (cond b (Some entry.1) (lookup same rest other) ≡ Some found) ⊎ (value ≡ found)
        first true rest at = inl at
        first false rest at = rest at

    by : (b : Bool) → lookup same (cond b entries (entries ++ (key, value) ∷ [])) other ≡ Some found → (lookup same entries other ≡ Some found) ⊎ (value ≡ found)
    by true at = inl at
    by false at = behind entries at

pub put-gives : {V : Type 0} (table : Table V) (name : Named) (value : V) (other : Named) (found : V) → find (put table name value) other ≡ Some found → (find table other ≡ Some found) ⊎ (value ≡ found)
put-gives table (Word bytes) value (Word other) found at = added-gives bytes_eq table.words bytes value other found at
put-gives table (Symbol op) value (Symbol other) found at = added-gives same_symbol table.symbols op value other found at
put-gives table (Word bytes) value (Symbol other) found at = inl at
put-gives table (Symbol op) value (Word other) found at = inl at

-- ---- what is said of a meaning

-- something is said of an instance that a name means
abbrev pub IsTold : {A : Type 0} → (DeclId → Option A) → Meaning → Type 0
IsTold said BuiltIn = ⊤
IsTold said (Declared entity callee) = is_instance entity ≡ true → is_some (said callee.decl) ≡ true

-- of each instance among entries
abbrev pub AreTold : {A : Type 0} → (DeclId → Option A) → Exports → Type 0
AreTold said entries = AllByRecursion (λ (entry : Named × Meaning). IsTold said entry.1) entries

-- of each instance that a table holds
abbrev pub IsAllTold : {A : Type 0} → (DeclId → Option A) → Table Meaning → Type 0
IsAllTold said table = (name : Named) (meaning : Meaning) → find table name ≡ Some meaning → IsTold said meaning

pub told-reached : {A : Type 0} (said : DeclId → Option A) (table : Table Meaning) → IsAllTold said table → AreReached said (exports_of table)
told-reached said table told = λ name entity callee at is. told name (Declared entity callee) (sym (entry-of-table table name) ∙ at) is

pub reached-told : {A : Type 0} (said : DeclId → Option A) (table : Table Meaning) → AreReached said (exports_of table) → IsAllTold said table
reached-told said table reached name BuiltIn at = tt
reached-told said table reached name (Declared entity callee) at = λ is. reached name entity callee (entry-of-table table name ∙ at) is

pub told-empty : {A : Type 0} (said : DeclId → Option A) → IsAllTold said empty
told-empty said (Word bytes) meaning at = cc at
told-empty said (Symbol op) meaning at = cc at

-- a table with one more name
pub told-put : {A : Type 0} (said : DeclId → Option A) (table : Table Meaning) (name : Named) (meaning : Meaning) → IsAllTold said table → IsTold said meaning → IsAllTold said (put table name meaning)
told-put said table name meaning all told other found at =
    elim (put-gives table name meaning other found at) as (λ _. IsTold said found) [ inl there ↦ all other found there | inr same ↦ subst (IsTold said) same told ]

-- ---- what is known further

some-first : {A : Type 0} (a b : Option A) → is_some a ≡ true → is_some (option_or a b) ≡ true
some-first None b some = cc some
some-first (Some x) b some = refl

some-other : {A : Type 0} (a b : Option A) → is_some b ≡ true → is_some (option_or a b) ≡ true
some-other None b some = some
some-other (Some x) b some = refl

pub told-more : (known more : Known) (meaning : Meaning) → IsTold known meaning → IsTold (and_known known more) meaning
told-more known more BuiltIn told = tt
told-more known more (Declared entity callee) told = λ is. some-first (known callee.decl) (more callee.decl) (told is)

pub told-beside : (known more : Known) (meaning : Meaning) → IsTold more meaning → IsTold (and_known known more) meaning
told-beside known more BuiltIn told = tt
told-beside known more (Declared entity callee) told = λ is. some-other (known callee.decl) (more callee.decl) (told is)

pub all-told-more : (known more : Known) (entries : Exports) → AreTold known entries → AreTold (and_known known more) entries
all-told-more known more entries told = all-weaker _ _ (λ (entry : Named × Meaning) one. told-more known more entry.1 one) entries told

pub all-told-beside : (known more : Known) (entries : Exports) → AreTold more entries → AreTold (and_known known more) entries
all-told-beside known more entries told = all-weaker _ _ (λ (entry : Named × Meaning) one. told-beside known more entry.1 one) entries told

pub reached-more : (known more : Known) (entries : Exports) → AreReached known entries → AreReached (and_known known more) entries
reached-more known more entries reached = λ name entity callee at is. some-first (known callee.decl) (more callee.decl) (reached name entity callee at is)

round-more : (known more : Known) (round : List Reading) → AllByRecursion (IsKnown known) round → AllByRecursion (IsKnown (and_known known more)) round
round-more known more round all = all-weaker (IsKnown known) (IsKnown (and_known known more)) (λ (reading : Reading) one. reached-more known more (exports_of reading.exports) one) round all

-- ---- what is known of a module

known-itself : (decl : DeclId) (behind : Behind) → is_some (known_as decl behind decl) ≡ true
known-itself decl behind = ap (λ b. is_some (if b then Some behind else None)) (decl-itself decl)

told-by : (behind : Behind) (meaning : Meaning) → IsTold (known_by behind meaning) meaning
told-by behind BuiltIn = tt
told-by behind (Declared entity callee) = λ is. ap (λ b. is_some ((if b then known_as callee.decl behind else none_known) callee.decl)) is ∙ known-itself callee.decl behind

-- of the instances among its entries
pub told-among : (view : ModuleView) (entries : Exports) → AreTold (known_among view entries) entries
told-among view [] = tt
told-among view (entry ∷ rest) =
    let here : Known = known_by (onward view.entries entry.0) entry.1 in
    (told-more here (known_among view rest) entry.1 (told-by (onward view.entries entry.0) entry.1), all-told-beside here (known_among view rest) rest (told-among view rest))

told-through : (known : Known) (unit : UnitId) (meaning : Meaning) → IsTold known meaning → IsTold known (i.through unit meaning)
told-through known unit BuiltIn told = tt
told-through known unit (Declared entity callee) told = told

told-passed : (known : Known) (unit : UnitId) (parameters entries : Exports) → AreTold known entries → AreTold known (i.brought_entries unit parameters entries)
told-passed known unit [] entries told = told
told-passed known unit (parameter ∷ parameters) entries told =
    all-mapped (λ (entry : Named × Meaning). (entry.0, i.through unit entry.1)) (λ (entry : Named × Meaning). IsTold known entry.1) entries
    (all-weaker _ _ (λ (entry : Named × Meaning) one. told-through known unit entry.1 one) entries told)

-- of those that INSTANCE brings
pub told-brought : (unit : UnitId) (view : ModuleView) → AreTold (n.exported_known view) (i.brought_by unit view)
told-brought unit view =
    told-passed (n.exported_known view) unit view.parameters (instantiable (exported view))
    (all-passing (λ (entry : Named × Meaning). IsTold (n.exported_known view) entry.1) (λ (entry : Named × Meaning). is_meant stands_behind entry.1) (exported view) (told-among view (exported view)))

-- ---- readings

-- of each instance that a module exports
abbrev Tells : Known → Reading → Type 0
Tells known reading = IsAllTold known reading.exports

told-entry : (known : Known) (local : Bool) (reading : Reading) (name : Named) (meaning : Meaning) → Tells known reading → IsTold known meaning → Tells known (m.with_entry local reading name meaning)
told-entry known true reading name meaning all told = all
told-entry known false reading name meaning all told = told-put known reading.exports name meaning all told

told-either : (known : Known) (b : Bool) (reading other : Reading) → Tells known reading → Tells known other → Tells known (cond b reading other)
told-either known true reading other one two = one
told-either known false reading other one two = two

told-joined : (known : Known) (local : Bool) (reading : Reading) (entries : Exports) → Tells known reading → AreTold known entries → Tells known (m.joined local reading entries)
told-joined known local reading [] all told = all
told-joined known local reading (entry ∷ rest) all told =
    let other : Reading = m.with_entry local reading entry.0 entry.1 in
    told-joined known local (cond (m.clashes reading.context entry) reading other) rest
    (told-either known (m.clashes reading.context entry) reading other all (told-entry known local reading entry.0 entry.1 all told.0)) told.1

module _ (text : Text) where
  -- of an instance that a name declares
  abbrev pub Binds : Known → Binder → Type 0
  Binds known binder = IsTold known (meant text binder)

  told-declared : (known : Known) (local : Bool) (reading : Reading) (binders : List Binder) → Tells known reading → AllByRecursion (Binds known) binders → Tells known (m.declare_all text local reading binders)
  told-declared known local reading [] all told = all
  told-declared known local reading (binder ∷ rest) all told =
      let name : Named = name_of text.source binder.name in
      let other : Reading = m.with_entry local reading name (meant text binder) in
      told-declared known local (cond (has reading.context name) reading other) rest
      (told-either known (has reading.context name) reading other all (told-entry known local reading name (meant text binder) all told.0)) told.1

  -- variables and constants are no instances
  pub told-variables : (known : Known) (names : List Lexeme) → AllByRecursion (Binds known) (variables names)
  told-variables known [] = tt
  told-variables known (name ∷ names) = ((λ is. cc is), told-variables known names)

  pub told-constants : (known : Known) (names : List (Lexeme × ℕ)) → AllByRecursion (Binds known) (bound_as as_binding.Constant names)
  told-constants known [] = tt
  told-constants known (name ∷ names) = ((λ is. cc is), told-constants known names)

  -- what the tree of a unit defines is an instance only where it names one
  pub told-defined : (known : Known) (named : List ℕ → ModuleView) (x : Tree) → AllByRecursion (Binds (and_known known (n.known_named text named (i.all_named_instances (Cons x Nil))))) (definition x)
  told-defined known named (Node (Form.OperatorDefinition l) span parts) = ((λ is. cc is), tt)
  told-defined known named (Node (Form.PrefixDefinition l) span parts) = ((λ is. cc is), tt)
  told-defined known named (Node (Form.InfixDefinition l) span parts) = ((λ is. cc is), tt)
  told-defined known named (Node (Form.PostfixDefinition l) span parts) = ((λ is. cc is), tt)
  told-defined known named (Node (Form.FunctionDefinition l) span parts) = ((λ is. cc is), tt)
  told-defined known named (Node (Form.ModuleDefinition l) span parts) =
      let decl : DeclId = declaration text l in
      let behind : Behind = n.behind_named text named (i.instance_among parts) in
      let others : Known = n.known_named text named (i.all_named_instances parts ++ []) in
      ((λ is. some-other (known decl) (option_or (known_as decl behind decl) (others decl)) (some-first (known_as decl behind decl) (others decl) (known-itself decl behind))), tt)
  told-defined known named (Node _ span parts) = tt

-- ---- units

module _ (text : Text) (files : List ℕ → ModuleView) (words : List ℕ) where
  pub brings-exported : (found : Option (Option ModuleView)) (name : List ℕ) → m.exports_under (exports_by files) found name ≡ exported (n.module_under files found name)
  brings-exported None name = refl
  brings-exported (Some None) name = refl
  brings-exported (Some (Some view)) name = refl

  -- of each instance that the module of a name exports
  abbrev pub Brought : Known → Environment ModuleView → Lexeme → Type 0
  Brought known modules l = AreTold known (exported (n.module_at files modules (spelled text.source l)))

  pub told-from-all : (modules : Environment ModuleView) (names : List Lexeme) → AllByRecursion (Brought (n.known_from_all text (n.module_at files modules) names) modules) names
  told-from-all modules [] = tt
  told-from-all modules (l ∷ rest) =
      let view : ModuleView = n.module_at files modules (spelled text.source l) in
      let here : Known = n.exported_known view in
      let further : Known = n.known_from_all text (n.module_at files modules) rest in (
        all-told-more here further (exported view) (told-among view (exported view)),
        all-weaker (Brought further modules) (Brought (and_known here further) modules) (λ name one. all-told-beside here further (exported (n.module_at files modules (spelled text.source name))) one) rest (told-from-all modules rest),
      )

  told-extends : (known : Known) (reading : Reading) (names : List Lexeme) → Tells known reading → AllByRecursion (Brought known reading.modules) names → Tells known (m.extends_all text (exports_by files) reading names)
  told-extends known reading [] told all = told
  told-extends known reading (l ∷ rest) told all =
      let name : List ℕ = spelled text.source l in
      let brings : Exports = m.brings text (exports_by files) reading l in
      told-extends known (m.extended reading brings) rest
      (told-joined known false reading brings told (subst (AreTold known) (sym (brings-exported (meaning reading.modules name) name)) all.0))
      (subst (λ modules. AllByRecursion (Brought known modules) rest) (sym (joined-keeps false reading brings).modules) all.1)

  -- behind all modules that it extends
  told-extended : (known : Known) (reading : Reading) (names : List Lexeme) (modules : Environment ModuleView) → modules ≡ reading.modules → Tells known reading
      → Tells (and_known known (n.known_from_all text (n.module_at files modules) names)) (m.extends_all text (exports_by files) reading names)
  told-extended known reading names modules same told =
      let more : Known = n.known_from_all text (n.module_at files modules) names in
      told-extends (and_known known more) reading names (λ name meaning at. told-more known more meaning (told name meaning at))
      (subst (λ z. AllByRecursion (Brought (and_known known more) z) names) same
      (all-weaker (Brought more modules) (Brought (and_known known more) modules) (λ name one. all-told-beside known more (exported (n.module_at files modules (spelled text.source name))) one) names (told-from-all modules names)))

  -- what is known of the instances that an INSTANCE without a name brings
  pub told-instance : (state : ReadState) (x : Tree) → AreTold (r.known_brought text files words state x) (r.instance_brings text files words state x)
  told-instance state (Node (Form.Instance l) span parts) = told-brought (n.unit_of text words l) (n.view_of text (r.module_named text files words state) l)
  told-instance state (Node _ span parts) = tt

  -- what was exported before a unit
  told-before : (state : ReadState) (more : Known) → IsSettled state → Tells (and_known state.known more) state.place.here
  told-before state more settled = reached-told (and_known state.known more) state.place.here.exports (reached-more state.known more (exports_of state.place.here.exports) settled.here)

  settled-on : (state : ReadState) (unit : UnitTree) (reading : Reading) → IsSettled state → Tells (r.known_in text files words state unit) reading → IsSettled (r.read_on text files words state unit reading)
  settled-on state unit reading settled told =
      let more : Known = n.known_named text (r.module_named text files words state) (i.all_named_instances (i.unit_trees unit)) in
      record { here = told-reached (and_known state.known more) reading.exports told; round = round-more state.known more state.place.round settled.round }

  settled-still : (state : ReadState) (unit : UnitTree) → IsSettled state → IsSettled (r.read_on text files words state unit state.place.here)
  settled-still state unit settled = settled-on state unit state.place.here settled (told-before state (n.known_named text (r.module_named text files words state) (i.all_named_instances (i.unit_trees unit))) settled)

  -- behind a unit that declares these names
  settled-declared : (state : ReadState) (unit : UnitTree) (local : Bool) (binders : List Binder) → IsSettled state → AllByRecursion (Binds text (r.known_in text files words state unit)) binders
      → IsSettled (r.read_on text files words state unit (m.declare_all text local state.place.here binders))
  settled-declared state unit local binders settled told =
      let more : Known = n.known_named text (r.module_named text files words state) (i.all_named_instances (i.unit_trees unit)) in
      settled-on state unit (m.declare_all text local state.place.here binders) settled (told-declared text (and_known state.known more) local state.place.here binders (told-before state more settled) told)

  settled-known : (state : ReadState) (known : Known) → IsSettled state → IsSettled (r.with_known text files words state known)
  settled-known state known settled =
      record { here = reached-more state.known known (exports_of state.place.here.exports) settled.here; round = round-more state.known known state.place.round settled.round }

  -- behind an INSTANCE without a name
  settled-instance : (state : ReadState) (local : Option Lexeme) (x : Tree) → IsSettled state → IsSettled (r.after text files words state (Instance local x))
  settled-instance state local x settled =
      let known : Known = r.known_in text files words state (Instance local x) in
      let brought : Known = r.known_brought text files words state x in
      let entries : Exports = r.instance_brings text files words state x in
      let here : Reading = m.joined (is_some local) state.place.here entries in
      let still : IsSettled (r.with_known text files words (r.read_on text files words state (Instance local x) state.place.here) brought) = settled-known (r.read_on text files words state (Instance local x) state.place.here) brought (settled-still state (Instance local x) settled) in
      record {
        here = told-reached (and_known known brought) here.exports (told-joined (and_known known brought) (is_some local) state.place.here entries (reached-told (and_known known brought) state.place.here.exports still.here) (all-told-beside known brought entries (told-instance state x)));
        round = still.round;
      }

  -- inside a nested module, behind what it extends
  pub settled-inside : (state : ReadState) (name : Lexeme) (extends : List Lexeme) → IsSettled state → IsSettled (r.with_known text files words (r.inside_nested text files words state name extends) (n.known_from_all text (r.module_named text files words (r.inside_nested text files words state name extends)) extends))
  settled-inside state name extends settled =
      let begun : Reading = m.nested text state.place.here name in
      let here : Reading = m.extends_all text (exports_by files) begun extends in
      let more : Known = n.known_from_all text (n.module_at files here.modules) extends in
      record {
        here = told-reached (and_known state.known more) here.exports (told-extended state.known begun extends here.modules (extends-keep text files words begun extends).modules (told-empty state.known));
        round = (reached-more state.known more (exports_of state.place.here.exports) settled.here, round-more state.known more state.place.round settled.round);
      }

  settled-left : (known : Known) (inner : Reading) (round : List Reading) → IsSettled (record { place = record { here = inner; round = round }; known = known }) → IsSettled (record { place = m.left known inner round; known = known })
  settled-left known inner [] settled = settled
  settled-left known inner (outer ∷ round) settled = record { here = settled.round.0; round = settled.round.1 }

  -- behind a unit
  pub settled-after : (state : ReadState) (unit : UnitTree) → IsSettled state → IsSettled (r.after text files words state unit)
  settled-after state (Variables names) settled = settled-declared state (Variables names) false (variables names) settled (told-variables text (r.known_in text files words state (Variables names)) names)
  settled-after state (Constants declarations) settled = settled-declared state (Constants declarations) false (m.constants declarations) settled (told-constants text (r.known_in text files words state (Constants declarations)) (all_placed declarations))
  settled-after state (OperatorDefinition local x) settled = settled-declared state (OperatorDefinition local x) (is_some local) (definition x) settled (told-defined text state.known (r.module_named text files words state) x)
  settled-after state (FunctionDefinition local x) settled = settled-declared state (FunctionDefinition local x) (is_some local) (definition x) settled (told-defined text state.known (r.module_named text files words state) x)
  settled-after state (ModuleDefinition local x) settled = settled-declared state (ModuleDefinition local x) (is_some local) (definition x) settled (told-defined text state.known (r.module_named text files words state) x)
  settled-after state (Instance local x) settled = settled-instance state local x settled
  settled-after state (Assumption word name x) settled = settled-still state (Assumption word name x) settled
  settled-after state (Theorem word name x) settled = settled-still state (Theorem word name x) settled
  settled-after state (Line dashes) settled = settled-still state (Line dashes) settled
  settled-after state (ModuleBegin dashes name extends) settled = settled-inside state name extends settled
  settled-after state (ModuleEnd closing) settled = settled-left state.known state.place.here state.place.round settled

  -- behind these units
  pub settled-all : (state : ReadState) (units : List UnitTree) → IsSettled state → IsSettled (r.read_all text files words state units)
  settled-all state [] settled = settled
  settled-all state (unit ∷ units) settled = settled-all (r.after text files words state unit) units (settled-after state unit settled)

-- ---- modules

module _ (files : List ℕ → ModuleView) (source : List ℕ) (units : ModuleUnits) where
  -- behind what it extends
  pub settled-first : IsSettled (r.first files source units)
  settled-first =
      let unread : Reading = m.unread (r.text files source units) in
      let words : List ℕ = r.words_of units in
      let here : Reading = m.extends_all (r.text files source units) (exports_by files) unread units.extends in
      record {
        here = told-reached (r.first files source units).known here.exports (told-extended (r.text files source units) files words none_known unread units.extends here.modules (extends-keep (r.text files source units) files words unread units.extends).modules (told-empty none_known));
        round = tt;
      }

  -- behind all its units
  pub settled-last : IsSettled (r.last files source units)
  settled-last = settled-all (r.text files source units) files (r.words_of units) (r.first files source units) units.units settled-first
