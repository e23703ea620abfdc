-- What stands in for parameters is declared.
use Rattle.std.proofs.Common.{◌≡◌, ℕ, Bool, true, false, cond, List, [], ◌∷◌, ◌++◌, ◌⊎◌, inl, inr, Option, Some, None, is_some, refl, sym, ap, ◌∙◌}
use Rattle.std.specs.List.{AllByRecursion}
use Rattle.list_laws.proofs.Lists.{all-both}
use Rattle.tla_symbols.specs.declared.lexeme.LexKind.TheVariants as LexKind
use Rattle.tla_symbols.specs.declared.lexeme.Lexeme.{Lexeme}
use Rattle.tla_symbols.specs.declared.op.Op.TheVariants as Op
use Rattle.tla_tree.specs.declared.form.Form.TheVariants as Form
use Rattle.tla_tree.specs.Syntax.{Tree, Trees, Node, Nil, Cons}
use Rattle.unit_grammar.specs.Units.{UnitTree, Variables, Constants, OperatorDefinition, FunctionDefinition, ModuleDefinition, Instance, Assumption, Theorem, Line, ModuleBegin, ModuleEnd, ModuleUnits}
use Rattle.tla_model.specs.declared.ids.UnitId.{UnitId}
use Rattle.tla_model.specs.declared.names.Binder.{Binder}
use Rattle.tla_model.specs.declared.names.Finding.TheVariants.{Clashes, Taken, InstanceClashes}
use Rattle.tla_model.specs.declared.names.Meaning.TheVariants.{BuiltIn, Declared}
use Rattle.tla_model.specs.Tables.{Named, Symbol, find, has, is_among, put}
use Rattle.tla_model.specs.declared.names.Binding.TheVariants as as_binding
use Rattle.tla_model.specs.Entities.{Meaning, Text, defined, entity_of, meant, name_of, variables}
use Rattle.tla_model.specs.Contexts.{Context, bind, bind_all, built_in, meaning_of, reserve_all, usable}
use Rattle.tla_model.specs.Lexemes.{spelled}
use Rattle.tla_model.specs.Scopes as s
use Rattle.tla_model.specs.Scopes.{Finding}
use Rattle.module_model.specs.Exports.{Behind, Exports, ModuleView, behind_meaning, entry_of, exports_by, onward}
use Rattle.module_model.specs.Instances as i
use Rattle.module_model.specs.Instances.{through}
use Rattle.module_model.specs.Modules.{Reading, all_clashing, brings, brings_clash, constants, extended, is_named, nested, text_of, unread}
use Rattle.module_model.specs.Resolution.{ReadState, after, clash_by, findings, first, found_from, found_in, instance_brings, outside_in, surround, words_of}
use Rattle.module_model.specs.TreeFindings as t
use Rattle.module_model.specs.TreeFindings.{Surroundings}
use Rattle.flat_kinds.specs.Declarations.{declared_names}
use Rattle.readable_laws.specs.Accepted.{IsDeclared}
use Rattle.accepted_modules.specs.Beside.{IsBeside}
use Rattle.accepted_modules.specs.Named.{AllNamed}
use Rattle.accepted_modules.proofs.Contexts.{HoldsOf, usable-found}
use Rattle.accepted_modules.proofs.Holding.{AreOwn, HoldsPlace, OrBuiltIn, Own, after-holds, first-holds, module-says, nothing-holds, outside-holds}
use Rattle.accepted_modules.proofs.Tables.{put-finds}

-- what is found is declared, where it stands in
abbrev AreDeclared : List Finding → Type 0
AreDeclared found = AllByRecursion IsDeclared found

-- names that are not built in mean declarations
abbrev IsApart : Context → Type 0
IsApart context = (name : Named) → find built_in name ≡ None → meaning_of context name ≡ Some BuiltIn → ⊥

put-apart : (context : Context) (name : Named) (value : Option Meaning) → IsApart context → (value ≡ Some BuiltIn → ⊥) → IsApart (put context name value)
put-apart context name value apart other used none at = by (put-finds context name value used (Some BuiltIn) (usable-found (find (put context name value) used) BuiltIn at))
  where
    by : (find context used ≡ Some (Some BuiltIn)) ⊎ ((used ≡ name) × (value ≡ Some BuiltIn)) → ⊥
    by (inl before) = apart used none (ap usable before)
    by (inr new) = other new.1

context-apart : (context : Context) → HoldsOf (OrBuiltIn IsBeside) context → IsApart context
context-apart context holds name none at = by (holds name BuiltIn at)
  where
    by : OrBuiltIn IsBeside name BuiltIn → ⊥
    by (inl built) = cc (sym (ap usable none) ∙ built)
    by (inr never) = never

module _ (text : Text) where
  bind-apart : (context : Context) (binder : Binder) → IsApart context → IsApart (bind text context binder)
  bind-apart context binder apart = put-apart context (name_of text.source binder.name) (Some (meant text binder)) apart (λ e. cc e)

  bound-apart : (context : Context) (binders : List Binder) → IsApart context → IsApart (bind_all text context binders)
  bound-apart context [] apart = apart
  bound-apart context (binder ∷ rest) apart = bound-apart (bind text context binder) rest (bind-apart context binder apart)

  reserved-apart : (context : Context) (binders : List Binder) → IsApart context → IsApart (reserve_all text context binders)
  reserved-apart context [] apart = apart
  reserved-apart context (binder ∷ rest) apart = reserved-apart (put context (name_of text.source binder.name) None) rest (put-apart context (name_of text.source binder.name) None apart (λ e. cc e))

  inside-apart : (context : Context) (form : Form.the_data) (parts : Trees) → IsApart context → IsApart (s.inside text context form parts)
  inside-apart context (Form.FunctionDefinition l) parts apart = bind-apart context (record { name = l; entity = entity_of (as_binding.Bound false) 0 }) apart
  inside-apart context Form.Let parts apart = reserved-apart context (defined Form.Let parts) apart
  inside-apart context form parts apart = reserved-apart context (defined form parts) apart

  scope-apart : (context : Context) (form : Form.the_data) (parts : Trees) → IsApart context → IsApart (s.scope text context form parts)
  scope-apart context form parts apart = bound-apart (s.inside text context form parts) (s.binders form parts) (inside-apart context form parts apart)

  behind-apart : (context : Context) (x : Tree) → IsApart context → IsApart (s.behind text context x)
  behind-apart context (Node form span parts) apart = bound-apart context (defined form parts) apart

  -- ---- names

  taken-declared : (context : Context) (l : Lexeme) → AreDeclared (s.taken_findings text context l)
  taken-declared context l = by (has context (name_of text.source l))
    where
      by : (b : Bool) → AreDeclared (cond b (Taken l ∷ []) [])
      by true = (tt, tt)
      by false = tt

  refused-declared : (context : Context) (binders : List Binder) → AreDeclared (s.all_refused text context binders)
  refused-declared context [] = tt
  refused-declared context (binder ∷ rest) =
      all-both IsDeclared (s.taken_findings text context binder.name) (s.all_refused text (bind text context binder) rest) (taken-declared context binder.name) (refused-declared (bind text context binder) rest)

use-declared : (l : Lexeme) (o : Option Meaning) → AreDeclared (s.use_findings l o)
use-declared l None = (tt, tt)
use-declared l (Some m) = (tt, tt)

symbol-declared : (context : Context) (which : Op.the_data → Op.the_data) (l : Lexeme) (kind : LexKind.the_data) → AreDeclared (s.symbol_findings context which l kind)
symbol-declared context which l (LexKind.Sym op) = by (s.is_free (which op))
  where
    by : (b : Bool) → AreDeclared (cond b (s.use_findings l (meaning_of context (Symbol (which op)))) [])
    by true = use-declared l (meaning_of context (Symbol (which op)))
    by false = tt
symbol-declared context which l LexKind.Name = tt
symbol-declared context which l _ = tt

-- ---- what stands in

implied-declared : (context : Context) (l : Lexeme) (written : List Named) (parameters : Exports) → IsApart context → AllByRecursion (λ entry. IsBeside entry.0 entry.1) parameters → AreDeclared (i.implied context l written parameters)
implied-declared context l written [] apart all = tt
implied-declared context l written ((name, m) ∷ rest) apart all =
    all-both IsDeclared (cond (is_among written name) [] (i.implied_as l m (meaning_of context name))) (i.implied context l written rest) (one (is_among written name)) (implied-declared context l written rest apart all.1)
  where
    by : (m : Meaning) → IsBeside name m → (o : Option Meaning) → meaning_of context name ≡ o → AreDeclared (i.implied_as l m o)
    by BuiltIn never o at = absurd never
    by (Declared e callee) beside None at = (tt, tt)
    by (Declared e callee) beside (Some BuiltIn) at = absurd (apart name beside at)
    by (Declared e callee) beside (Some (Declared f other)) at = (tt, tt)

    one : (b : Bool) → AreDeclared (cond b [] (i.implied_as l m (meaning_of context name)))
    one true = tt
    one false = by m all.0 (meaning_of context name) refl

replaced-declared : (l : Lexeme) (again : Bool) (o : Option Meaning) → AreDeclared (i.replaced_as l again o)
replaced-declared l again None = (tt, tt)
replaced-declared l true (Some m) = (tt, (tt, tt))
replaced-declared l false (Some m) = (tt, tt)

-- ---- trees

module _ (text : Text) (around : Surroundings) (named : (name : List ℕ) → AllByRecursion (λ entry. IsBeside entry.0 entry.1) (around.named name).parameters) where
  either : (b : Bool) (found : List Finding) → AreDeclared found → AreDeclared (cond b found [])
  either true found all = all
  either false found all = tt

  neither : (b : Bool) (found : List Finding) → AreDeclared found → AreDeclared (cond b [] found)
  neither true found all = tt
  neither false found all = all

  with-names : (context : Context) (form : Form.the_data) (parts : Trees) → AreDeclared (t.walk_sets text around (s.reserved text context form parts) parts) → AreDeclared (t.walk_rest text around (s.scope text context form parts) parts)
      → AreDeclared (s.all_refused text context (defined form parts) ++ t.walk_sets text around (s.reserved text context form parts) parts ++ s.all_refused text (s.inside text context form parts) (s.binders form parts) ++ t.walk_rest text around (s.scope text context form parts) parts)
  with-names context form parts sets rest =
      let own = s.all_refused text context (defined form parts) in
      let outer = t.walk_sets text around (s.reserved text context form parts) parts in
      let names = s.all_refused text (s.inside text context form parts) (s.binders form parts) in
      let inner = t.walk_rest text around (s.scope text context form parts) parts in
      all-both IsDeclared ((own ++ outer) ++ names) inner
      (all-both IsDeclared (own ++ outer) names (all-both IsDeclared own outer (refused-declared text context (defined form parts)) sets) (refused-declared text (s.inside text context form parts) (s.binders form parts))) rest

  mutual
    walk-declared : (context : Context) (x : Tree) → IsApart context → AreDeclared (t.walk text around context x)
    walk-declared context (Node Form.Identifier span parts) apart = segments-declared context parts apart
    walk-declared context (Node (Form.Symbol l) span parts) apart = symbol-declared context s.itself l l.kind
    walk-declared context (Node (Form.Prefix l) span parts) apart = all-both IsDeclared (s.symbol_findings context s.prefixed l l.kind) (t.walk_each text around context parts) (symbol-declared context s.prefixed l l.kind) (each-declared context parts apart)
    walk-declared context (Node (Form.Infix l) span parts) apart = round-declared context l parts apart
    walk-declared context (Node (Form.Postfix l) span parts) apart = all-both IsDeclared (t.walk_each text around context parts) (s.symbol_findings context s.itself l l.kind) (each-declared context parts apart) (symbol-declared context s.itself l l.kind)
    walk-declared context (Node Form.Let span parts) apart = chain-declared context parts apart
    walk-declared context (Node (Form.Instance l) span parts) apart =
        let parameters = t.replaceable text around l in
        all-both IsDeclared (t.replaced text around context parameters [] parts) (i.implied context l (i.left_sides text.source parts) parameters) (rights-declared context parameters [] parts apart)
        (implied-declared context l (i.left_sides text.source parts) parameters apart (named (spelled text.source l)))
    walk-declared context (Node Form.SetImage span parts) apart =
        let names = s.all_refused text context (s.binders Form.SetImage parts) in
        let rest = t.walk_rest text around (bind_all text context (s.binders Form.SetImage parts)) parts in
        let sets = t.walk_sets text around context parts in
        all-both IsDeclared (names ++ rest) sets (all-both IsDeclared names rest (refused-declared text context (s.binders Form.SetImage parts)) (rest-declared (bind_all text context (s.binders Form.SetImage parts)) parts (bound-apart text context (s.binders Form.SetImage parts) apart)))
        (sets-declared context parts apart)
    walk-declared context (Node form span parts) apart =
        with-names context form parts (sets-declared (s.reserved text context form parts) parts (reserved-apart text context (defined form parts) apart)) (rest-declared (s.scope text context form parts) parts (scope-apart text context form parts apart))

    each-declared : (context : Context) (parts : Trees) → IsApart context → AreDeclared (t.walk_each text around context parts)
    each-declared context Nil apart = tt
    each-declared context (Cons x rest) apart = all-both IsDeclared (t.walk text around context x) (t.walk_each text around context rest) (walk-declared context x apart) (each-declared context rest apart)

    round-declared : (context : Context) (l : Lexeme) (parts : Trees) → IsApart context → AreDeclared (t.walk_round text around context l parts)
    round-declared context l Nil apart = symbol-declared context s.itself l l.kind
    round-declared context l (Cons x rest) apart =
        all-both IsDeclared (t.walk text around context x ++ s.symbol_findings context s.itself l l.kind) (t.walk_each text around context rest)
        (all-both IsDeclared (t.walk text around context x) (s.symbol_findings context s.itself l l.kind) (walk-declared context x apart) (symbol-declared context s.itself l l.kind)) (each-declared context rest apart)

    chain-declared : (context : Context) (parts : Trees) → IsApart context → AreDeclared (t.walk_chain text around context parts)
    chain-declared context Nil apart = tt
    chain-declared context (Cons x rest) apart =
        all-both IsDeclared (t.walk text around context x) (t.walk_chain text around (s.behind text context x) rest) (walk-declared context x apart) (chain-declared (s.behind text context x) rest (behind-apart text context x apart))

    sets-declared : (context : Context) (parts : Trees) → IsApart context → AreDeclared (t.walk_sets text around context parts)
    sets-declared context Nil apart = tt
    sets-declared context (Cons (Node form span parts) rest) apart =
        all-both IsDeclared (cond (s.has_set form) (t.walk text around context (Node form span parts)) []) (t.walk_sets text around context rest)
        (either (s.has_set form) (t.walk text around context (Node form span parts)) (walk-declared context (Node form span parts) apart)) (sets-declared context rest apart)

    rest-declared : (context : Context) (parts : Trees) → IsApart context → AreDeclared (t.walk_rest text around context parts)
    rest-declared context Nil apart = tt
    rest-declared context (Cons (Node form span parts) rest) apart =
        all-both IsDeclared (cond (s.has_set form) [] (t.walk text around context (Node form span parts))) (t.walk_rest text around context rest)
        (neither (s.has_set form) (t.walk text around context (Node form span parts)) (walk-declared context (Node form span parts) apart)) (rest-declared context rest apart)

    rights-declared : (context : Context) (parameters : Exports) (before : List Named) (parts : Trees) → IsApart context → AreDeclared (t.replaced text around context parameters before parts)
    rights-declared context parameters before Nil apart = tt
    rights-declared context parameters before (Cons (Node (Form.Replacement l) span right) rest) apart =
        let left = i.replaced_as l (is_among before (name_of text.source l)) (entry_of parameters (name_of text.source l)) in
        all-both IsDeclared (left ++ t.walk_each text around context right) (t.replaced text around context parameters (name_of text.source l ∷ before) rest)
        (all-both IsDeclared left (t.walk_each text around context right) (replaced-declared l (is_among before (name_of text.source l)) (entry_of parameters (name_of text.source l))) (each-declared context right apart))
        (rights-declared context parameters (name_of text.source l ∷ before) rest apart)
    rights-declared context parameters before (Cons (Node form span parts) rest) apart = rights-declared context parameters before rest apart

    segments-declared : (context : Context) (parts : Trees) → IsApart context → AreDeclared (t.segments text around context parts)
    segments-declared context Nil apart = tt
    segments-declared context (Cons (Node (Form.Segment l) span arguments) rest) apart =
        let meaning : Option Meaning = meaning_of context (name_of text.source l) in
        let path = t.path text around context (t.path_number text around l) (behind_meaning around.known meaning) rest in
        all-both IsDeclared (s.use_findings l meaning ++ t.walk_each text around context arguments) (cond (is_some meaning) path [])
        (all-both IsDeclared (s.use_findings l meaning) (t.walk_each text around context arguments) (use-declared l meaning) (each-declared context arguments apart))
        (either (is_some meaning) path (path-declared context (t.path_number text around l) (behind_meaning around.known meaning) rest apart))
    segments-declared context (Cons (Node _ span arguments) rest) apart = tt

    path-declared : (context : Context) (number : ℕ) (held : Behind) (parts : Trees) → IsApart context → AreDeclared (t.path text around context number held parts)
    path-declared context number held Nil apart = tt
    path-declared context number held (Cons (Node (Form.Segment l) span arguments) rest) apart =
        let meaning : Option Meaning = entry_of (held []) (name_of text.source l) in
        let path = t.path text around context number (onward held (name_of text.source l)) rest in
        all-both IsDeclared (s.use_findings l (i.called_by number rest meaning) ++ t.walk_each text around context arguments) (cond (is_some meaning) path [])
        (all-both IsDeclared (s.use_findings l (i.called_by number rest meaning)) (t.walk_each text around context arguments) (use-declared l (i.called_by number rest meaning)) (each-declared context arguments apart))
        (either (is_some meaning) path (path-declared context number (onward held (name_of text.source l)) rest apart))
    path-declared context number held (Cons (Node _ span arguments) rest) apart = tt

-- ---- units

passes : (unit : UnitId) (name : Named) (m : Meaning) → IsBeside name m → IsBeside name (through unit m)
passes unit name BuiltIn is = is
passes unit name (Declared e callee) is = is

names-own : (text : Text) (binders : List Binder) → AllByRecursion (Own IsBeside text) binders
names-own text [] = tt
names-own text (binder ∷ rest) = ((λ none. none), names-own text rest)

units-own : (text : Text) (units : List UnitTree) → AreOwn IsBeside text units
units-own text [] = tt
units-own text (unit ∷ rest) = (names-own text (declared_names unit), units-own text rest)

clashing-declared : (text : Text) (files : List ℕ → Exports) (reading : Reading) (names : List Lexeme) → AreDeclared (all_clashing text files reading names)
clashing-declared text files reading [] = tt
clashing-declared text files reading (l ∷ rest) =
    all-both IsDeclared (cond (brings_clash reading (brings text files reading l)) (Clashes l ∷ []) []) (all_clashing text files (extended reading (brings text files reading l)) rest)
    (by (brings_clash reading (brings text files reading l))) (clashing-declared text files (extended reading (brings text files reading l)) rest)
  where
    by : (b : Bool) → AreDeclared (cond b (Clashes l ∷ []) [])
    by true = (tt, tt)
    by false = tt

module _ (text : Text) (files : List ℕ → ModuleView) (words paths : List ℕ) (given : (name : List ℕ) → AllNamed IsBeside (files name)) where
  tree-declared : (state : ReadState) (unit : UnitTree) (x : Tree) → HoldsPlace IsBeside state.place → AreDeclared (t.walk text (surround text files words paths state unit) state.place.here.context x)
  tree-declared state unit x is =
      walk-declared text (surround text files words paths state unit)
      (λ name. (module-says (AllNamed IsBeside) files state.place.here.modules name (nothing-holds IsBeside) given is.0.modules).parameters)
      state.place.here.context x (context-apart state.place.here.context is.0.context)

  clash-declared : (state : ReadState) (x : Tree) → AreDeclared (clash_by text files words state x)
  clash-declared state (Node (Form.Instance l) span parts) = by (brings_clash state.place.here (instance_brings text files words state (Node (Form.Instance l) span parts)))
    where
      by : (b : Bool) → AreDeclared (cond b (InstanceClashes l ∷ []) [])
      by true = (tt, tt)
      by false = tt
  clash-declared state (Node Form.Let span parts) = tt
  clash-declared state (Node _ span parts) = tt

  taken : (b : Bool) (l : Lexeme) → AreDeclared (cond b (Taken l ∷ []) [])
  taken true l = (tt, tt)
  taken false l = tt

  unit-declared : (state : ReadState) (unit : UnitTree) → HoldsPlace IsBeside state.place → AreDeclared (found_in text files words paths state unit)
  unit-declared state (Variables names) is = refused-declared text state.place.here.context (variables names)
  unit-declared state (Constants declarations) is = refused-declared text state.place.here.context (constants declarations)
  unit-declared state (OperatorDefinition local x) is = tree-declared state (OperatorDefinition local x) x is
  unit-declared state (FunctionDefinition local x) is = tree-declared state (FunctionDefinition local x) x is
  unit-declared state (ModuleDefinition local x) is = tree-declared state (ModuleDefinition local x) x is
  unit-declared state (Instance local x) is =
      all-both IsDeclared (t.walk text (surround text files words paths state (Instance local x)) state.place.here.context x) (clash_by text files words state x) (tree-declared state (Instance local x) x is) (clash-declared state x)
  unit-declared state (Assumption word name x) is = tree-declared state (Assumption word name x) x is
  unit-declared state (Theorem word name x) is = tree-declared state (Theorem word name x) x is
  unit-declared state (ModuleBegin dashes name extends) is =
      all-both IsDeclared (cond (is_named text state.place.here name) (Taken name ∷ []) []) (all_clashing text (exports_by files) (nested text state.place.here name) extends)
      (taken (is_named text state.place.here name) name) (clashing-declared text (exports_by files) (nested text state.place.here name) extends)
  unit-declared state (Line dashes) is = tt
  unit-declared state (ModuleEnd closing) is = tt

  units-declared : (state : ReadState) (units : List UnitTree) → HoldsPlace IsBeside state.place → AreDeclared (found_from text files words paths state units)
  units-declared state [] is = tt
  units-declared state (unit ∷ units) is =
      all-both IsDeclared (found_in text files words paths state unit) (found_from text files words paths (after text files words state unit) units) (unit-declared state unit is)
      (units-declared (after text files words state unit) units (after-holds IsBeside text files words passes given state unit (names-own text (declared_names unit)) is))

module _ (files : List ℕ → ModuleView) (source : List ℕ) (units : ModuleUnits) (given : (name : List ℕ) → AllNamed IsBeside (files name)) where
  pub all-declared : AreDeclared (findings files source units)
  all-declared =
      let text : Text = text_of source units in
      let words : List ℕ = words_of units in
      let paths : List ℕ = i.paths_in units.units in
      all-both IsDeclared (all_clashing text (exports_by files) (unread text) units.extends) (found_from text files words paths (first files source units) units.units)
      (clashing-declared text (exports_by files) (unread text) units.extends) (units-declared text files words paths given (first files source units) units.units (first-holds IsBeside files source units passes given))

  pub outside-beside : AllNamed IsBeside (outside_in files source units)
  outside-beside = outside-holds IsBeside files source units passes given (units-own (text_of source units) units.units)
