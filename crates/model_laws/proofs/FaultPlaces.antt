-- What is found at names is found at lexemes that the module holds.
use Rattle.std.proofs.Common.{ℕ, zero, suc, List, [], ◌∷◌, ◌++◌, Option, Some, None, Bool, is_some, map, if◌then◌else◌, arith}
use Rattle.std.specs.Prelude.{Contains}
use Rattle.std.specs.List.{All, AllByRecursion}
use Rattle.std.proofs.lemmas.List.Elements.{All-contains_itself}
use Rattle.tla_symbols.specs.declared.lexeme.LexKind.TheVariants as LexKind
use Rattle.tla_symbols.specs.declared.lexeme.Lexeme.{Lexeme}
use Rattle.tla_symbols.specs.declared.lexeme.Span.{Span}
use Rattle.tla_symbols.specs.declared.op.Op.TheVariants as Op
use Rattle.tla_tree.specs.declared.form.Form.TheVariants as Form
use Rattle.tla_tree.specs.Syntax.{Tree, Trees, Node, Nil, Cons}
use Rattle.unit_grammar.specs.Units.{UnitTree, Variables, Constants, OperatorDefinition, FunctionDefinition, ModuleDefinition, Instance, Assumption, Theorem, ModuleBegin, ModuleUnits}
use Rattle.list_laws.proofs.Lists.{all-both, all-either, all-left, all-right, all-three}
use Rattle.tla_model.specs.declared.names.Finding.TheVariants.{Means, Unknown, Taken, Clashes, InstanceClashes, NotReplaceable, ReplacedTwice, Unreplaced, Implied}
use Rattle.tla_model.specs.declared.names.Binder.{Binder}
use Rattle.tla_model.specs.declared.Diagnostic.{Diagnostic}
use Rattle.module_model.specs.Bindings.{faults}
use Rattle.tla_model.specs.Contexts.{Context, bind, bind_all, meaning_of}
use Rattle.tla_model.specs.declared.names.Binding.TheVariants as as_binding
use Rattle.tla_model.specs.Entities.{Meaning, Text, all_placed, defined, name_of, variables}
use Rattle.module_model.specs.Exports.{Behind, Exports, ModuleView, behind_meaning, entry_of, exports_by, onward}
use Rattle.module_model.specs.Instances as i
use Rattle.tla_model.specs.Lexemes.{form_lexemes, lexemes, all_lexemes, unit_lexemes, units_lexemes, module_lexemes}
use Rattle.module_model.specs.Modules as m
use Rattle.module_model.specs.Modules.{Reading, text_of}
use Rattle.module_model.specs.Resolution as r
use Rattle.module_model.specs.Resolution.{ReadState, findings}
use Rattle.module_model.specs.TreeFindings as t
use Rattle.module_model.specs.TreeFindings.{Surroundings}
use Rattle.tla_model.proofs.Holding.{Binds, all-placed-at, binders-at, bound-at, defined-at, variables-at}
use Rattle.tla_model.specs.Scopes as s
use Rattle.tla_model.specs.Scopes.{Finding}
use Rattle.tla_model.specs.Tables.{Named, Symbol, has, is_among}

module _ (P : Lexeme → Type 0) where
  abbrev pub Stands : Finding → Type 0
  Stands (Means l meaning) = P l
  Stands (Unknown l) = P l
  Stands (Taken l) = P l
  Stands (Clashes l) = P l
  Stands (InstanceClashes l) = P l
  Stands (NotReplaceable l) = P l
  Stands (ReplacedTwice l) = P l
  Stands (Unreplaced l) = P l
  Stands (Implied l parameter meaning) = P l

  -- ---- what is found in trees

  module _ (text : Text) (around : Surroundings) where
    refused-at : (context : Context) (l : Lexeme) → P l → AllByRecursion Stands (s.taken_findings text context l)
    refused-at context l p = all-either Stands (has context (name_of text.source l)) (Taken l ∷ []) [] (p, tt) tt

    all-refused-at : (context : Context) (binders : List Binder) → AllByRecursion (Binds P) binders → AllByRecursion Stands (s.all_refused text context binders)
    all-refused-at context [] all = tt
    all-refused-at context (binder ∷ rest) all =
        all-both Stands (s.taken_findings text context binder.name) (s.all_refused text (bind text context binder) rest) (refused-at context binder.name all.0) (all-refused-at (bind text context binder) rest all.1)

    found-at : (l : Lexeme) (meaning : Option Meaning) → P l → AllByRecursion Stands (s.use_findings l meaning)
    found-at l None p = (p, tt)
    found-at l (Some meaning) p = (p, tt)

    used-at : (context : Context) (l : Lexeme) (op : Op.the_data) → P l → AllByRecursion Stands (s.used_as context l op)
    used-at context l op p = all-either Stands (s.is_free op) (s.use_findings l (meaning_of context (Symbol op))) [] (found-at l (meaning_of context (Symbol op)) p) tt

    symbol-at : (context : Context) (which : Op.the_data → Op.the_data) (l : Lexeme) (kind : LexKind.the_data) → P l → AllByRecursion Stands (s.symbol_findings context which l kind)
    symbol-at context which l (LexKind.Sym op) p = used-at context l (which op) p
    symbol-at context which l _ p = tt

    replaced-at : (l : Lexeme) (again : Bool) (parameter : Option Meaning) → P l → AllByRecursion Stands (i.replaced_as l again parameter)
    replaced-at l again None p = (p, tt)
    replaced-at l again (Some parameter) p = (p, all-either Stands again (ReplacedTwice l ∷ []) [] (p, tt) tt)

    implied-as-at : (l : Lexeme) (parameter : Meaning) (meaning : Option Meaning) → P l → AllByRecursion Stands (i.implied_as l parameter meaning)
    implied-as-at l parameter None p = (p, tt)
    implied-as-at l parameter (Some meaning) p = (p, tt)

    implied-at : (context : Context) (l : Lexeme) (written : List Named) (parameters : Exports) → P l → AllByRecursion Stands (i.implied context l written parameters)
    implied-at context l written [] p = tt
    implied-at context l written (parameter ∷ rest) p =
        all-both Stands (if is_among written parameter.0 then [] else i.implied_as l parameter.1 (meaning_of context parameter.0)) (i.implied context l written rest)
        (all-either Stands (is_among written parameter.0) [] (i.implied_as l parameter.1 (meaning_of context parameter.0)) tt (implied-as-at l parameter.1 (meaning_of context parameter.0) p)) (implied-at context l written rest p)

    -- a form that declares or binds names, by what is found in its parts
    with-names : (context : Context) (form : Form.the_data) (parts : Trees) → AllByRecursion P (form_lexemes form ++ all_lexemes parts)
        → AllByRecursion Stands (t.walk_sets text around (s.reserved text context form parts) parts) → AllByRecursion Stands (t.walk_rest text around (s.scope text context form parts) parts)
        → AllByRecursion Stands (s.all_refused text context (defined form parts) ++ t.walk_sets text around (s.reserved text context form parts) parts ++ s.all_refused text (s.inside text context form parts) (s.binders form parts) ++ t.walk_rest text around (s.scope text context form parts) parts)
    with-names context form parts all sets rest =
        let names : List Finding = s.all_refused text context (defined form parts) in
        let among : List Finding = t.walk_sets text around (s.reserved text context form parts) parts in
        let bound : List Finding = s.all_refused text (s.inside text context form parts) (s.binders form parts) in
        all-three Stands (names ++ among) bound (t.walk_rest text around (s.scope text context form parts) parts)
        (all-both Stands names among (all-refused-at context (defined form parts) (defined-at P form parts (all-left P (form_lexemes form) (all_lexemes parts) all))) sets)
        (all-refused-at (s.inside text context form parts) (s.binders form parts) (binders-at P form parts (all-right P (form_lexemes form) (all_lexemes parts) all))) rest

    mutual
      walk-at : (context : Context) (x : Tree) → AllByRecursion P (lexemes x) → AllByRecursion Stands (t.walk text around context x)
      walk-at context (Node Form.Identifier span parts) all = segments-at context parts all
      walk-at context (Node (Form.Symbol l) span parts) all = symbol-at context (s.itself) l l.kind all.0
      walk-at context (Node (Form.Prefix l) span parts) all =
          all-both Stands (s.symbol_findings context s.prefixed l l.kind) (t.walk_each text around context parts) (symbol-at context s.prefixed l l.kind all.0) (each-at context parts all.1)
      walk-at context (Node (Form.Infix l) span parts) all = round-walk-at context l parts all.0 all.1
      walk-at context (Node (Form.Postfix l) span parts) all =
          all-both Stands (t.walk_each text around context parts) (s.symbol_findings context s.itself l l.kind) (each-at context parts all.1) (symbol-at context s.itself l l.kind all.0)
      walk-at context (Node Form.Let span parts) all = chain-at context parts all
      walk-at context (Node (Form.Instance l) span parts) all =
          all-both Stands (t.replaced text around context (t.replaceable text around l) [] parts) (i.implied context l (i.left_sides text.source parts) (t.replaceable text around l))
          (replacements-at context (t.replaceable text around l) [] parts all.1) (implied-at context l (i.left_sides text.source parts) (t.replaceable text around l) all.0)
      walk-at context (Node Form.SetImage span parts) all =
          all-three Stands (s.all_refused text context (s.binders Form.SetImage parts)) (t.walk_rest text around (bind_all text context (s.binders Form.SetImage parts)) parts) (t.walk_sets text around context parts)
          (all-refused-at context (s.binders Form.SetImage parts) (binders-at P Form.SetImage parts all)) (rest-at (bind_all text context (s.binders Form.SetImage parts)) parts all) (sets-at context parts all)
      walk-at context (Node form span parts) all =
          with-names context form parts all (sets-at (s.reserved text context form parts) parts (all-right P (form_lexemes form) (all_lexemes parts) all)) (rest-at (s.scope text context form parts) parts (all-right P (form_lexemes form) (all_lexemes parts) all))

      each-at : (context : Context) (parts : Trees) → AllByRecursion P (all_lexemes parts) → AllByRecursion Stands (t.walk_each text around context parts)
      each-at context Nil all = tt
      each-at context (Cons x rest) all =
          all-both Stands (t.walk text around context x) (t.walk_each text around context rest) (walk-at context x (all-left P (lexemes x) (all_lexemes rest) all)) (each-at context rest (all-right P (lexemes x) (all_lexemes rest) all))

      round-walk-at : (context : Context) (l : Lexeme) (parts : Trees) → P l → AllByRecursion P (all_lexemes parts) → AllByRecursion Stands (t.walk_round text around context l parts)
      round-walk-at context l Nil p all = symbol-at context s.itself l l.kind p
      round-walk-at context l (Cons x rest) p all =
          all-three Stands (t.walk text around context x) (s.symbol_findings context s.itself l l.kind) (t.walk_each text around context rest) (walk-at context x (all-left P (lexemes x) (all_lexemes rest) all)) (symbol-at context s.itself l l.kind p)
          (each-at context rest (all-right P (lexemes x) (all_lexemes rest) all))

      chain-at : (context : Context) (parts : Trees) → AllByRecursion P (all_lexemes parts) → AllByRecursion Stands (t.walk_chain text around context parts)
      chain-at context Nil all = tt
      chain-at context (Cons x rest) all =
          all-both Stands (t.walk text around context x) (t.walk_chain text around (s.behind text context x) rest) (walk-at context x (all-left P (lexemes x) (all_lexemes rest) all))
          (chain-at (s.behind text context x) rest (all-right P (lexemes x) (all_lexemes rest) all))

      sets-at : (context : Context) (parts : Trees) → AllByRecursion P (all_lexemes parts) → AllByRecursion Stands (t.walk_sets text around context parts)
      sets-at context Nil all = tt
      sets-at context (Cons (Node form span parts) rest) all =
          all-both Stands (if s.has_set form then t.walk text around context (Node form span parts) else []) (t.walk_sets text around context rest)
          (all-either Stands (s.has_set form) (t.walk text around context (Node form span parts)) [] (walk-at context (Node form span parts) (all-left P (lexemes (Node form span parts)) (all_lexemes rest) all)) tt)
          (sets-at context rest (all-right P (lexemes (Node form span parts)) (all_lexemes rest) all))

      rest-at : (context : Context) (parts : Trees) → AllByRecursion P (all_lexemes parts) → AllByRecursion Stands (t.walk_rest text around context parts)
      rest-at context Nil all = tt
      rest-at context (Cons (Node form span parts) rest) all =
          all-both Stands (if s.has_set form then [] else t.walk text around context (Node form span parts)) (t.walk_rest text around context rest)
          (all-either Stands (s.has_set form) [] (t.walk text around context (Node form span parts)) tt (walk-at context (Node form span parts) (all-left P (lexemes (Node form span parts)) (all_lexemes rest) all)))
          (rest-at context rest (all-right P (lexemes (Node form span parts)) (all_lexemes rest) all))

      replacements-at : (context : Context) (parameters : Exports) (before : List Named) (parts : Trees) → AllByRecursion P (all_lexemes parts) → AllByRecursion Stands (t.replaced text around context parameters before parts)
      replacements-at context parameters before Nil all = tt
      replacements-at context parameters before (Cons (Node (Form.Replacement l) span right) rest) all =
          all-three Stands (i.replaced_as l (is_among before (name_of text.source l)) (entry_of parameters (name_of text.source l))) (t.walk_each text around context right) (t.replaced text around context parameters (name_of text.source l ∷ before) rest)
          (replaced-at l (is_among before (name_of text.source l)) (entry_of parameters (name_of text.source l)) all.0)
          (each-at context right (all-left P (all_lexemes right) (all_lexemes rest) all.1)) (replacements-at context parameters (name_of text.source l ∷ before) rest (all-right P (all_lexemes right) (all_lexemes rest) all.1))
      replacements-at context parameters before (Cons (Node form span parts) rest) all =
          replacements-at context parameters before rest (all-right P (form_lexemes form ++ all_lexemes parts) (all_lexemes rest) all)

      segments-at : (context : Context) (parts : Trees) → AllByRecursion P (all_lexemes parts) → AllByRecursion Stands (t.segments text around context parts)
      segments-at context Nil all = tt
      segments-at context (Cons (Node (Form.Segment l) span arguments) rest) all =
          let meaning : Option Meaning = meaning_of context (name_of text.source l) in
          let further : List Finding = t.path text around context (t.path_number text around l) (behind_meaning around.known meaning) rest in
          all-three Stands (s.use_findings l meaning) (t.walk_each text around context arguments) (if is_some meaning then further else []) (found-at l meaning all.0)
          (each-at context arguments (all-left P (all_lexemes arguments) (all_lexemes rest) all.1))
          (all-either Stands (is_some meaning) further [] (path-at context (t.path_number text around l) (behind_meaning around.known meaning) rest (all-right P (all_lexemes arguments) (all_lexemes rest) all.1)) tt)
      segments-at context (Cons (Node _ span arguments) rest) all = tt

      path-at : (context : Context) (number : ℕ) (held : Behind) (parts : Trees) → AllByRecursion P (all_lexemes parts) → AllByRecursion Stands (t.path text around context number held parts)
      path-at context number held Nil all = tt
      path-at context number held (Cons (Node (Form.Segment l) span arguments) rest) all =
          let meaning : Option Meaning = entry_of (held []) (name_of text.source l) in
          let further : List Finding = t.path text around context number (onward held (name_of text.source l)) rest in
          all-three Stands (s.use_findings l (i.called_by number rest meaning)) (t.walk_each text around context arguments) (if is_some meaning then further else []) (found-at l (i.called_by number rest meaning) all.0)
          (each-at context arguments (all-left P (all_lexemes arguments) (all_lexemes rest) all.1))
          (all-either Stands (is_some meaning) further [] (path-at context number (onward held (name_of text.source l)) rest (all-right P (all_lexemes arguments) (all_lexemes rest) all.1)) tt)
      path-at context number held (Cons (Node _ span arguments) rest) all = tt

  -- ---- what is found in modules

  module _ (text : Text) (files : List ℕ → ModuleView) where
    clashing-at : (reading : Reading) (names : List Lexeme) → AllByRecursion P names → AllByRecursion Stands (m.all_clashing text (exports_by files) reading names)
    clashing-at reading [] all = tt
    clashing-at reading (l ∷ rest) all =
        let brings : Bool = m.brings_clash reading (m.brings text (exports_by files) reading l) in
        all-both Stands (if brings then Clashes l ∷ [] else []) (m.all_clashing text (exports_by files) (m.extended reading (m.brings text (exports_by files) reading l)) rest) (all-either Stands brings (Clashes l ∷ []) [] (all.0, tt) tt)
        (clashing-at (m.extended reading (m.brings text (exports_by files) reading l)) rest all.1)

    module _ (words : List ℕ) (paths : List ℕ) where
      abbrev round : ReadState → UnitTree → Surroundings
      round state unit = r.surround text files words paths state unit

      clash-at : (state : ReadState) (x : Tree) → AllByRecursion P (lexemes x) → AllByRecursion Stands (r.clash_by text files words state x)
      clash-at state (Node (Form.Instance l) span parts) all =
          let clashes : Bool = m.brings_clash state.place.here (r.instance_brings text files words state (Node (Form.Instance l) span parts)) in
          all-either Stands clashes (InstanceClashes l ∷ []) [] (all.0, tt) tt
      clash-at state (Node form span parts) all = tt

      unit-at : (state : ReadState) (unit : UnitTree) → AllByRecursion P (unit_lexemes unit) → AllByRecursion Stands (r.found_in text files words paths state unit)
      unit-at state (Variables names) all = all-refused-at text (round state (Variables names)) state.place.here.context (variables names) (variables-at P names all)
      unit-at state (Constants declarations) all = all-refused-at text (round state (Constants declarations)) state.place.here.context (m.constants declarations) (bound-at P as_binding.Constant (all_placed declarations) (all-placed-at P declarations all))
      unit-at state (OperatorDefinition local x) all = walk-at text (round state (OperatorDefinition local x)) state.place.here.context x all
      unit-at state (FunctionDefinition local x) all = walk-at text (round state (FunctionDefinition local x)) state.place.here.context x all
      unit-at state (ModuleDefinition local x) all = walk-at text (round state (ModuleDefinition local x)) state.place.here.context x all
      unit-at state (Instance local x) all =
          all-both Stands (t.walk text (round state (Instance local x)) state.place.here.context x) (r.clash_by text files words state x) (walk-at text (round state (Instance local x)) state.place.here.context x all) (clash-at state x all)
      unit-at state (Assumption word name x) all = walk-at text (round state (Assumption word name x)) state.place.here.context x all
      unit-at state (Theorem word name x) all = walk-at text (round state (Theorem word name x)) state.place.here.context x all
      unit-at state (ModuleBegin dashes name extends) all =
          let taken : Bool = m.is_named text state.place.here name in
          all-both Stands (if taken then Taken name ∷ [] else []) (m.all_clashing text (exports_by files) (m.nested text state.place.here name) extends) (all-either Stands taken (Taken name ∷ []) [] (all.0, tt) tt)
          (clashing-at (m.nested text state.place.here name) extends all.1)
      unit-at state _ all = tt

      units-at : (state : ReadState) (units : List UnitTree) → AllByRecursion P (units_lexemes units) → AllByRecursion Stands (r.found_from text files words paths state units)
      units-at state [] all = tt
      units-at state (unit ∷ units) all =
          all-both Stands (r.found_in text files words paths state unit) (r.found_from text files words paths (r.after text files words state unit) units) (unit-at state unit (all-left P (unit_lexemes unit) (units_lexemes units) all))
          (units-at (r.after text files words state unit) units (all-right P (unit_lexemes unit) (units_lexemes units) all))

  pub findings-at : (files : List ℕ → ModuleView) (source : List ℕ) (units : ModuleUnits) → AllByRecursion P (module_lexemes units) → AllByRecursion Stands (findings files source units)
  findings-at files source units all =
      let text : Text = text_of source units in
      let words : List ℕ = r.words_of units in
      let first : ReadState = r.first files source units in
      all-both Stands (m.all_clashing text (exports_by files) (m.unread text) units.extends) (r.found_from text files words (i.paths_in units.units) first units.units)
      (clashing-at text files (m.unread text) units.extends (all-left P units.extends (units_lexemes units.units) all.1))
      (units-at text files words (i.paths_in units.units) first units.units (all-right P units.extends (units_lexemes units.units) all.1))

-- ---- faults

module _ (P : Span → Type 0) where
  abbrev pub At : Lexeme → Type 0
  At l = P l.span

  faults-of : (found : List Finding) → AllByRecursion (Stands At) found → AllByRecursion (λ (f : Diagnostic). P f.span) (faults found)
  faults-of [] all = tt
  faults-of (Means l meaning ∷ rest) all = faults-of rest all.1
  faults-of (Unknown l ∷ rest) all = (all.0, faults-of rest all.1)
  faults-of (Taken l ∷ rest) all = (all.0, faults-of rest all.1)
  faults-of (Clashes l ∷ rest) all = (all.0, faults-of rest all.1)
  faults-of (InstanceClashes l ∷ rest) all = (all.0, faults-of rest all.1)
  faults-of (NotReplaceable l ∷ rest) all = (all.0, faults-of rest all.1)
  faults-of (ReplacedTwice l ∷ rest) all = (all.0, faults-of rest all.1)
  faults-of (Unreplaced l ∷ rest) all = (all.0, faults-of rest all.1)
  faults-of (Implied l parameter meaning ∷ rest) all = faults-of rest all.1

  by-place : (faults : List Diagnostic) → AllByRecursion (λ (f : Diagnostic). P f.span) faults → All (λ (f : Diagnostic). P f.span) faults
  by-place [] all k d lt = absurd (omega (arith, lt))
  by-place (f ∷ rest) all zero d lt = all.0
  by-place (f ∷ rest) all (suc k) d lt = by-place rest all.1 k d (omega (arith, lt))

  -- what holds of the places of a module's lexemes holds of those of its faults
  pub faults-at : (files : List ℕ → ModuleView) (source : List ℕ) (units : ModuleUnits) → AllByRecursion At (module_lexemes units) → All (λ (f : Diagnostic). P f.span) (faults (findings files source units))
  faults-at files source units all = by-place (faults (findings files source units)) (faults-of (findings files source units) (findings-at At files source units all))

spans-there : (ls : List Lexeme) (spans : List Span) → All (Contains spans) (map (λ (l : Lexeme). l.span) ls) → AllByRecursion (λ (l : Lexeme). Contains spans l.span) ls
spans-there [] spans all = tt
spans-there (l ∷ ls) spans all = (all 0 l.span (omega arith), spans-there ls spans (λ k d lt. all (suc k) d (omega (arith, lt))))

pub faults-there : (files : List ℕ → ModuleView) (source : List ℕ) (units : ModuleUnits) → All (λ f. Contains (map (λ l. l.span) (module_lexemes units)) f.span) (faults (findings files source units))
faults-there files source units =
    let spans : List Span = map (λ (l : Lexeme). l.span) (module_lexemes units) in
    faults-at (λ span. Contains spans span) files source units (spans-there (module_lexemes units) spans (All-contains_itself spans))
