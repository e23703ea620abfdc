-- Of the lexemes of uses no more pass a test than of those that a module holds.
use Rattle.std.proofs.Common.{◌≡◌, ◌≤◌, ◌+◌, ℕ, List, [], ◌∷◌, ◌++◌, Bool, true, false, Option, Some, None, is_some, refl, if◌then◌else◌, arith}
use Rattle.tla_symbols.specs.declared.lexeme.LexKind.TheVariants as LexKind
use Rattle.tla_symbols.specs.declared.lexeme.Lexeme.{Lexeme}
use Rattle.tla_symbols.specs.declared.op.Op.TheVariants as Op
use Rattle.tla_tree.specs.declared.form.Form.TheVariants as Form
use Rattle.tla_tree.specs.Syntax.{Tree, Trees, Node, Nil, Cons}
use Rattle.unit_grammar.specs.Units.{UnitTree, Variables, Constants, OperatorDefinition, FunctionDefinition, ModuleDefinition, Instance, Assumption, Theorem, Line, ModuleBegin, ModuleEnd, ModuleUnits}
use Rattle.tla_model.specs.declared.names.Binder.{Binder}
use Rattle.tla_model.specs.declared.names.Finding.TheVariants.{Means, Taken, Clashes, InstanceClashes}
use Rattle.tla_model.specs.Tables.{Named, Symbol, has, is_among}
use Rattle.tla_model.specs.Entities.{Meaning, Text, defined, name_of, variables}
use Rattle.tla_model.specs.Contexts.{Context, bind, bind_all, meaning_of}
use Rattle.tla_model.specs.Lexemes.{all_lexemes, form_lexemes, lexemes, module_lexemes, unit_lexemes, units_lexemes}
use Rattle.tla_model.specs.Scopes.{Finding, all_refused, behind, binders, has_set, inside, is_free, itself, prefixed, reserved, scope, symbol_findings, taken_findings, use_findings}
use Rattle.module_model.specs.Exports.{Behind, Exports, ModuleView, behind_meaning, entry_of, exports_by, onward}
use Rattle.module_model.specs.Instances.{called_by, implied, implied_as, left_sides, paths_in, replaced_as}
use Rattle.module_model.specs.Modules.{Reading, all_clashing, brings, brings_clash, constants, extended, is_named, nested, text_of, unread}
use Rattle.module_model.specs.Resolution.{ReadState, after, clash_by, findings, first, found_from, found_in, found_of, instance_brings, surround, words_of}
use Rattle.module_model.specs.TreeFindings.{Surroundings, path, path_number, replaceable, replaced, segments, walk, walk_chain, walk_each, walk_rest, walk_round, walk_sets}
use Rattle.lexeme_laws.specs.Apart.{counted, weight}
use Rattle.readable_laws.specs.Uses.{used_lexemes}

module _ (p : Lexeme → Bool) where
  -- how many lexemes of uses pass the test
  abbrev uses : List Finding → ℕ
  uses fs = counted p (used_lexemes fs)

  lexemes-append : (a b : List Lexeme) → counted p (a ++ b) ≡ counted p a + counted p b
  lexemes-append [] b = omega arith
  lexemes-append (l ∷ a) b = omega (arith, lexemes-append a b)

  uses-append : (a b : List Finding) → uses (a ++ b) ≡ uses a + uses b
  uses-append [] b = omega arith
  uses-append (Means l m ∷ a) b = omega (arith, uses-append a b)
  uses-append (_ ∷ a) b = uses-append a b

  -- ---- what is found at one lexeme

  use-few : (l : Lexeme) (o : Option Meaning) → uses (use_findings l o) ≤ weight p l
  use-few l None = omega arith
  use-few l (Some m) = omega arith

  free-few : (l : Lexeme) (b : Bool) (o : Option Meaning) → uses (if b then use_findings l o else []) ≤ weight p l
  free-few l true o = use-few l o
  free-few l false o = omega arith

  symbol-few : (context : Context) (which : Op.the_data → Op.the_data) (l : Lexeme) (kind : LexKind.the_data) → uses (symbol_findings context which l kind) ≤ weight p l
  symbol-few context which l (LexKind.Sym op) = free-few l (is_free (which op)) (meaning_of context (Symbol (which op)))
  symbol-few context which l _ = omega arith

  side-few : (l : Lexeme) (again : Bool) (o : Option Meaning) → uses (replaced_as l again o) ≤ weight p l
  side-few l again None = omega arith
  side-few l true (Some m) = omega arith
  side-few l false (Some m) = omega arith

  taken-none : (l : Lexeme) (b : Bool) → uses (if b then Taken l ∷ [] else []) ≡ 0
  taken-none l true = refl
  taken-none l false = refl

  module _ (text : Text) where
    refused-none : (context : Context) (names : List Binder) → uses (all_refused text context names) ≡ 0
    refused-none context [] = refl
    refused-none context (binder ∷ rest) =
        omega (
          arith,
          uses-append (taken_findings text context binder.name) (all_refused text (bind text context binder) rest),
          taken-none binder.name (has context (name_of text.source binder.name)),
          refused-none (bind text context binder) rest,
        )

  implied-as-none : (l : Lexeme) (m : Meaning) (o : Option Meaning) → uses (implied_as l m o) ≡ 0
  implied-as-none l m None = refl
  implied-as-none l m (Some other) = refl

  implied-one : (l : Lexeme) (m : Meaning) (o : Option Meaning) (b : Bool) → uses (if b then [] else implied_as l m o) ≡ 0
  implied-one l m o true = refl
  implied-one l m o false = implied-as-none l m o

  implied-none : (context : Context) (l : Lexeme) (written : List Named) (parameters : Exports) → uses (implied context l written parameters) ≡ 0
  implied-none context l written [] = refl
  implied-none context l written (parameter ∷ rest) =
      omega (
        arith,
        uses-append (if is_among written parameter.0 then [] else implied_as l parameter.1 (meaning_of context parameter.0)) (implied context l written rest),
        implied-one l parameter.1 (meaning_of context parameter.0) (is_among written parameter.0),
        implied-none context l written rest,
      )

  either-few : (b : Bool) (one : List Finding) (n : ℕ) → uses one ≤ n → uses (if b then one else []) ≤ n
  either-few true one n few = few
  either-few false one n few = omega arith

  -- a part is found with the sets or with the others
  parted : (b : Bool) (one two : List Finding) (n : ℕ) → uses one ≤ n → uses two ≤ n → uses (if b then one else []) + uses (if b then [] else two) ≤ n
  parted true one two n few least = omega arith
  parted false one two n few least = omega arith

  module _ (text : Text) (around : Surroundings) where
    form-few : (context : Context) (f : Form.the_data) (parts : Trees) → ((o c : Context) → uses (walk_sets text around o parts) + uses (walk_rest text around c parts) ≤ counted p (all_lexemes parts))
        → uses (
        all_refused text context (defined f parts)
        ++ walk_sets text around (reserved text context f parts) parts
        ++ all_refused text (inside text context f parts) (binders f parts)
        ++ walk_rest text around (scope text context f parts) parts
        )
        ≤ counted p (form_lexemes f ++ all_lexemes parts)
    form-few context f parts few =
        let own = all_refused text context (defined f parts) in
        let sets = walk_sets text around (reserved text context f parts) parts in
        let names = all_refused text (inside text context f parts) (binders f parts) in
        let rest = walk_rest text around (scope text context f parts) parts in
        omega (
          arith,
          uses-append (own ++ sets ++ names) rest,
          uses-append (own ++ sets) names,
          uses-append own sets,
          refused-none text context (defined f parts),
          refused-none text (inside text context f parts) (binders f parts),
          few (reserved text context f parts) (scope text context f parts),
          lexemes-append (form_lexemes f) (all_lexemes parts),
        )

    image-few : (context : Context) (parts : Trees) → ((o c : Context) → uses (walk_sets text around o parts) + uses (walk_rest text around c parts) ≤ counted p (all_lexemes parts)) → uses (walk text around context (Node Form.SetImage (record { start = 0; end = 0 }) parts)) ≤ counted p (all_lexemes parts)
    image-few context parts few =
        let own = all_refused text context (binders Form.SetImage parts) in
        let rest = walk_rest text around (bind_all text context (binders Form.SetImage parts)) parts in
        let sets = walk_sets text around context parts in
        omega (arith, uses-append (own ++ rest) sets, uses-append own rest, refused-none text context (binders Form.SetImage parts), few context (bind_all text context (binders Form.SetImage parts)))

    mutual
      pub walk-few : (context : Context) (x : Tree) → uses (walk text around context x) ≤ counted p (lexemes x)
      walk-few context (Node Form.Identifier s parts) = segments-few context parts
      walk-few context (Node (Form.Symbol l) s parts) = omega (arith, symbol-few context itself l l.kind)
      walk-few context (Node (Form.Prefix l) s parts) = omega (arith, uses-append (symbol_findings context prefixed l l.kind) (walk_each text around context parts), symbol-few context prefixed l l.kind, each-few context parts)
      walk-few context (Node (Form.Infix l) s parts) = round-few context l parts
      walk-few context (Node (Form.Postfix l) s parts) = omega (arith, uses-append (walk_each text around context parts) (symbol_findings context itself l l.kind), symbol-few context itself l l.kind, each-few context parts)
      walk-few context (Node Form.Let s parts) = chain-few context parts
      walk-few context (Node (Form.Instance l) s parts) =
          omega (
            arith,
            uses-append (replaced text around context (replaceable text around l) [] parts) (implied context l (left_sides text.source parts) (replaceable text around l)),
            implied-none context l (left_sides text.source parts) (replaceable text around l),
            replaced-few context (replaceable text around l) [] parts,
          )
      walk-few context (Node Form.SetImage s parts) = image-few context parts (λ o c. parts-few o c parts)
      walk-few context (Node f s parts) = form-few context f parts (λ o c. parts-few o c parts)

      each-few : (context : Context) (parts : Trees) → uses (walk_each text around context parts) ≤ counted p (all_lexemes parts)
      each-few context Nil = omega arith
      each-few context (Cons x rest) = omega (arith, uses-append (walk text around context x) (walk_each text around context rest), lexemes-append (lexemes x) (all_lexemes rest), walk-few context x, each-few context rest)

      round-few : (context : Context) (l : Lexeme) (parts : Trees) → uses (walk_round text around context l parts) ≤ weight p l + counted p (all_lexemes parts)
      round-few context l Nil = omega (arith, symbol-few context itself l l.kind)
      round-few context l (Cons x rest) =
          omega (
            arith,
            uses-append (walk text around context x ++ symbol_findings context itself l l.kind) (walk_each text around context rest),
            uses-append (walk text around context x) (symbol_findings context itself l l.kind),
            lexemes-append (lexemes x) (all_lexemes rest),
            symbol-few context itself l l.kind,
            walk-few context x,
            each-few context rest,
          )

      chain-few : (context : Context) (parts : Trees) → uses (walk_chain text around context parts) ≤ counted p (all_lexemes parts)
      chain-few context Nil = omega arith
      chain-few context (Cons x rest) =
          omega (arith, uses-append (walk text around context x) (walk_chain text around (behind text context x) rest), lexemes-append (lexemes x) (all_lexemes rest), walk-few context x, chain-few (behind text context x) rest)

      parts-few : (o c : Context) (parts : Trees) → uses (walk_sets text around o parts) + uses (walk_rest text around c parts) ≤ counted p (all_lexemes parts)
      parts-few o c Nil = omega arith
      parts-few o c (Cons (Node f s parts) rest) =
          let x = Node f s parts in
          let set = if has_set f then walk text around o x else [] in
          let other = if has_set f then [] else walk text around c x in
          omega (
            arith,
            uses-append set (walk_sets text around o rest),
            uses-append other (walk_rest text around c rest),
            lexemes-append (lexemes x) (all_lexemes rest),
            parted (has_set f) (walk text around o x) (walk text around c x) (counted p (lexemes x)) (walk-few o (Node f s parts)) (walk-few c (Node f s parts)),
            parts-few o c rest,
          )

      replaced-few : (context : Context) (parameters : Exports) (before : List Named) (parts : Trees) → uses (replaced text around context parameters before parts) ≤ counted p (all_lexemes parts)
      replaced-few context parameters before Nil = omega arith
      replaced-few context parameters before (Cons (Node (Form.Replacement l) s right) rest) =
          let name = name_of text.source l in
          let side = replaced_as l (is_among before name) (entry_of parameters name) in
          let later = replaced text around context parameters (name ∷ before) rest in
          omega (
            arith,
            uses-append (side ++ walk_each text around context right) later,
            uses-append side (walk_each text around context right),
            lexemes-append (l ∷ all_lexemes right) (all_lexemes rest),
            side-few l (is_among before name) (entry_of parameters name),
            each-few context right,
            replaced-few context parameters (name ∷ before) rest,
          )
      replaced-few context parameters before (Cons (Node f s right) rest) = omega (arith, lexemes-append (form_lexemes f ++ all_lexemes right) (all_lexemes rest), replaced-few context parameters before rest)

      segments-few : (context : Context) (parts : Trees) → uses (segments text around context parts) ≤ counted p (all_lexemes parts)
      segments-few context Nil = omega arith
      segments-few context (Cons (Node (Form.Segment l) s arguments) rest) =
          let means = meaning_of context (name_of text.source l) in
          let own = use_findings l means in
          let later = path text around context (path_number text around l) (behind_meaning around.known means) rest in
          omega (
            arith,
            uses-append (own ++ walk_each text around context arguments) (if is_some means then later else []),
            uses-append own (walk_each text around context arguments),
            lexemes-append (l ∷ all_lexemes arguments) (all_lexemes rest),
            use-few l means,
            each-few context arguments,
            either-few (is_some means) later (counted p (all_lexemes rest)) (path-few context (path_number text around l) (behind_meaning around.known means) rest),
          )
      segments-few context (Cons x rest) = omega arith

      path-few : (context : Context) (number : ℕ) (held : Behind) (parts : Trees) → uses (path text around context number held parts) ≤ counted p (all_lexemes parts)
      path-few context number held Nil = omega arith
      path-few context number held (Cons (Node (Form.Segment l) s arguments) rest) =
          let name = name_of text.source l in
          let means = entry_of (held []) name in
          let own = use_findings l (called_by number rest means) in
          let later = path text around context number (onward held name) rest in
          omega (
            arith,
            uses-append (own ++ walk_each text around context arguments) (if is_some means then later else []),
            uses-append own (walk_each text around context arguments),
            lexemes-append (l ∷ all_lexemes arguments) (all_lexemes rest),
            use-few l (called_by number rest means),
            each-few context arguments,
            either-few (is_some means) later (counted p (all_lexemes rest)) (path-few context number (onward held name) rest),
          )
      path-few context number held (Cons x rest) = omega arith

  -- ---- units

  clash-none : (l : Lexeme) (b : Bool) → uses (if b then InstanceClashes l ∷ [] else []) ≡ 0
  clash-none l true = refl
  clash-none l false = refl

  clashes-none : (l : Lexeme) (b : Bool) → uses (if b then Clashes l ∷ [] else []) ≡ 0
  clashes-none l true = refl
  clashes-none l false = refl

  extends-none : (text : Text) (files : List ℕ → Exports) (reading : Reading) (names : List Lexeme) → uses (all_clashing text files reading names) ≡ 0
  extends-none text files reading [] = refl
  extends-none text files reading (l ∷ rest) =
      let here = brings_clash reading (brings text files reading l) in
      let later = extended reading (brings text files reading l) in
      omega (arith, uses-append (if here then Clashes l ∷ [] else []) (all_clashing text files later rest), clashes-none l here, extends-none text files later rest)

  module _ (text : Text) (files : List ℕ → ModuleView) (words paths : List ℕ) where
    brings-none : (state : ReadState) (x : Tree) → uses (clash_by text files words state x) ≡ 0
    brings-none state (Node (Form.Instance l) s parts) = clash-none l (brings_clash state.place.here (instance_brings text files words state (Node (Form.Instance l) s parts)))
    brings-none state (Node Form.Let s parts) = refl
    brings-none state (Node _ s parts) = refl

    tree-few : (state : ReadState) (unit : UnitTree) (x : Tree) → uses (found_of text files words paths state unit x) ≤ counted p (lexemes x)
    tree-few state unit x = walk-few text (surround text files words paths state unit) state.place.here.context x

    unit-few : (state : ReadState) (unit : UnitTree) → uses (found_in text files words paths state unit) ≤ counted p (unit_lexemes unit)
    unit-few state (Variables names) = omega (arith, refused-none text state.place.here.context (variables names))
    unit-few state (Constants declarations) = omega (arith, refused-none text state.place.here.context (constants declarations))
    unit-few state (OperatorDefinition local x) = tree-few state (OperatorDefinition local x) x
    unit-few state (FunctionDefinition local x) = tree-few state (FunctionDefinition local x) x
    unit-few state (ModuleDefinition local x) = tree-few state (ModuleDefinition local x) x
    unit-few state (Instance local x) =
        omega (arith, uses-append (found_of text files words paths state (Instance local x) x) (clash_by text files words state x), brings-none state x, tree-few state (Instance local x) x)
    unit-few state (Assumption word name x) = tree-few state (Assumption word name x) x
    unit-few state (Theorem word name x) = tree-few state (Theorem word name x) x
    unit-few state (Line dashes) = omega arith
    unit-few state (ModuleBegin dashes name extends) =
        let named = is_named text state.place.here name in
        omega (
          arith,
          uses-append (if named then Taken name ∷ [] else []) (all_clashing text (exports_by files) (nested text state.place.here name) extends),
          taken-none name named,
          extends-none text (exports_by files) (nested text state.place.here name) extends,
        )
    unit-few state (ModuleEnd closing) = omega arith

    units-few : (state : ReadState) (units : List UnitTree) → uses (found_from text files words paths state units) ≤ counted p (units_lexemes units)
    units-few state [] = omega arith
    units-few state (unit ∷ units) =
        let later = after text files words state unit in
        omega (
          arith,
          uses-append (found_in text files words paths state unit) (found_from text files words paths later units),
          lexemes-append (unit_lexemes unit) (units_lexemes units),
          unit-few state unit,
          units-few later units,
        )

  pub module-few : (files : List ℕ → ModuleView) (source : List ℕ) (units : ModuleUnits) → uses (findings files source units) ≤ counted p (module_lexemes units)
  module-few files source units =
      let text = text_of source units in
      let found = found_from text files (words_of units) (paths_in units.units) (first files source units) units.units in
      omega (
        arith,
        uses-append (all_clashing text (exports_by files) (unread text) units.extends) found,
        extends-none text (exports_by files) (unread text) units.extends,
        units-few text files (words_of units) (paths_in units.units) (first files source units) units.units,
        lexemes-append units.extends (units_lexemes units.units),
      )
