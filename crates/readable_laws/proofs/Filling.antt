-- No more symbols are found to stand in at an INSTANCE than its module has parameters that are not written.
use Rattle.std.proofs.Common.{◌≡◌, ◌≤◌, ◌+◌, ℕ, suc, List, [], ◌∷◌, ◌++◌, Bool, true, false, Option, Some, None, is_some, refl, sym, ap, subst, ◌∙◌, length, if◌then◌else◌, arith}
use Rattle.std.specs.Prelude.{nat_eq}
use Rattle.std.proofs.lemmas.Bool.{eqb-true}
use Rattle.std.proofs.lemmas.List.{length-append}
use Rattle.tla_symbols.specs.declared.lexeme.LexKind.TheVariants as LexKind
use Rattle.tla_symbols.specs.declared.lexeme.Lexeme.{Lexeme}
use Rattle.tla_symbols.specs.declared.op.Op.TheVariants as Op
use Rattle.tla_tree.specs.declared.form.Form.TheVariants as Form
use Rattle.tla_tree.specs.Syntax.{Tree, Trees, Node, Nil, Cons}
use Rattle.unit_grammar.specs.Units.{UnitTree, Variables, Constants, OperatorDefinition, FunctionDefinition, ModuleDefinition, Instance, Assumption, Theorem, Line, ModuleBegin, ModuleEnd, ModuleUnits}
use Rattle.tla_model.specs.declared.names.Binder.{Binder}
use Rattle.tla_model.specs.declared.names.Finding.TheVariants.{Taken, Clashes, InstanceClashes}
use Rattle.tla_model.specs.Tables.{Named, Symbol, has, is_among}
use Rattle.tla_model.specs.Entities.{Meaning, Text, defined, name_of, variables}
use Rattle.tla_model.specs.Contexts.{Context, bind, bind_all, meaning_of}
use Rattle.tla_model.specs.Lexemes.{all_lexemes, form_lexemes, lexemes, module_lexemes, unit_lexemes, units_lexemes}
use Rattle.tla_model.specs.Scopes.{Finding, all_refused, behind, binders, has_set, inside, is_free, itself, prefixed, reserved, scope, symbol_findings, taken_findings, use_findings}
use Rattle.module_model.specs.Exports.{Behind, Exports, ModuleView, behind_meaning, entry_of, exports_by, onward}
use Rattle.module_model.specs.Instances.{called_by, implied, implied_as, left_sides, paths_in, replaced_as, unit_trees}
use Rattle.module_model.specs.Modules.{Reading, all_clashing, brings, brings_clash, constants, extended, is_named, nested, text_of, unread}
use Rattle.module_model.specs.Resolution.{ReadState, after, clash_by, findings, first, found_from, found_in, found_of, instance_brings, module_named, read_all, surround, words_of}
use Rattle.module_model.specs.TreeFindings.{Surroundings, path, path_number, replaceable, replaced, segments, walk, walk_chain, walk_each, walk_rest, walk_round, walk_sets}
use Rattle.lexeme_laws.specs.Apart.{BeginApart, begins_at, counted, weight}
use Rattle.readable_laws.specs.Accepted.{unwritten}
use Rattle.readable_laws.specs.StandIns.{AreAllFilled, AreFilled, IsFilledForm, all_stand_ins, left_out, own_stand_ins, stand_ins}
use Rattle.readable_laws.specs.Uses.{implied_by}
use Rattle.readable_laws.proofs.FoundMeanings.{own-counts, own-start}
use Rattle.readable_laws.proofs.StandIns.{implied-append}

module _ (start : ℕ) where
  -- how many symbols are found to stand in here
  abbrev filled : List Finding → ℕ
  filled fs = length (implied_by fs start)

  filled-append : (a b : List Finding) → filled (a ++ b) ≡ filled a + filled b
  filled-append a b = ap length (implied-append start a b) ∙ length-append (implied_by a start) (implied_by b start)

  -- ---- what is found at one lexeme

  use-none : (l : Lexeme) (o : Option Meaning) → filled (use_findings l o) ≡ 0
  use-none l None = refl
  use-none l (Some m) = refl

  free-none : (l : Lexeme) (b : Bool) (o : Option Meaning) → filled (if b then use_findings l o else []) ≡ 0
  free-none l true o = use-none l o
  free-none l false o = refl

  symbol-none : (context : Context) (which : Op.the_data → Op.the_data) (l : Lexeme) (kind : LexKind.the_data) → filled (symbol_findings context which l kind) ≡ 0
  symbol-none context which l (LexKind.Sym op) = free-none l (is_free (which op)) (meaning_of context (Symbol (which op)))
  symbol-none context which l LexKind.Name = refl
  symbol-none context which l _ = refl

  side-none : (l : Lexeme) (again : Bool) (o : Option Meaning) → filled (replaced_as l again o) ≡ 0
  side-none l again None = refl
  side-none l true (Some m) = refl
  side-none l false (Some m) = refl

  taken-none : (l : Lexeme) (b : Bool) → filled (if b then Taken l ∷ [] else []) ≡ 0
  taken-none l true = refl
  taken-none l false = refl

  refused-none : (text : Text) (context : Context) (names : List Binder) → filled (all_refused text context names) ≡ 0
  refused-none text context [] = refl
  refused-none text context (binder ∷ rest) =
      omega (
        arith,
        filled-append (taken_findings text context binder.name) (all_refused text (bind text context binder) rest),
        taken-none binder.name (has context (name_of text.source binder.name)),
        refused-none text (bind text context binder) rest,
      )

  either-few : (b : Bool) (one : List Finding) (n : ℕ) → filled one ≤ n → filled (if b then one else []) ≤ n
  either-few true one n few = few
  either-few false one n few = omega arith

  parted : (b : Bool) (one two : List Finding) (n : ℕ) → filled one ≤ n → filled two ≤ n → filled (if b then one else []) + filled (if b then [] else two) ≤ n
  parted true one two n few least = omega arith
  parted false one two n few least = omega arith

  -- ---- what stands in

  -- at a name that begins here one symbol for each parameter that is not written, and elsewhere none
  abbrev allowed : Bool → ℕ → ℕ
  allowed b n = if b then n else 0

  one-few : (l : Lexeme) (m : Meaning) (o : Option Meaning) (b : Bool) → nat_eq start l.span.start ≡ b → filled (implied_as l m o) ≤ allowed b 1
  one-few l m None b e = omega arith
  one-few l m (Some other) true e = rw e (omega arith)
  one-few l m (Some other) false e = rw e (omega arith)

  next-few : (l : Lexeme) (m : Meaning) (o : Option Meaning) (b w : Bool) (later : List Finding) (n : ℕ) → nat_eq start l.span.start ≡ b → filled later ≤ allowed b n → filled ((if w then [] else implied_as l m o) ++ later) ≤ allowed b (if w then n else suc n)
  next-few l m o b true later n e few = few
  next-few l m o true false later n e few = omega (arith, filled-append (implied_as l m o) later, one-few l m o true e)
  next-few l m o false false later n e few = omega (arith, filled-append (implied_as l m o) later, one-few l m o false e)

  implied-few : (context : Context) (l : Lexeme) (written : List Named) (parameters : Exports) (b : Bool) → nat_eq start l.span.start ≡ b → filled (implied context l written parameters) ≤ allowed b (unwritten written parameters)
  implied-few context l written [] b e = omega arith
  implied-few context l written (p ∷ ps) b e = next-few l p.1 (meaning_of context p.0) b (is_among written p.0) (implied context l written ps) (unwritten written ps) e (implied-few context l written ps b e)

  -- ---- trees

  module _ (text : Text) (around : Surroundings) where
    -- what stands in in a tree
    abbrev most : Tree → ℕ
    most x = stand_ins text around.named start x

    abbrev all_most : Trees → ℕ
    all_most xs = all_stand_ins text around.named start xs

    form-few : (context : Context) (f : Form.the_data) (parts : Trees) → ((o c : Context) → filled (walk_sets text around o parts) + filled (walk_rest text around c parts) ≤ all_most parts)
        → filled (
        all_refused text context (defined f parts)
        ++ walk_sets text around (reserved text context f parts) parts
        ++ all_refused text (inside text context f parts) (binders f parts)
        ++ walk_rest text around (scope text context f parts) parts
        )
        ≤ own_stand_ins text around.named start f parts + all_most parts
    form-few context f parts few =
        let own = all_refused text context (defined f parts) in
        let sets = walk_sets text around (reserved text context f parts) parts in
        let names = all_refused text (inside text context f parts) (binders f parts) in
        let rest = walk_rest text around (scope text context f parts) parts in
        omega (
          arith,
          filled-append (own ++ sets ++ names) rest,
          filled-append (own ++ sets) names,
          filled-append own sets,
          refused-none text context (defined f parts),
          refused-none text (inside text context f parts) (binders f parts),
          few (reserved text context f parts) (scope text context f parts),
        )

    image-few : (context : Context) (parts : Trees) → ((o c : Context) → filled (walk_sets text around o parts) + filled (walk_rest text around c parts) ≤ all_most parts) → filled (walk text around context (Node Form.SetImage (record { start = 0; end = 0 }) parts)) ≤ 0 + all_most parts
    image-few context parts few =
        let own = all_refused text context (binders Form.SetImage parts) in
        let rest = walk_rest text around (bind_all text context (binders Form.SetImage parts)) parts in
        let sets = walk_sets text around context parts in
        omega (arith, filled-append (own ++ rest) sets, filled-append own rest, refused-none text context (binders Form.SetImage parts), few context (bind_all text context (binders Form.SetImage parts)))

    mutual
      pub walk-filled : (context : Context) (x : Tree) → filled (walk text around context x) ≤ most x
      walk-filled context (Node Form.Identifier s parts) = omega (arith, segments-filled context parts)
      walk-filled context (Node (Form.Symbol l) s parts) = omega (arith, symbol-none context itself l l.kind)
      walk-filled context (Node (Form.Prefix l) s parts) = omega (arith, filled-append (symbol_findings context prefixed l l.kind) (walk_each text around context parts), symbol-none context prefixed l l.kind, each-filled context parts)
      walk-filled context (Node (Form.Infix l) s parts) = omega (arith, round-filled context l parts)
      walk-filled context (Node (Form.Postfix l) s parts) = omega (arith, filled-append (walk_each text around context parts) (symbol_findings context itself l l.kind), symbol-none context itself l l.kind, each-filled context parts)
      walk-filled context (Node Form.Let s parts) = omega (arith, chain-filled context parts)
      walk-filled context (Node (Form.Instance l) s parts) =
          omega (
            arith,
            filled-append (replaced text around context (replaceable text around l) [] parts) (implied context l (left_sides text.source parts) (replaceable text around l)),
            implied-few context l (left_sides text.source parts) (replaceable text around l) (nat_eq start l.span.start) refl,
            replaced-filled context (replaceable text around l) [] parts,
          )
      walk-filled context (Node Form.SetImage s parts) = image-few context parts (λ o c. parts-filled o c parts)
      walk-filled context (Node f s parts) = form-few context f parts (λ o c. parts-filled o c parts)

      each-filled : (context : Context) (parts : Trees) → filled (walk_each text around context parts) ≤ all_most parts
      each-filled context Nil = omega arith
      each-filled context (Cons x rest) = omega (arith, filled-append (walk text around context x) (walk_each text around context rest), walk-filled context x, each-filled context rest)

      round-filled : (context : Context) (l : Lexeme) (parts : Trees) → filled (walk_round text around context l parts) ≤ all_most parts
      round-filled context l Nil = omega (arith, symbol-none context itself l l.kind)
      round-filled context l (Cons x rest) =
          omega (
            arith,
            filled-append (walk text around context x ++ symbol_findings context itself l l.kind) (walk_each text around context rest),
            filled-append (walk text around context x) (symbol_findings context itself l l.kind),
            symbol-none context itself l l.kind,
            walk-filled context x,
            each-filled context rest,
          )

      chain-filled : (context : Context) (parts : Trees) → filled (walk_chain text around context parts) ≤ all_most parts
      chain-filled context Nil = omega arith
      chain-filled context (Cons x rest) = omega (arith, filled-append (walk text around context x) (walk_chain text around (behind text context x) rest), walk-filled context x, chain-filled (behind text context x) rest)

      parts-filled : (o c : Context) (parts : Trees) → filled (walk_sets text around o parts) + filled (walk_rest text around c parts) ≤ all_most parts
      parts-filled o c Nil = omega arith
      parts-filled o c (Cons (Node f s parts) rest) =
          let x = Node f s parts in
          let set = if has_set f then walk text around o x else [] in
          let other = if has_set f then [] else walk text around c x in
          omega (
            arith,
            filled-append set (walk_sets text around o rest),
            filled-append other (walk_rest text around c rest),
            parted (has_set f) (walk text around o x) (walk text around c x) (most x) (walk-filled o (Node f s parts)) (walk-filled c (Node f s parts)),
            parts-filled o c rest,
          )

      replaced-filled : (context : Context) (parameters : Exports) (before : List Named) (parts : Trees) → filled (replaced text around context parameters before parts) ≤ all_most parts
      replaced-filled context parameters before Nil = omega arith
      replaced-filled context parameters before (Cons (Node (Form.Replacement l) s right) rest) =
          let name = name_of text.source l in
          let side = replaced_as l (is_among before name) (entry_of parameters name) in
          let later = replaced text around context parameters (name ∷ before) rest in
          omega (
            arith,
            filled-append (side ++ walk_each text around context right) later,
            filled-append side (walk_each text around context right),
            side-none l (is_among before name) (entry_of parameters name),
            each-filled context right,
            replaced-filled context parameters (name ∷ before) rest,
          )
      replaced-filled context parameters before (Cons (Node f s right) rest) = omega (arith, replaced-filled context parameters before rest)

      segments-filled : (context : Context) (parts : Trees) → filled (segments text around context parts) ≤ all_most parts
      segments-filled context Nil = omega arith
      segments-filled context (Cons (Node (Form.Segment l) s arguments) rest) =
          let means = meaning_of context (name_of text.source l) in
          let own = use_findings l means in
          let later = path text around context (path_number text around l) (behind_meaning around.known means) rest in
          omega (
            arith,
            filled-append (own ++ walk_each text around context arguments) (if is_some means then later else []),
            filled-append own (walk_each text around context arguments),
            use-none l means,
            each-filled context arguments,
            either-few (is_some means) later (all_most rest) (path-filled context (path_number text around l) (behind_meaning around.known means) rest),
          )
      segments-filled context (Cons x rest) = omega arith

      path-filled : (context : Context) (number : ℕ) (held : Behind) (parts : Trees) → filled (path text around context number held parts) ≤ all_most parts
      path-filled context number held Nil = omega arith
      path-filled context number held (Cons (Node (Form.Segment l) s arguments) rest) =
          let name = name_of text.source l in
          let means = entry_of (held []) name in
          let own = use_findings l (called_by number rest means) in
          let later = path text around context number (onward held name) rest in
          omega (
            arith,
            filled-append (own ++ walk_each text around context arguments) (if is_some means then later else []),
            filled-append own (walk_each text around context arguments),
            use-none l (called_by number rest means),
            each-filled context arguments,
            either-few (is_some means) later (all_most rest) (path-filled context number (onward held name) rest),
          )
      path-filled context number held (Cons x rest) = omega arith

  -- ---- where none begins

  lexemes-append : (a b : List Lexeme) → counted (begins_at start) (a ++ b) ≡ counted (begins_at start) a + counted (begins_at start) b
  lexemes-append [] b = omega arith
  lexemes-append (l ∷ a) b = omega (arith, lexemes-append a b)

  module _ (text : Text) (named : List ℕ → ModuleView) where
    instance-none : (l : Lexeme) (n : ℕ) (b : Bool) → nat_eq start l.span.start ≡ b → weight (begins_at start) l ≡ 0 → (if b then n else 0) ≡ 0
    instance-none l n true e w = absurd (omega (arith, w, here (eqb-true start l.span.start e)))
      where
        here : start ≡ l.span.start → weight (begins_at start) l ≡ 1
        here same = subst (λ k. weight (begins_at k) l ≡ 1) (sym same) (own-counts l)
    instance-none l n false e w = refl

    own-none : (f : Form.the_data) (parts : Trees) → counted (begins_at start) (form_lexemes f) ≡ 0 → own_stand_ins text named start f parts ≡ 0
    own-none (Form.Instance l) parts none = instance-none l (left_out text named l parts) (nat_eq start l.span.start) refl (omega arith)
    own-none Form.Let parts none = refl
    own-none _ parts none = refl

    mutual
      pub tree-none : (x : Tree) → counted (begins_at start) (lexemes x) ≡ 0 → stand_ins text named start x ≡ 0
      tree-none (Node f s parts) none =
          let split = lexemes-append (form_lexemes f) (all_lexemes parts) in
          let own : counted (begins_at start) (form_lexemes f) ≡ 0 = omega (arith, none, split) in
          let rest : counted (begins_at start) (all_lexemes parts) ≡ 0 = omega (arith, none, split) in
          omega (arith, own-none f parts own, trees-none parts rest)

      pub trees-none : (xs : Trees) → counted (begins_at start) (all_lexemes xs) ≡ 0 → all_stand_ins text named start xs ≡ 0
      trees-none Nil none = refl
      trees-none (Cons x rest) none =
          let split = lexemes-append (lexemes x) (all_lexemes rest) in
          let own : counted (begins_at start) (lexemes x) ≡ 0 = omega (arith, none, split) in
          let later : counted (begins_at start) (all_lexemes rest) ≡ 0 = omega (arith, none, split) in
          omega (arith, tree-none x own, trees-none rest later)

  -- ---- units

  clash-none : (l : Lexeme) (b : Bool) → filled (if b then InstanceClashes l ∷ [] else []) ≡ 0
  clash-none l true = refl
  clash-none l false = refl

  clashes-none : (l : Lexeme) (b : Bool) → filled (if b then Clashes l ∷ [] else []) ≡ 0
  clashes-none l true = refl
  clashes-none l false = refl

  extends-none : (text : Text) (files : List ℕ → Exports) (reading : Reading) (names : List Lexeme) → filled (all_clashing text files reading names) ≡ 0
  extends-none text files reading [] = refl
  extends-none text files reading (l ∷ rest) =
      let here = brings_clash reading (brings text files reading l) in
      let later = extended reading (brings text files reading l) in
      omega (arith, filled-append (if here then Clashes l ∷ [] else []) (all_clashing text files later rest), clashes-none l here, extends-none text files later rest)

  -- the trees of a unit hold no more than it does
  pub trees-in : (unit : UnitTree) → counted (begins_at start) (all_lexemes (unit_trees unit)) ≤ counted (begins_at start) (unit_lexemes unit)
  trees-in (OperatorDefinition local x) = omega (arith, lexemes-append (lexemes x) [])
  trees-in (FunctionDefinition local x) = omega (arith, lexemes-append (lexemes x) [])
  trees-in (ModuleDefinition local x) = omega (arith, lexemes-append (lexemes x) [])
  trees-in (Instance local x) = omega (arith, lexemes-append (lexemes x) [])
  trees-in (Assumption word name x) = omega (arith, lexemes-append (lexemes x) [])
  trees-in (Theorem word name x) = omega (arith, lexemes-append (lexemes x) [])
  trees-in (Variables names) = omega arith
  trees-in (Constants declarations) = omega arith
  trees-in (Line dashes) = omega arith
  trees-in (ModuleBegin dashes name extends) = omega arith
  trees-in (ModuleEnd closing) = omega arith

  module _ (text : Text) (files : List ℕ → ModuleView) (words paths : List ℕ) where
    -- what stands in in a unit, and in units
    abbrev unit_most : ReadState → UnitTree → ℕ
    unit_most state unit = all_stand_ins text (module_named text files words state) start (unit_trees unit)

    abbrev total : ReadState → List UnitTree → ℕ
    total state [] = 0
    total state (unit ∷ units) = unit_most state unit + total (after text files words state unit) units

    brings-none : (state : ReadState) (x : Tree) → filled (clash_by text files words state x) ≡ 0
    brings-none state (Node (Form.Instance l) s parts) = clash-none l (brings_clash state.place.here (instance_brings text files words state (Node (Form.Instance l) s parts)))
    brings-none state (Node Form.Let s parts) = refl
    brings-none state (Node _ s parts) = refl

    tree-filled : (state : ReadState) (unit : UnitTree) (x : Tree) → filled (found_of text files words paths state unit x) ≤ all_stand_ins text (module_named text files words state) start (Cons x Nil)
    tree-filled state unit x = omega (arith, walk-filled text (surround text files words paths state unit) state.place.here.context x)

    unit-filled : (state : ReadState) (unit : UnitTree) → filled (found_in text files words paths state unit) ≤ unit_most state unit
    unit-filled state (Variables names) = omega (arith, refused-none text state.place.here.context (variables names))
    unit-filled state (Constants declarations) = omega (arith, refused-none text state.place.here.context (constants declarations))
    unit-filled state (OperatorDefinition local x) = tree-filled state (OperatorDefinition local x) x
    unit-filled state (FunctionDefinition local x) = tree-filled state (FunctionDefinition local x) x
    unit-filled state (ModuleDefinition local x) = tree-filled state (ModuleDefinition local x) x
    unit-filled state (Instance local x) =
        omega (arith, filled-append (found_of text files words paths state (Instance local x) x) (clash_by text files words state x), brings-none state x, tree-filled state (Instance local x) x)
    unit-filled state (Assumption word name x) = tree-filled state (Assumption word name x) x
    unit-filled state (Theorem word name x) = tree-filled state (Theorem word name x) x
    unit-filled state (Line dashes) = omega arith
    unit-filled state (ModuleBegin dashes name extends) =
        let taken = is_named text state.place.here name in
        omega (
          arith,
          filled-append (if taken then Taken name ∷ [] else []) (all_clashing text (exports_by files) (nested text state.place.here name) extends),
          taken-none name taken,
          extends-none text (exports_by files) (nested text state.place.here name) extends,
        )
    unit-filled state (ModuleEnd closing) = omega arith

    units-filled : (state : ReadState) (units : List UnitTree) → filled (found_from text files words paths state units) ≤ total state units
    units-filled state [] = omega arith
    units-filled state (unit ∷ units) =
        let later = after text files words state unit in
        omega (arith, filled-append (found_in text files words paths state unit) (found_from text files words paths later units), unit-filled state unit, units-filled later units)

    unit-none : (state : ReadState) (unit : UnitTree) → counted (begins_at start) (unit_lexemes unit) ≡ 0 → unit_most state unit ≡ 0
    unit-none state unit none = trees-none text (module_named text files words state) (unit_trees unit) (omega (arith, none, trees-in unit))

    units-none : (state : ReadState) (units : List UnitTree) → counted (begins_at start) (units_lexemes units) ≡ 0 → total state units ≡ 0
    units-none state [] none = refl
    units-none state (unit ∷ units) none =
        let split = lexemes-append (unit_lexemes unit) (units_lexemes units) in
        let own : counted (begins_at start) (unit_lexemes unit) ≡ 0 = omega (arith, none, split) in
        let later : counted (begins_at start) (units_lexemes units) ≡ 0 = omega (arith, none, split) in
        omega (arith, unit-none state unit own, units-none (after text files words state unit) units later)

    -- the lexemes of a unit are among those of the units
    one-among : (before : List UnitTree) (unit : UnitTree) (behind : List UnitTree) → counted (begins_at start) (unit_lexemes unit) ≤ counted (begins_at start) (units_lexemes (before ++ unit ∷ behind))
    one-among [] unit behind = omega (arith, lexemes-append (unit_lexemes unit) (units_lexemes behind))
    one-among (first ∷ before) unit behind = omega (arith, lexemes-append (unit_lexemes first) (units_lexemes (before ++ unit ∷ behind)), one-among before unit behind)

    -- what stands in here stands in in the unit whose lexeme begins here
    total-at : (state : ReadState) (before : List UnitTree) (unit : UnitTree) (behind : List UnitTree) → counted (begins_at start) (units_lexemes (before ++ unit ∷ behind)) ≤ 1 → 1 ≤ counted (begins_at start) (unit_lexemes unit)
        → total state (before ++ unit ∷ behind) ≤ unit_most (read_all text files words state before) unit
    total-at state [] unit behind few there =
        let later : counted (begins_at start) (units_lexemes behind) ≡ 0 = omega (arith, few, there, lexemes-append (unit_lexemes unit) (units_lexemes behind)) in
        omega (arith, units-none (after text files words state unit) behind later)
    total-at state (first ∷ before) unit behind few there =
        let split = lexemes-append (unit_lexemes first) (units_lexemes (before ++ unit ∷ behind)) in
        let own : counted (begins_at start) (unit_lexemes first) ≡ 0 = omega (arith, few, there, split, one-among before unit behind) in
        let rest : counted (begins_at start) (units_lexemes (before ++ unit ∷ behind)) ≤ 1 = omega (arith, few, split) in
        omega (arith, unit-none state first own, total-at (after text files words state first) before unit behind rest there)

-- ---- all INSTANCEs of a unit

module _ (text : Text) (named : List ℕ → ModuleView) (found : List Finding) where
  own-filled : (f : Form.the_data) (parts : Trees) → BeginApart (form_lexemes f ++ all_lexemes parts)
      → ((start : ℕ) → 1 ≤ counted (begins_at start) (form_lexemes f ++ all_lexemes parts) → length (implied_by found start) ≤ own_stand_ins text named start f parts + all_stand_ins text named start parts) → IsFilledForm text named found f parts
  own-filled (Form.Instance l) parts apart most =
      let start = l.span.start in
      let here = own-counts l in
      let none : all_stand_ins text named start parts ≡ 0 = trees-none start text named parts (omega (arith, apart start, here)) in
      let own : own_stand_ins text named start (Form.Instance l) parts ≡ left_out text named l parts = ap (λ b. if b then left_out text named l parts else 0) (own-start start) in
      omega (arith, most start (omega (arith, here)), none, own)
  own-filled Form.Let parts apart most = tt
  own-filled _ parts apart most = tt

  mutual
    tree-fills : (x : Tree) → BeginApart (lexemes x) → ((start : ℕ) → 1 ≤ counted (begins_at start) (lexemes x) → length (implied_by found start) ≤ stand_ins text named start x) → AreFilled text named found x
    tree-fills (Node f s parts) apart most = (
      own-filled f parts apart most,
      trees-fill parts (λ start. omega (arith, apart start, lexemes-append start (form_lexemes f) (all_lexemes parts))) (λ start there.
          let split = lexemes-append start (form_lexemes f) (all_lexemes parts) in
          let own : counted (begins_at start) (form_lexemes f) ≡ 0 = omega (arith, apart start, split, there) in
          omega (arith, most start (omega (arith, split, there)), own-none start text named f parts own)),
    )

    pub trees-fill : (xs : Trees) → BeginApart (all_lexemes xs) → ((start : ℕ) → 1 ≤ counted (begins_at start) (all_lexemes xs) → length (implied_by found start) ≤ all_stand_ins text named start xs) → AreAllFilled text named found xs
    trees-fill Nil apart most = tt
    trees-fill (Cons x rest) apart most = (
      tree-fills x (λ start. omega (arith, apart start, lexemes-append start (lexemes x) (all_lexemes rest))) (λ start there.
          let split = lexemes-append start (lexemes x) (all_lexemes rest) in
          let later : counted (begins_at start) (all_lexemes rest) ≡ 0 = omega (arith, apart start, split, there) in
          omega (arith, most start (omega (arith, split, there)), trees-none start text named rest later)),
      trees-fill rest (λ start. omega (arith, apart start, lexemes-append start (lexemes x) (all_lexemes rest))) (λ start there.
          let split = lexemes-append start (lexemes x) (all_lexemes rest) in
          let own : counted (begins_at start) (lexemes x) ≡ 0 = omega (arith, apart start, split, there) in
          omega (arith, most start (omega (arith, split, there)), tree-none start text named x own)),
    )

pub unit-fills : (files : List ℕ → ModuleView) (source : List ℕ) (units : ModuleUnits) (before : List UnitTree) (unit : UnitTree) (behind : List UnitTree) → BeginApart (module_lexemes units) → units.units ≡ before ++ unit ∷ behind
    → AreAllFilled (text_of source units) (module_named (text_of source units) files (words_of units) (read_all (text_of source units) files (words_of units) (first files source units) before)) (findings files source units) (unit_trees unit)
unit-fills files source units before unit behind apart whole =
    let text = text_of source units in
    let words = words_of units in
    let paths = paths_in units.units in
    let state = first files source units in
    let named = module_named text files words (read_all text files words state before) in
    let few : (start : ℕ) → counted (begins_at start) (units_lexemes (before ++ unit ∷ behind)) ≤ 1 =
    λ start. subst (λ us. counted (begins_at start) (units_lexemes us) ≤ 1) whole (omega (arith, apart start, lexemes-append start units.extends (units_lexemes units.units))) in
    trees-fill text named (findings files source units) (unit_trees unit) (λ start. omega (arith, few start, trees-in start unit, one-among start text files words paths before unit behind)) (λ start there.
    let found = found_from text files words paths state units.units in
    let all : filled start found ≤ total start text files words paths state (before ++ unit ∷ behind) = subst (λ us. filled start found ≤ total start text files words paths state us) whole (units-filled start text files words paths state units.units) in
    omega (
      arith,
      filled-append start (all_clashing text (exports_by files) (unread text) units.extends) found,
      extends-none start text (exports_by files) (unread text) units.extends,
      all,
      total-at start text files words paths state before unit behind (few start) (omega (arith, there, trees-in start unit)),
    ))
