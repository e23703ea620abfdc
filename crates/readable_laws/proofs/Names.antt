-- Names, symbols and paths can be read where they were found, with the arguments that they take.
use Rattle.std.proofs.Common.{◌≡◌, ◌+◌, ℕ, zero, suc, List, [], ◌∷◌, ◌++◌, Bool, true, false, Option, Some, None, is_some, refl, sym, ap, subst, ◌∙◌, length, if◌then◌else◌, arith}
use Rattle.std.specs.Prelude.{Contains, nat_eq, slice_get}
use Rattle.tla_symbols.specs.declared.lexeme.LexKind.TheVariants as LexKind
use Rattle.tla_symbols.specs.declared.lexeme.Lexeme.{Lexeme}
use Rattle.tla_symbols.specs.declared.lexeme.Span.{Span}
use Rattle.tla_symbols.specs.declared.level.Rule.{Rule}
use Rattle.tla_symbols.specs.declared.op.Op.TheVariants as Op
use Rattle.tla_tree.specs.declared.form.Form.TheVariants as Form
use Rattle.tla_tree.specs.Syntax.{Tree, Trees, Node, Nil, Cons}
use Rattle.tla_model.specs.declared.names.Finding.TheVariants.{Means, Unknown}
use Rattle.tla_model.specs.declared.names.Meaning.TheVariants.{BuiltIn, Declared}
use Rattle.tla_model.specs.Tables.{Symbol}
use Rattle.tla_model.specs.Entities.{Meaning, Text, name_of}
use Rattle.tla_model.specs.Contexts.{Context, meaning_of}
use Rattle.tla_model.specs.Scopes.{Finding, is_free, itself, symbol_findings, use_findings}
use Rattle.module_model.specs.Exports.{Behind, Known, behind_meaning, entry_of, onward}
use Rattle.module_model.specs.Instances.{called_by}
use Rattle.module_model.specs.TreeFindings.{Surroundings, path, path_number, segments, walk, walk_each}
use Rattle.tree_kinds.specs.Standing.{Outside, operator_places}
use Rattle.tree_kinds.specs.Expanding.{bare_rule, built_in_places, called_behind, is_bare, symbol_places}
use Rattle.flat_trees.specs.Names.{order_by, places_by}
use Rattle.arity_rules.specs.declared.place.Due.TheVariants as due
use Rattle.arity_rules.specs.declared.place.Role.TheVariants as role
use Rattle.arity_rules.specs.Arities.{Role, argument_order, arity, count, due_by, is_known, is_part_inside, order_at, meaning as found_entity, part_due, part_faults, path_faults, symbol_meaning, tree_faults, use_faults}
use Rattle.flattened_trees.specs.Leads.{FlatFace}
use Rattle.flattened_trees.specs.NodeForms.{bare_places, last_segment, meant_at}
use Rattle.flattened_trees.specs.Readable.{CanStandBare, IsInstanceOf, IsMeaning, IsOperator, IsReadableBare, IsReadablePath, count as written, orders_of}
use Rattle.readable_laws.specs.Uses.{implied_by, means_by}
use Rattle.readable_laws.specs.Accepted.{AreBehindInstances, TakePlaces}
use Rattle.readable_laws.proofs.FoundMeanings.{IsAgreed, entity_in}
use Rattle.readable_laws.proofs.Orders.{StandsBare, applied-use, arity-length, bare-use, expressions, first-empty, instance-entity, length-replicate, meaning-orders, meaning-places, no-instance, order-at, qualifier-use, replicate-only, rest-empty}
use Rattle.readable_laws.proofs.Paths.{Leads, first-leads, next-leads}
use Rattle.readable_laws.proofs.Reading.{AcceptedEach, Expression, Expressions, IsUsed, Met, ReadArguments, Reads, around, left, met-first, places, right}
use Rattle.readable_laws.proofs.Symbols.{IsFreeFor, bare-free, places-some}
use Rattle.readable_laws.proofs.Shapes.{symbol-whole}
use Rattle.std.proofs.lemmas.Bool.{false≢true}
use Rattle.tla_model.specs.declared.entity.Entity.TheVariants as entity

-- a segment behind another means what stands there, but for the path that it is called through
called-none : (number : ℕ) (rest : Trees) → called_by number rest None ≡ None
called-none number Nil = refl
called-none number (Cons x rest) = refl

abbrev Called : ℕ → Trees → Meaning → Type 0
Called number rest m = (meant : Meaning) × (called_by number rest (Some m) ≡ Some meant) × (entity_in meant ≡ entity_in m)

called-some : (number : ℕ) (rest : Trees) (m : Meaning) → Called number rest m
called-some number Nil BuiltIn = (BuiltIn, refl, refl)
called-some number Nil (Declared e callee) = (Declared e (record callee { instance = number }), refl, refl)
called-some number (Cons x rest) m = (m, refl, refl)

-- the places of what is written bare, by its order
bare-places : (m : Meaning) (order : ℕ) → StandsBare (entity_in m) order → operator_places (Some m) ≡ places_by order
bare-places m order bare = meaning-places m ∙ ap places_by (arity-length (entity_in m) ∙ (ap length bare.takes ∙ length-replicate order))

pub can-stand : (m : Meaning) (order : ℕ) → StandsBare (entity_in m) order → CanStandBare m
can-stand m order bare =
    let takes : orders_of m ≡ expressions order = meaning-orders m ∙ bare.takes in
    (no-instance m bare.apart, takes ∙ ap expressions (sym (ap length takes ∙ length-replicate order)))

pub order-places : (order : ℕ) → order_by (places_by order) ≡ order
order-places zero = refl
order-places (suc order) = refl

some-places : (n : ℕ) → nat_eq n 0 ≡ false → Some n ≡ places_by n
some-places zero e = absurd (cc)
some-places (suc n) e = refl

is-places : (n : ℕ) → nat_eq n 0 ≡ false → is_some (places_by n) ≡ true
is-places zero e = absurd (cc)
is-places (suc n) e = refl

-- a path is as bare as its last segment
bare-rest : (f g : Form.the_data) (s t : Span) (args others rest : Trees) → is_bare false (Cons (Node f s args) (Cons (Node g t others) rest)) ≡ is_bare false (Cons (Node g t others) rest)
bare-rest f g s t Nil Nil rest = refl
bare-rest f g s t Nil (Cons x others) rest = refl
bare-rest f g s t (Cons y args) others rest = refl

module _ (text : Text) (known : Known) (named : List ℕ → Outside) (paths : List ℕ) (found : List Finding) (faces : List ℕ → FlatFace)
    (agrees : (f : Finding) → Contains found f → IsAgreed (means_by found) (found_entity found) f) where
  abbrev here : Surroundings
  here = around text known named paths found faces

  abbrev Found : List Finding → Type 0
  Found fs = Met text known named paths found faces fs

  abbrev AsExpression : Tree → Type 0
  AsExpression x = Expression text known named paths found faces x

  abbrev AsExpressions : Trees → Type 0
  AsExpressions xs = Expressions text known named paths found faces xs

  abbrev first : {a : List Finding} (b : List Finding) → Found (a ++ b) → Found a
  first {a} b h = left text known named paths found faces b h

  abbrev last : (a : List Finding) {b : List Finding} → Found (a ++ b) → Found b
  last a {b} h = right text known named paths found faces a h

  abbrev are_accepted : Trees → Type 0
  are_accepted xs = AcceptedEach text known named paths found faces xs

  abbrev reads_arguments : Context → List ℕ → Trees → Type 0
  reads_arguments context orders xs = ReadArguments text known named paths found faces context orders xs

  abbrev reads_path : Context → Option Meaning → Behind → Trees → Type 0
  reads_path context m held xs = IsReadablePath text known named (means_by found) (implied_by found) faces context m held xs

  found_first : (f : Finding) (fs : List Finding) → Found (f ∷ fs) → Contains found f
  found_first f fs met = met-first text known named paths found faces f fs met

  -- ---- uses

  -- a use means what stands there
  pub record IsUse (l : Lexeme) (o : Option Meaning) : Type 0 where
    pub meant : Meaning
    pub there : o ≡ Some meant
    pub means : means_by found l.span.start ≡ Some meant
    pub entity : found_entity found l.span.start ≡ Some (entity_in meant)

  pub use-met : (l : Lexeme) (o : Option Meaning) → Found (use_findings l o) → IsUse l o
  use-met l None met = absurd (agrees (Unknown l) (found_first (Unknown l) [] met))
  use-met l (Some m) met = let agreed = agrees (Means l m) (found_first (Means l m) [] met) in record { meant = m; there = refl; means = agreed.0; entity = agreed.1 }

  abbrev Further : Lexeme → Option Meaning → Type 0
  Further l o = (m : Meaning) × (o ≡ Some m) × IsUsed found l m

  further-use : (number : ℕ) (rest : Trees) (o : Option Meaning) (l : Lexeme) → Found (use_findings l (called_by number rest o)) → Further l o
  further-use number rest None l met =
      let gone = use-met l None (subst (λ o. Found (use_findings l o)) (called-none number rest) met) in
      let none : None ≡ Some gone.meant = gone.there in
      absurd (cc none)
  further-use number rest (Some m) l met =
      let called = called-some number rest m in
      let u = use-met l (Some called.0) (subst (λ o. Found (use_findings l o)) called.1 met) in
      let there : Some called.0 ≡ Some u.meant = u.there in
      let meant : called.0 ≡ u.meant = cc there in
      let same : entity_in u.meant ≡ entity_in m = ap entity_in (sym meant) ∙ called.2 in
      (m, refl, record { meant = u.meant; means = u.means; same = same; entity = u.entity ∙ ap Some same })

  -- ---- arguments

  -- what is found in each of these stands in a row
  abbrev pub FoundEach : Context → Trees → Type 0
  FoundEach context Nil = Unit {0}
  FoundEach context (Cons x rest) = Found (walk text here context x) × FoundEach context rest

  pub found-each : (xs : Trees) (context : Context) → Found (walk_each text here context xs) → FoundEach context xs
  found-each Nil context met = tt
  found-each (Cons x rest) context met = (first _ met, found-each rest context (last _ met))

  pub arguments-read : (xs : Trees) → AsExpressions xs → (context : Context) (r : Role) (inside : Bool) (index : ℕ) (orders : List ℕ)
      → ((i order : ℕ) (w : Span) → slice_get orders i ≡ Some order → part_due (found_entity found) r (i + index) w ≡ due_by (Some order) w)
      → count xs ≡ length orders → TakePlaces context → FoundEach context xs → part_faults (found_entity found) r inside index xs ≡ [] → are_accepted xs → reads_arguments context orders xs
  arguments-read Nil es context r inside index [] dues counted u met none accepted = tt
  arguments-read Nil es context r inside index (order ∷ orders) dues counted u met none accepted = absurd (omega arith)
  arguments-read (Cons x rest) es context r inside index [] dues counted u met none accepted = absurd (omega arith)
  arguments-read (Cons (Node f s ps) rest) es context r inside index (order ∷ orders) dues counted u met none accepted =
      let own = tree_faults (found_entity found) (part_due (found_entity found) r index s) (is_part_inside r inside f) (Node f s ps) in
      let others = part_faults (found_entity found) r inside (suc index) rest in
      let index-is : zero + index ≡ index = omega arith in
      let is-due : part_due (found_entity found) r index s ≡ due_by (Some order) s = ap (λ k. part_due (found_entity found) r k s) (sym index-is) ∙ dues zero order s refl in
      let faults = subst (λ d. tree_faults (found_entity found) d (is_part_inside r inside f) (Node f s ps) ≡ []) is-due (first-empty own others none) in
      let read = es.0.reads context order s (is_part_inside r inside f) u met.0 faults accepted.0 in (
        es.0.shape.part,
        ap order_by read.1 ∙ order-places order,
        read.0,
        arguments-read rest es.1 context r inside (suc index) orders (later dues) (omega arith) u met.1 (rest-empty own others none) accepted.1,
      )
    where
      later : ((i o : ℕ) (w : Span) → slice_get (order ∷ orders) i ≡ Some o → part_due (found_entity found) r (i + index) w ≡ due_by (Some o) w)
          → (i o : ℕ) (w : Span) → slice_get orders i ≡ Some o → part_due (found_entity found) r (i + suc index) w ≡ due_by (Some o) w
      later dues i o w at = let e : i + suc index ≡ suc i + index = omega arith in ap (λ k. part_due (found_entity found) r k w) e ∙ dues (suc i) o w at

  -- operands are expressions
  pub operands-read : (xs : Trees) → AsExpressions xs → (context : Context) (inside : Bool) (n : ℕ) → count xs ≡ n → TakePlaces context → FoundEach context xs → part_faults (found_entity found) role.Other inside 0 xs ≡ [] → are_accepted xs
      → reads_arguments context (expressions n) xs
  operands-read xs es context inside n counted u met none accepted =
      arguments-read xs es context role.Other inside 0 (expressions n) (λ i order w at. ap (λ o. due_by (Some o) w) (sym (replicate-only n i order at))) (counted ∙ sym (length-replicate n)) u met none accepted

  -- what is due of the arguments of a name
  segment-dues : (l : Lexeme) (m : Meaning) → found_entity found l.span.start ≡ Some (entity_in m) → (i order : ℕ) (w : Span) → slice_get (orders_of m) i ≡ Some order → part_due (found_entity found) (role.Segment l) (i + 0) w ≡ due_by (Some order) w
  segment-dues l m entity i order w at =
      let e : i + 0 ≡ i = omega arith in
      let ordered : argument_order (Some (entity_in m)) (i + 0) ≡ Some order = ap (order_at (entity_in m)) e ∙ (order-at (entity_in m) i ∙ (ap (λ os. slice_get os i) (sym (meaning-orders m)) ∙ at)) in
      ap (λ o. due_by o w) (ap (λ o. argument_order o (i + 0)) entity ∙ ordered)

  -- ---- symbols

  pub symbol-use : (context : Context) (which : Op.the_data → Op.the_data) (l : Lexeme) (op : Op.the_data) → is_free (which op) ≡ true → Found (symbol_findings context which l (LexKind.Sym op)) → IsUse l (meaning_of context (Symbol (which op)))
  symbol-use context which l op free met = use-met l (meaning_of context (Symbol (which op))) (subst (λ b. Found (if b then use_findings l (meaning_of context (Symbol (which op))) else [])) free met)

  abbrev pub Operates : Context → Lexeme → (Op.the_data → Op.the_data) → LexKind.the_data → Option Rule → Trees → List ℕ → Type 0
  Operates context l which kind rule parts orders = IsOperator text known named (means_by found) (implied_by found) faces context l which kind rule parts orders

  pub operator-read : (context : Context) (l : Lexeme) (which : Op.the_data → Op.the_data) (op : Op.the_data) (rule : Option Rule) (x : Tree) (xs : Trees) (n : ℕ) → (rule ≡ None → IsFreeFor (which op) n) → written (Cons x xs) ≡ n → TakePlaces context
      → Found (symbol_findings context which l (LexKind.Sym op)) → Operates context l which (LexKind.Sym op) rule (Cons x xs) (expressions n)
  operator-read context l which op (Some rule) x xs n free counted u met = ap expressions (sym counted)
  operator-read context l which op None x xs n free counted u met =
      let is = free refl in
      let used_as = symbol-use context which l op is.free met in
      let takes = u (which op) used_as.meant used_as.there in
      let stands_bare : CanStandBare used_as.meant = (takes.0, takes.1 ∙ ap expressions (sym (ap length takes.1 ∙ length-replicate (built_in_places (which op))))) in
      (is.free, (used_as.meant, record { here = used_as.means; there = used_as.there }, stands_bare, sym (takes.1 ∙ ap expressions is.places_are)))

  -- ---- paths

  -- from a segment on, behind which this stands
  pub record PathRead (context : Context) (m : Meaning) (held : Behind) (order : ℕ) (l : Lexeme) (s : Span) (args rest : Trees) : Type 0 where
    pub path : reads_path context (Some m) held (Cons (Node (Form.Segment l) s args) rest)
    pub bare : (if is_bare false (Cons (Node (Form.Segment l) s args) rest) then operator_places (called_behind text known named held (Some m) rest) else None) ≡ places_by order
    pub end : operator_places (meant_at text.source (means_by found) (last_segment (Some l) rest)) ≡ operator_places (called_behind text known named held (Some m) rest)

  used-places : (l : Lexeme) (m : Meaning) → IsUsed found l m → operator_places (means_by found l.span.start) ≡ operator_places (Some m)
  used-places l m used = ap operator_places used.means ∙ (meaning-places used.meant ∙ (ap (λ e. places_by (arity e)) used.same ∙ sym (meaning-places m)))

  last-read : (l : Lexeme) (s : Span) (args : Trees) → AsExpressions args → (context : Context) (m : Meaning) (held : Behind) (order : ℕ) (whole : Span) (inside : Bool) → IsUsed found l m → TakePlaces context → Found (walk_each text here context args)
      → tree_faults (found_entity found) (due_by (Some order) whole) inside (Node (Form.Segment l) s args) ≡ [] → are_accepted args → PathRead context m held order l s args Nil
  last-read l s Nil es context m held order whole inside used u met none accepted =
      let own = use_faults (due_by (Some order) whole) l.span 0 (found_entity found l.span.start) in
      let bare = bare-use order whole l.span (entity_in m) (subst (λ e. use_faults (due_by (Some order) whole) l.span 0 e ≡ []) used.entity (first-empty own [] none)) in
      record { path = can-stand m order bare; bare = bare-places m order bare; end = used-places l m used }
  last-read l s (Cons x xs) es context m held order whole inside used u met none accepted =
      let own = use_faults (due_by (Some order) whole) l.span (count (Cons x xs)) (found_entity found l.span.start) in
      let others = part_faults (found_entity found) (role.Segment l) inside 0 (Cons x xs) in
      let applied = applied-use order (count xs) whole l.span (entity_in m) (subst (λ e. use_faults (due_by (Some order) whole) l.span (count (Cons x xs)) e ≡ []) used.entity (first-empty own others none)) in
      record {
        path = (
          no-instance m applied.apart,
          arguments-read (Cons x xs) es context (role.Segment l) inside 0 (orders_of m) (segment-dues l m used.entity) (applied.takes ∙ (arity-length (entity_in m) ∙ ap length (sym (meaning-orders m)))) u (found-each (Cons x xs) context met) (rest-empty own others none) accepted,
        );
        bare = sym (ap places_by applied.plain);
        end = used-places l m used;
      }

  qualified : (context : Context) (m : Meaning) (held : Behind) (l next : Lexeme) (s t : Span) (args others rest : Trees) → IsInstanceOf m (orders_of m) → reads_arguments context (orders_of m) args
      → reads_path context (entry_of (held []) (name_of text.source next)) (onward held (name_of text.source next)) (Cons (Node (Form.Segment next) t others) rest)
      → reads_path context (Some m) held (Cons (Node (Form.Segment l) s args) (Cons (Node (Form.Segment next) t others) rest))
  qualified context m held l next s t Nil others rest is arguments further = (is, arguments, further)
  qualified context m held l next s t (Cons x args) others rest is arguments further = (is, arguments, further)

  -- segments with arguments that are expressions
  abbrev pub Segments : Trees → Type 0
  Segments Nil = Unit {0}
  Segments (Cons (Node (Form.Segment l) s args) rest) = AsExpressions args × Segments rest
  Segments (Cons x rest) = ⊥

  path-read : (l : Lexeme) (s : Span) (args rest : Trees) → AsExpressions args → Segments rest → (context : Context) (number : ℕ) (m : Meaning) (held : Behind) (order : ℕ) (whole : Span) (inside : Bool) → IsUsed found l m → Leads m held → TakePlaces context
      → Found (walk_each text here context args) → Found (path text here context number held rest) → path_faults (found_entity found) (due_by (Some order) whole) inside (Cons (Node (Form.Segment l) s args) rest) ≡ [] → are_accepted args → are_accepted rest
      → PathRead context m held order l s args rest
  path-read l s args Nil es more context number m held order whole inside used leads u met further none accepted others =
      last-read l s args es context m held order whole inside used u met
      (first-empty (tree_faults (found_entity found) (due_by (Some order) whole) inside (Node (Form.Segment l) s args)) (if is_known (found_entity found) (Form.Segment l) then [] else []) none) accepted
  path-read l s args (Cons (Node (Form.Segment next) t xs) rest) es more context number m held order whole inside used leads u met further none accepted others =
      let name = name_of text.source next in
      let used_as = further-use number rest (entry_of (held []) name) next (first _ (first _ further)) in
      let behind = subst (λ o. Found (if is_some o then path text here context number (onward held name) rest else [])) used_as.1 (last _ further) in
      let d = due_by (Some order) whole in
      let own = tree_faults (found_entity found) due.Qualifier inside (Node (Form.Segment l) s args) in
      let later = path_faults (found_entity found) d inside (Cons (Node (Form.Segment next) t xs) rest) in
      let at_name = use_faults due.Qualifier l.span (count args) (found_entity found l.span.start) in
      let at_args = part_faults (found_entity found) (role.Segment l) inside 0 args in
      let is = leads.instance name used_as.0 used_as.1 in
      let faults : own ≡ [] = first-empty own (if is_known (found_entity found) (Form.Segment l) then later else []) none in
      let faults_behind : later ≡ [] = subst (λ o. (if is_some o then later else []) ≡ []) used.entity (rest-empty own (if is_known (found_entity found) (Form.Segment l) then later else []) none) in
      let counted = qualifier-use (count args) l.span (entity_in m) (instance-entity m is) (subst (λ e. use_faults due.Qualifier l.span (count args) e ≡ []) used.entity (first-empty at_name at_args faults)) in
      let inner = path-read next t xs rest more.0 more.1 context number used_as.0 (onward held name) order whole inside used_as.2 (next-leads m held name used_as.0 leads used_as.1) u (last _ (first _ further)) behind faults_behind others.0.1 others.1 in
      let arguments = arguments-read args es context (role.Segment l) inside 0 (orders_of m) (segment-dues l m used.entity) (counted ∙ (arity-length (entity_in m) ∙ ap length (sym (meaning-orders m)))) u (found-each args context met) (rest-empty at_name at_args faults) accepted in
      record {
        path = qualified context m held l next s t args xs rest is arguments (subst (λ o. reads_path context o (onward held name) (Cons (Node (Form.Segment next) t xs) rest)) (sym used_as.1) inner.path);
        bare =
            ap (λ b. if b then operator_places (called_behind text known named (onward held name) (entry_of (held []) name) rest) else None) (bare-rest (Form.Segment l) (Form.Segment next) s t args xs rest)
            ∙ (ap (λ o. if is_bare false (Cons (Node (Form.Segment next) t xs) rest) then operator_places (called_behind text known named (onward held name) o rest) else None) used_as.1 ∙ inner.bare);
        end = inner.end ∙ ap (λ o. operator_places (called_behind text known named (onward held name) o rest)) (sym used_as.1);
      }
  path-read l s args (Cons x rest) es more context number m held order whole inside used leads u met further none accepted others = absurd more

  identifier-at : (s : Span) (l : Lexeme) (t : Span) (args rest : Trees) → AsExpressions args → Segments rest → AreBehindInstances known → (context : Context) (order : ℕ) (whole : Span) (inside : Bool) → TakePlaces context
      → Found (segments text here context (Cons (Node (Form.Segment l) t args) rest)) → path_faults (found_entity found) (due_by (Some order) whole) inside (Cons (Node (Form.Segment l) t args) rest) ≡ [] → are_accepted args → are_accepted rest
      → Reads text known named paths found faces context (Node Form.Identifier s (Cons (Node (Form.Segment l) t args) rest)) × (places text known named paths found faces context (Node Form.Identifier s (Cons (Node (Form.Segment l) t args) rest)) ≡ places_by order)
  identifier-at s l t args rest es more behind context order whole inside u met none accepted others =
      let name = name_of text.source l in
      let own = use-met l (meaning_of context name) (first _ (first _ met)) in
      let further = subst (λ o. Found (if is_some o then path text here context (path_number text here l) (behind_meaning known o) rest else [])) own.there (last _ met) in
      let read = path-read l t args rest es more context (path_number text here l) own.meant (behind_meaning known (Some own.meant)) order whole inside (record { meant = own.meant; means = own.means; same = refl; entity = own.entity }) (first-leads known behind own.meant) u (last _ (first _ met)) further none accepted others in
      let meets = λ (o : Option Meaning). operator_places (called_behind text known named (behind_meaning known o) o rest) in
      let is_so = is_bare false (Cons (Node (Form.Segment l) t args) rest) in (
        (
          (own.meant, record { here = own.means; there = own.there }, read.path),
          ap (λ (o : Option ℕ). if is_so then o else None) (read.end ∙ ap meets (sym own.there)),
        ),
        ap (λ (o : Option Meaning). if is_so then meets o else None) own.there ∙ read.bare,
      )

  -- a path of names
  pub identifier-read : (s : Span) (l : Lexeme) (t : Span) (args rest : Trees) → AsExpressions args → Segments rest → AreBehindInstances known → AsExpression (Node Form.Identifier s (Cons (Node (Form.Segment l) t args) rest))
  identifier-read s l t args rest es more behind = record {
    shape = record { part = refl; set = refl; outside = refl; helper = refl; names = refl; group = refl; definition = refl };
    reads = λ context order whole inside u met none accepted. identifier-at s l t args rest es more behind context order whole inside u met none accepted.1.0.1 accepted.1.1;
  }

  -- ---- bare symbols

  -- what is known of a bare symbol of this kind
  pub record BareRead (context : Context) (order : ℕ) (l : Lexeme) (kind : LexKind.the_data) : Type 0 where
    pub alike : bare_places text.source (means_by found) l kind ≡ symbol_places context kind
    pub read : IsReadableBare text known named (means_by found) (implied_by found) faces context l kind (bare_rule kind)
    pub places : symbol_places context kind ≡ places_by order

  free-read : (context : Context) (order : ℕ) (whole : Span) (l : Lexeme) (op : Op.the_data) → is_free op ≡ true → TakePlaces context → IsUse l (meaning_of context (Symbol op)) → use_faults (due_by (Some order) whole) l.span 0 (found_entity found l.span.start) ≡ []
      → BareRead context order l (LexKind.Sym op)
  free-read context order whole l op free u own none =
      let bare = bare-use order whole l.span (entity_in own.meant) (subst (λ e. use_faults (due_by (Some order) whole) l.span 0 e ≡ []) own.entity none) in
      let takes = u op own.meant own.there in
      let same : operator_places (meaning_of context (Symbol op)) ≡ places_by order = ap operator_places own.there ∙ bare-places own.meant order bare in
      let chosen = λ (x : Option ℕ). ap (λ (b : Bool). if b then x else Some (built_in_places op)) free in
      let places : symbol_places context (LexKind.Sym op) ≡ places_by order = chosen (operator_places (meaning_of context (Symbol op))) ∙ same in
      let counted : built_in_places op ≡ order = sym (length-replicate (built_in_places op)) ∙ (ap length (sym takes.1 ∙ (meaning-orders own.meant ∙ bare.takes)) ∙ length-replicate order) in
      let there : is_some (symbol_places context (LexKind.Sym op)) ≡ true = ap is_some (places ∙ ap places_by (sym counted)) ∙ is-places (built_in_places op) (places-some op) in
      record {
        alike = chosen (operator_places (means_by found l.span.start)) ∙ (ap operator_places (own.means ∙ sym own.there) ∙ sym (chosen (operator_places (meaning_of context (Symbol op)))));
        read = by (bare_rule (LexKind.Sym op)) (own.meant, record { here = own.means; there = own.there }, can-stand own.meant order bare) there;
        places = places;
      }
    where
      by : (rule : Option Rule) → ((m : Meaning) × IsMeaning text known named (means_by found) (implied_by found) faces context l (Symbol op) m × CanStandBare m) → is_some (symbol_places context (LexKind.Sym op)) ≡ true
          → IsReadableBare text known named (means_by found) (implied_by found) faces context l (LexKind.Sym op) rule
      by (Some rule) m there = tt
      by None m there = (free, m, there)

  built-in-read : (context : Context) (order : ℕ) (whole : Span) (l : Lexeme) (op : Op.the_data) → is_free op ≡ false → use_faults (due_by (Some order) whole) l.span 0 (Some (entity.Constant (built_in_places op))) ≡ [] → BareRead context order l (LexKind.Sym op)
  built-in-read context order whole l op free none =
      let bare = bare-use order whole l.span (entity.Constant (built_in_places op)) none in
      let counted : built_in_places op ≡ order = sym (length-replicate (built_in_places op)) ∙ (ap length bare.takes ∙ length-replicate order) in
      let chosen = λ (x : Option ℕ). ap (λ (b : Bool). if b then x else Some (built_in_places op)) free in
      record {
        alike = chosen (operator_places (means_by found l.span.start)) ∙ sym (chosen (operator_places (meaning_of context (Symbol op))));
        read = by (bare_rule (LexKind.Sym op)) refl;
        places = chosen (operator_places (meaning_of context (Symbol op))) ∙ (some-places (built_in_places op) (places-some op) ∙ ap places_by counted);
      }
    where
      by : (rule : Option Rule) → bare_rule (LexKind.Sym op) ≡ rule → IsReadableBare text known named (means_by found) (implied_by found) faces context l (LexKind.Sym op) rule
      by (Some rule) e = tt
      by None e = absurd (false≢true (sym free ∙ bare-free op e))

  bare-read : (context : Context) (order : ℕ) (whole : Span) (l : Lexeme) (op : Op.the_data) → TakePlaces context → Found (symbol_findings context itself l (LexKind.Sym op))
      → use_faults (due_by (Some order) whole) l.span 0 (symbol_meaning (found_entity found) l.span.start (LexKind.Sym op)) ≡ [] → BareRead context order l (LexKind.Sym op)
  bare-read context order whole l op u met none = by (is_free op) refl
    where
      by : (b : Bool) → is_free op ≡ b → BareRead context order l (LexKind.Sym op)
      by true free = free-read context order whole l op free u (symbol-use context itself l op free met) (subst (λ b. use_faults (due_by (Some order) whole) l.span 0 (if b then found_entity found l.span.start else Some (entity.Constant (built_in_places op))) ≡ []) free none)
      by false free = built-in-read context order whole l op free (subst (λ b. use_faults (due_by (Some order) whole) l.span 0 (if b then found_entity found l.span.start else Some (entity.Constant (built_in_places op))) ≡ []) free none)

  pub symbol-read : (l : Lexeme) (s : Span) (op : Op.the_data) → l.kind ≡ LexKind.Sym op → AsExpression (Node (Form.Symbol l) s Nil)
  symbol-read l s op is = record {
    shape = symbol-whole l;
    reads = λ context order whole inside u met none accepted.
        let own = use_faults (due_by (Some order) whole) l.span 0 (symbol_meaning (found_entity found) l.span.start l.kind) in
        let faults = first-empty own [] none in
        let bare = bare-read context order whole l op u (subst (λ k. Found (symbol_findings context itself l k)) is met) (subst (λ k. use_faults (due_by (Some order) whole) l.span 0 (symbol_meaning (found_entity found) l.span.start k) ≡ []) is faults) in
        let read = subst (BareRead context order l) (sym is) bare in
        ((refl, read.alike, read.read), read.places);
  }
