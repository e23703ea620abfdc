-- Forms can be read if their parts can.
use Rattle.std.proofs.Common.{◌≡◌, ℕ, List, [], ◌++◌, Bool, false, not, Option, Some, None, refl, sym, ap, subst, ◌∙◌}
use Rattle.std.specs.Prelude.{Contains}
use Rattle.tla_symbols.specs.declared.lexeme.LexKind.TheVariants as LexKind
use Rattle.tla_symbols.specs.declared.lexeme.Lexeme.{Lexeme}
use Rattle.tla_symbols.specs.declared.lexeme.Span.{Span}
use Rattle.tla_symbols.specs.declared.level.Rule.{Rule}
use Rattle.tla_symbols.specs.declared.op.Op.TheVariants as Op
use Rattle.tla_symbols.specs.declared.place.Fix.TheVariants.{Prefix, Infix, Postfix}
use Rattle.tla_tree.specs.declared.form.Form.TheVariants as Form
use Rattle.tla_tree.specs.Lexemes.{Applies, one, then, two}
use Rattle.tla_tree.specs.Syntax.{Tree, Trees, Node, Nil, Cons, form}
use Rattle.tla_model.specs.declared.names.Binding.TheVariants as as_binding
use Rattle.tla_model.specs.Entities.{Binding, Nothing, Text, all_placed, binding_of, bound_as, defines, is_group, placed}
use Rattle.tla_model.specs.Contexts.{Context, bind_all}
use Rattle.tla_model.specs.Scopes.{Finding, all_grouped, itself, prefixed, reserved, scope, symbol_findings}
use Rattle.module_model.specs.Exports.{Known}
use Rattle.module_model.specs.TreeFindings.{Surroundings, walk, walk_each}
use Rattle.level_text.specs.FormRules.{symbol_rule}
use Rattle.tree_kinds.specs.Standing.{Outside}
use Rattle.tree_kinds.specs.Expanding.{Helper, Outer, Part, Whole, part_of, stands_outside}
use Rattle.flat_trees.specs.Names.{places_by}
use Rattle.arity_rules.specs.declared.place.Role.TheVariants as role
use Rattle.arity_rules.specs.Arities.{count, due_by, fault_if, meaning as found_entity, other_faults, part_faults, role_of}
use Rattle.flattened_trees.specs.Leads.{FlatFace}
use Rattle.flattened_trees.specs.Readable.{AreInside, AreUpdatesWritten, EndsWhole, count as written}
use Rattle.readable_laws.specs.Uses.{means_by}
use Rattle.readable_laws.specs.Accepted.{TakePlaces}
use Rattle.readable_laws.proofs.FoundMeanings.{IsAgreed}
use Rattle.readable_laws.proofs.Orders.{expressions, first-empty, other-plain}
use Rattle.readable_laws.proofs.Names.{FoundEach, Operates, found-each, operands-read, operator-read}
use Rattle.readable_laws.proofs.Reading.{AcceptedEach, Silent, Updates, Expression, Expressions, Met, PartsOf, ReadArguments, ReadEach, Reads, around, expression-part, expressions-silent, form-expression, form_walk, left, parts-then, silent-none, silent-with, other-role, places, right, silent-scope, walk-parts, whole-of}
use Rattle.readable_laws.proofs.Shapes.{IsWholeForm}
use Rattle.readable_laws.proofs.Symbols.{IsFreeFor, infix-free, postfix-free, prefix-free}

-- ---- parts as they are written

-- a part that stands before an expression, outside or with nothing in it
pub data StandsBefore (f : Form.the_data) : Trees → Type 0 where
  outer : {ps : Trees} → part_of f ≡ Outer → StandsBefore f ps
  helper : part_of f ≡ Helper → defines f ≡ Nothing → StandsBefore f Nil

abbrev pub AllBefore : Trees → Type 0
AllBefore Nil = Unit {0}
AllBefore (Cons (Node f s ps) rest) = StandsBefore f ps × AllBefore rest

-- what a part is, and what is said of those behind it
abbrev Ends : Part → Form.the_data → Trees → Trees → Type 0
Ends p f ps rest = elim p as (λ _. Type 0) [ Outer ↦ EndsWhole rest | Helper ↦ (ps ≡ Nil) × (defines f ≡ Nothing) × EndsWhole rest | Whole ↦ rest ≡ Nil ]

ends-before : (f : Form.the_data) (s : Span) (ps rest : Trees) → StandsBefore f ps → EndsWhole rest → EndsWhole (Cons (Node f s ps) rest)
ends-before f s ps rest (outer is) ends = subst (λ p. Ends p f ps rest) (sym is) ends
ends-before f s Nil rest (helper is none) ends = subst (λ p. Ends p f Nil rest) (sym is) (refl, none, ends)

pub ends-one : (x : Tree) → IsWholeForm (form x) → EndsWhole (one x)
ends-one (Node f s ps) shape = subst (λ p. Ends p f ps Nil) (sym shape.part) refl

pub ends-then : (xs : Trees) (x : Tree) → AllBefore xs → IsWholeForm (form x) → EndsWhole (then xs x)
ends-then Nil x all shape = ends-one x shape
ends-then (Cons (Node f s ps) xs) x all shape = ends-before f s ps (then xs x) all.0 (ends-then xs x all.1 shape)

abbrev pub AllInside : Trees → Type 0
AllInside Nil = Unit {0}
AllInside (Cons (Node f s ps) rest) = (stands_outside f ≡ false) × AllInside rest

pub inside-one : (x : Tree) → IsWholeForm (form x) → AreInside (one x)
inside-one (Node f s ps) shape = (shape.outside, tt)

pub inside-then : (xs : Trees) (x : Tree) → AllInside xs → IsWholeForm (form x) → AreInside (then xs x)
inside-then Nil x all shape = inside-one x shape
inside-then (Cons (Node f s ps) xs) x all shape = (all.0, inside-then xs x all.1 shape)

module _ (text : Text) (known : Known) (named : List ℕ → Outside) (paths : List ℕ) (found : List Finding) (faces : List ℕ → FlatFace)
    (agrees : (f : Finding) → Contains found f → IsAgreed (means_by found) (found_entity found) f) where
  abbrev here : Surroundings
  here = around text known named paths found faces

  abbrev Found : List Finding → Type 0
  Found fs = Met text known named paths found faces fs

  abbrev AsExpression : Tree → Type 0
  AsExpression x = Expression text known named paths found faces x

  abbrev AsExpressions : Trees → Type 0
  AsExpressions xs = Expressions text known named paths found faces xs

  abbrev Parts : Binding → Trees → Type 0
  Parts b xs = PartsOf text known named paths found faces b xs

  abbrev first : {a : List Finding} (b : List Finding) → Found (a ++ b) → Found a
  first {a} b h = left text known named paths found faces b h

  abbrev last : (a : List Finding) {b : List Finding} → Found (a ++ b) → Found b
  last a {b} h = right text known named paths found faces a h

  abbrev are_accepted : Trees → Type 0
  are_accepted xs = AcceptedEach text known named paths found faces xs

  abbrev is_read : Context → Tree → Type 0
  is_read context x = Reads text known named paths found faces context x

  abbrev are_read : Context → Context → Trees → Type 0
  are_read outside context xs = ReadEach text known named paths found faces outside context xs

  abbrev bare : Context → Tree → Option ℕ
  bare context x = places text known named paths found faces context x

  -- ---- symbols on operands

  operator-form : (f : Form.the_data) (s : Span) (parts : Trees) → IsWholeForm f → role_of f ≡ role.Other → ((context : Context) → bare context (Node f s parts) ≡ None)
      → ((context : Context) (inside : Bool) → TakePlaces context → Found (walk text here context (Node f s parts)) → part_faults (found_entity found) role.Other inside 0 parts ≡ [] → are_accepted parts → is_read context (Node f s parts))
      → AsExpression (Node f s parts)
  operator-form f s parts shape other none read = record {
    shape = shape;
    reads = λ context order whole inside u met faulty accepted.
        let faults = other-role text known named paths found faces (role_of f) (due_by (Some order) whole) inside parts other faulty in
        (read context inside u met faults.1 accepted.1, none context ∙ ap places_by (sym (other-plain order whole faults.0)));
  }

  abbrev operates : Context → Lexeme → (Op.the_data → Op.the_data) → LexKind.the_data → Option Rule → Trees → List ℕ → Type 0
  operates context l which kind rule parts orders = Operates text known named paths found faces agrees context l which kind rule parts orders

  -- a symbol that means what was found of it, on expressions
  operator-here : (context : Context) (l : Lexeme) (which : Op.the_data → Op.the_data) (op : Op.the_data) (rule : LexKind.the_data → Option Rule) (x : Tree) (xs : Trees) (n : ℕ) → l.kind ≡ LexKind.Sym op → (rule (LexKind.Sym op) ≡ None → IsFreeFor (which op) n)
      → written (Cons x xs) ≡ n → TakePlaces context → Found (symbol_findings context which l l.kind) → operates context l which l.kind (rule l.kind) (Cons x xs) (expressions n)
  operator-here context l which op rule x xs n is free counted u met =
      subst (λ k. operates context l which k (rule k) (Cons x xs) (expressions n)) (sym is)
      (operator-read text known named paths found faces agrees context l which op (rule (LexKind.Sym op)) x xs n free counted u (subst (λ k. Found (symbol_findings context which l k)) is met))

  each : (xs : Trees) (context : Context) → Found (walk_each text here context xs) → FoundEach text known named paths found faces agrees context xs
  each xs context met = found-each text known named paths found faces agrees xs context met

  operands : (xs : Trees) → AsExpressions xs → (context : Context) (inside : Bool) (n : ℕ) → count xs ≡ n → TakePlaces context → FoundEach text known named paths found faces agrees context xs → part_faults (found_entity found) role.Other inside 0 xs ≡ [] → are_accepted xs
      → ReadArguments text known named paths found faces context (expressions n) xs
  operands xs es context inside n counted u met none accepted = operands-read text known named paths found faces agrees xs es context inside n counted u met none accepted

  pub prefix-read : (l : Lexeme) (s : Span) (op : Op.the_data) (x : Tree) → IsWholeForm (Form.Prefix l) → l.kind ≡ LexKind.Sym op → Applies op Prefix → AsExpression x → AsExpression (Node (Form.Prefix l) s (one x))
  prefix-read l s op x shape is applies e =
      operator-form (Form.Prefix l) s (one x) shape refl (λ context. refl) (λ context inside u met none accepted. (
        expressions 1,
        operator-here context l prefixed op (symbol_rule Prefix) x Nil 1 is (prefix-free op applies) refl u (first _ met),
        operands (one x) (e, tt) context inside 1 refl u (each (one x) context (last _ met)) none accepted,
      ))

  pub infix-read : (l : Lexeme) (s : Span) (op : Op.the_data) (x y : Tree) → IsWholeForm (Form.Infix l) → l.kind ≡ LexKind.Sym op → Applies op Infix → AsExpression x → AsExpression y → AsExpression (Node (Form.Infix l) s (two x y))
  infix-read l s op x y shape is applies e f =
      operator-form (Form.Infix l) s (two x y) shape refl (λ context. refl) (λ context inside u met none accepted. (
        expressions 2,
        operator-here context l itself op (symbol_rule Infix) x (one y) 2 is (infix-free op applies) refl u (last _ (first _ met)),
        operands (two x y) (e, (f, tt)) context inside 2 refl u (first _ (first _ met), each (one y) context (last _ met)) none accepted,
      ))

  pub postfix-read : (l : Lexeme) (s : Span) (op : Op.the_data) (x : Tree) → IsWholeForm (Form.Postfix l) → l.kind ≡ LexKind.Sym op → Applies op Postfix → AsExpression x → AsExpression (Node (Form.Postfix l) s (one x))
  postfix-read l s op x shape is applies e =
      operator-form (Form.Postfix l) s (one x) shape refl (λ context. refl) (λ context inside u met none accepted. (
        expressions 1,
        operator-here context l itself op (symbol_rule Postfix) x Nil 1 is (postfix-free op applies) refl u (last _ met),
        operands (one x) (e, tt) context inside 1 refl u (each (one x) context (first _ met)) none accepted,
      ))

  -- ---- forms over parts

  -- what is found in a form stands in the order of its parts
  pub form-read : (f : Form.the_data) (s : Span) (parts : Trees) → IsWholeForm f → role_of f ≡ role.Other → ((context : Context) → bare context (Node f s parts) ≡ None)
      → ((context : Context) → Found (walk text here context (Node f s parts)) → Found (form_walk text known named paths found faces context f parts))
      → ((context : Context) → are_read (reserved text context f parts) (scope text context f parts) parts → is_read context (Node f s parts))
      → Parts (binding_of f) parts → AsExpression (Node f s parts)
  form-read f s parts shape other none walked read all =
      form-expression text known named paths found faces f s parts shape other none (λ context met. walk-parts text known named paths found faces context f parts (walked context met)) read all

  pub image-read : (s : Span) (parts : Trees) → IsWholeForm Form.SetImage → Parts (as_binding.Bound false) parts → AsExpression (Node Form.SetImage s parts)
  image-read s parts shape all =
      form-expression text known named paths found faces Form.SetImage s parts shape refl (λ context. refl) (λ context met. (last _ met, last _ (first _ met))) (λ context read. (refl, read)) all

  pub atom-read : (f : Form.the_data) (s : Span) → IsWholeForm f → role_of f ≡ role.Other → ((context : Context) → bare context (Node f s Nil) ≡ None) → ((context : Context) → is_read context (Node f s Nil)) → AsExpression (Node f s Nil)
  atom-read f s shape other none read = operator-form f s Nil shape other none (λ context inside u met faults accepted. read context)

  pub at-read : (l : Lexeme) (s : Span) → IsWholeForm (Form.At l) → AsExpression (Node (Form.At l) s Nil)
  at-read l s shape = record {
    shape = shape;
    reads = λ context order whole inside u met none accepted.
        let own = other_faults (due_by (Some order) whole) in
        let outside = fault_if (not inside) 503 l.span in
        (refl, ap places_by (sym (other-plain order whole (first-empty own outside (first-empty (own ++ outside) [] none)))));
  }

  -- the parts are read where the form stands
  same-scope : (xs : Trees) (context : Context) → AsExpressions xs → are_read context (bind_all text context (bound_as (as_binding.Bound false) (all_placed xs ++ all_grouped xs))) xs → are_read context context xs
  same-scope xs context es read = subst (λ c. are_read context c xs) (silent-scope text known named paths found faces (as_binding.Bound false) xs context (expressions-silent text known named paths found faces xs es)) read

  pub parentheses-read : (s : Span) (x : Tree) → IsWholeForm Form.Parentheses → AsExpression x → AsExpression (Node Form.Parentheses s (one x))
  parentheses-read s x shape e =
      form-read Form.Parentheses s (one x) shape refl (λ context. refl) (λ context met. met)
      (λ context read. (ends-one x e.shape, inside-one x e.shape, same-scope (one x) context (e, tt) read)) (expression-part text known named paths found faces (as_binding.Bound false) x e, tt)

  pub bounded-read : (l : Lexeme) (s : Span) (xs : Trees) (x : Tree) → IsWholeForm (Form.BoundedQuantifier l) → AllBefore xs → Parts (as_binding.Bound false) xs → AsExpression x → AsExpression (Node (Form.BoundedQuantifier l) s (then xs x))
  bounded-read l s xs x shape before all e =
      form-read (Form.BoundedQuantifier l) s (then xs x) shape refl (λ context. refl) (λ context met. met) (λ context read. (ends-then xs x before e.shape, read))
      (parts-then text known named paths found faces (as_binding.Bound false) xs x all (expression-part text known named paths found faces (as_binding.Bound false) x e))

  abbrev as_updates : Trees → Type 0
  as_updates xs = Updates text known named paths found faces xs

  updates-written : (xs : Trees) → as_updates xs → AreUpdatesWritten xs
  updates-written Nil all = tt
  updates-written (Cons (Node f s parts) rest) all = (ap part_of all.0, all.1, updates-written rest all.3)

  updates-parts : (xs : Trees) → as_updates xs → Parts (as_binding.Bound false) xs
  updates-parts Nil all = tt
  updates-parts (Cons (Node f s parts) rest) all = (all.2, updates-parts rest all.3)

  updates-silent : (xs : Trees) → as_updates xs → Silent text known named paths found faces xs
  updates-silent Nil all = silent-none text known named paths found faces
  updates-silent (Cons (Node f s parts) rest) all = silent-with text known named paths found faces f s parts rest (ap placed all.0) (ap is_group all.0) (updates-silent rest all.3)

  pub except-read : (s : Span) (x : Tree) (xs : Trees) → IsWholeForm Form.Except → AsExpression x → as_updates xs → AsExpression (Node Form.Except s (Cons x xs))
  except-read s (Node f at ps) xs shape e all =
      form-read Form.Except s (Cons (Node f at ps) xs) shape refl (λ context. refl) (λ context met. met)
      (λ context read.
      let silent = silent-with text known named paths found faces f at ps xs e.shape.names e.shape.group (updates-silent xs all) in
      let same = subst (λ c. are_read context c (Cons (Node f at ps) xs)) (silent-scope text known named paths found faces (as_binding.Bound false) (Cons (Node f at ps) xs) context silent) read in
      let first = whole-of text known named paths found faces f at ps xs context context e.shape.part same in
      (e.shape.helper, first.0, first.1, updates-written xs all, same.1))
      (expression-part text known named paths found faces (as_binding.Bound false) (Node f at ps) e, updates-parts xs all)
