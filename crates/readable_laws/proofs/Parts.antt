-- Helper forms can be read as parts if their own parts can.
use Rattle.std.proofs.Common.{◌≡◌, ℕ, List, [], ◌++◌, Bool, false, refl, sym, ◌∙◌}
use Rattle.std.specs.List.{AllByRecursion}
use Rattle.tla_symbols.specs.declared.lexeme.LexKind.TheVariants as LexKind
use Rattle.tla_symbols.specs.declared.lexeme.Lexeme.{Lexeme}
use Rattle.tla_symbols.specs.declared.lexeme.Span.{Span}
use Rattle.tla_tree.specs.declared.form.Form.TheVariants as Form
use Rattle.tla_tree.specs.Lexemes.{one, then}
use Rattle.tla_tree.specs.Syntax.{Tree, Trees, Node, Nil, Cons}
use Rattle.tla_model.specs.declared.names.Binding.TheVariants as as_binding
use Rattle.tla_model.specs.Entities.{Binding, Text, all_placed, bound_as, is_group, placed}
use Rattle.tla_model.specs.Contexts.{Context, bind_all}
use Rattle.tla_model.specs.Scopes.{Finding, all_grouped, all_refused, has_set}
use Rattle.module_model.specs.Exports.{Known}
use Rattle.module_model.specs.TreeFindings.{Surroundings, walk, walk_rest, walk_sets}
use Rattle.tree_kinds.specs.Standing.{Outside}
use Rattle.arity_rules.specs.declared.place.Due.TheVariants as due
use Rattle.arity_rules.specs.declared.place.Role.TheVariants as role
use Rattle.arity_rules.specs.Arities.{Role, meaning as found_entity, part_due, part_faults, tree_faults}
use Rattle.flattened_trees.specs.Leads.{FlatFace}
use Rattle.readable_laws.proofs.Forms.{AllBefore, StandsBefore, ends-then}
use Rattle.readable_laws.proofs.Reading.{BindsFit, Expression, Expressions, FitsAs, InnerOf, InnersOf, Met, PartOf, PartsOf, ReadEach, Silent, Updates, around, expression-inners, expression-part, expressions-silent, inner-read, inners-then, left, other-walk, part-inner, parts-bind, parts-fit, parts-read, parts-then, right, silent-none, silent-then, silent-with}

-- names are no symbols
pub name-fits : (b : Binding) (n : Lexeme) (places : ℕ) → n.kind ≡ LexKind.Name → FitsAs b (n, places)
name-fits b n places is = record { fit = λ op k. absurd (by op k) }
  where
    by : (op : _) → n.kind ≡ LexKind.Sym op → ⊥
    by op k = let no : LexKind.Name ≡ LexKind.Sym op = sym is ∙ k in absurd (cc no)

-- names as they are written
abbrev pub AllNames : Trees → Type 0
AllNames Nil = Unit {0}
AllNames (Cons (Node (Form.Name n) s Nil) rest) = (n.kind ≡ LexKind.Name) × AllNames rest
AllNames (Cons x rest) = ⊥

module _ (text : Text) (known : Known) (named : List ℕ → Outside) (paths : List ℕ) (found : List Finding) (faces : List ℕ → FlatFace) where
  abbrev here : Surroundings
  here = around text known named paths found faces

  abbrev Found : List Finding → Type 0
  Found fs = Met text known named paths found faces fs

  abbrev AsExpression : Tree → Type 0
  AsExpression x = Expression text known named paths found faces x

  abbrev AsExpressions : Trees → Type 0
  AsExpressions xs = Expressions text known named paths found faces xs

  abbrev Part : Binding → Tree → Type 0
  Part b x = PartOf text known named paths found faces b x

  abbrev Parts : Binding → Trees → Type 0
  Parts b xs = PartsOf text known named paths found faces b xs

  abbrev Inners : Trees → Type 0
  Inners xs = InnersOf text known named paths found faces xs

  abbrev IsSilent : Trees → Type 0
  IsSilent xs = Silent text known named paths found faces xs

  abbrev first : {a : List Finding} (b : List Finding) → Found (a ++ b) → Found a
  first {a} b h = left text known named paths found faces b h

  abbrev last : (a : List Finding) {b : List Finding} → Found (a ++ b) → Found b
  last a {b} h = right text known named paths found faces a h

  abbrev are_read : Context → Context → Trees → Type 0
  are_read outside context xs = ReadEach text known named paths found faces outside context xs

  abbrev as_part : (b : Binding) (x : Tree) → AsExpression x → Part b x
  as_part b x e = expression-part text known named paths found faces b x e

  -- ---- names

  pub name-part : (b : Binding) (n : Lexeme) (s : Span) → n.kind ≡ LexKind.Name → Part b (Node (Form.Name n) s Nil)
  name-part b n s is = record { binds = ((name-fits b n 0 is, tt), tt); reads = λ outside context inside u v sets others none accepted. (tt, tt) }

  pub names-parts : (b : Binding) (xs : Trees) → AllNames xs → Parts b xs
  names-parts b Nil all = tt
  names-parts b (Cons (Node (Form.Name n) s Nil) rest) all = (name-part b n s all.0, names-parts b rest all.1)
  names-parts b (Cons x rest) all = absurd all

  names-read : (xs : Trees) → AllNames xs → (outside context : Context) → are_read outside context xs
  names-read Nil all outside context = tt
  names-read (Cons (Node (Form.Name n) s Nil) rest) all outside context = (tt, names-read rest all.1 outside context)
  names-read (Cons x rest) all outside context = absurd all

  names-fit : (b : Binding) (xs : Trees) → AllNames xs → AllByRecursion (FitsAs b) (all_placed xs)
  names-fit b xs all = (parts-fit text known named paths found faces b xs (parts-bind text known named paths found faces b xs (names-parts b xs all))).0

  pub group-part : (b : Binding) (s : Span) (xs : Trees) → AllNames xs → Part b (Node Form.Names s xs)
  group-part b s xs all = record { binds = (tt, names-fit b xs all); reads = λ outside context inside u v sets others none accepted. (names-read xs all context context, tt) }

  pub tuple-part : (b : Binding) (s : Span) (xs : Trees) → AllNames xs → Part b (Node Form.TupleNames s xs)
  tuple-part b s xs all = record { binds = (tt, names-fit b xs all); reads = λ outside context inside u v sets others none accepted. (names-read xs all context context, tt) }

  -- ---- bounds

  bound-parts : (b : Binding) (xs : Trees) (x : Tree) → AllNames xs → AsExpression x → Parts b (then xs x)
  bound-parts b xs x all e = parts-then text known named paths found faces b xs x (names-parts b xs all) (as_part b x e)

  bound-binds : (b : Binding) (xs : Trees) (x : Tree) → AllNames xs → AsExpression x → AllByRecursion (FitsAs b) (all_placed (then xs x))
  bound-binds b xs x all e = (parts-fit text known named paths found faces b (then xs x) (parts-bind text known named paths found faces b (then xs x) (bound-parts b xs x all e))).0

  pub bound-part : (b : Binding) (s : Span) (xs : Trees) (x : Tree) → AllNames xs → AsExpression x → Part b (Node Form.Bound s (then xs x))
  bound-part b s xs x all e = record {
    binds = (tt, bound-binds b xs x all e);
    reads = λ outside context inside u v sets others none accepted.
        let met = first _ sets in
        (parts-read text known named paths found faces b (then xs x) (bound-parts b xs x all e) outside outside role.Other inside 0 (λ i w. refl) u u (first _ (first _ met)) (last _ met) none accepted.1, tt);
  }

  pub tuple-bound-part : (b : Binding) (s : Span) (xs : Trees) (x : Tree) → AllNames xs → AsExpression x → Part b (Node Form.TupleBound s (then xs x))
  tuple-bound-part b s xs x all e = record {
    binds = (tt, bound-binds b xs x all e);
    reads = λ outside context inside u v sets others none accepted.
        let met = first _ sets in
        (parts-read text known named paths found faces b (then xs x) (bound-parts b xs x all e) outside outside role.Other inside 0 (λ i w. refl) u u (first _ (first _ met)) (last _ met) none accepted.1, tt);
  }

  -- ---- helper forms over expressions

  inner-part : (b : Binding) (f : Form.the_data) (s : Span) (parts : Trees) (r : Role) → BindsFit b (Node f s parts) → has_set f ≡ false
      → ((inside : Bool) → tree_faults (found_entity found) due.Expression inside (Node f s parts) ≡ [] → part_faults (found_entity found) r inside 0 parts ≡ []) → ((i : ℕ) (w : Span) → part_due (found_entity found) r i w ≡ due.Expression)
      → ((outside context : Context) → are_read context context parts → are_read outside context (Cons (Node f s parts) Nil))
      → ((context : Context) → Found (walk text here context (Node f s parts)) → Found (walk_sets text here context parts ++ all_refused text context (bound_as (as_binding.Bound false) (all_placed parts ++ all_grouped parts)) ++ walk_rest text here (bind_all text context (bound_as (as_binding.Bound false) (all_placed parts ++ all_grouped parts))) parts))
      → Inners parts → IsSilent parts → Part b (Node f s parts)
  inner-part b f s parts r fits set faults plain read walked all silent = record {
    binds = fits;
    reads = λ outside context inside u v sets others none accepted.
        read outside context
        (inner-read text known named paths found faces parts all silent context r inside plain v (walked context (other-walk text known named paths found faces (has_set f) [] (walk text here context (Node f s parts)) set others)) (faults inside none) accepted.1);
  }

  inners : (xs : Trees) → AsExpressions xs → Inners xs
  inners xs es = expression-inners text known named paths found faces xs es

  quiet : (xs : Trees) → AsExpressions xs → IsSilent xs
  quiet xs es = expressions-silent text known named paths found faces xs es

  pub field-part : (b : Binding) (n : Lexeme) (s : Span) (xs : Trees) → AsExpressions xs → Part b (Node (Form.Field n) s xs)
  field-part b n s xs es = inner-part b (Form.Field n) s xs role.Other (tt, tt) refl (λ inside none. none) (λ i w. refl) (λ outside context read. (read, tt)) (λ context met. met) (inners xs es) (quiet xs es)

  pub arm-part : (b : Binding) (s : Span) (xs : Trees) → AsExpressions xs → Part b (Node Form.Arm s xs)
  arm-part b s xs es = inner-part b Form.Arm s xs role.Other (tt, tt) refl (λ inside none. none) (λ i w. refl) (λ outside context read. (read, tt)) (λ context met. met) (inners xs es) (quiet xs es)

  pub other-arm-part : (b : Binding) (s : Span) (xs : Trees) → AsExpressions xs → Part b (Node Form.OtherArm s xs)
  other-arm-part b s xs es = inner-part b Form.OtherArm s xs role.Other (tt, tt) refl (λ inside none. none) (λ i w. refl) (λ outside context read. (read, tt)) (λ context met. met) (inners xs es) (quiet xs es)

  -- ---- updates

  -- the steps of an update
  abbrev pub Steps : Trees → Type 0
  Steps Nil = Unit {0}
  Steps (Cons (Node f s ps) rest) = StandsBefore f ps × (placed f ≡ []) × (is_group f ≡ false) × InnerOf text known named paths found faces (Node f s ps) × Steps rest

  pub field-step : (h : Lexeme) (s : Span) → InnerOf text known named paths found faces (Node (Form.FieldStep h) s Nil)
  field-step h s = record { reads = λ context inside u sets others none accepted. (tt, tt) }

  pub index-step : (s : Span) (xs : Trees) → AsExpressions xs → InnerOf text known named paths found faces (Node Form.IndexStep s xs)
  index-step s xs es = record {
    reads = λ context inside u sets others none accepted.
        (inner-read text known named paths found faces xs (inners xs es) (quiet xs es) context role.Other inside (λ i w. refl) u (first _ others) none accepted.1, tt);
  }

  steps-before : (xs : Trees) → Steps xs → AllBefore xs
  steps-before Nil all = tt
  steps-before (Cons (Node f s ps) rest) all = (all.0, steps-before rest all.4)

  steps-inners : (xs : Trees) → Steps xs → Inners xs
  steps-inners Nil all = tt
  steps-inners (Cons (Node f s ps) rest) all = (all.3, steps-inners rest all.4)

  steps-silent : (xs : Trees) → Steps xs → IsSilent xs
  steps-silent Nil all = silent-none text known named paths found faces
  steps-silent (Cons (Node f s ps) rest) all = silent-with text known named paths found faces f s ps rest all.1 all.2 (steps-silent rest all.4)

  pub update-part : (s : Span) (xs : Trees) (x : Tree) → Steps xs → AsExpression x → Updates text known named paths found faces (one (Node Form.Update s (then xs x)))
  update-part s xs x all e =
      let part = inner-part (as_binding.Bound false) Form.Update s (then xs x) role.Update (tt, tt) refl (λ inside none. none) (λ i w. refl) (λ outside context read. (read, tt)) (λ context met. met)
      (inners-then text known named paths found faces xs x (steps-inners xs all) (part-inner text known named paths found faces (as_binding.Bound false) x (as_part (as_binding.Bound false) x e)))
      (silent-then text known named paths found faces xs x (steps-silent xs all) e) in
      (refl, ends-then xs x (steps-before xs all) e.shape, part, tt)
