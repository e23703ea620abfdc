-- Trees can be read where their names were found and nothing is used as what it is not, if their parts can.
use Rattle.std.proofs.Common.{◌≡◌, ℕ, suc, List, [], ◌∷◌, ◌++◌, Bool, true, false, Option, Some, None, refl, sym, ap, subst, ◌∙◌, if◌then◌else◌, append_assoc, arith}
use Rattle.std.proofs.lemmas.List.{append-nil}
use Rattle.std.specs.Prelude.{Contains}
use Rattle.std.specs.List.{AllByRecursion}
use Rattle.list_laws.proofs.Lists.{all-both, first-there}
use Rattle.tla_symbols.specs.declared.lexeme.Lexeme.{Lexeme}
use Rattle.tla_symbols.specs.declared.lexeme.Span.{Span}
use Rattle.tla_tree.specs.declared.form.Form.TheVariants as Form
use Rattle.tla_tree.specs.Lexemes.{then}
use Rattle.tla_tree.specs.Syntax.{Tree, Trees, Node, Nil, Cons, form}
use Rattle.tla_model.specs.declared.names.Binder.{Binder}
use Rattle.tla_model.specs.declared.names.Binding.TheVariants as as_binding
use Rattle.tla_model.specs.Entities.{Binding, Meaning, Nothing, Text, all_placed, binding_of, bound_as, defined, defines, entity_of, is_group, placed}
use Rattle.tla_model.specs.Contexts.{Context, bind_all}
use Rattle.tla_model.specs.Scopes.{Finding, all_grouped, all_refused, binders, has_set, inside, names_in, reserved, scope}
use Rattle.module_model.specs.Exports.{Known}
use Rattle.module_model.specs.TreeFindings.{Surroundings, walk, walk_rest, walk_sets}
use Rattle.tree_kinds.specs.Standing.{Outside}
use Rattle.tree_kinds.specs.Expanding.{Outer, Helper, Whole, part_of, places_at}
use Rattle.flat_trees.specs.Names.{places_by}
use Rattle.arity_rules.specs.declared.place.Due.TheVariants as due
use Rattle.arity_rules.specs.declared.place.Role.TheVariants as role
use Rattle.arity_rules.specs.Arities.{Due, Role, count, due_by, is_part_inside, is_path, meaning, other_faults, own_faults, part_due, part_faults, path_faults, role_of, tree_faults}
use Rattle.flattened_trees.specs.Leads.{FlatFace}
use Rattle.flattened_trees.specs.Readable.{AreArguments, AreReadable, EndsWhole, IsReadable}
use Rattle.readable_laws.specs.Uses.{implied_by, means_by}
use Rattle.readable_laws.specs.Accepted.{AreAcceptedAmong, AreAcceptedIn, TakePlaces}
use Rattle.readable_laws.proofs.FoundMeanings.{entity_in}
use Rattle.readable_laws.proofs.Orders.{first-empty, other-plain, rest-empty}
use Rattle.readable_laws.proofs.Contexts.{Fits, bind-all-keeps, reserve-all-keeps}
use Rattle.readable_laws.proofs.Shapes.{IsWholeForm}

-- a name fits, bound so
abbrev pub FitsAs : Binding → Lexeme × ℕ → Type 0
FitsAs b name = Fits (record { name = name.0; entity = entity_of b name.1 })

pub bound-fit : (b : Binding) (names : List (Lexeme × ℕ)) → AllByRecursion (FitsAs b) names → AllByRecursion Fits (bound_as b names)
bound-fit b [] fits = tt
bound-fit b (name ∷ names) fits = (fits.0, bound-fit b names fits.1)

-- what a part binds fits
abbrev pub BindsFit : Binding → Tree → Type 0
BindsFit b (Node f s parts) = AllByRecursion (FitsAs b) (placed f) × AllByRecursion (FitsAs b) (names_in (is_group f) parts)

abbrev pub BindEach : Binding → Trees → Type 0
BindEach b Nil = Unit {0}
BindEach b (Cons x rest) = BindsFit b x × BindEach b rest

-- what is found at a name means this where it begins, but for the path that it is called through
pub record IsUsed (found : List Finding) (l : Lexeme) (m : Meaning) : Type 0 where
  pub meant : Meaning
  pub means : means_by found l.span.start ≡ Some meant
  pub same : entity_in meant ≡ entity_in m
  pub entity : meaning found l.span.start ≡ Some (entity_in m)

module _ (text : Text) (known : Known) (named : List ℕ → Outside) (paths : List ℕ) (found : List Finding) (faces : List ℕ → FlatFace) where
  -- what is known round trees
  abbrev pub around : Surroundings
  around = record { named = λ n. (named n).view; known = known; paths = paths }

  -- a tree can be read, and so can parts
  abbrev pub Reads : Context → Tree → Type 0
  Reads context x = IsReadable text known named (means_by found) (implied_by found) faces context x

  abbrev pub ReadEach : Context → Context → Trees → Type 0
  ReadEach outside context xs = AreReadable text known named (means_by found) (implied_by found) faces outside context xs

  abbrev pub ReadArguments : Context → List ℕ → Trees → Type 0
  ReadArguments context orders xs = AreArguments text known named (means_by found) (implied_by found) faces context orders xs

  abbrev pub places : Context → Tree → Option ℕ
  places context x = places_at text known named context x

  abbrev pub Accepted : Tree → Type 0
  Accepted x = AreAcceptedIn text known named found faces x

  abbrev pub AcceptedEach : Trees → Type 0
  AcceptedEach xs = AreAcceptedAmong text known named found faces xs

  -- what is found stands in a row in this
  pub record Met (fs : List Finding) : Type 0 where
    pub before : List Finding
    pub behind : List Finding
    pub whole : found ≡ before ++ fs ++ behind

  parted : (h : List Finding) (a b k : List Finding) → h ++ (a ++ b) ++ k ≡ h ++ a ++ b ++ k
  parted h a b k = ap (λ fs. fs ++ k) (sym (append_assoc h a b))

  pub left : {a : List Finding} (b : List Finding) → Met (a ++ b) → Met a
  left {a} b h = record { before = h.before; behind = b ++ h.behind; whole = h.whole ∙ (parted h.before a b h.behind ∙ append_assoc (h.before ++ a) b h.behind) }

  pub right : (a : List Finding) {b : List Finding} → Met (a ++ b) → Met b
  right a {b} h = record { before = h.before ++ a; behind = h.behind; whole = h.whole ∙ parted h.before a b h.behind }

  pub alone : {a : List Finding} → Met a → Met (a ++ [])
  alone {a} h = record { before = h.before; behind = h.behind; whole = h.whole ∙ ap (λ fs. h.before ++ fs ++ h.behind) (sym (append-nil a)) }

  -- the first of these was found
  contained : (h : List Finding) (f : Finding) (k : List Finding) → Contains (h ++ f ∷ k) f
  contained [] f k = first-there f k
  contained (g ∷ h) f k = let there = contained h f k in (suc there.0, omega (arith, there.1), there.2)

  pub met-first : (f : Finding) (fs : List Finding) → Met (f ∷ fs) → Contains found f
  met-first f fs h = subst (λ all. Contains all f) (sym (h.whole ∙ append_assoc h.before (f ∷ fs) h.behind)) (contained h.before f (fs ++ h.behind))

  -- ---- what is known of parts

  -- an expression can be read where it is due, and is an operator with so many places, or none
  pub record Expression (x : Tree) : Type 0 where
    pub shape : IsWholeForm (form x)
    pub reads : (context : Context) (order : ℕ) (whole : Span) (inside : Bool) → TakePlaces context → Met (walk text around context x) → tree_faults (meaning found) (due_by (Some order) whole) inside x ≡ [] → Accepted x
        → Reads context x × (places context x ≡ places_by order)

  abbrev pub Expressions : Trees → Type 0
  Expressions Nil = Unit {0}
  Expressions (Cons x rest) = Expression x × Expressions rest

  -- what a part of a form is made of can be read, where an expression is due
  pub record PartOf (b : Binding) (x : Tree) : Type 0 where
    pub binds : BindsFit b x
    pub reads : (outside context : Context) (inside : Bool) → TakePlaces outside → TakePlaces context → Met (walk_sets text around outside (Cons x Nil)) → Met (walk_rest text around context (Cons x Nil))
        → tree_faults (meaning found) due.Expression inside x ≡ [] → Accepted x → ReadEach outside context (Cons x Nil)

  abbrev pub PartsOf : Binding → Trees → Type 0
  PartsOf b Nil = Unit {0}
  PartsOf b (Cons x rest) = PartOf b x × PartsOf b rest

  pub parts-then : (b : Binding) (xs : Trees) (x : Tree) → PartsOf b xs → PartOf b x → PartsOf b ((then) xs x)
  parts-then b Nil x parts part = (part, tt)
  parts-then b (Cons y xs) x parts part = (parts.0, parts-then b xs x parts.1 part)

  pub expressions-then : (xs : Trees) (x : Tree) → Expressions xs → Expression x → Expressions ((then) xs x)
  expressions-then Nil x xs-are x-is = (x-is, tt)
  expressions-then (Cons y xs) x xs-are x-is = (xs-are.0, expressions-then xs x xs-are.1 x-is)

  -- ---- parts

  pub parts-read : (b : Binding) (xs : Trees) → PartsOf b xs → (outside context : Context) (r : Role) (inside : Bool) (index : ℕ) → ((i : ℕ) (w : Span) → part_due (meaning found) r i w ≡ due.Expression)
      → TakePlaces outside → TakePlaces context → Met (walk_sets text around outside xs) → Met (walk_rest text around context xs) → part_faults (meaning found) r inside index xs ≡ [] → AcceptedEach xs → ReadEach outside context xs
  parts-read b Nil parts outside context r inside index plain u v sets others none accepted = tt
  parts-read b (Cons (Node f s ps) rest) parts outside context r inside index plain u v sets others none accepted =
      let first = first-empty (tree_faults (meaning found) (part_due (meaning found) r index s) (is_part_inside r inside f) (Node f s ps)) (part_faults (meaning found) r inside (suc index) rest) none in
      let later = rest-empty (tree_faults (meaning found) (part_due (meaning found) r index s) (is_part_inside r inside f) (Node f s ps)) (part_faults (meaning found) r inside (suc index) rest) none in
      let plainly : tree_faults (meaning found) due.Expression (is_part_inside r inside f) (Node f s ps) ≡ [] = subst (λ d. tree_faults (meaning found) d (is_part_inside r inside f) (Node f s ps) ≡ []) (plain index s) first in (
        (parts.0.reads outside context (is_part_inside r inside f) u v (alone (left _ sets)) (alone (left _ others)) plainly accepted.0).0,
        parts-read b rest parts.1 outside context r inside (suc index) plain u v (right _ sets) (right _ others) later accepted.1,
      )

  pub parts-bind : (b : Binding) (xs : Trees) → PartsOf b xs → BindEach b xs
  parts-bind b Nil parts = tt
  parts-bind b (Cons x rest) parts = (parts.0.binds, parts-bind b rest parts.1)

  pub parts-fit : (b : Binding) (xs : Trees) → BindEach b xs → AllByRecursion (FitsAs b) (all_placed xs) × AllByRecursion (FitsAs b) (all_grouped xs)
  parts-fit b Nil parts = (tt, tt)
  parts-fit b (Cons (Node f s ps) rest) parts =
      let others = parts-fit b rest parts.1 in
      (all-both (FitsAs b) (placed f) (all_placed rest) parts.0.0 others.0, all-both (FitsAs b) (names_in (is_group f) ps) (all_grouped rest) parts.0.1 others.1)

  -- an expression as a part
  whole-reads : (f : Form.the_data) (s : Span) (ps : Trees) (outside context : Context) → part_of f ≡ Whole → (places context (Node f s ps) ≡ None) × Reads context (Node f s ps) → ReadEach outside context (Cons (Node f s ps) Nil)
  whole-reads f s ps outside context whole reads = rw whole (reads, tt)

  pub whole-of : (f : Form.the_data) (s : Span) (ps rest : Trees) (outside context : Context) → part_of f ≡ Whole → ReadEach outside context (Cons (Node f s ps) rest) → (places context (Node f s ps) ≡ None) × Reads context (Node f s ps)
  whole-of f s ps rest outside context whole reads =
      subst (λ p. elim p as (λ _. Type 0) [
        | Outer ↦ ReadEach outside outside ps
        | Helper ↦ ReadEach context context ps
        | Whole ↦ (places context (Node f s ps) ≡ None) × Reads context (Node f s ps)
      ]) whole reads.0

  pub other-walk : (b : Bool) (one two : List Finding) → b ≡ false → Met ((if b then one else two) ++ []) → Met two
  other-walk true one two e h = absurd (cc)
  other-walk false one two e h = left _ h

  pub expression-part : (b : Binding) (x : Tree) → Expression x → PartOf b x
  expression-part b (Node f s ps) e = record {
    binds = (
      subst (AllByRecursion (FitsAs b)) (sym e.shape.names) tt,
      subst (λ g. AllByRecursion (FitsAs b) (names_in g ps)) (sym e.shape.group) tt,
    );
    reads = λ outside context inside u v sets others none accepted.
        let read = e.reads context 0 s inside v (other-walk (has_set f) [] (walk text around context (Node f s ps)) e.shape.set others) none accepted in
        whole-reads f s ps outside context e.shape.part (read.1, read.0);
  }

  pub expression-parts : (b : Binding) (xs : Trees) → Expressions xs → PartsOf b xs
  expression-parts b Nil es = tt
  expression-parts b (Cons x rest) es = (expression-part b x es.0, expression-parts b rest es.1)

  -- expressions bind nothing
  pub record Silent (xs : Trees) : Type 0 where
    pub names : all_placed xs ≡ []
    pub groups : all_grouped xs ≡ []

  pub silent-none : Silent Nil
  silent-none = record { names = refl; groups = refl }

  pub silent-with : (f : Form.the_data) (s : Span) (ps rest : Trees) → placed f ≡ [] → is_group f ≡ false → Silent rest → Silent (Cons (Node f s ps) rest)
  silent-with f s ps rest names group others = record {
    names = ap (λ ns. ns ++ all_placed rest) names ∙ others.names;
    groups = ap (λ g. names_in g ps ++ all_grouped rest) group ∙ others.groups;
  }

  pub expressions-silent : (xs : Trees) → Expressions xs → Silent xs
  expressions-silent Nil es = silent-none
  expressions-silent (Cons (Node f s ps) rest) es = silent-with f s ps rest es.0.shape.names es.0.shape.group (expressions-silent rest es.1)

  pub silent-then : (xs : Trees) (x : Tree) → Silent xs → Expression x → Silent ((then) xs x)
  silent-then xs x silent e = by xs silent
    where
      one : (y : Tree) → Expression y → Silent (Cons y Nil)
      one (Node f s ps) e = silent-with f s ps Nil e.shape.names e.shape.group silent-none

      apart : (a b : List (Lexeme × ℕ)) → a ++ b ≡ [] → (a ≡ []) × (b ≡ [])
      apart a b e = (first-empty a b e, rest-empty a b e)

      by : (xs : Trees) → Silent xs → Silent ((then) xs x)
      by Nil silent = one x e
      by (Cons (Node f s ps) xs) silent =
          let names = apart (placed f) (all_placed xs) silent.names in
          let groups = apart (names_in (is_group f) ps) (all_grouped xs) silent.groups in
          let rest = by xs (record { names = names.1; groups = groups.1 }) in
          record { names = ap (λ ns. ns ++ all_placed ((then) xs x)) names.0 ∙ rest.names; groups = ap (λ ns. ns ++ all_grouped ((then) xs x)) groups.0 ∙ rest.groups }

  -- what stands in such parts is read where they are
  silent-names : (b : Binding) (xs : Trees) → Silent xs → bound_as b (all_placed xs ++ all_grouped xs) ≡ []
  silent-names b xs silent = ap (bound_as b) (ap (λ ns. ns ++ all_grouped xs) silent.names ∙ silent.groups)

  silent-walk : (xs : Trees) (context : Context) (names : List Binder) → names ≡ [] → Met (walk_sets text around context xs ++ all_refused text context names ++ walk_rest text around (bind_all text context names) xs)
      → Met (walk_sets text around context xs) × Met (walk_rest text around context xs)
  silent-walk xs context names none met = (left _ (left _ met), subst (λ ns. Met (walk_rest text around (bind_all text context ns) xs)) none (right _ met))

  pub silent-scope : (b : Binding) (xs : Trees) (context : Context) → Silent xs → bind_all text context (bound_as b (all_placed xs ++ all_grouped xs)) ≡ context
  silent-scope b xs context silent = ap (bind_all text context) (silent-names b xs silent)

  -- a part that is read where the form stands
  pub record InnerOf (x : Tree) : Type 0 where
    pub reads : (context : Context) (inside : Bool) → TakePlaces context → Met (walk_sets text around context (Cons x Nil)) → Met (walk_rest text around context (Cons x Nil)) → tree_faults (meaning found) due.Expression inside x ≡ [] → Accepted x → ReadEach context context (Cons x Nil)

  abbrev pub InnersOf : Trees → Type 0
  InnersOf Nil = Unit {0}
  InnersOf (Cons x rest) = InnerOf x × InnersOf rest

  pub part-inner : (b : Binding) (x : Tree) → PartOf b x → InnerOf x
  part-inner b x part = record { reads = λ context inside u sets others none accepted. part.reads context context inside u u sets others none accepted }

  pub inners-then : (xs : Trees) (x : Tree) → InnersOf xs → InnerOf x → InnersOf ((then) xs x)
  inners-then Nil x parts part = (part, tt)
  inners-then (Cons y xs) x parts part = (parts.0, inners-then xs x parts.1 part)

  pub expression-inners : (xs : Trees) → Expressions xs → InnersOf xs
  expression-inners Nil es = tt
  expression-inners (Cons x rest) es = (part-inner (as_binding.Bound false) x (expression-part (as_binding.Bound false) x es.0), expression-inners rest es.1)

  inners-read : (xs : Trees) → InnersOf xs → (context : Context) (r : Role) (inside : Bool) (index : ℕ) → ((i : ℕ) (w : Span) → part_due (meaning found) r i w ≡ due.Expression)
      → TakePlaces context → Met (walk_sets text around context xs) → Met (walk_rest text around context xs) → part_faults (meaning found) r inside index xs ≡ [] → AcceptedEach xs → ReadEach context context xs
  inners-read Nil parts context r inside index plain u sets others none accepted = tt
  inners-read (Cons (Node f s ps) rest) parts context r inside index plain u sets others none accepted =
      let first = first-empty (tree_faults (meaning found) (part_due (meaning found) r index s) (is_part_inside r inside f) (Node f s ps)) (part_faults (meaning found) r inside (suc index) rest) none in
      let later = rest-empty (tree_faults (meaning found) (part_due (meaning found) r index s) (is_part_inside r inside f) (Node f s ps)) (part_faults (meaning found) r inside (suc index) rest) none in
      let plainly : tree_faults (meaning found) due.Expression (is_part_inside r inside f) (Node f s ps) ≡ [] = subst (λ d. tree_faults (meaning found) d (is_part_inside r inside f) (Node f s ps) ≡ []) (plain index s) first in (
        (parts.0.reads context (is_part_inside r inside f) u (alone (left _ sets)) (alone (left _ others)) plainly accepted.0).0,
        inners-read rest parts.1 context r inside (suc index) plain u (right _ sets) (right _ others) later accepted.1,
      )

  pub inner-read : (xs : Trees) → InnersOf xs → Silent xs → (context : Context) (r : Role) (inside : Bool) → ((i : ℕ) (w : Span) → part_due (meaning found) r i w ≡ due.Expression) → TakePlaces context
      → Met (walk_sets text around context xs ++ all_refused text context (bound_as (as_binding.Bound false) (all_placed xs ++ all_grouped xs)) ++ walk_rest text around (bind_all text context (bound_as (as_binding.Bound false) (all_placed xs ++ all_grouped xs))) xs)
      → part_faults (meaning found) r inside 0 xs ≡ [] → AcceptedEach xs → ReadEach context context xs
  inner-read xs parts silent context r inside plain u met none accepted =
      let b : Binding = as_binding.Bound false in
      let walked = silent-walk xs context (bound_as b (all_placed xs ++ all_grouped xs)) (silent-names b xs silent) met in
      inners-read xs parts context r inside 0 plain u walked.0 walked.1 none accepted

  -- updates, as parts
  abbrev pub Updates : Trees → Type 0
  Updates Nil = Unit {0}
  Updates (Cons (Node f s parts) rest) = (f ≡ Form.Update) × EndsWhole parts × PartOf (as_binding.Bound false) (Node f s parts) × Updates rest

  -- ---- forms

  -- what is found in a form whose sets stand outside of its scope
  abbrev pub form_walk : Context → Form.the_data → Trees → List Finding
  form_walk context f parts =
      all_refused text context (defined f parts)
      ++ walk_sets text around (reserved text context f parts) parts
      ++ all_refused text (inside text context f parts) (binders f parts)
      ++ walk_rest text around (scope text context f parts) parts

  pub walk-parts : (context : Context) (f : Form.the_data) (parts : Trees) → Met (form_walk context f parts) → Met (walk_sets text around (reserved text context f parts) parts) × Met (walk_rest text around (scope text context f parts) parts)
  walk-parts context f parts met =
      let own = all_refused text context (defined f parts) in
      let sets = walk_sets text around (reserved text context f parts) parts in
      let names = all_refused text (inside text context f parts) (binders f parts) in
      let rest = walk_rest text around (scope text context f parts) parts in
      (right own (left names (left rest met)), right (own ++ sets ++ names) met)

  pub binders-fit : (f : Form.the_data) (parts : Trees) → BindEach (binding_of f) parts → AllByRecursion Fits (binders f parts)
  binders-fit f parts each = by (is_group f)
    where
      by : (b : Bool) → AllByRecursion Fits (if b then [] else bound_as (binding_of f) (all_placed parts ++ all_grouped parts))
      by true = tt
      by false = let fits = parts-fit (binding_of f) parts each in bound-fit (binding_of f) (all_placed parts ++ all_grouped parts) (all-both (FitsAs (binding_of f)) (all_placed parts) (all_grouped parts) fits.0 fits.1)

  pub other-role : (r : Role) (d : Due) (inside : Bool) (parts : Trees) → r ≡ role.Other
      → own_faults (meaning found) d inside r (count parts) ++ (if is_path r then path_faults (meaning found) d inside parts else part_faults (meaning found) r inside 0 parts) ≡ []
      → (other_faults d ≡ []) × (part_faults (meaning found) role.Other inside 0 parts ≡ [])
  other-role r d inside parts e none = by (subst (λ r. own_faults (meaning found) d inside r (count parts) ++ (if is_path r then path_faults (meaning found) d inside parts else part_faults (meaning found) r inside 0 parts) ≡ []) e none)
    where
      by : other_faults d ++ part_faults (meaning found) role.Other inside 0 parts ≡ [] → (other_faults d ≡ []) × (part_faults (meaning found) role.Other inside 0 parts ≡ [])
      by none = (first-empty (other_faults d) (part_faults (meaning found) role.Other inside 0 parts) none, rest-empty (other_faults d) (part_faults (meaning found) role.Other inside 0 parts) none)

  inside-reserved : (f : Form.the_data) → defines f ≡ Nothing → (context : Context) (parts : Trees) → inside text context f parts ≡ reserved text context f parts
  inside-reserved (Form.FunctionDefinition l) e context parts = absurd (cc)
  inside-reserved Form.Identifier e context parts = refl
  inside-reserved _ e context parts = refl

  -- a form that is no name, over parts
  pub form-expression : (f : Form.the_data) (s : Span) (parts : Trees) → IsWholeForm f → role_of f ≡ role.Other → ((context : Context) → places context (Node f s parts) ≡ None)
      → ((context : Context) → Met (walk text around context (Node f s parts)) → Met (walk_sets text around (reserved text context f parts) parts) × Met (walk_rest text around (scope text context f parts) parts))
      → ((context : Context) → ReadEach (reserved text context f parts) (scope text context f parts) parts → Reads context (Node f s parts))
      → PartsOf (binding_of f) parts → Expression (Node f s parts)
  form-expression f s parts shape other bare walked read all = record {
    shape = shape;
    reads = λ context order whole within u met none accepted.
        let faults = other-role (role_of f) (due_by (Some order) whole) within parts other none in
        let w = walked context met in
        let v : TakePlaces (reserved text context f parts) = reserve-all-keeps text context (defined f parts) u in
        let u_inside : TakePlaces (inside text context f parts) = subst TakePlaces (sym (inside-reserved f shape.definition context parts)) v in
        let u_scope : TakePlaces (scope text context f parts) = bind-all-keeps text (inside text context f parts) (binders f parts) (binders-fit f parts (parts-bind (binding_of f) parts all)) u_inside in (
          read context (parts-read (binding_of f) parts all (reserved text context f parts) (scope text context f parts) role.Other within 0 (λ i w. refl) v u_scope w.0 w.1 faults.1 accepted.1),
          bare context ∙ ap places_by (sym (other-plain order whole faults.0)),
        );
  }
