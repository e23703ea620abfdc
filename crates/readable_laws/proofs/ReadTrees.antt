-- Trees that derive lexemes can be read: a line for each rule.
use Rattle.std.proofs.Common.{◌≡◌, ℕ, List, [], ◌∷◌, ◌++◌, true, false, Option, None, refl}
use Rattle.std.specs.Prelude.{Contains}
use Rattle.std.specs.List.{AllByRecursion}
use Rattle.tla_symbols.specs.declared.lexeme.Lexeme.{Lexeme}
use Rattle.tla_symbols.specs.declared.lexeme.Mark.{Mark}
use Rattle.tla_symbols.specs.declared.lexeme.Span.{Span}
use Rattle.tla_symbols.specs.declared.op.Op.TheVariants as op_names
use Rattle.tla_tree.specs.declared.form.Form.{Form as AnyForm}
use Rattle.tla_tree.specs.declared.form.Form.TheVariants as Form
use Rattle.tla_tree.specs.Lexemes.{IsName, one, place, then, two}
use Rattle.tla_tree.specs.Syntax.{Tree, Trees, Node, Nil, Cons}
use Rattle.tla_tree.specs.Headings as h
use Rattle.tla_tree.specs.Derivation as d
use Rattle.tla_model.specs.declared.entity.Entity.TheVariants as entity
use Rattle.tla_model.specs.declared.names.Binding.TheVariants as as_binding
use Rattle.tla_model.specs.Entities.{Binding, Text, binding_of, defined}
use Rattle.tla_model.specs.Contexts.{Context}
use Rattle.tla_model.specs.Scopes.{Finding, definition, reserved, scope}
use Rattle.module_model.specs.TreeFindings.{Surroundings, walk}
use Rattle.module_model.specs.Exports.{Known}
use Rattle.tree_kinds.specs.Standing.{Outside}
use Rattle.tree_kinds.specs.Expanding.{places_at}
use Rattle.arity_rules.specs.Arities.{meaning as found_entity, role_of}
use Rattle.arity_rules.specs.declared.place.Role.TheVariants as role
use Rattle.flattened_trees.specs.Leads.{FlatFace}
use Rattle.readable_laws.specs.Uses.{means_by}
use Rattle.readable_laws.specs.Accepted.{AreBehindInstances}
use Rattle.readable_laws.proofs.Contexts.{Fits}
use Rattle.readable_laws.proofs.Definitions.{AllHeads, Definition, Definitions, IsHead, Replacements, function-definition, infix-definition, let-read, module-definition, operator-definition, postfix-definition, prefix-definition}
use Rattle.readable_laws.proofs.Fitting.{definition-fits, parameter-takes, symbol-fits, word-fits}
use Rattle.readable_laws.proofs.Forms.{AllBefore, at-read, atom-read, bounded-read, except-read, form-read, helper, image-read, infix-read, outer, parentheses-read, postfix-read, prefix-read}
use Rattle.readable_laws.proofs.FoundMeanings.{IsAgreed}
use Rattle.readable_laws.proofs.Names.{Segments, identifier-read, symbol-read}
use Rattle.readable_laws.proofs.Parts.{AllNames, Steps, arm-part, bound-part, field-part, field-step, group-part, index-step, other-arm-part, tuple-bound-part, tuple-part, update-part}
use Rattle.readable_laws.proofs.Reading.{Expression, Expressions, Met, PartOf, PartsOf, ReadEach, Reads, Updates, around, expression-part, expression-parts, form_walk, parts-then}
use Rattle.readable_laws.proofs.Shapes.{IsWholeForm, spelled-whole}
use Rattle.readable_laws.proofs.Symbols.{infix-defined, postfix-defined}

-- ---- names and parameters

name-head : (n : Lexeme) → IsName n → IsHead (Form.Name n)
name-head n k = record { part = refl; outside = refl; group = refl; nothing = refl; other = refl; fits = (word-fits n (entity.Parameter 0) k, tt) }

parameter-heads : {x : Tree} {a : List Lexeme} → h.DerivesParameter x a → AllHeads (one x)
parameter-heads (h.plain {n = n} k) = (name-head n k, tt)
parameter-heads (h.of_places {n = n} {places = places} u k l m ds) = (record { part = refl; outside = refl; group = refl; nothing = refl; other = refl; fits = (word-fits n (entity.Parameter places) k, tt) }, tt)
parameter-heads (h.prefix_symbol {t = t} k l) =
    (record { part = refl; outside = refl; group = refl; nothing = refl; other = refl; fits = (symbol-fits t (entity.Parameter 1) op_names.Negative k (parameter-takes op_names.Negative 1 refl), tt) }, tt)
parameter-heads (h.infix_symbol {op = op} {t = t} k l m o) =
    (record { part = refl; outside = refl; group = refl; nothing = refl; other = refl; fits = (symbol-fits t (entity.Parameter 2) op l (parameter-takes op 2 (infix-defined op m)), tt) }, tt)
parameter-heads (h.postfix_symbol {op = op} {t = t} k l m) =
    (record { part = refl; outside = refl; group = refl; nothing = refl; other = refl; fits = (symbol-fits t (entity.Parameter 1) op l (parameter-takes op 1 (postfix-defined op m)), tt) }, tt)

heads-with : (x : Tree) (xs : Trees) → AllHeads (one x) → AllHeads xs → AllHeads (Cons x xs)
heads-with (Node f s Nil) xs head all = (head.0, all)
heads-with (Node f s (Cons y ys)) xs head all = absurd head

parameters-heads : {xs : Trees} {a : List Lexeme} → h.DerivesParameters xs a → AllHeads xs
parameters-heads (h.last_parameter x) = parameter-heads x
parameters-heads (h.more_parameters {x = x} {xs = xs} t k y ys) = heads-with x xs (parameter-heads y) (parameters-heads ys)

heads-in : {n : Lexeme} {xs : Trees} {a : List Lexeme} → h.DerivesHead n xs a → AllHeads xs
heads-in (h.constant k) = tt
heads-in (h.with_parameters u k l v xs) = parameters-heads xs

names-in : {xs : Trees} {a : List Lexeme} → h.DerivesNameList xs a → AllNames xs
names-in (h.last_name k) = (k, tt)
names-in (h.more_names k l ds) = (k, names-in ds)

tuple-names-in : {xs : Trees} {a : List Lexeme} → h.DerivesTupleNames xs a → AllNames xs
tuple-names-in (h.tuple_names t u k l ds) = names-in ds

module _ (text : Text) (known : Known) (named : List ℕ → Outside) (paths : List ℕ) (found : List Finding) (faces : List ℕ → FlatFace)
    (agrees : (f : Finding) → Contains found f → IsAgreed (means_by found) (found_entity found) f) (behind : AreBehindInstances known) where
  abbrev here : Surroundings
  here = around text known named paths found faces

  abbrev pub AsExpression : Tree → Type 0
  AsExpression x = Expression text known named paths found faces x

  abbrev AsExpressions : Trees → Type 0
  AsExpressions xs = Expressions text known named paths found faces xs

  abbrev Part : Binding → Tree → Type 0
  Part b x = PartOf text known named paths found faces b x

  abbrev Parts : Binding → Trees → Type 0
  Parts b xs = PartsOf text known named paths found faces b xs

  abbrev pub AsDefinition : Tree → Type 0
  AsDefinition x = Definition text known named paths found faces agrees x

  abbrev as_part : (b : Binding) (x : Tree) → AsExpression x → Part b x
  as_part b x e = expression-part text known named paths found faces b x e

  abbrev as_parts : (b : Binding) (xs : Trees) → AsExpressions xs → Parts b xs
  as_parts b xs es = expression-parts text known named paths found faces b xs es

  abbrev are_segments : Trees → Type 0
  are_segments xs = Segments text known named paths found faces agrees xs

  -- a path with a segment at least
  path-of : (s : Span) (x : Tree) (xs : Trees) → are_segments (Cons x xs) → AsExpression (Node Form.Identifier s (Cons x xs))
  path-of s (Node (Form.Segment l) t args) xs all = identifier-read text known named paths found faces agrees s l t args xs all.0 all.1 behind
  path-of s x xs all = absurd all

  segments-with : (x : Tree) (xs : Trees) → are_segments (one x) → are_segments xs → are_segments (Cons x xs)
  segments-with (Node (Form.Segment l) t args) xs own all = (own.0, all)
  segments-with x xs own all = absurd own

  -- a form that is read by its parts alone
  over : (f : AnyForm) (s : Span) (xs : Trees) → IsWholeForm f → role_of f ≡ role.Other → ((context : Context) → places_at text known named context (Node f s xs) ≡ None)
      → ((context : Context) → Met text known named paths found faces (walk text here context (Node f s xs)) → Met text known named paths found faces (form_walk text known named paths found faces context f xs))
      → ((context : Context) → ReadEach text known named paths found faces (reserved text context f xs) (scope text context f xs) xs → Reads text known named paths found faces context (Node f s xs))
      → Parts (binding_of f) xs → AsExpression (Node f s xs)
  over f s xs w other bare walked read all = form-read text known named paths found faces agrees f s xs w other bare walked read all

  names-part : (b : Binding) {x : Tree} {a : List Lexeme} → h.DerivesNames x a → Part b x
  names-part b (h.names {xs = xs} {a = a} ds) = group-part text known named paths found faces b (place a) xs (names-in ds)

  binder-part : (b : Binding) {x : Tree} {a : List Lexeme} → h.DerivesBinder x a → Part b x
  binder-part b (h.binder_name {n = n} k) = group-part text known named paths found faces b (place (n ∷ [])) (one (Node (Form.Name n) (place (n ∷ [])) Nil)) (k, tt)
  binder-part b (h.binder_tuple {xs = xs} {a = a} ds) = tuple-part text known named paths found faces b (place a) xs (tuple-names-in ds)

  steps-with : (x : Tree) (xs : Trees) → Steps text known named paths found faces (one x) → Steps text known named paths found faces xs → Steps text known named paths found faces (Cons x xs)
  steps-with (Node f s ps) xs own all = (own.0, own.1, own.2, own.3, all)

  updates-with : (x : Tree) (xs : Trees) → Updates text known named paths found faces (one x) → Updates text known named paths found faces xs → Updates text known named paths found faces (Cons x xs)
  updates-with (Node f s ps) xs own all = (own.0, own.1, own.2, all)

  rights-with : (x : Tree) (xs : Trees) → Replacements text known named paths found faces agrees (one x) → Replacements text known named paths found faces agrees xs → Replacements text known named paths found faces agrees (Cons x xs)
  rights-with (Node (Form.Replacement l) s (Cons y Nil)) xs own all = (own.0, all)
  rights-with x xs own all = absurd own

  bound-before : {x : Tree} {a : List Lexeme} {i : ℕ} {o : Option Lexeme} → d.DerivesBound x a i o → AllBefore (one x)
  bound-before (d.bound m k l ns y) = (outer refl, tt)
  bound-before (d.tuple_bound m k l ns y) = (outer refl, tt)

  before-with : (x : Tree) (xs : Trees) → AllBefore (one x) → AllBefore xs → AllBefore (Cons x xs)
  before-with (Node f s ps) xs own all = (own.0, all)

  bounds-before : {xs : Trees} {a : List Lexeme} {i : ℕ} {o : Option Lexeme} → d.DerivesBounds xs a i o → AllBefore xs
  bounds-before (d.last_bound x) = bound-before x
  bounds-before (d.more_bounds {x = x} {xs = xs} t k y ys) = before-with x xs (bound-before y) (bounds-before ys)

  abbrev unbound : Binding
  unbound = as_binding.Bound false

  mutual
    pub expression-in : {x : Tree} {a : List Lexeme} {i : ℕ} {o : Option Lexeme} → d.Derives x a i o → AsExpression x
    expression-in (d.node {a = a} s) = form-in (place a) s (spelled-whole s)

    form-in : {f : AnyForm} {xs : Trees} {a : List Lexeme} {i : ℕ} {o : Option Lexeme} (s : Span) → d.Spells f xs a i o → IsWholeForm f → AsExpression (Node f s xs)
    form-in s (d.identifier xs) w = segments-in s xs
    form-in s (d.number {t = t} k) w = atom-read text known named paths found faces agrees (Form.Number t) s w refl (λ c. refl) (λ c. refl)
    form-in s (d.text {t = t} k) w = atom-read text known named paths found faces agrees (Form.Text t) s w refl (λ c. refl) (λ c. refl)
    form-in s (d.at {t = t} k) w = at-read text known named paths found faces agrees t s w
    form-in s (d.prefixed {op = op} {t = t} {x = x} k l m y) w = prefix-read text known named paths found faces agrees t s op x w k l (expression-in y)
    form-in s (d.infixed {op = op} {x = x} {y = y} t k l m n q v z) w = infix-read text known named paths found faces agrees t s op x y w k l (expression-in v) (expression-in z)
    form-in s (d.postfixed {op = op} {x = x} t k l m y) w = postfix-read text known named paths found faces agrees t s op x w k l (expression-in y)
    form-in s (d.products {x = x} {xs = xs} t k l y ys) w = over Form.Product s (Cons x xs) w refl (λ c. refl) (λ c met. met) (λ c read. (refl, read)) (as_part unbound x (expression-in y), as_parts unbound xs (factors-in ys))
    form-in s (d.parentheses {x = x} t u k l y) w = parentheses-read text known named paths found faces agrees s x w (expression-in y)
    form-in s (d.quantifier {q = q} {names = names} {x = x} t k l ns y) w =
        over (Form.Quantifier q) s (two names x) w refl (λ c. refl) (λ c met. met) (λ c read. (refl, read)) (names-part unbound ns, (as_part unbound x (expression-in y), tt))
    form-in s (d.bounded_quantifier {q = q} {bounds = bounds} {x = x} t k l bs y) w = bounded-read text known named paths found faces agrees q s bounds x w (bounds-before bs) (bounds-in unbound bs) (expression-in y)
    form-in s (d.temporal_quantifier {q = q} {names = names} {x = x} t k l ns y) w =
        over (Form.TemporalQuantifier q) s (two names x) w refl (λ c. refl) (λ c met. met) (λ c read. (refl, read)) (names-part (as_binding.Bound true) ns, (as_part (as_binding.Bound true) x (expression-in y), tt))
    form-in s (d.choose {binder = binder} {x = x} t k l b y) w = over Form.Choose s (two binder x) w refl (λ c. refl) (λ c met. met) (λ c read. (refl, read)) (binder-part unbound b, (as_part unbound x (expression-in y), tt))
    form-in s (d.bounded_choose {bound = bound} {x = x} t k l b m y) w = over Form.BoundedChoose s (two bound x) w refl (λ c. refl) (λ c met. met) (λ c read. (refl, read)) (bound-in unbound b, (as_part unbound x (expression-in y), tt))
    form-in s (d.empty_set k l) w = over Form.SetEnumeration s Nil w refl (λ c. refl) (λ c met. met) (λ c read. (refl, read)) tt
    form-in s (d.set {xs = xs} t u k l ys) w = over Form.SetEnumeration s xs w refl (λ c. refl) (λ c met. met) (λ c read. (refl, read)) (as_parts unbound xs (list-in ys))
    form-in s (d.set_filter {bound = bound} {y = y} t c u k l m b n z) w = over Form.SetFilter s (two bound y) w refl (λ c. refl) (λ c met. met) (λ c read. (refl, read)) (bound-in unbound b, (as_part unbound y (expression-in z), tt))
    form-in s (d.set_image {x = x} {bounds = bounds} t c u k l m y n bs) w = image-read text known named paths found faces agrees s (Cons x bounds) w (as_part unbound x (expression-in y), bounds-in unbound bs)
    form-in s (d.application {x = x} {xs = xs} t u k l m y ys) w = over Form.Application s (Cons x xs) w refl (λ c. refl) (λ c met. met) (λ c read. (refl, read)) (as_part unbound x (expression-in y), as_parts unbound xs (list-in ys))
    form-in s (d.function {bounds = bounds} {y = y} t m u k l n bs z) w =
        over Form.FunctionConstructor s (then bounds y) w refl (λ c. refl) (λ c met. met) (λ c read. (refl, read)) (parts-then text known named paths found faces unbound bounds y (bounds-in unbound bs) (as_part unbound y (expression-in z)))
    form-in s (d.function_set {x = x} {y = y} t m u k l n v z) w = over Form.FunctionSet s (two x y) w refl (λ c. refl) (λ c met. met) (λ c read. (refl, read)) (as_part unbound x (expression-in v), (as_part unbound y (expression-in z), tt))
    form-in s (d.record_of {xs = xs} t u k l ys) w = over Form.Record s xs w refl (λ c. refl) (λ c met. met) (λ c read. (refl, read)) (fields-in ys)
    form-in s (d.record_set {xs = xs} t u k l ys) w = over Form.RecordSet s xs w refl (λ c. refl) (λ c met. met) (λ c read. (refl, read)) (fields-in ys)
    form-in s (d.field {x = x} {h = n} t k l m y) w = over (Form.FieldAccess n) s (one x) w refl (λ c. refl) (λ c met. met) (λ c read. (refl, read)) (as_part unbound x (expression-in y), tt)
    form-in s (d.except {x = x} {xs = xs} t v u k l m y ys) w = except-read text known named paths found faces agrees s x xs w (expression-in y) (updates-in ys)
    form-in s (d.empty_tuple k l) w = over Form.Tuple s Nil w refl (λ c. refl) (λ c met. met) (λ c read. (refl, read)) tt
    form-in s (d.tuple {xs = xs} t u k l ys) w = over Form.Tuple s xs w refl (λ c. refl) (λ c met. met) (λ c read. (refl, read)) (as_parts unbound xs (list-in ys))
    form-in s (d.square {x = x} {s = y} t u k l v z m) w = over Form.SquareAction s (two x y) w refl (λ c. refl) (λ c met. met) (λ c read. (refl, read)) (as_part unbound x (expression-in v), (as_part unbound y (expression-in z), tt))
    form-in s (d.angle {x = x} {s = y} t u k l v z m) w = over Form.AngleAction s (two x y) w refl (λ c. refl) (λ c met. met) (λ c read. (refl, read)) (as_part unbound x (expression-in v), (as_part unbound y (expression-in z), tt))
    form-in s (d.fairness {w = q} {s = x} {x = y} t u k l m v n z) w = over (Form.Fairness q) s (two x y) w refl (λ c. refl) (λ c met. met) (λ c read. (refl, read)) (as_part unbound x (expression-in v), (as_part unbound y (expression-in z), tt))
    form-in s (d.if_then_else {x = x} {y = y} {z = z} t u v k l m p q r) w =
        over Form.IfThenElse s (Cons x (two y z)) w refl (λ c. refl) (λ c met. met) (λ c read. (refl, read)) (as_part unbound x (expression-in p), (as_part unbound y (expression-in q), (as_part unbound z (expression-in r), tt)))
    form-in s (d.case {xs = xs} k ys) w = over Form.Case s xs w refl (λ c. refl) (λ c met. met) (λ c read. (refl, read)) (arms-in ys)
    form-in s (d.let_in {xs = xs} {x = x} t k l ds y) w = let-read text known named paths found faces agrees s xs x w (definitions-in ds) (expression-in y)
    form-in s (d.junctions {t = t} {xs = xs} k l ys m) w = over (Form.JunctionList t) s xs w refl (λ c. refl) (λ c met. met) (λ c read. (refl, read)) (as_parts unbound xs (items-in ys))

    list-in : {xs : Trees} {a : List Lexeme} {i : ℕ} {o : Option Lexeme} → d.DerivesList xs a i o → AsExpressions xs
    list-in (d.last x) = (expression-in x, tt)
    list-in (d.more t k x xs) = (expression-in x, list-in xs)

    factors-in : {xs : Trees} {a : List Lexeme} {i : ℕ} {o : Option Lexeme} → d.DerivesFactors xs a i o → AsExpressions xs
    factors-in (d.last_factor k x) = (expression-in x, tt)
    factors-in (d.more_factors t k l m x xs) = (expression-in x, factors-in xs)

    segments-in : {xs : Trees} {a : List Lexeme} {i : ℕ} (s : Span) → d.DerivesSegments xs a i → AsExpression (Node Form.Identifier s xs)
    segments-in s (d.last_segment {x = x} y) = path-of s x Nil (segment-in y)
    segments-in s (d.more_segments {x = x} {xs = xs} t k y ys) = path-of s x xs (segments-with x xs (segment-in y) (further-in ys))

    further-in : {xs : Trees} {a : List Lexeme} {i : ℕ} → d.DerivesSegments xs a i → are_segments xs
    further-in (d.last_segment x) = segment-in x
    further-in (d.more_segments {x = x} {xs = xs} t k y ys) = segments-with x xs (segment-in y) (further-in ys)

    segment-in : {x : Tree} {a : List Lexeme} {i : ℕ} → d.DerivesSegment x a i → are_segments (one x)
    segment-in (d.bare k) = (tt, tt)
    segment-in (d.applied t u m k l xs) = (arguments-in xs, tt)

    arguments-in : {xs : Trees} {a : List Lexeme} {i : ℕ} {o : Option Lexeme} → d.DerivesArguments xs a i o → AsExpressions xs
    arguments-in (d.last_argument x) = (argument-in x, tt)
    arguments-in (d.more_arguments t k x xs) = (argument-in x, arguments-in xs)

    argument-in : {x : Tree} {a : List Lexeme} {i : ℕ} {o : Option Lexeme} → d.DerivesArgument x a i o → AsExpression x
    argument-in (d.expression x) = expression-in x
    argument-in (d.passed {op = op} {t = t} k l) = symbol-read text known named paths found faces agrees t (place (t ∷ [])) op k

    bound-in : {x : Tree} {a : List Lexeme} {i : ℕ} {o : Option Lexeme} (b : Binding) → d.DerivesBound x a i o → Part b x
    bound-in c (d.bound {xs = xs} {x = x} {a = a} {b = b} m k l ns y) = bound-part text known named paths found faces c (place (a ++ m ∷ b)) xs x (names-in ns) (expression-in y)
    bound-in c (d.tuple_bound {xs = xs} {x = x} {a = a} {b = b} m k l ns y) = tuple-bound-part text known named paths found faces c (place (a ++ m ∷ b)) xs x (tuple-names-in ns) (expression-in y)

    bounds-in : {xs : Trees} {a : List Lexeme} {i : ℕ} {o : Option Lexeme} (b : Binding) → d.DerivesBounds xs a i o → Parts b xs
    bounds-in b (d.last_bound x) = (bound-in b x, tt)
    bounds-in b (d.more_bounds t k x xs) = (bound-in b x, bounds-in b xs)

    field-in : {mark : Mark} {x : Tree} {a : List Lexeme} {i : ℕ} {o : Option Lexeme} → d.DerivesField mark x a i o → Part unbound x
    field-in (d.named {n = n} {m = m} {x = x} {a = a} k l y) = field-part text known named paths found faces unbound n (place (n ∷ m ∷ a)) (one x) (expression-in y, tt)

    fields-in : {mark : Mark} {xs : Trees} {a : List Lexeme} {i : ℕ} {o : Option Lexeme} → d.DerivesFields mark xs a i o → Parts unbound xs
    fields-in (d.last_field x) = (field-in x, tt)
    fields-in (d.more_fields t k x xs) = (field-in x, fields-in xs)

    update-in : {x : Tree} {a : List Lexeme} {i : ℕ} {o : Option Lexeme} → d.DerivesUpdate x a i o → Updates text known named paths found faces (one x)
    update-in (d.update {xs = xs} {x = x} {a = a} {b = b} t e k l ss y) = update-part text known named paths found faces (place (t ∷ (a ++ e ∷ b))) xs x (steps-in ss) (expression-in y)

    updates-in : {xs : Trees} {a : List Lexeme} {i : ℕ} {o : Option Lexeme} → d.DerivesUpdates xs a i o → Updates text known named paths found faces xs
    updates-in (d.last_update x) = update-in x
    updates-in (d.more_updates {x = x} {xs = xs} t k y ys) = updates-with x xs (update-in y) (updates-in ys)

    step-in : {x : Tree} {a : List Lexeme} {i : ℕ} → d.DerivesStep x a i → Steps text known named paths found faces (one x)
    step-in (d.field_step {h = n} k l) = (helper refl refl, refl, refl, field-step text known named paths found faces n (place (n ∷ [])), tt)
    step-in (d.index_step {xs = xs} {a = a} t u k l ys) = (outer refl, refl, refl, index-step text known named paths found faces (place (t ∷ (a ++ u ∷ []))) xs (list-in ys), tt)

    steps-in : {xs : Trees} {a : List Lexeme} {i : ℕ} → d.DerivesSteps xs a i → Steps text known named paths found faces xs
    steps-in (d.last_step x) = step-in x
    steps-in (d.more_steps {x = x} {xs = xs} y ys) = steps-with x xs (step-in y) (steps-in ys)

    arms-in : {xs : Trees} {a : List Lexeme} {i : ℕ} {o : Option Lexeme} → d.DerivesArms xs a i o → Parts unbound xs
    arms-in (d.last_arm x k) = (arm-in x, tt)
    arms-in (d.other_arm {w = w} {t = t} {x = x} {a = a} k l y) = (other-arm-part text known named paths found faces unbound (place (w ∷ t ∷ a)) (one x) (expression-in y, tt), tt)
    arms-in (d.more_arms t k x xs) = (arm-in x, arms-in xs)

    arm-in : {x : Tree} {a : List Lexeme} {i : ℕ} {o : Option Lexeme} → d.DerivesArm x a i o → Part unbound x
    arm-in (d.arm {x = x} {y = y} {a = a} {b = b} t k v z) = arm-part text known named paths found faces unbound (place (a ++ t ∷ b)) (two x y) (expression-in v, (expression-in z, tt))

    items-in : {first : Lexeme} {xs : Trees} {a : List Lexeme} {o : Option Lexeme} → d.DerivesItems first xs a o → AsExpressions xs
    items-in (d.last_item k l x) = (expression-in x, tt)
    items-in (d.more_items u k l x xs) = (expression-in x, items-in xs)

    definitions-in : {xs : Trees} {a : List Lexeme} {i : ℕ} {o : Option Lexeme} → d.DerivesDefinitions xs a i o → Definitions text known named paths found faces agrees xs
    definitions-in (d.last_definition x) = (definition-by x (definition-fits x), tt)
    definitions-in (d.more_definitions t x xs) = (definition-by x (definition-fits x), definitions-in xs)

    definition-by : {x : Tree} {a : List Lexeme} {i : ℕ} {o : Option Lexeme} → d.DerivesDefinition x a i o → AllByRecursion Fits (definition x) → AsDefinition x
    definition-by (d.operator {n = n} {xs = xs} {x = x} {a = a} {b = b} m head k y) fits = operator-definition text known named paths found faces agrees n (place (a ++ m ∷ b)) xs x (heads-in head) (expression-in y) fits
    definition-by (d.prefix_operator {t = t} {n = n} {d = m} {x = x} {a = a} k l o y) fits =
        prefix-definition text known named paths found faces agrees t (place (t ∷ n ∷ m ∷ a)) (one (Node (Form.Name n) (place (n ∷ [])) Nil)) x (name-head n l, tt) (expression-in y) fits
    definition-by (d.infix_operator {m = m} {t = t} {n = n} {d = v} {x = x} {a = a} k l o q r y) fits =
        infix-definition text known named paths found faces agrees t (place (m ∷ t ∷ n ∷ v ∷ a)) (two (Node (Form.Name m) (place (m ∷ [])) Nil) (Node (Form.Name n) (place (n ∷ [])) Nil)) x (name-head m k, (name-head n q, tt)) (expression-in y) fits
    definition-by (d.postfix_operator {m = m} {t = t} {d = v} {x = x} {a = a} k l o q y) fits =
        postfix-definition text known named paths found faces agrees t (place (m ∷ t ∷ v ∷ a)) (one (Node (Form.Name m) (place (m ∷ [])) Nil)) x (name-head m k, tt) (expression-in y) fits
    definition-by (d.function_of {n = n} {t = t} {bounds = bounds} {x = x} {a = a} {b = b} u v k l m o bs y) fits =
        function-definition text known named paths found faces agrees n (place (n ∷ t ∷ (a ++ u ∷ v ∷ b))) bounds x (bounds-in unbound bs) (expression-in y) (word-fits n (entity.Bound false) k) fits
    definition-by (d.module_of {n = n} {xs = xs} {x = x} {a = a} {b = b} m head k y) fits = module-in n (place (a ++ m ∷ b)) xs (heads-in head) y fits

    module-in : (n : Lexeme) (s : Span) (xs : Trees) → AllHeads xs → {x : Tree} {a : List Lexeme} {i : ℕ} {o : Option Lexeme} → d.DerivesInstance x a i o → AllByRecursion Fits (defined (Form.ModuleDefinition n) (then xs x)) → AsDefinition (Node (Form.ModuleDefinition n) s (then xs x))
    module-in n s xs heads (d.without {w = w} {m = m} k l) fits = module-definition text known named paths found faces agrees n s xs m (place (w ∷ m ∷ [])) Nil heads tt fits
    module-in n s xs heads (d.with_replacements {w = w} {m = m} {t = t} {xs = rights} {a = a} k l v ys) fits =
        module-definition text known named paths found faces agrees n s xs m (place (w ∷ m ∷ t ∷ a)) rights heads (replacements-in ys) fits

    pub replacements-in : {xs : Trees} {a : List Lexeme} {i : ℕ} {o : Option Lexeme} → d.DerivesReplacements xs a i o → Replacements text known named paths found faces agrees xs
    replacements-in (d.last_replacement x) = replacement-in x
    replacements-in (d.more_replacements {x = x} {xs = xs} t k y ys) = rights-with x xs (replacement-in y) (replacements-in ys)

    replacement-in : {x : Tree} {a : List Lexeme} {i : ℕ} {o : Option Lexeme} → d.DerivesReplacement x a i o → Replacements text known named paths found faces agrees (one x)
    replacement-in (d.replaced k l x) = (expression-in x, tt)
    replacement-in (d.replaced_by_symbol {op = op} {s = s} k l m n) = (symbol-read text known named paths found faces agrees s (place (s ∷ [])) op m, tt)

  pub definition-in : {x : Tree} {a : List Lexeme} {i : ℕ} {o : Option Lexeme} → d.DerivesDefinition x a i o → AsDefinition x
  definition-in x = definition-by x (definition-fits x)
