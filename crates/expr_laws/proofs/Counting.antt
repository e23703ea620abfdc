-- A tree has at most two nodes for each of its lexemes.
use Rattle.std.proofs.Common.{◌≡◌, ℕ, suc, ◌+◌, ◌*◌, ◌≤◌, List, [], ◌∷◌, ◌++◌, Option, length, arith, length-append}
use Rattle.tla_symbols.specs.declared.lexeme.Lexeme.{Lexeme}
use Rattle.tla_symbols.specs.declared.lexeme.Mark.{Mark}
use Rattle.tla_tree.specs.declared.form.Form.{Form}
use Rattle.tla_tree.specs.Syntax.{Tree, Trees, Nil, Cons}
use Rattle.tla_tree.specs.Lexemes.{then}
use Rattle.tla_tree.specs.Headings.{DerivesNameList, last_name, more_names, DerivesNames, names, DerivesTupleNames, tuple_names, DerivesBinder, binder_name, binder_tuple, DerivesParameter, plain, of_places, prefix_symbol, infix_symbol, postfix_symbol, DerivesParameters, last_parameter, more_parameters, DerivesHead, constant, with_parameters}
use Rattle.tla_tree.specs.Derivation.{Derives, node, Spells, identifier, number, text, at, prefixed, infixed, postfixed, products, parentheses, quantifier, bounded_quantifier, temporal_quantifier, choose, bounded_choose, empty_set, set, set_filter, set_image, application, function, function_set, record_of, record_set, field, except, empty_tuple, tuple, square, angle, fairness, if_then_else, case, let_in, junctions, DerivesList, last, more, DerivesFactors, last_factor, more_factors, DerivesSegments, last_segment, more_segments, DerivesSegment, bare, applied, DerivesArguments, last_argument, more_arguments, DerivesArgument, expression, passed, DerivesBound, bound, tuple_bound, DerivesBounds, last_bound, more_bounds, DerivesField, named, DerivesFields, last_field, more_fields, DerivesUpdate, update, DerivesUpdates, last_update, more_updates, DerivesStep, field_step, index_step, DerivesSteps, last_step, more_steps, DerivesArms, last_arm, other_arm, more_arms, DerivesArm, arm, DerivesItems, last_item, more_items, DerivesDefinitions, last_definition, more_definitions, DerivesDefinition, operator, prefix_operator, infix_operator, postfix_operator, function_of, module_of, DerivesInstance, without, with_replacements, DerivesReplacements, last_replacement, more_replacements, DerivesReplacement, replaced, replaced_by_symbol}
use Rattle.expr_grammar.specs.Counting.{nodes, all_nodes}

pub nodes-then : (xs : Trees) (x : Tree) → all_nodes (then xs x) ≡ all_nodes xs + nodes x
nodes-then Nil x = omega arith
nodes-then (Cons y xs) x = omega (arith, nodes-then xs x)

length-mark : (a : List Lexeme) (t : Lexeme) (b : List Lexeme) → length (a ++ t ∷ b) ≡ length a + suc (length b)
length-mark a t b = length-append a (t ∷ b)

name_list-few : {xs : Trees} {a : List Lexeme} → DerivesNameList xs a → suc (all_nodes xs) ≤ 2 * length a
name_list-few (last_name k) = omega arith
name_list-few (more_names k l d) = omega (arith, name_list-few d)

names-few : {x : Tree} {a : List Lexeme} → DerivesNames x a → nodes x ≤ 2 * length a
names-few (names d) = name_list-few d

tuple_names-few : {xs : Trees} {a : List Lexeme} → DerivesTupleNames xs a → suc (all_nodes xs) ≤ 2 * length a
tuple_names-few (tuple_names {a = a} t u k l d) = omega (arith, name_list-few d, length-mark a u [])

binder-few : {x : Tree} {a : List Lexeme} → DerivesBinder x a → nodes x ≤ 2 * length a
binder-few (binder_name k) = omega arith
binder-few (binder_tuple d) = tuple_names-few d

parameter-few : {x : Tree} {a : List Lexeme} → DerivesParameter x a → nodes x ≤ 2 * length a
parameter-few (plain k) = omega arith
parameter-few (of_places u k l m d) = omega arith
parameter-few (prefix_symbol k l) = omega arith
parameter-few (infix_symbol k l m n) = omega arith
parameter-few (postfix_symbol k l m) = omega arith

parameters-few : {xs : Trees} {a : List Lexeme} → DerivesParameters xs a → all_nodes xs ≤ 2 * length a
parameters-few (last_parameter d) = omega (arith, parameter-few d)
parameters-few (more_parameters {a = a} {b = b} t k d e) = omega (arith, parameter-few d, parameters-few e, length-mark a t b)

head-few : {n : Lexeme} {xs : Trees} {a : List Lexeme} → DerivesHead n xs a → all_nodes xs ≤ 2 * length a
head-few (constant k) = omega arith
head-few (with_parameters {a = a} u k l m d) = omega (arith, parameters-few d, length-mark a u [])

mutual
  pub derives-few : {x : Tree} {a : List Lexeme} {i : ℕ} {o : Option Lexeme} → Derives x a i o → nodes x ≤ 2 * length a
  derives-few (node s) = spells-few s

  spells-few : {f : Form} {xs : Trees} {a : List Lexeme} {i : ℕ} {o : Option Lexeme} → Spells f xs a i o → suc (all_nodes xs) ≤ 2 * length a
  spells-few (identifier d) = segments-few d
  spells-few (number k) = omega arith
  spells-few (text k) = omega arith
  spells-few (at k) = omega arith
  spells-few (prefixed k h m d) = omega (arith, derives-few d)
  spells-few (infixed {a = a} {b = b} t k h e j m d d') = omega (arith, derives-few d, derives-few d', length-mark a t b)
  spells-few (postfixed {a = a} t k h e d) = omega (arith, derives-few d, length-mark a t [])
  spells-few (products {a = a} {b = b} t k j d d') = omega (arith, derives-few d, factors-few d', length-mark a t b)
  spells-few (parentheses {a = a} t u k l d) = omega (arith, derives-few d, length-mark a u [])
  spells-few (quantifier {a = a} {b = b} t k l d d') = omega (arith, names-few d, derives-few d', length-mark a t b)
  spells-few (bounded_quantifier {bounds = bounds} {x = x} {a = a} {b = b} t k l d d') = omega (arith, bounds-few d, derives-few d', length-mark a t b, nodes-then bounds x)
  spells-few (temporal_quantifier {a = a} {b = b} t k l d d') = omega (arith, names-few d, derives-few d', length-mark a t b)
  spells-few (choose {a = a} {b = b} t k l d d') = omega (arith, binder-few d, derives-few d', length-mark a t b)
  spells-few (bounded_choose {a = a} {b = b} t k l d h d') = omega (arith, bound-few d, derives-few d', length-mark a t b)
  spells-few (empty_set k l) = omega arith
  spells-few (set {a = a} t u k l d) = omega (arith, list-few d, length-mark a u [])
  spells-few (set_filter {a = a} {b = b} t c u k l e d h d') = omega (arith, bound-few d, derives-few d', length-mark a c (b ++ u ∷ []), length-mark b u [])
  spells-few (set_image {a = a} {b = b} t c u k l e d h d') = omega (arith, derives-few d, bounds-few d', length-mark a c (b ++ u ∷ []), length-mark b u [])
  spells-few (application {a = a} {b = b} t u k l e d d') = omega (arith, derives-few d, list-few d', length-mark a t (b ++ u ∷ []), length-mark b u [])
  spells-few (function {bounds = bounds} {y = y} {a = a} {b = b} t m u k l e d d') = omega (arith, bounds-few d, derives-few d', length-mark a m (b ++ u ∷ []), length-mark b u [], nodes-then bounds y)
  spells-few (function_set {a = a} {b = b} t m u k l e d d') = omega (arith, derives-few d, derives-few d', length-mark a m (b ++ u ∷ []), length-mark b u [])
  spells-few (record_of {a = a} t u k l d) = omega (arith, fields-few d, length-mark a u [])
  spells-few (record_set {a = a} t u k l d) = omega (arith, fields-few d, length-mark a u [])
  spells-few (field {a = a} {h = h} t k l e d) = omega (arith, derives-few d, length-mark a t (h ∷ []))
  spells-few (except {a = a} {b = b} t w u k l e d d') = omega (arith, derives-few d, updates-few d', length-mark a w (b ++ u ∷ []), length-mark b u [])
  spells-few (empty_tuple k l) = omega arith
  spells-few (tuple {a = a} t u k l d) = omega (arith, list-few d, length-mark a u [])
  spells-few (square {a = a} {b = b} t u k l d d' s) = omega (arith, derives-few d, derives-few d', length-mark a u b)
  spells-few (angle {a = a} {b = b} t u k l d d' s) = omega (arith, derives-few d, derives-few d', length-mark a u b)
  spells-few (fairness {a = a} {b = b} t u k l m d s d') = omega (arith, derives-few d, derives-few d', length-mark a t (b ++ u ∷ []), length-mark b u [])
  spells-few (if_then_else {a = a} {b = b} {c = c} t u v k l m d d' d'') = omega (arith, derives-few d, derives-few d', derives-few d'', length-mark a u (b ++ v ∷ c), length-mark b v c)
  spells-few (case k d) = omega (arith, arms-few d)
  spells-few (let_in {xs = xs} {x = x} {a = a} {b = b} t k l d d') = omega (arith, definitions-few d, derives-few d', length-mark a t b, nodes-then xs x)
  spells-few (junctions k l d m) = items-few d

  list-few : {xs : Trees} {a : List Lexeme} {i : ℕ} {o : Option Lexeme} → DerivesList xs a i o → all_nodes xs ≤ 2 * length a
  list-few (last d) = omega (arith, derives-few d)
  list-few (more {a = a} {b = b} t k d d') = omega (arith, derives-few d, list-few d', length-mark a t b)

  factors-few : {xs : Trees} {a : List Lexeme} {i : ℕ} {o : Option Lexeme} → DerivesFactors xs a i o → all_nodes xs ≤ 2 * length a
  factors-few (last_factor m d) = omega (arith, derives-few d)
  factors-few (more_factors {a = a} {b = b} t k m j d d') = omega (arith, derives-few d, factors-few d', length-mark a t b)

  segments-few : {xs : Trees} {a : List Lexeme} {i : ℕ} → DerivesSegments xs a i → suc (all_nodes xs) ≤ 2 * length a
  segments-few (last_segment d) = omega (arith, segment-few d)
  segments-few (more_segments {a = a} {b = b} t k d d') = omega (arith, segment-few d, segments-few d', length-mark a t b)

  segment-few : {x : Tree} {a : List Lexeme} {i : ℕ} → DerivesSegment x a i → suc (nodes x) ≤ 2 * length a
  segment-few (bare k) = omega arith
  segment-few (applied {a = a} t u k l m d) = omega (arith, arguments-few d, length-mark a u [])

  arguments-few : {xs : Trees} {a : List Lexeme} {i : ℕ} {o : Option Lexeme} → DerivesArguments xs a i o → all_nodes xs ≤ 2 * length a
  arguments-few (last_argument d) = omega (arith, argument-few d)
  arguments-few (more_arguments {a = a} {b = b} t k d d') = omega (arith, argument-few d, arguments-few d', length-mark a t b)

  argument-few : {x : Tree} {a : List Lexeme} {i : ℕ} {o : Option Lexeme} → DerivesArgument x a i o → nodes x ≤ 2 * length a
  argument-few (expression d) = derives-few d
  argument-few (passed k h) = omega arith

  bound-few : {x : Tree} {a : List Lexeme} {i : ℕ} {o : Option Lexeme} → DerivesBound x a i o → nodes x ≤ 2 * length a
  bound-few (bound {xs = xs} {x = x} {a = a} {b = b} m k h d d') = omega (arith, name_list-few d, derives-few d', length-mark a m b, nodes-then xs x)
  bound-few (tuple_bound {xs = xs} {x = x} {a = a} {b = b} m k h d d') = omega (arith, tuple_names-few d, derives-few d', length-mark a m b, nodes-then xs x)

  bounds-few : {xs : Trees} {a : List Lexeme} {i : ℕ} {o : Option Lexeme} → DerivesBounds xs a i o → all_nodes xs ≤ 2 * length a
  bounds-few (last_bound d) = omega (arith, bound-few d)
  bounds-few (more_bounds {a = a} {b = b} t k d d') = omega (arith, bound-few d, bounds-few d', length-mark a t b)

  field-few : {mark : Mark} {x : Tree} {a : List Lexeme} {i : ℕ} {o : Option Lexeme} → DerivesField mark x a i o → nodes x ≤ 2 * length a
  field-few (named k l d) = omega (arith, derives-few d)

  fields-few : {mark : Mark} {xs : Trees} {a : List Lexeme} {i : ℕ} {o : Option Lexeme} → DerivesFields mark xs a i o → all_nodes xs ≤ 2 * length a
  fields-few (last_field d) = omega (arith, field-few d)
  fields-few (more_fields {a = a} {b = b} t k d d') = omega (arith, field-few d, fields-few d', length-mark a t b)

  update-few : {x : Tree} {a : List Lexeme} {i : ℕ} {o : Option Lexeme} → DerivesUpdate x a i o → nodes x ≤ 2 * length a
  update-few (update {xs = xs} {x = x} {a = a} {b = b} t e k l d d') = omega (arith, steps-few d, derives-few d', length-mark a e b, nodes-then xs x)

  updates-few : {xs : Trees} {a : List Lexeme} {i : ℕ} {o : Option Lexeme} → DerivesUpdates xs a i o → all_nodes xs ≤ 2 * length a
  updates-few (last_update d) = omega (arith, update-few d)
  updates-few (more_updates {a = a} {b = b} t k d d') = omega (arith, update-few d, updates-few d', length-mark a t b)

  step-few : {x : Tree} {a : List Lexeme} {i : ℕ} → DerivesStep x a i → nodes x ≤ 2 * length a
  step-few (field_step k l) = omega arith
  step-few (index_step {a = a} t u k l d) = omega (arith, list-few d, length-mark a u [])

  steps-few : {xs : Trees} {a : List Lexeme} {i : ℕ} → DerivesSteps xs a i → all_nodes xs ≤ 2 * length a
  steps-few (last_step d) = omega (arith, step-few d)
  steps-few (more_steps {a = a} {b = b} d d') = omega (arith, step-few d, steps-few d', length-append a b)

  arms-few : {xs : Trees} {a : List Lexeme} {i : ℕ} {o : Option Lexeme} → DerivesArms xs a i o → all_nodes xs ≤ 2 * length a
  arms-few (last_arm d m) = omega (arith, arm-few d)
  arms-few (other_arm k l d) = omega (arith, derives-few d)
  arms-few (more_arms {a = a} {b = b} t k d d') = omega (arith, arm-few d, arms-few d', length-mark a t b)

  arm-few : {x : Tree} {a : List Lexeme} {i : ℕ} {o : Option Lexeme} → DerivesArm x a i o → nodes x ≤ 2 * length a
  arm-few (arm {a = a} {b = b} t k d d') = omega (arith, derives-few d, derives-few d', length-mark a t b)

  items-few : {first : Lexeme} {xs : Trees} {a : List Lexeme} {o : Option Lexeme} → DerivesItems first xs a o → suc (all_nodes xs) ≤ 2 * length a
  items-few (last_item g r d) = omega (arith, derives-few d)
  items-few (more_items {a = a} {b = b} u g r d d') = omega (arith, derives-few d, items-few d', length-mark a u b)

  definitions-few : {xs : Trees} {a : List Lexeme} {i : ℕ} {o : Option Lexeme} → DerivesDefinitions xs a i o → all_nodes xs ≤ 2 * length a
  definitions-few (last_definition d) = omega (arith, definition-few d)
  definitions-few (more_definitions {a = a} {b = b} t d d') = omega (arith, definition-few d, definitions-few d', length-mark a t b)

  definition-few : {x : Tree} {a : List Lexeme} {i : ℕ} {o : Option Lexeme} → DerivesDefinition x a i o → nodes x ≤ 2 * length a
  definition-few (operator {xs = xs} {x = x} {a = a} {b = b} d h k e) = omega (arith, head-few h, derives-few e, length-mark a d b, nodes-then xs x)
  definition-few (prefix_operator k l m d) = omega (arith, derives-few d)
  definition-few (infix_operator k l h m n d) = omega (arith, derives-few d)
  definition-few (postfix_operator k l h m d) = omega (arith, derives-few d)
  definition-few (function_of {bounds = bounds} {x = x} {a = a} {b = b} u d k l m n e e') = omega (arith, bounds-few e, derives-few e', length-mark a u (d ∷ b), nodes-then bounds x)
  definition-few (module_of {xs = xs} {x = x} {a = a} {b = b} d h k e) = omega (arith, head-few h, instance-few e, length-mark a d b, nodes-then xs x)

  instance-few : {x : Tree} {a : List Lexeme} {i : ℕ} {o : Option Lexeme} → DerivesInstance x a i o → nodes x ≤ 2 * length a
  instance-few (without k l) = omega arith
  instance-few (with_replacements k l m d) = omega (arith, replacements-few d)

  replacements-few : {xs : Trees} {a : List Lexeme} {i : ℕ} {o : Option Lexeme} → DerivesReplacements xs a i o → all_nodes xs ≤ 2 * length a
  replacements-few (last_replacement d) = omega (arith, replacement-few d)
  replacements-few (more_replacements {a = a} {b = b} t k d d') = omega (arith, replacement-few d, replacements-few d', length-mark a t b)

  replacement-few : {x : Tree} {a : List Lexeme} {i : ℕ} {o : Option Lexeme} → DerivesReplacement x a i o → nodes x ≤ 2 * length a
  replacement-few (replaced r k d) = omega (arith, derives-few d)
  replacement-few (replaced_by_symbol r k l h) = omega arith
