-- The lexemes that a tree holds are among those that it derives.
use Rattle.std.proofs.Common.{◌≡◌, ℕ, List, [], ◌∷◌, ◌++◌, Option, append_assoc, ap, sym, subst, ◌∙◌}
use Rattle.std.proofs.lemmas.List.{append-nil}
use Rattle.tla_symbols.specs.declared.lexeme.Lexeme.{Lexeme}
use Rattle.tla_symbols.specs.declared.lexeme.Mark.{Mark}
use Rattle.tla_tree.specs.declared.form.Form.{Form}
use Rattle.tla_tree.specs.Syntax.{Tree, Trees, Nil, Cons}
use Rattle.tla_tree.specs.Lexemes.{then}
use Rattle.tla_tree.specs.Headings as h
use Rattle.tla_tree.specs.Derivation as d
use Rattle.tla_model.specs.Lexemes.{form_lexemes, lexemes, all_lexemes}
use Rattle.front_laws.proofs.Held.{IsHeld, none, itself, other, next, both, later, between, swapped, before, last}

-- behind the first
abbrev tail : List Lexeme → List Lexeme
tail [] = []
tail (t ∷ a) = a

in-then : (xs : Trees) (x : Tree) → all_lexemes (then xs x) ≡ all_lexemes xs ++ lexemes x
in-then Nil x = append-nil (lexemes x)
in-then (Cons y xs) x = ap (λ z. lexemes y ++ z) (in-then xs x) ∙ sym (append_assoc (lexemes y) (all_lexemes xs) (lexemes x))

module _ {P : Lexeme → Type 0} where
  thens : (xs : Trees) (x : Tree) {a b : List Lexeme} → IsHeld P (all_lexemes xs) a → IsHeld P (lexemes x) b → IsHeld P (all_lexemes (then xs x)) (a ++ b)
  thens xs x {a = a} {b = b} w v = subst (λ z. IsHeld P z (a ++ b)) (sym (in-then xs x)) (both w v)

  -- behind the name of a head
  head-thens : (n : Lexeme) (xs : Trees) (x : Tree) {a b : List Lexeme} → IsHeld P (n ∷ all_lexemes xs) a → IsHeld P (lexemes x) b → IsHeld P (n ∷ all_lexemes (then xs x)) (a ++ b)
  head-thens n xs x {a = a} {b = b} w v = subst (λ z. IsHeld P (n ∷ z) (a ++ b)) (sym (in-then xs x)) (both w v)

  name-list-in : {xs : Trees} {a : List Lexeme} → h.DerivesNameList xs a → IsHeld P (all_lexemes xs) a
  name-list-in (h.last_name {n = n} k) = itself n
  name-list-in (h.more_names {n = n} {t = t} k l ds) = next n (other t (name-list-in ds))

  names-in : {x : Tree} {a : List Lexeme} → h.DerivesNames x a → IsHeld P (lexemes x) a
  names-in (h.names ds) = name-list-in ds

  tuple-names-in : {xs : Trees} {a : List Lexeme} → h.DerivesTupleNames xs a → IsHeld P (all_lexemes xs) a
  tuple-names-in (h.tuple_names t u k l ds) = other t (before _ (name-list-in ds))

  binder-in : {x : Tree} {a : List Lexeme} → h.DerivesBinder x a → IsHeld P (lexemes x) a
  binder-in (h.binder_name {n = n} k) = itself n
  binder-in (h.binder_tuple ds) = tuple-names-in ds

  parameter-in : {x : Tree} {a : List Lexeme} → h.DerivesParameter x a → IsHeld P (lexemes x) a
  parameter-in (h.plain {n = n} k) = itself n
  parameter-in (h.of_places {n = n} u k l m ds) = next n none
  parameter-in (h.prefix_symbol {t = t} k l) = next t none
  parameter-in (h.infix_symbol {p = p} {t = t} k l m q) = other p (next t none)
  parameter-in (h.postfix_symbol {p = p} {t = t} k l m) = other p (next t none)

  pub parameters-in : {xs : Trees} {a : List Lexeme} → h.DerivesParameters xs a → IsHeld P (all_lexemes xs) a
  parameters-in (h.last_parameter x) = last (parameter-in x)
  parameters-in (h.more_parameters t k x xs) = both (parameter-in x) (other t (parameters-in xs))

  head-in : {n : Lexeme} {xs : Trees} {a : List Lexeme} → h.DerivesHead n xs a → IsHeld P (n ∷ all_lexemes xs) a
  head-in (h.constant {n = n} k) = itself n
  head-in (h.with_parameters {n = n} u k t v xs) = next n (other _ (before _ (parameters-in xs)))

  mutual
    pub expression-in : {x : Tree} {a : List Lexeme} {i : ℕ} {o : Option Lexeme} → d.Derives x a i o → IsHeld P (lexemes x) a
    expression-in (d.node s) = form-in s

    form-in : {form : Form} {xs : Trees} {a : List Lexeme} {i : ℕ} {o : Option Lexeme} → d.Spells form xs a i o → IsHeld P (form_lexemes form ++ all_lexemes xs) a
    form-in (d.identifier xs) = segments-in xs
    form-in (d.number {t = t} k) = itself t
    form-in (d.text {t = t} k) = itself t
    form-in (d.at {t = t} k) = itself t
    form-in (d.prefixed {t = t} k l m x) = next t (last (expression-in x))
    form-in (d.infixed t k l m n p x y) = between t (expression-in x) (last (expression-in y))
    form-in (d.postfixed t k l m x) = between t (expression-in x) none
    form-in (d.products t k l x xs) = both (expression-in x) (other t (factors-in xs))
    form-in (d.parentheses t u k l x) = other t (last (before _ (expression-in x)))
    form-in (d.quantifier {q = q} t k l ns x) = next q (both (names-in ns) (other t (last (expression-in x))))
    form-in (d.bounded_quantifier {q = q} {bounds = xs} {x = x} t k l bs y) = next q (thens xs x (bounds-in bs) (other t (expression-in y)))
    form-in (d.temporal_quantifier {q = q} t k l ns x) = next q (both (names-in ns) (other t (last (expression-in x))))
    form-in (d.choose t k l binder x) = other _ (both (binder-in binder) (other t (last (expression-in x))))
    form-in (d.bounded_choose t k l bs m x) = other _ (both (bound-in bs) (other t (last (expression-in x))))
    form-in (d.empty_set k l) = none
    form-in (d.set t u k l xs) = other t (before _ (list-in xs))
    form-in (d.set_filter t c u k l m bs n y) = other t (both (bound-in bs) (other c (last (before _ (expression-in y)))))
    form-in (d.set_image t c u k l m x n bs) = other t (both (expression-in x) (other c (before _ (bounds-in bs))))
    form-in (d.application t u k l m x xs) = both (expression-in x) (other t (before _ (list-in xs)))
    form-in (d.function {bounds = xs} {y = x} t m u k l n bs y) = other t (thens xs x (bounds-in bs) (other m (before _ (expression-in y))))
    form-in (d.function_set t m u k l n x y) = other t (both (expression-in x) (other m (last (before _ (expression-in y)))))
    form-in (d.record_of t u k l xs) = other t (before _ (fields-in xs))
    form-in (d.record_set t u k l xs) = other t (before _ (fields-in xs))
    form-in (d.field {h = h} t k l m x) = later (last (expression-in x)) (other t (itself h))
    form-in (d.except t w u k l m x xs) = other t (both (expression-in x) (other w (before _ (updates-in xs))))
    form-in (d.empty_tuple k l) = none
    form-in (d.tuple t u k l xs) = other t (before _ (list-in xs))
    form-in (d.square t u k l x s m) = other t (both (expression-in x) (other u (last (expression-in s))))
    form-in (d.angle t u k l x s m) = other t (both (expression-in x) (other u (last (expression-in s))))
    form-in (d.fairness {w = w} t u k l m s n x) = next w (both (expression-in s) (other t (last (before _ (expression-in x)))))
    form-in (d.if_then_else t u v k l m x y z) = other t (both (expression-in x) (other u (both (expression-in y) (other v (last (expression-in z))))))
    form-in (d.case k xs) = other _ (arms-in xs)
    form-in (d.let_in {xs = xs} {x = x} t k l ds y) = other _ (thens xs x (definitions-in ds) (other t (expression-in y)))
    form-in (d.junctions {t = t} k l xs m) = next t (items-in xs)

    list-in : {xs : Trees} {a : List Lexeme} {i : ℕ} {o : Option Lexeme} → d.DerivesList xs a i o → IsHeld P (all_lexemes xs) a
    list-in (d.last x) = last (expression-in x)
    list-in (d.more t k x xs) = both (expression-in x) (other t (list-in xs))

    factors-in : {xs : Trees} {a : List Lexeme} {i : ℕ} {o : Option Lexeme} → d.DerivesFactors xs a i o → IsHeld P (all_lexemes xs) a
    factors-in (d.last_factor k x) = last (expression-in x)
    factors-in (d.more_factors t k l m x xs) = both (expression-in x) (other t (factors-in xs))

    segments-in : {xs : Trees} {a : List Lexeme} {i : ℕ} → d.DerivesSegments xs a i → IsHeld P (all_lexemes xs) a
    segments-in (d.last_segment x) = last (segment-in x)
    segments-in (d.more_segments t k x xs) = both (segment-in x) (other t (segments-in xs))

    segment-in : {x : Tree} {a : List Lexeme} {i : ℕ} → d.DerivesSegment x a i → IsHeld P (lexemes x) a
    segment-in (d.bare {n = n} k) = itself n
    segment-in (d.applied {n = n} t u m k l xs) = next n (other t (before _ (arguments-in xs)))

    arguments-in : {xs : Trees} {a : List Lexeme} {i : ℕ} {o : Option Lexeme} → d.DerivesArguments xs a i o → IsHeld P (all_lexemes xs) a
    arguments-in (d.last_argument x) = last (argument-in x)
    arguments-in (d.more_arguments t k x xs) = both (argument-in x) (other t (arguments-in xs))

    argument-in : {x : Tree} {a : List Lexeme} {i : ℕ} {o : Option Lexeme} → d.DerivesArgument x a i o → IsHeld P (lexemes x) a
    argument-in (d.expression x) = expression-in x
    argument-in (d.passed {t = t} k l) = itself t

    bound-in : {x : Tree} {a : List Lexeme} {i : ℕ} {o : Option Lexeme} → d.DerivesBound x a i o → IsHeld P (lexemes x) a
    bound-in (d.bound {xs = xs} {x = x} m k l ns y) = thens xs x (name-list-in ns) (other m (expression-in y))
    bound-in (d.tuple_bound {xs = xs} {x = x} m k l ns y) = thens xs x (tuple-names-in ns) (other m (expression-in y))

    bounds-in : {xs : Trees} {a : List Lexeme} {i : ℕ} {o : Option Lexeme} → d.DerivesBounds xs a i o → IsHeld P (all_lexemes xs) a
    bounds-in (d.last_bound x) = last (bound-in x)
    bounds-in (d.more_bounds t k x xs) = both (bound-in x) (other t (bounds-in xs))

    field-in : {mark : Mark} {x : Tree} {a : List Lexeme} {i : ℕ} {o : Option Lexeme} → d.DerivesField mark x a i o → IsHeld P (lexemes x) a
    field-in (d.named {n = n} k m x) = next n (other _ (last (expression-in x)))

    fields-in : {mark : Mark} {xs : Trees} {a : List Lexeme} {i : ℕ} {o : Option Lexeme} → d.DerivesFields mark xs a i o → IsHeld P (all_lexemes xs) a
    fields-in (d.last_field x) = last (field-in x)
    fields-in (d.more_fields t k x xs) = both (field-in x) (other t (fields-in xs))

    update-in : {x : Tree} {a : List Lexeme} {i : ℕ} {o : Option Lexeme} → d.DerivesUpdate x a i o → IsHeld P (lexemes x) a
    update-in (d.update {xs = xs} {x = x} t e k l ss y) = other t (thens xs x (steps-in ss) (other e (expression-in y)))

    updates-in : {xs : Trees} {a : List Lexeme} {i : ℕ} {o : Option Lexeme} → d.DerivesUpdates xs a i o → IsHeld P (all_lexemes xs) a
    updates-in (d.last_update x) = last (update-in x)
    updates-in (d.more_updates t k x xs) = both (update-in x) (other t (updates-in xs))

    step-in : {x : Tree} {a : List Lexeme} {i : ℕ} → d.DerivesStep x a i → IsHeld P (lexemes x) a
    step-in (d.field_step {t = t} {h = h} k l) = other t (itself h)
    step-in (d.index_step t u k l xs) = other t (before _ (list-in xs))

    steps-in : {xs : Trees} {a : List Lexeme} {i : ℕ} → d.DerivesSteps xs a i → IsHeld P (all_lexemes xs) a
    steps-in (d.last_step x) = last (step-in x)
    steps-in (d.more_steps x xs) = both (step-in x) (steps-in xs)

    arms-in : {xs : Trees} {a : List Lexeme} {i : ℕ} {o : Option Lexeme} → d.DerivesArms xs a i o → IsHeld P (all_lexemes xs) a
    arms-in (d.last_arm x k) = last (arm-in x)
    arms-in (d.other_arm k l x) = last (other _ (other _ (last (expression-in x))))
    arms-in (d.more_arms t k x xs) = both (arm-in x) (other t (arms-in xs))

    arm-in : {x : Tree} {a : List Lexeme} {i : ℕ} {o : Option Lexeme} → d.DerivesArm x a i o → IsHeld P (lexemes x) a
    arm-in (d.arm t k x y) = both (expression-in x) (other t (last (expression-in y)))

    -- the first bullet is held by the list itself
    items-in : {first : Lexeme} {xs : Trees} {a : List Lexeme} {o : Option Lexeme} → d.DerivesItems first xs a o → IsHeld P (all_lexemes xs) (tail a)
    items-in (d.last_item k l x) = last (expression-in x)
    items-in (d.more_items u k l x xs) = both (expression-in x) (other u (items-in xs))

    definitions-in : {xs : Trees} {a : List Lexeme} {i : ℕ} {o : Option Lexeme} → d.DerivesDefinitions xs a i o → IsHeld P (all_lexemes xs) a
    definitions-in (d.last_definition x) = last (definition-in x)
    definitions-in (d.more_definitions t x xs) = both (definition-in x) (definitions-in xs)

    pub definition-in : {x : Tree} {a : List Lexeme} {i : ℕ} {o : Option Lexeme} → d.DerivesDefinition x a i o → IsHeld P (lexemes x) a
    definition-in (d.operator {n = n} {xs = xs} {x = x} m head k y) = head-thens n xs x (head-in head) (other m (expression-in y))
    definition-in (d.prefix_operator {t = t} {n = n} k l m x) = next t (next n (other _ (last (expression-in x))))
    definition-in (d.infix_operator {m = m} {t = t} {n = n} k l o p q x) = swapped t m (next t (next m (next n (other _ (last (expression-in x))))))
    definition-in (d.postfix_operator {m = m} {t = t} k l o p x) = swapped t m (next t (next m (other _ (last (expression-in x)))))
    definition-in (d.function_of {n = n} {bounds = xs} {x = x} u e k l m o bs y) = next n (other _ (thens xs x (bounds-in bs) (other u (other e (expression-in y)))))
    definition-in (d.module_of {n = n} {xs = xs} {x = x} m head k y) = head-thens n xs x (head-in head) (other m (instance-in y))

    pub instance-in : {x : Tree} {a : List Lexeme} {i : ℕ} {o : Option Lexeme} → d.DerivesInstance x a i o → IsHeld P (lexemes x) a
    instance-in (d.without {m = m} k l) = other _ (itself m)
    instance-in (d.with_replacements {m = m} k l n xs) = other _ (next m (other _ (replacements-in xs)))

    replacements-in : {xs : Trees} {a : List Lexeme} {i : ℕ} {o : Option Lexeme} → d.DerivesReplacements xs a i o → IsHeld P (all_lexemes xs) a
    replacements-in (d.last_replacement x) = last (replacement-in x)
    replacements-in (d.more_replacements t k x xs) = both (replacement-in x) (other t (replacements-in xs))

    replacement-in : {x : Tree} {a : List Lexeme} {i : ℕ} {o : Option Lexeme} → d.DerivesReplacement x a i o → IsHeld P (lexemes x) a
    replacement-in (d.replaced {n = n} k t x) = next n (other _ (last (expression-in x)))
    replacement-in (d.replaced_by_symbol {n = n} {s = s} k t l m) = next n (other _ (itself s))
