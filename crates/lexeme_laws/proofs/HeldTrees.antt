-- What a tree holds is among the lexemes that it derives.
use Rattle.std.proofs.Common.{ℕ, List, [], ◌∷◌, ◌++◌, Option, Bool}
use Rattle.tla_symbols.specs.declared.lexeme.Lexeme.{Lexeme}
use Rattle.tla_symbols.specs.declared.lexeme.Mark.{Mark}
use Rattle.tla_tree.specs.declared.form.Form.{Form}
use Rattle.tla_tree.specs.Syntax.{Tree, Trees}
use Rattle.tla_tree.specs.Headings as h
use Rattle.tla_tree.specs.Derivation as d
use Rattle.tla_model.specs.Lexemes.{all_lexemes, form_lexemes, lexemes}
use Rattle.lexeme_laws.proofs.Counting.{Held, none, itself, other, next, both, before, last, between, closing, fielding, swapped, thens, headed}

-- behind the first
abbrev tail : List Lexeme → List Lexeme
tail [] = []
tail (t ∷ a) = a

module _ {p : Lexeme → Bool} where
  name-list-in : {xs : Trees} {a : List Lexeme} → h.DerivesNameList xs a → Held p (all_lexemes xs) a
  name-list-in (h.last_name k) = itself
  name-list-in (h.more_names {t = t} k l ds) = next (other t (name-list-in ds))

  names-in : {x : Tree} {a : List Lexeme} → h.DerivesNames x a → Held p (lexemes x) a
  names-in (h.names ds) = name-list-in ds

  tuple-names-in : {xs : Trees} {a : List Lexeme} → h.DerivesTupleNames xs a → Held p (all_lexemes xs) a
  tuple-names-in (h.tuple_names t u k l ds) = other t (before _ (name-list-in ds))

  binder-in : {x : Tree} {a : List Lexeme} → h.DerivesBinder x a → Held p (lexemes x) a
  binder-in (h.binder_name k) = itself
  binder-in (h.binder_tuple ds) = tuple-names-in ds

  parameter-in : {x : Tree} {a : List Lexeme} → h.DerivesParameter x a → Held p (lexemes x) a
  parameter-in (h.plain k) = itself
  parameter-in (h.of_places u k l m ds) = next none
  parameter-in (h.prefix_symbol k l) = next none
  parameter-in (h.infix_symbol {p = q} k l m o) = other q (next none)
  parameter-in (h.postfix_symbol {p = q} k l m) = other q itself

  pub parameters-in : {xs : Trees} {a : List Lexeme} → h.DerivesParameters xs a → Held p (all_lexemes xs) a
  parameters-in (h.last_parameter x) = last (parameter-in x)
  parameters-in (h.more_parameters t k x xs) = both (parameter-in x) (other t (parameters-in xs))

  head-in : {n : Lexeme} {xs : Trees} {a : List Lexeme} → h.DerivesHead n xs a → Held p (n ∷ all_lexemes xs) a
  head-in (h.constant k) = itself
  head-in (h.with_parameters {t = t} u k l v xs) = next (other t (before _ (parameters-in xs)))

  mutual
    pub expression-in : {x : Tree} {a : List Lexeme} {i : ℕ} {o : Option Lexeme} → d.Derives x a i o → Held p (lexemes x) a
    expression-in (d.node s) = form-in s

    form-in : {form : Form} {xs : Trees} {a : List Lexeme} {i : ℕ} {o : Option Lexeme} → d.Spells form xs a i o → Held p (form_lexemes form ++ all_lexemes xs) a
    form-in (d.identifier xs) = segments-in xs
    form-in (d.number k) = itself
    form-in (d.text k) = itself
    form-in (d.at k) = itself
    form-in (d.prefixed k l m x) = next (last (expression-in x))
    form-in (d.infixed t k l m n q x y) = between t (expression-in x) (last (expression-in y))
    form-in (d.postfixed t k l m x) = closing t (last (expression-in x))
    form-in (d.products t k l x xs) = both (expression-in x) (other t (factors-in xs))
    form-in (d.parentheses t u k l x) = other t (before _ (last (expression-in x)))
    form-in (d.quantifier t k l ns x) = next (both (names-in ns) (other t (last (expression-in x))))
    form-in (d.bounded_quantifier {bounds = xs} {x = x} {a = a} {b = b} t k l bs y) = next (thens xs x (bounds-in bs) (other t (expression-in y)))
    form-in (d.temporal_quantifier t k l ns x) = next (both (names-in ns) (other t (last (expression-in x))))
    form-in (d.choose {w = w} t k l binder x) = other w (both (binder-in binder) (other t (last (expression-in x))))
    form-in (d.bounded_choose {w = w} t k l bs m x) = other w (both (bound-in bs) (other t (last (expression-in x))))
    form-in (d.empty_set k l) = none
    form-in (d.set t u k l xs) = other t (before _ (list-in xs))
    form-in (d.set_filter t c u k l m bs n y) = other t (both (bound-in bs) (other c (before _ (last (expression-in y)))))
    form-in (d.set_image t c u k l m x n bs) = other t (both (expression-in x) (other c (before _ (bounds-in bs))))
    form-in (d.application t u k l m x xs) = both (expression-in x) (other t (before _ (list-in xs)))
    form-in (d.function {bounds = xs} {y = y} {a = a} {b = b} t m u k l n bs z) = other t (thens xs y (bounds-in bs) (other m (before _ (expression-in z))))
    form-in (d.function_set t m u k l n x y) = other t (both (expression-in x) (other m (before _ (last (expression-in y)))))
    form-in (d.record_of t u k l xs) = other t (before _ (fields-in xs))
    form-in (d.record_set t u k l xs) = other t (before _ (fields-in xs))
    form-in (d.field {h = f} t k l m x) = fielding t f (last (expression-in x))
    form-in (d.except t w u k l m x xs) = other t (both (expression-in x) (other w (before _ (updates-in xs))))
    form-in (d.empty_tuple k l) = none
    form-in (d.tuple t u k l xs) = other t (before _ (list-in xs))
    form-in (d.square t u k l x s m) = other t (both (expression-in x) (other u (last (expression-in s))))
    form-in (d.angle t u k l x s m) = other t (both (expression-in x) (other u (last (expression-in s))))
    form-in (d.fairness t u k l m s n x) = next (both (expression-in s) (other t (before _ (last (expression-in x)))))
    form-in (d.if_then_else t u v k l m x y z) = other t (both (expression-in x) (other u (both (expression-in y) (other v (last (expression-in z))))))
    form-in (d.case {w = w} k xs) = other w (arms-in xs)
    form-in (d.let_in {w = w} {xs = xs} {x = x} {a = a} {b = b} t k l ds y) = other w (thens xs x (definitions-in ds) (other t (expression-in y)))
    form-in (d.junctions k l xs m) = next (items-in xs)

    list-in : {xs : Trees} {a : List Lexeme} {i : ℕ} {o : Option Lexeme} → d.DerivesList xs a i o → Held p (all_lexemes xs) a
    list-in (d.last x) = last (expression-in x)
    list-in (d.more t k x xs) = both (expression-in x) (other t (list-in xs))

    factors-in : {xs : Trees} {a : List Lexeme} {i : ℕ} {o : Option Lexeme} → d.DerivesFactors xs a i o → Held p (all_lexemes xs) a
    factors-in (d.last_factor k x) = last (expression-in x)
    factors-in (d.more_factors t k l m x xs) = both (expression-in x) (other t (factors-in xs))

    segments-in : {xs : Trees} {a : List Lexeme} {i : ℕ} → d.DerivesSegments xs a i → Held p (all_lexemes xs) a
    segments-in (d.last_segment x) = last (segment-in x)
    segments-in (d.more_segments t k x xs) = both (segment-in x) (other t (segments-in xs))

    segment-in : {x : Tree} {a : List Lexeme} {i : ℕ} → d.DerivesSegment x a i → Held p (lexemes x) a
    segment-in (d.bare k) = itself
    segment-in (d.applied t u m k l xs) = next (other t (before _ (arguments-in xs)))

    arguments-in : {xs : Trees} {a : List Lexeme} {i : ℕ} {o : Option Lexeme} → d.DerivesArguments xs a i o → Held p (all_lexemes xs) a
    arguments-in (d.last_argument x) = last (argument-in x)
    arguments-in (d.more_arguments t k x xs) = both (argument-in x) (other t (arguments-in xs))

    argument-in : {x : Tree} {a : List Lexeme} {i : ℕ} {o : Option Lexeme} → d.DerivesArgument x a i o → Held p (lexemes x) a
    argument-in (d.expression x) = expression-in x
    argument-in (d.passed k l) = itself

    bound-in : {x : Tree} {a : List Lexeme} {i : ℕ} {o : Option Lexeme} → d.DerivesBound x a i o → Held p (lexemes x) a
    bound-in (d.bound {xs = xs} {x = x} {a = a} {b = b} m k l ns y) = thens xs x (name-list-in ns) (other m (expression-in y))
    bound-in (d.tuple_bound {xs = xs} {x = x} {a = a} {b = b} m k l ns y) = thens xs x (tuple-names-in ns) (other m (expression-in y))

    bounds-in : {xs : Trees} {a : List Lexeme} {i : ℕ} {o : Option Lexeme} → d.DerivesBounds xs a i o → Held p (all_lexemes xs) a
    bounds-in (d.last_bound x) = last (bound-in x)
    bounds-in (d.more_bounds t k x xs) = both (bound-in x) (other t (bounds-in xs))

    field-in : {mark : Mark} {x : Tree} {a : List Lexeme} {i : ℕ} {o : Option Lexeme} → d.DerivesField mark x a i o → Held p (lexemes x) a
    field-in (d.named {m = m} k l x) = next (other m (last (expression-in x)))

    fields-in : {mark : Mark} {xs : Trees} {a : List Lexeme} {i : ℕ} {o : Option Lexeme} → d.DerivesFields mark xs a i o → Held p (all_lexemes xs) a
    fields-in (d.last_field x) = last (field-in x)
    fields-in (d.more_fields t k x xs) = both (field-in x) (other t (fields-in xs))

    update-in : {x : Tree} {a : List Lexeme} {i : ℕ} {o : Option Lexeme} → d.DerivesUpdate x a i o → Held p (lexemes x) a
    update-in (d.update {xs = xs} {x = x} {a = a} {b = b} t e k l ss y) = other t (thens xs x (steps-in ss) (other e (expression-in y)))

    updates-in : {xs : Trees} {a : List Lexeme} {i : ℕ} {o : Option Lexeme} → d.DerivesUpdates xs a i o → Held p (all_lexemes xs) a
    updates-in (d.last_update x) = last (update-in x)
    updates-in (d.more_updates t k x xs) = both (update-in x) (other t (updates-in xs))

    step-in : {x : Tree} {a : List Lexeme} {i : ℕ} → d.DerivesStep x a i → Held p (lexemes x) a
    step-in (d.field_step {t = t} k l) = other t itself
    step-in (d.index_step t u k l xs) = other t (before _ (list-in xs))

    steps-in : {xs : Trees} {a : List Lexeme} {i : ℕ} → d.DerivesSteps xs a i → Held p (all_lexemes xs) a
    steps-in (d.last_step x) = last (step-in x)
    steps-in (d.more_steps x xs) = both (step-in x) (steps-in xs)

    arms-in : {xs : Trees} {a : List Lexeme} {i : ℕ} {o : Option Lexeme} → d.DerivesArms xs a i o → Held p (all_lexemes xs) a
    arms-in (d.last_arm x k) = last (arm-in x)
    arms-in (d.other_arm {w = w} {t = t} k l x) = last (other w (other t (last (expression-in x))))
    arms-in (d.more_arms t k x xs) = both (arm-in x) (other t (arms-in xs))

    arm-in : {x : Tree} {a : List Lexeme} {i : ℕ} {o : Option Lexeme} → d.DerivesArm x a i o → Held p (lexemes x) a
    arm-in (d.arm t k x y) = both (expression-in x) (other t (last (expression-in y)))

    -- the first bullet is held by the list itself
    items-in : {first : Lexeme} {xs : Trees} {a : List Lexeme} {o : Option Lexeme} → d.DerivesItems first xs a o → Held p (all_lexemes xs) (tail a)
    items-in (d.last_item k l x) = last (expression-in x)
    items-in (d.more_items u k l x xs) = both (expression-in x) (other u (items-in xs))

    definitions-in : {xs : Trees} {a : List Lexeme} {i : ℕ} {o : Option Lexeme} → d.DerivesDefinitions xs a i o → Held p (all_lexemes xs) a
    definitions-in (d.last_definition x) = last (definition-in x)
    definitions-in (d.more_definitions t x xs) = both (definition-in x) (definitions-in xs)

    pub definition-in : {x : Tree} {a : List Lexeme} {i : ℕ} {o : Option Lexeme} → d.DerivesDefinition x a i o → Held p (lexemes x) a
    definition-in (d.operator {n = n} {xs = xs} {x = x} {a = a} {b = b} m head k y) = headed xs x (head-in head) (other m (expression-in y))
    definition-in (d.prefix_operator {d = m} k l o x) = next (next (other m (last (expression-in x))))
    definition-in (d.infix_operator {m = m} {t = t} {n = n} {d = e} {x = x} {a = a} k l o q r y) = swapped (next (next (next (other e (last (expression-in y))))))
    definition-in (d.postfix_operator {m = m} {t = t} {d = e} {x = x} {a = a} k l o q y) = swapped (next (next (other e (last (expression-in y)))))
    definition-in (d.function_of {t = t} {bounds = xs} {x = x} {a = a} {b = b} u e k l m o bs y) = next (other t (thens xs x (bounds-in bs) (other u (other e (expression-in y)))))
    definition-in (d.module_of {n = n} {xs = xs} {x = x} {a = a} {b = b} m head k y) = headed xs x (head-in head) (other m (instance-in y))

    pub instance-in : {x : Tree} {a : List Lexeme} {i : ℕ} {o : Option Lexeme} → d.DerivesInstance x a i o → Held p (lexemes x) a
    instance-in (d.without {w = w} k l) = other w itself
    instance-in (d.with_replacements {w = w} {t = t} k l n xs) = other w (next (other t (replacements-in xs)))

    replacements-in : {xs : Trees} {a : List Lexeme} {i : ℕ} {o : Option Lexeme} → d.DerivesReplacements xs a i o → Held p (all_lexemes xs) a
    replacements-in (d.last_replacement x) = last (replacement-in x)
    replacements-in (d.more_replacements t k x xs) = both (replacement-in x) (other t (replacements-in xs))

    replacement-in : {x : Tree} {a : List Lexeme} {i : ℕ} {o : Option Lexeme} → d.DerivesReplacement x a i o → Held p (lexemes x) a
    replacement-in (d.replaced {t = t} k l x) = next (other t (last (expression-in x)))
    replacement-in (d.replaced_by_symbol {t = t} k l m n) = next (other t itself)
