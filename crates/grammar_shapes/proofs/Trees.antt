-- Trees that lexemes derive stand where they belong, rule by rule.
use Rattle.std.proofs.Common.{◌≡◌, ℕ, Bool, true, false, List, [], Option, refl}
use Rattle.tla_symbols.specs.declared.lexeme.Lexeme.{Lexeme}
use Rattle.tla_symbols.specs.declared.lexeme.Mark.{Mark}
use Rattle.tla_symbols.specs.declared.lexeme.Span.{Span}
use Rattle.tla_tree.specs.declared.form.Form.TheVariants as Form
use Rattle.tla_tree.specs.Forms.{helps}
use Rattle.tla_tree.specs.Syntax.{Tree, Trees, Node, Nil, Cons}
use Rattle.tla_tree.specs.Lexemes.{one, then, two}
use Rattle.tla_tree.specs.Headings as h
use Rattle.tla_tree.specs.Derivation as d
use Rattle.tla_model.specs.Entities.{Nothing, defines, is_group, placed}
use Rattle.tree_kinds.specs.Expanding.{Helper, Whole, part_of}
use Rattle.flattened_levels.specs.Shapes.{AreShaped, AreShapedRights, EndsWithInstance, IsNoInstance, IsShaped, IsShapedDefinition}
use Rattle.flattened_depths.specs.Arranged.{AreArranged, BindsNothing, HasBody, IsArranged, IsArrangedDefinition, IsArrangedInstance}
use Rattle.grammar_shapes.specs.Instances.{HoldThrough, HoldsAmong, HoldsThrough}
use Rattle.grammar_shapes.specs.Units.{IsArrangedWith}
use Rattle.grammar_shapes.proofs.Nameless.{unbound}
use Rattle.grammar_shapes.proofs.Parts.{AreFree, AreParameters, AreParts, IsChain, IsDefinition, IsExpression, IsParameter, before, chain-body, expression-body, free, free-helper, free-thens, helper, made, no-parameters, no-parts, nothing, parameter, then-among, then-last, thens, whole}

-- a helper form that neither binds nor declares
record IsPlainForm (form : Form.the_data) : Type 0 where
  part : part_of form ≡ Helper
  none : defines form ≡ Nothing
  usual : IsNoInstance form
  unplaced : placed form ≡ []
  ungrouped : is_group form ≡ false

module _ (holds : Lexeme → Lexeme → Type 0) where
  -- an INSTANCE, as a unit or behind parameters
  pub record IsInstance (x : Tree) : Type 0 where
    pub ends : EndsWithInstance (one x)
    pub arranged : HoldsThrough holds x → IsArrangedWith holds x

  -- replacements, whose right sides stand where they belong
  pub record AreRights (xs : Trees) : Type 0 where
    pub shaped : AreShapedRights xs
    pub parts : AreFree holds true xs

  name : {n : Lexeme} {s : Span} {rest : Trees} (b : Bool) → AreParts holds b rest → AreParts holds b (Cons (Node (Form.Name n) s Nil) rest)
  name b rest = helper holds refl (refl, tt, refl) (no-parts holds) rest

  name-list-in : {xs : Trees} {a : List Lexeme} → h.DerivesNameList xs a → (b : Bool) → AreParts holds b xs
  name-list-in (h.last_name k) b = name b (no-parts holds)
  name-list-in (h.more_names k l ds) b = name b (name-list-in ds b)

  names-in : {x : Tree} {a : List Lexeme} {rest : Trees} → h.DerivesNames x a → AreParts holds false rest → AreParts holds false (Cons x rest)
  names-in (h.names ds) rest = helper holds refl (refl, tt, refl) (name-list-in ds true) rest

  tuple-names-in : {xs : Trees} {a : List Lexeme} → h.DerivesTupleNames xs a → (b : Bool) → AreParts holds b xs
  tuple-names-in (h.tuple_names t u k l ds) b = name-list-in ds b

  binder-in : {x : Tree} {a : List Lexeme} {rest : Trees} → h.DerivesBinder x a → AreParts holds false rest → AreParts holds false (Cons x rest)
  binder-in (h.binder_name k) rest = helper holds refl (refl, tt, refl) (name true (no-parts holds)) rest
  binder-in (h.binder_tuple ds) rest = helper holds refl (refl, tt, refl) (tuple-names-in ds true) rest

  parameter-in : {x : Tree} {a : List Lexeme} → h.DerivesParameter x a → IsParameter holds x
  parameter-in (h.plain k) = record {
    part = λ b rest more. helper holds refl (refl, tt, refl) (no-parts holds) more;
    body = λ rest more. (refl, more);
    ends = λ rest e. (refl, (refl, tt, refl), refl, e);
    arranged = λ own rest e. (refl, refl, (refl, refl), e);
  }
  parameter-in _ = record {
    part = λ b rest more. helper holds refl (refl, tt, refl) (no-parts holds) more;
    body = λ rest more. (refl, more);
    ends = λ rest e. (refl, (refl, tt, refl), refl, e);
    arranged = λ own rest e. (refl, refl, (refl, refl), e);
  }

  parameters-in : {xs : Trees} {a : List Lexeme} → h.DerivesParameters xs a → AreParameters holds xs
  parameters-in (h.last_parameter x) = parameter holds (parameter-in x) (no-parameters holds)
  parameters-in (h.more_parameters t k x xs) = parameter holds (parameter-in x) (parameters-in xs)

  head-in : {n : Lexeme} {xs : Trees} {a : List Lexeme} → h.DerivesHead n xs a → AreParameters holds xs
  head-in (h.constant k) = no-parameters holds
  head-in (h.with_parameters u k l v xs) = parameters-in xs

  -- a bound, whose set stands outside of the scope of its names
  set-bound : {s : Span} {parts rest : Trees} (b : Bool) → AreParts holds true parts → AreParts holds b rest → AreParts holds b (Cons (Node Form.Bound s parts) rest)
  set-bound b ps rest = record { shaped = (ps.shaped, rest.shaped); arranged = λ through. ((tt, ps.arranged through.0.1), rest.arranged through.1) }

  tuple-bound : {s : Span} {parts rest : Trees} (b : Bool) → AreParts holds true parts → AreParts holds b rest → AreParts holds b (Cons (Node Form.TupleBound s parts) rest)
  tuple-bound b ps rest = record { shaped = (ps.shaped, rest.shaped); arranged = λ through. ((tt, ps.arranged through.0.1), rest.arranged through.1) }

  -- an index of an update
  index : {s : Span} {parts rest : Trees} → AreFree holds true parts → AreFree holds true rest → AreFree holds true (Cons (Node Form.IndexStep s parts) rest)
  index {parts = parts} ps rest = record {
    parts = record {
      shaped = (ps.parts.shaped, rest.parts.shaped);
      arranged = λ through. (((refl, (refl, unbound Form.IndexStep parts ps.nameless)), ps.parts.arranged through.0.1), rest.parts.arranged through.1);
    };
    nameless = (refl, refl, rest.nameless);
  }

  -- a part that binds nothing
  plain : {s : Span} {form : Form.the_data} {parts : Trees} {rest : Trees} (b : Bool) → IsPlainForm form → AreFree holds true parts → AreFree holds b rest → AreFree holds b (Cons (Node form s parts) rest)
  plain {form = form} {parts = parts} b is ps rest = free-helper holds is.part (is.none, is.usual, unbound form parts ps.nameless) is.unplaced is.ungrouped ps.parts rest

  -- an expression whose form binds nothing, and one of another form
  bare : {form : Form.the_data} {s : Span} {parts : Trees} → part_of form ≡ Whole → helps form ≡ false → placed form ≡ [] → is_group form ≡ false → defines form ≡ Nothing
      → (AreShaped parts → IsShaped (Node form s parts)) → (BindsNothing form parts × AreArranged holds false parts → IsArranged holds (Node form s parts)) → AreFree holds false parts → IsExpression holds (Node form s parts)
  bare {form = form} {parts = parts} e alone unplaced ungrouped none shapes arranges ps =
      made holds e alone unplaced ungrouped shapes (λ arranged. arranges ((none, unbound form parts ps.nameless), arranged)) ps.parts

  -- a right side
  right : {n : Lexeme} {s : Span} {parts rest : Trees} → AreFree holds true parts → AreRights rest → AreRights (Cons (Node (Form.Replacement n) s parts) rest)
  right ps rest = record { shaped = (ps.parts.shaped, rest.shaped); parts = plain true (record { part = refl; none = refl; usual = tt; unplaced = refl; ungrouped = refl }) ps rest.parts }

  -- an INSTANCE with these right sides
  instance-of : {m : Lexeme} {s : Span} {rights : Trees} → AreRights rights → IsInstance (Node (Form.Instance m) s rights)
  instance-of {m = m} {rights = rights} rs = record {
    ends = (refl, rs.shaped);
    arranged = λ through. ((refl, unbound (Form.Instance m) rights rs.parts.nameless), rs.parts.parts.arranged through.1);
  }

  no-rights : AreRights Nil
  no-rights = record { shaped = tt; parts = nothing holds }

  parenthesized : {s : Span} {x : Tree} → IsExpression holds x → IsExpression holds (Node Form.Parentheses s (one x))
  parenthesized {x = x} e =
      let ps : AreFree holds false (one x) = free holds e (nothing holds) in
      let none : BindsNothing Form.Parentheses (one x) = (refl, unbound Form.Parentheses (one x) ps.nameless) in
      made holds refl refl refl refl (λ shaped. (none.1, shaped)) (λ arranged. (none, arranged)) ps.parts

  chained : {s : Span} {xs : Trees} → IsChain holds xs → IsExpression holds (Node Form.Let s xs)
  chained chain = record {
    whole = refl;
    alone = refl;
    unplaced = refl;
    ungrouped = refl;
    shaped = chain.shaped;
    arranged = λ through. chain.arranged through.1;
  }

  -- ---- definitions

  name-parameter : {n : Lexeme} {s : Span} → IsParameter holds (Node (Form.Name n) s Nil)
  name-parameter = record {
    part = λ b rest more. helper holds refl (refl, tt, refl) (no-parts holds) more;
    body = λ rest more. (refl, more);
    ends = λ rest e. (refl, (refl, tt, refl), refl, e);
    arranged = λ own rest e. (refl, refl, (refl, refl), e);
  }

  operator-of : {form : Form.the_data} {s : Span} → helps form ≡ true → (xs : Trees) (x : Tree)
      → (AreShaped (then xs x) → IsShapedDefinition (Node form s (then xs x))) → (HasBody (then xs x) × AreArranged holds false (then xs x) → IsArrangedDefinition holds (Node form s (then xs x)))
      → AreParameters holds xs → IsExpression holds x → IsDefinition holds (Node form s (then xs x))
  operator-of e xs x shapes arranges ps y =
      let parts : AreParts holds false (then xs x) = thens holds xs x (ps.parts false) y in
      record { helping = e; shaped = shapes parts.shaped; arranged = λ through. arranges (ps.body x (expression-body holds y), parts.arranged through.1) }

  function : {n : Lexeme} {s : Span} {parts : Trees} → AreParts holds false parts → IsDefinition holds (Node (Form.FunctionDefinition n) s parts)
  function ps = record { helping = refl; shaped = ps.shaped; arranged = λ through. ps.arranged through.1 }

  instance-behind : (own : Lexeme) (xs : Trees) (x : Tree) → AreParameters holds xs → IsInstance x → HoldsAmong holds own (then xs x) → HoldThrough holds (then xs x) → IsArrangedInstance holds own (then xs x)
  instance-behind own xs (Node (Form.Instance l) s rights) ps i among through =
      let arranged : IsArrangedWith holds (Node (Form.Instance l) s rights) = i.arranged (then-last holds xs (Node (Form.Instance l) s rights) through) in
      ps.arranged own (Node (Form.Instance l) s rights) (refl, arranged.0, arranged.1, then-among holds own xs (Form.Instance l) s rights among)
  instance-behind own xs x ps i among through = absurd (i.arranged (then-last holds xs x through))

  module-with : {s : Span} (own : Lexeme) (xs : Trees) (x : Tree) → AreParameters holds xs → IsInstance x → IsDefinition holds (Node (Form.ModuleDefinition own) s (then xs x))
  module-with own xs x ps i = record { helping = refl; shaped = ps.ends x i.ends; arranged = λ through. instance-behind own xs x ps i through.0 through.1 }

  mutual
    pub expression-in : {x : Tree} {a : List Lexeme} {i : ℕ} {o : Option Lexeme} → d.Derives x a i o → IsExpression holds x
    expression-in (d.node s) = form-in s

    form-in : {form : Form.the_data} {s : Span} {xs : Trees} {a : List Lexeme} {i : ℕ} {o : Option Lexeme} → d.Spells form xs a i o → IsExpression holds (Node form s xs)
    form-in (d.identifier ps) = bare refl refl refl refl refl (λ z. z) (λ z. z) (segments-in ps false)
    form-in (d.number k) = made holds refl refl refl refl (λ z. z) (λ z. (refl, z)) (no-parts holds)
    form-in (d.text k) = made holds refl refl refl refl (λ z. z) (λ z. (refl, z)) (no-parts holds)
    form-in (d.at k) = made holds refl refl refl refl (λ z. z) (λ z. (refl, z)) (no-parts holds)
    form-in (d.prefixed k l m x) = bare refl refl refl refl refl (λ z. z) (λ z. z) (free holds (expression-in x) (nothing holds))
    form-in (d.infixed t k l m n q x y) = bare refl refl refl refl refl (λ z. z) (λ z. z) (free holds (expression-in x) (free holds (expression-in y) (nothing holds)))
    form-in (d.postfixed t k l m x) = bare refl refl refl refl refl (λ z. z) (λ z. z) (free holds (expression-in x) (nothing holds))
    form-in (d.products t k l x ys) = made holds refl refl refl refl (λ z. z) (λ z. (refl, z)) (whole holds (expression-in x) ((factors-in ys false).parts))
    form-in (d.parentheses t u k l x) = parenthesized (expression-in x)
    form-in (d.quantifier t k l ns x) = made holds refl refl refl refl (λ z. z) (λ z. (refl, z)) (names-in ns (whole holds (expression-in x) (no-parts holds)))
    form-in (d.bounded_quantifier {bounds = bs} {x = x} t k l ds y) = made holds refl refl refl refl (λ z. z) (λ z. (refl, z)) (thens holds bs x (bounds-in ds false) (expression-in y))
    form-in (d.temporal_quantifier t k l ns x) = made holds refl refl refl refl (λ z. z) (λ z. (refl, z)) (names-in ns (whole holds (expression-in x) (no-parts holds)))
    form-in (d.choose t k l ns x) = made holds refl refl refl refl (λ z. z) (λ z. (refl, z)) (binder-in ns (whole holds (expression-in x) (no-parts holds)))
    form-in (d.bounded_choose t k l bs m x) = made holds refl refl refl refl (λ z. z) (λ z. (refl, z)) (bound-in bs false (whole holds (expression-in x) (no-parts holds)))
    form-in (d.empty_set k l) = made holds refl refl refl refl (λ z. z) (λ z. (refl, z)) (no-parts holds)
    form-in (d.set t u k l ys) = made holds refl refl refl refl (λ z. z) (λ z. (refl, z)) ((list-in ys false).parts)
    form-in (d.set_filter t v u k l m bs n y) = made holds refl refl refl refl (λ z. z) (λ z. (refl, z)) (bound-in bs false (whole holds (expression-in y) (no-parts holds)))
    form-in (d.set_image t v u k l m x n bs) = made holds refl refl refl refl (λ z. z) (λ z. (refl, z)) (whole holds (expression-in x) (bounds-in bs false))
    form-in (d.application t u k l m x ys) = made holds refl refl refl refl (λ z. z) (λ z. (refl, z)) (whole holds (expression-in x) ((list-in ys false).parts))
    form-in (d.function {bounds = bs} {y = y} t m u k l n ds x) = made holds refl refl refl refl (λ z. z) (λ z. (refl, z)) (thens holds bs y (bounds-in ds false) (expression-in x))
    form-in (d.function_set t m u k l n x y) = made holds refl refl refl refl (λ z. z) (λ z. (refl, z)) (whole holds (expression-in x) (whole holds (expression-in y) (no-parts holds)))
    form-in (d.record_of t u k l ys) = made holds refl refl refl refl (λ z. z) (λ z. (refl, z)) ((fields-in ys false).parts)
    form-in (d.record_set t u k l ys) = made holds refl refl refl refl (λ z. z) (λ z. (refl, z)) ((fields-in ys false).parts)
    form-in (d.field t k l m x) = made holds refl refl refl refl (λ z. z) (λ z. (refl, z)) (whole holds (expression-in x) (no-parts holds))
    form-in (d.except t w u k l m x ys) = bare refl refl refl refl refl (λ z. z) (λ z. z) (free holds (expression-in x) (updates-in ys false))
    form-in (d.empty_tuple k l) = made holds refl refl refl refl (λ z. z) (λ z. (refl, z)) (no-parts holds)
    form-in (d.tuple t u k l ys) = made holds refl refl refl refl (λ z. z) (λ z. (refl, z)) ((list-in ys false).parts)
    form-in (d.square t u k l x y m) = made holds refl refl refl refl (λ z. z) (λ z. (refl, z)) (whole holds (expression-in x) (whole holds (expression-in y) (no-parts holds)))
    form-in (d.angle t u k l x y m) = made holds refl refl refl refl (λ z. z) (λ z. (refl, z)) (whole holds (expression-in x) (whole holds (expression-in y) (no-parts holds)))
    form-in (d.fairness t u k l m x n y) = made holds refl refl refl refl (λ z. z) (λ z. (refl, z)) (whole holds (expression-in x) (whole holds (expression-in y) (no-parts holds)))
    form-in (d.if_then_else t u v k l m x y z) = made holds refl refl refl refl (λ w. w) (λ w. (refl, w)) (whole holds (expression-in x) (whole holds (expression-in y) (whole holds (expression-in z) (no-parts holds))))
    form-in (d.case k ys) = made holds refl refl refl refl (λ z. z) (λ z. (refl, z)) ((arms-in ys false).parts)
    form-in (d.let_in t k l ds y) = chained (definitions-in ds (expression-in y))
    form-in (d.junctions k l ys m) = made holds refl refl refl refl (λ z. z) (λ z. (refl, z)) ((items-in ys false).parts)

    list-in : {xs : Trees} {a : List Lexeme} {i : ℕ} {o : Option Lexeme} → d.DerivesList xs a i o → (b : Bool) → AreFree holds b xs
    list-in (d.last x) b = free holds (expression-in x) (nothing holds)
    list-in (d.more t k x xs) b = free holds (expression-in x) (list-in xs b)

    factors-in : {xs : Trees} {a : List Lexeme} {i : ℕ} {o : Option Lexeme} → d.DerivesFactors xs a i o → (b : Bool) → AreFree holds b xs
    factors-in (d.last_factor k x) b = free holds (expression-in x) (nothing holds)
    factors-in (d.more_factors t k l m x xs) b = free holds (expression-in x) (factors-in xs b)

    segments-in : {xs : Trees} {a : List Lexeme} {i : ℕ} → d.DerivesSegments xs a i → (b : Bool) → AreFree holds b xs
    segments-in (d.last_segment x) b = segment-in x b (nothing holds)
    segments-in (d.more_segments t k x xs) b = segment-in x b (segments-in xs b)

    segment-in : {x : Tree} {rest : Trees} {a : List Lexeme} {i : ℕ} → d.DerivesSegment x a i → (b : Bool) → AreFree holds b rest → AreFree holds b (Cons x rest)
    segment-in (d.bare k) b rest = plain b (record { part = refl; none = refl; usual = tt; unplaced = refl; ungrouped = refl }) (nothing holds) rest
    segment-in (d.applied t u k l m xs) b rest = plain b (record { part = refl; none = refl; usual = tt; unplaced = refl; ungrouped = refl }) (arguments-in xs true) rest

    arguments-in : {xs : Trees} {a : List Lexeme} {i : ℕ} {o : Option Lexeme} → d.DerivesArguments xs a i o → (b : Bool) → AreFree holds b xs
    arguments-in (d.last_argument x) b = free holds (argument-in x) (nothing holds)
    arguments-in (d.more_arguments t k x xs) b = free holds (argument-in x) (arguments-in xs b)

    argument-in : {x : Tree} {a : List Lexeme} {i : ℕ} {o : Option Lexeme} → d.DerivesArgument x a i o → IsExpression holds x
    argument-in (d.expression x) = expression-in x
    argument-in (d.passed k l) = made holds refl refl refl refl (λ z. z) (λ z. (refl, z)) (no-parts holds)

    bound-in : {x : Tree} {rest : Trees} {a : List Lexeme} {i : ℕ} {o : Option Lexeme} → d.DerivesBound x a i o → (b : Bool) → AreParts holds b rest → AreParts holds b (Cons x rest)
    bound-in (d.bound {xs = xs} {x = x} m k l ns y) b rest = set-bound b (thens holds xs x (name-list-in ns true) (expression-in y)) rest
    bound-in (d.tuple_bound {xs = xs} {x = x} m k l ns y) b rest = tuple-bound b (thens holds xs x (tuple-names-in ns true) (expression-in y)) rest

    bounds-in : {xs : Trees} {a : List Lexeme} {i : ℕ} {o : Option Lexeme} → d.DerivesBounds xs a i o → (b : Bool) → AreParts holds b xs
    bounds-in (d.last_bound x) b = bound-in x b (no-parts holds)
    bounds-in (d.more_bounds t k x xs) b = bound-in x b (bounds-in xs b)

    field-in : {mark : Mark} {x : Tree} {rest : Trees} {a : List Lexeme} {i : ℕ} {o : Option Lexeme} → d.DerivesField mark x a i o → (b : Bool) → AreFree holds b rest → AreFree holds b (Cons x rest)
    field-in (d.named k m y) b rest = plain b (record { part = refl; none = refl; usual = tt; unplaced = refl; ungrouped = refl }) (free holds (expression-in y) (nothing holds)) rest

    fields-in : {mark : Mark} {xs : Trees} {a : List Lexeme} {i : ℕ} {o : Option Lexeme} → d.DerivesFields mark xs a i o → (b : Bool) → AreFree holds b xs
    fields-in (d.last_field x) b = field-in x b (nothing holds)
    fields-in (d.more_fields t k x xs) b = field-in x b (fields-in xs b)

    update-in : {x : Tree} {rest : Trees} {a : List Lexeme} {i : ℕ} {o : Option Lexeme} → d.DerivesUpdate x a i o → (b : Bool) → AreFree holds b rest → AreFree holds b (Cons x rest)
    update-in (d.update {xs = xs} {x = x} t e k l ss y) b rest = plain b (record { part = refl; none = refl; usual = tt; unplaced = refl; ungrouped = refl }) (free-thens holds xs x (steps-in ss) (expression-in y)) rest

    updates-in : {xs : Trees} {a : List Lexeme} {i : ℕ} {o : Option Lexeme} → d.DerivesUpdates xs a i o → (b : Bool) → AreFree holds b xs
    updates-in (d.last_update x) b = update-in x b (nothing holds)
    updates-in (d.more_updates t k x xs) b = update-in x b (updates-in xs b)

    step-in : {x : Tree} {rest : Trees} {a : List Lexeme} {i : ℕ} → d.DerivesStep x a i → AreFree holds true rest → AreFree holds true (Cons x rest)
    step-in (d.field_step k l) rest = plain true (record { part = refl; none = refl; usual = tt; unplaced = refl; ungrouped = refl }) (nothing holds) rest
    step-in (d.index_step t u k l xs) rest = index (list-in xs true) rest

    steps-in : {xs : Trees} {a : List Lexeme} {i : ℕ} → d.DerivesSteps xs a i → AreFree holds true xs
    steps-in (d.last_step x) = step-in x (nothing holds)
    steps-in (d.more_steps x xs) = step-in x (steps-in xs)

    arms-in : {xs : Trees} {a : List Lexeme} {i : ℕ} {o : Option Lexeme} → d.DerivesArms xs a i o → (b : Bool) → AreFree holds b xs
    arms-in (d.last_arm x k) b = arm-in x b (nothing holds)
    arms-in (d.other_arm k l x) b = plain b (record { part = refl; none = refl; usual = tt; unplaced = refl; ungrouped = refl }) (free holds (expression-in x) (nothing holds)) (nothing holds)
    arms-in (d.more_arms t k x xs) b = arm-in x b (arms-in xs b)

    arm-in : {x : Tree} {rest : Trees} {a : List Lexeme} {i : ℕ} {o : Option Lexeme} → d.DerivesArm x a i o → (b : Bool) → AreFree holds b rest → AreFree holds b (Cons x rest)
    arm-in (d.arm t k y z) b rest = plain b (record { part = refl; none = refl; usual = tt; unplaced = refl; ungrouped = refl }) (free holds (expression-in y) (free holds (expression-in z) (nothing holds))) rest

    items-in : {first : Lexeme} {xs : Trees} {a : List Lexeme} {o : Option Lexeme} → d.DerivesItems first xs a o → (b : Bool) → AreFree holds b xs
    items-in (d.last_item k l x) b = free holds (expression-in x) (nothing holds)
    items-in (d.more_items u k l x xs) b = free holds (expression-in x) (items-in xs b)

    definitions-in : {xs : Trees} {x : Tree} {a : List Lexeme} {i : ℕ} {o : Option Lexeme} → d.DerivesDefinitions xs a i o → IsExpression holds x → IsChain holds (then xs x)
    definitions-in (d.last_definition y) e = before holds (definition-in y) (chain-body holds e)
    definitions-in (d.more_definitions t y ys) e = before holds (definition-in y) (definitions-in ys e)

    pub definition-in : {x : Tree} {a : List Lexeme} {i : ℕ} {o : Option Lexeme} → d.DerivesDefinition x a i o → IsDefinition holds x
    definition-in (d.operator {xs = xs} {x = x} m head k y) = operator-of refl xs x (λ z. z) (λ z. z) (head-in head) (expression-in y)
    definition-in (d.prefix_operator k l m x) = operator-of refl (one _) _ (λ z. z) (λ z. z) (parameter holds name-parameter (no-parameters holds)) (expression-in x)
    definition-in (d.infix_operator k l o p q x) = operator-of refl (two _ _) _ (λ z. z) (λ z. z) (parameter holds name-parameter (parameter holds name-parameter (no-parameters holds))) (expression-in x)
    definition-in (d.postfix_operator k l o p x) = operator-of refl (one _) _ (λ z. z) (λ z. z) (parameter holds name-parameter (no-parameters holds)) (expression-in x)
    definition-in (d.function_of {bounds = bs} {x = x} u e k l m o ds y) = function (thens holds bs x (bounds-in ds false) (expression-in y))
    definition-in (d.module_of {n = n} {xs = xs} {x = x} m head k y) = module-with n xs x (head-in head) (instance-in y)

    pub instance-in : {x : Tree} {a : List Lexeme} {i : ℕ} {o : Option Lexeme} → d.DerivesInstance x a i o → IsInstance x
    instance-in (d.without k l) = instance-of no-rights
    instance-in (d.with_replacements k l n xs) = instance-of (replacements-in xs)

    replacements-in : {xs : Trees} {a : List Lexeme} {i : ℕ} {o : Option Lexeme} → d.DerivesReplacements xs a i o → AreRights xs
    replacements-in (d.last_replacement x) = replacement-in x no-rights
    replacements-in (d.more_replacements t k x xs) = replacement-in x (replacements-in xs)

    replacement-in : {x : Tree} {rest : Trees} {a : List Lexeme} {i : ℕ} {o : Option Lexeme} → d.DerivesReplacement x a i o → AreRights rest → AreRights (Cons x rest)
    replacement-in (d.replaced k t y) rest = right (free holds (expression-in y) (nothing holds)) rest
    replacement-in (d.replaced_by_symbol k t l m) rest = right (free holds (made holds refl refl refl refl (λ z. z) (λ z. (refl, z)) (no-parts holds)) (nothing holds)) rest
