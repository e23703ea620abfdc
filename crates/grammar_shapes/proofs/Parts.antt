-- Parts of forms that stand where they belong, put together part by part.
use Rattle.std.proofs.Common.{◌≡◌, Bool, true, false, [], refl, sym, subst}
use Rattle.tla_symbols.specs.declared.lexeme.Lexeme.{Lexeme}
use Rattle.tla_symbols.specs.declared.lexeme.Span.{Span}
use Rattle.tla_tree.specs.declared.form.Form.TheVariants as Form
use Rattle.tla_tree.specs.Forms.{helps}
use Rattle.tla_tree.specs.Syntax.{Tree, Trees, Node, Nil, Cons, form}
use Rattle.tla_tree.specs.Lexemes.{one, then}
use Rattle.tla_model.specs.Entities.{is_group, placed}
use Rattle.tla_model.specs.Scopes.{has_set}
use Rattle.tree_kinds.specs.Expanding.{Part, Outer, Helper, Whole, part_of}
use Rattle.flattened_levels.specs.Shapes.{AreShaped, EndsWithInstance, IsPlainHelper, IsShaped, IsShapedChain, IsShapedDefinition}
use Rattle.flattened_depths.specs.Arranged.{AreArranged, BindsNothing, HasBody, IsArranged, IsArrangedChain, IsArrangedDefinition, IsArrangedInstance}
use Rattle.grammar_shapes.specs.Instances.{HoldThrough, HoldsAmong, HoldsOf, HoldsThrough}
use Rattle.grammar_shapes.proofs.Nameless.{AreNameless}

-- ---- one part more

shaped-whole : (form : Form.the_data) (s : Span) (parts : Trees) → part_of form ≡ Whole → IsShaped (Node form s parts)
    → elim (part_of form) as (λ _. Type 0) [ Outer ↦ AreShaped parts | Helper ↦ IsPlainHelper form parts × AreShaped parts | Whole ↦ IsShaped (Node form s parts) ]
shaped-whole form s parts whole shaped =
    subst (λ (p : Part). elim p as (λ _. Type 0) [ Outer ↦ AreShaped parts | Helper ↦ IsPlainHelper form parts × AreShaped parts | Whole ↦ IsShaped (Node form s parts) ]) (sym whole) shaped

shaped-helper : (form : Form.the_data) (s : Span) (parts : Trees) → part_of form ≡ Helper → IsPlainHelper form parts → AreShaped parts
    → elim (part_of form) as (λ _. Type 0) [ Outer ↦ AreShaped parts | Helper ↦ IsPlainHelper form parts × AreShaped parts | Whole ↦ IsShaped (Node form s parts) ]
shaped-helper form s parts helper plain shaped =
    subst (λ (p : Part). elim p as (λ _. Type 0) [ Outer ↦ AreShaped parts | Helper ↦ IsPlainHelper form parts × AreShaped parts | Whole ↦ IsShaped (Node form s parts) ]) (sym helper) (plain, shaped)

then-shaped : (parts : Trees) (x : Tree) → AreShaped parts → AreShaped (one x) → AreShaped (then parts x)
then-shaped Nil x shaped last = last
then-shaped (Cons (Node form s parts) rest) x shaped last = (shaped.0, then-shaped rest x shaped.1 last)

then-nameless : (parts : Trees) (x : Tree) → AreNameless parts → AreNameless (one x) → AreNameless (then parts x)
then-nameless Nil x nameless last = last
then-nameless (Cons (Node form s parts) rest) x nameless last = (nameless.0, nameless.1, then-nameless rest x nameless.2 last)

module _ (holds : Lexeme → Lexeme → Type 0) where
  arranged-whole : (unbound : Bool) (form : Form.the_data) (s : Span) (parts : Trees) → part_of form ≡ Whole → IsArranged holds (Node form s parts)
      → elim (part_of form) as (λ _. Type 0) [
        | Outer ↦ (elim (has_set form) [ true ↦ Unit {0} | false ↦ (unbound ≡ true) × BindsNothing form parts ]) × AreArranged holds true parts
        | Helper ↦ BindsNothing form parts × AreArranged holds true parts
        | Whole ↦ IsArranged holds (Node form s parts)
      ]
  arranged-whole unbound form s parts whole arranged =
      subst (λ (p : Part). elim p as (λ _. Type 0) [
        | Outer ↦ (elim (has_set form) [ true ↦ Unit {0} | false ↦ (unbound ≡ true) × BindsNothing form parts ]) × AreArranged holds true parts
        | Helper ↦ BindsNothing form parts × AreArranged holds true parts
        | Whole ↦ IsArranged holds (Node form s parts)
      ]) (sym whole) arranged

  arranged-helper : (unbound : Bool) (form : Form.the_data) (s : Span) (parts : Trees) → part_of form ≡ Helper → BindsNothing form parts → AreArranged holds true parts
      → elim (part_of form) as (λ _. Type 0) [
        | Outer ↦ (elim (has_set form) [ true ↦ Unit {0} | false ↦ (unbound ≡ true) × BindsNothing form parts ]) × AreArranged holds true parts
        | Helper ↦ BindsNothing form parts × AreArranged holds true parts
        | Whole ↦ IsArranged holds (Node form s parts)
      ]
  arranged-helper unbound form s parts helper none arranged =
      subst (λ (p : Part). elim p as (λ _. Type 0) [
        | Outer ↦ (elim (has_set form) [ true ↦ Unit {0} | false ↦ (unbound ≡ true) × BindsNothing form parts ]) × AreArranged holds true parts
        | Helper ↦ BindsNothing form parts × AreArranged holds true parts
        | Whole ↦ IsArranged holds (Node form s parts)
      ]) (sym helper) (none, arranged)

  then-arranged : (unbound : Bool) (parts : Trees) (x : Tree) → AreArranged holds unbound parts → AreArranged holds unbound (one x) → AreArranged holds unbound (then parts x)
  then-arranged unbound Nil x arranged last = last
  then-arranged unbound (Cons (Node form s parts) rest) x arranged last = (arranged.0, then-arranged unbound rest x arranged.1 last)

  then-first : (parts : Trees) (x : Tree) → HoldThrough holds (then parts x) → HoldThrough holds parts
  then-first Nil x through = tt
  then-first (Cons y rest) x through = (through.0, then-first rest x through.1)

  pub then-last : (parts : Trees) (x : Tree) → HoldThrough holds (then parts x) → HoldsThrough holds x
  then-last Nil x through = through.0
  then-last (Cons y rest) x through = then-last rest x through.1

  pub then-among : (own : Lexeme) (parts : Trees) (form : Form.the_data) (s : Span) (last : Trees) → HoldsAmong holds own (then parts (Node form s last)) → HoldsOf holds own form
  then-among own Nil form s last among = among.0
  then-among own (Cons (Node other t parts) rest) form s last among = then-among own rest form s last among.1

  -- ---- expressions and parts

  -- a tree is an expression, whose parts stand where they belong
  pub record IsExpression (x : Tree) : Type 0 where
    pub whole : part_of (form x) ≡ Whole
    pub alone : helps (form x) ≡ false
    pub unplaced : placed (form x) ≡ []
    pub ungrouped : is_group (form x) ≡ false
    pub shaped : IsShaped x
    pub arranged : HoldsThrough holds x → IsArranged holds x

  -- parts stand where they belong
  pub record AreParts (unbound : Bool) (parts : Trees) : Type 0 where
    pub shaped : AreShaped parts
    pub arranged : HoldThrough holds parts → AreArranged holds unbound parts

  -- so do parts that bind no names
  pub record AreFree (unbound : Bool) (xs : Trees) : Type 0 where
    pub parts : AreParts unbound xs
    pub nameless : AreNameless xs

  module _ {unbound : Bool} where
    pub no-parts : AreParts unbound Nil
    no-parts = record { shaped = tt; arranged = λ through. tt }

    pub nothing : AreFree unbound Nil
    nothing = record { parts = no-parts; nameless = tt }

    pub whole : {x : Tree} {rest : Trees} → IsExpression x → AreParts unbound rest → AreParts unbound (Cons x rest)
    whole {x = Node form s parts} x xs = record {
      shaped = (shaped-whole form s parts x.whole x.shaped, xs.shaped);
      arranged = λ through. (arranged-whole unbound form s parts x.whole (x.arranged through.0), xs.arranged through.1);
    }

    pub free : {x : Tree} {rest : Trees} → IsExpression x → AreFree unbound rest → AreFree unbound (Cons x rest)
    free {x = Node form s parts} x xs = record { parts = whole x xs.parts; nameless = (x.unplaced, x.ungrouped, xs.nameless) }

    pub helper : {form : Form.the_data} {s : Span} {parts rest : Trees} → part_of form ≡ Helper → IsPlainHelper form parts → AreParts true parts → AreParts unbound rest → AreParts unbound (Cons (Node form s parts) rest)
    helper {form = form} {s = s} {parts = parts} e plain xs more = record {
      shaped = (shaped-helper form s parts e plain xs.shaped, more.shaped);
      arranged = λ through. (arranged-helper unbound form s parts e (plain.0, plain.2) (xs.arranged through.0.1), more.arranged through.1);
    }

    pub free-helper : {form : Form.the_data} {s : Span} {parts rest : Trees} → part_of form ≡ Helper → IsPlainHelper form parts → placed form ≡ [] → is_group form ≡ false → AreParts true parts → AreFree unbound rest → AreFree unbound (Cons (Node form s parts) rest)
    free-helper e plain unplaced ungrouped xs more = record { parts = helper e plain xs more.parts; nameless = (unplaced, ungrouped, more.nameless) }

    pub thens : (xs : Trees) (x : Tree) → AreParts unbound xs → IsExpression x → AreParts unbound (then xs x)
    thens xs x ps e =
        let last : AreParts unbound (one x) = whole e no-parts in
        record { shaped = then-shaped xs x ps.shaped last.shaped; arranged = λ through. then-arranged unbound xs x (ps.arranged (then-first xs x through)) (last.arranged (then-last xs x through, tt)) }

    pub free-thens : (xs : Trees) (x : Tree) → AreFree unbound xs → IsExpression x → AreFree unbound (then xs x)
    free-thens xs x ps e =
        let last : AreFree unbound (one x) = free e nothing in
        record { parts = thens xs x ps.parts e; nameless = then-nameless xs x ps.nameless last.nameless }

  -- a form is an expression with such parts
  pub made : {form : Form.the_data} {s : Span} {parts : Trees} → part_of form ≡ Whole → helps form ≡ false → placed form ≡ [] → is_group form ≡ false
      → (AreShaped parts → IsShaped (Node form s parts)) → (AreArranged holds false parts → IsArranged holds (Node form s parts)) → AreParts false parts → IsExpression (Node form s parts)
  made whole alone unplaced ungrouped shapes arranges xs = record {
    whole = whole;
    alone = alone;
    unplaced = unplaced;
    ungrouped = ungrouped;
    shaped = shapes xs.shaped;
    arranged = λ through. arranges (xs.arranged through.1);
  }

  -- ---- definitions

  pub record IsDefinition (x : Tree) : Type 0 where
    pub helping : helps (form x) ≡ true
    pub shaped : IsShapedDefinition x
    pub arranged : HoldsThrough holds x → IsArrangedDefinition holds x

  pub record IsChain (parts : Trees) : Type 0 where
    pub shaped : IsShapedChain parts
    pub arranged : HoldThrough holds parts → IsArrangedChain holds parts

  chosen : (A B : Type 0) (b : Bool) → b ≡ true → A → elim b as (λ _. Type 0) [ true ↦ A | false ↦ B ]
  chosen A B b e a = subst (λ (c : Bool). elim c as (λ _. Type 0) [ true ↦ A | false ↦ B ]) (sym e) a

  other : (A B : Type 0) (b : Bool) → b ≡ false → B → elim b as (λ _. Type 0) [ true ↦ A | false ↦ B ]
  other A B b e a = subst (λ (c : Bool). elim c as (λ _. Type 0) [ true ↦ A | false ↦ B ]) (sym e) a

  pub chain-body : {x : Tree} → IsExpression x → IsChain (one x)
  chain-body {x = Node form s parts} x = record {
    shaped = (other _ _ (helps form) x.alone x.shaped, tt);
    arranged = λ through. (other _ _ (helps form) x.alone (x.arranged through.0), tt);
  }

  pub before : {x : Tree} {rest : Trees} → IsDefinition x → IsChain rest → IsChain (Cons x rest)
  before {x = Node form s parts} x xs = record {
    shaped = (chosen _ _ (helps form) x.helping x.shaped, xs.shaped);
    arranged = λ through. (chosen _ _ (helps form) x.helping (x.arranged through.0), xs.arranged through.1);
  }

  -- ---- parameters

  -- a parameter, before the body or the INSTANCE that is behind all
  pub record IsParameter (x : Tree) : Type 0 where
    pub part : (unbound : Bool) (rest : Trees) → AreParts unbound rest → AreParts unbound (Cons x rest)
    pub body : (rest : Trees) → HasBody rest → HasBody (Cons x rest)
    pub ends : (rest : Trees) → EndsWithInstance rest → EndsWithInstance (Cons x rest)
    pub arranged : (own : Lexeme) (rest : Trees) → IsArrangedInstance holds own rest → IsArrangedInstance holds own (Cons x rest)

  pub record AreParameters (xs : Trees) : Type 0 where
    pub parts : (unbound : Bool) → AreParts unbound xs
    pub body : (x : Tree) → HasBody (one x) → HasBody (then xs x)
    pub ends : (x : Tree) → EndsWithInstance (one x) → EndsWithInstance (then xs x)
    pub arranged : (own : Lexeme) (x : Tree) → IsArrangedInstance holds own (one x) → IsArrangedInstance holds own (then xs x)

  pub no-parameters : AreParameters Nil
  no-parameters = record { parts = λ unbound. no-parts; body = λ x b. b; ends = λ x e. e; arranged = λ own x a. a }

  pub parameter : {x : Tree} {rest : Trees} → IsParameter x → AreParameters rest → AreParameters (Cons x rest)
  parameter {rest = rest} p ps = record {
    parts = λ unbound. p.part unbound rest (ps.parts unbound);
    body = λ x b. p.body (then rest x) (ps.body x b);
    ends = λ x e. p.ends (then rest x) (ps.ends x e);
    arranged = λ own x a. p.arranged own (then rest x) (ps.arranged own x a);
  }

  body-of : (form : Form.the_data) (s : Span) (parts : Trees) → part_of form ≡ Whole → HasBody (one (Node form s parts))
  body-of form s parts whole =
      subst (λ (p : Part). elim p as (λ _. Type 0) [ Whole ↦ Nil ≡ Nil | Outer ↦ ⊥ | Helper ↦ (parts ≡ Nil) × HasBody Nil ]) (sym whole) refl

  pub expression-body : {x : Tree} → IsExpression x → HasBody (one x)
  expression-body {x = Node form s parts} x = body-of form s parts x.whole
