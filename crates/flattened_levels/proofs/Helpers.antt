-- Helper forms by which no name comes have what is found in their parts.
use Rattle.std.proofs.Common.{◌≡◌, ℕ, Bool, true, false, cond, List, [], ◌∷◌, ◌++◌, map, refl, sym, ap, ◌∙◌}
use Rattle.std.specs.Prelude.{◌&&◌, is_some, not}
use Rattle.tla_symbols.specs.declared.lexeme.Lexeme.{Lexeme}
use Rattle.tla_symbols.specs.declared.lexeme.Span.{Span}
use Rattle.tla_tree.specs.declared.form.Form.TheVariants as Form
use Rattle.tla_tree.specs.Forms.{helps}
use Rattle.tla_tree.specs.Syntax.{Tree, Trees, Node, Cons}
use Rattle.tla_model.specs.declared.entity.Level.{Level}
use Rattle.tla_model.specs.declared.names.Binding.TheVariants as as_binding
use Rattle.tla_model.specs.Entities.{Defines, Nothing, Function, Text, binding_of, defined_as, defines, meant}
use Rattle.tla_model.specs.Contexts.{Context, bind_all, reserve_all}
use Rattle.tla_model.specs.Scopes.{binders, inside, reserved, scope}
use Rattle.module_model.specs.Exports.{Known}
use Rattle.kind_text.specs.ExpandedKind.{all_kinds, kinds}
use Rattle.tree_kinds.specs.Standing.{Outside}
use Rattle.tree_kinds.specs.Expanding.{Around, before_scope, in_scope, made_of, stands_outside, with_parameters}
use Rattle.tree_kinds.specs.TreeLevels.{LevelFinding, Refused, at_node, by_itself, form_levels, function_text, in_body, is_judged, kind_at, level_word, levels, levels_parts, levels_updates, refusal}
use Rattle.flattened_levels.specs.Shapes.{IsNoInstance, IsPlainHelper}

-- ---- forms

-- what is found at a form is found at its node and in its parts
abbrev pub IsOrdinary : Form.the_data → Type 0
IsOrdinary Form.Let = ⊥
IsOrdinary Form.Except = ⊥
IsOrdinary (Form.Instance l) = ⊥
IsOrdinary form = Unit {0}

pub helper-ordinary : (form : Form.the_data) → helps form ≡ true → IsNoInstance form → IsOrdinary form
helper-ordinary Form.Let help none = cc
helper-ordinary Form.Except help none = cc
helper-ordinary (Form.Instance l) help none = absurd none
helper-ordinary form help none = tt

form-none : (level : Level) (form : Form.the_data) (parts : Trees) → helps form ≡ true → form_levels level form parts ≡ []
form-none level Form.Identifier parts help = cc
form-none level (Form.Symbol l) parts help = cc
form-none level (Form.Prefix l) parts help = cc
form-none level (Form.Infix l) parts help = cc
form-none level (Form.Postfix l) parts help = cc
form-none level form parts help = refl

judged-none : (form : Form.the_data) → helps form ≡ true → ((l : Lexeme) → defines form ≡ Function l → ⊥) → is_judged form ≡ false
judged-none (Form.FunctionDefinition l) help none = absurd (none l refl)
judged-none Form.Parentheses help none = refl
judged-none Form.Let help none = refl
judged-none Form.Lambda help none = refl
judged-none form help none = ap not help

-- what helps and defines nothing binds no parameters
plain-binding : (form : Form.the_data) → helps form ≡ true → defines form ≡ Nothing → (state : Bool) × (binding_of form ≡ as_binding.Bound state)
plain-binding (Form.TemporalQuantifier l) help none = (true, refl)
plain-binding (Form.OperatorDefinition l) help none = cc
plain-binding (Form.PrefixDefinition l) help none = cc
plain-binding (Form.InfixDefinition l) help none = cc
plain-binding (Form.PostfixDefinition l) help none = cc
plain-binding (Form.ModuleDefinition l) help none = cc
plain-binding Form.Lambda help none = cc
plain-binding form help none = (false, refl)

pub no-function : (form : Form.the_data) (d : Defines) → defines form ≡ d → ((l : Lexeme) → d ≡ Function l → ⊥) → (l : Lexeme) → defines form ≡ Function l → ⊥
no-function form d e none l is = none l (sym e ∙ is)

-- ---- contexts

module _ (text : Text) where
  reserved-still : (context : Context) (form : Form.the_data) (parts : Trees) → defines form ≡ Nothing → reserved text context form parts ≡ context
  reserved-still context form parts none = ap (λ d. reserve_all text context (defined_as d parts)) none

  inside-still : (context : Context) (form : Form.the_data) (parts : Trees) → defines form ≡ Nothing → inside text context form parts ≡ context
  inside-still context (Form.FunctionDefinition l) parts none = cc
  inside-still context form parts none = reserved-still context form parts none

  scope-still : (context : Context) (form : Form.the_data) (parts : Trees) → defines form ≡ Nothing → binders form parts ≡ [] → scope text context form parts ≡ context
  scope-still context form parts none binds = ap (bind_all text (inside text context form parts)) binds ∙ inside-still context form parts none

-- ---- what is found

module _ (text : Text) (known : Known) (named : List ℕ → Outside) (around : Around) where
  pub before-still : (form : Form.the_data) (parts : Trees) → defines form ≡ Nothing → before_scope text known named around form parts ≡ around
  before-still form parts none = ap (λ context. record around { context = context }) (reserved-still text around.context form parts none)

  pub in-scope-still : (form : Form.the_data) (parts : Trees) → defines form ≡ Nothing → binders form parts ≡ [] → in_scope text known named around form parts ≡ around
  in-scope-still form parts none binds = ap (λ context. record around { context = context }) (scope-still text around.context form parts none binds)

  -- where a form binds no parameters
  pub body-bound : (form : Form.the_data) (parts : Trees) (state : Bool) → binding_of form ≡ as_binding.Bound state → in_body text known named around form parts ≡ in_scope text known named around form parts
  body-bound form parts state e = ap (λ b. elim b [
    | as_binding.Constant ↦ in_scope text known named around form parts
    | as_binding.Parameter ↦ with_parameters text known named around form parts (map by_itself (map (meant text) (binders form parts)))
    | as_binding.Bound state ↦ in_scope text known named around form parts
  ]) e

  -- where it does, these by themselves
  pub body-with : (form : Form.the_data) (parts : Trees) → binding_of form ≡ as_binding.Parameter → in_body text known named around form parts ≡ with_parameters text known named around form parts (map by_itself (map (meant text) (binders form parts)))
  body-with form parts e = ap (λ b. elim b [
    | as_binding.Constant ↦ in_scope text known named around form parts
    | as_binding.Parameter ↦ with_parameters text known named around form parts (map by_itself (map (meant text) (binders form parts)))
    | as_binding.Bound state ↦ in_scope text known named around form parts
  ]) e

  pub levels-ordinary : (form : Form.the_data) (s : Span) (parts : Trees) → IsOrdinary form → levels text known named around (Node form s parts) ≡ at_node text known named around form s parts ++ levels_parts text known named (before_scope text known named around form parts) (in_body text known named around form parts) parts
  levels-ordinary Form.Let s parts is = absurd is
  levels-ordinary Form.Except s parts is = absurd is
  levels-ordinary (Form.Instance l) s parts is = absurd is
  levels-ordinary form s parts is = refl

  pub at-none : (form : Form.the_data) (s : Span) (parts : Trees) → helps form ≡ true → ((l : Lexeme) → defines form ≡ Function l → ⊥) → at_node text known named around form s parts ≡ []
  at-none form s parts help none =
      ap (λ xs. xs ++ refusal text known named around form s (Node form s parts)) (form-none (level_word (kind_at text known named around (Node form s parts))) form parts help)
      ∙ ap (λ b. cond (b && (not (is_some (kind_at text known named around (Node form s parts))) && is_some (all_kinds (kinds (made_of text known named around (Node form s parts)))))) (Refused s ∷ []) []) (judged-none form help none)

  pub helper-levels : (form : Form.the_data) (s : Span) (parts : Trees) → helps form ≡ true → IsPlainHelper form parts → levels text known named around (Node form s parts) ≡ levels_parts text known named around around parts
  helper-levels form s parts help (none, other, binds) =
      let bound = plain-binding form help none in
      levels-ordinary form s parts (helper-ordinary form help other)
      ∙ ap (λ xs. xs ++ levels_parts text known named (before_scope text known named around form parts) (in_body text known named around form parts) parts) (at-none form s parts help (no-function form Nothing none (λ l e. cc)))
      ∙ ap (λ b. levels_parts text known named b (in_body text known named around form parts) parts) (before-still form parts none)
      ∙ ap (λ b. levels_parts text known named around b parts) (body-bound form parts bound.0 bound.1 ∙ in-scope-still form parts none binds)

  -- the first of parts
  abbrev pub first-levels : Around → Form.the_data → Span → Trees → Bool → List LevelFinding
  first-levels o form s parts out = elim out [ true ↦ levels_parts text known named o o parts | false ↦ levels text known named around (Node form s parts) ]

  pub levels-next : (o : Around) (form : Form.the_data) (s : Span) (parts rest : Trees) (out : Bool) → stands_outside form ≡ out → levels_parts text known named o around (Cons (Node form s parts) rest) ≡ first-levels o form s parts out ++ levels_parts text known named o around rest
  levels-next o form s parts rest out e = by_outside (stands_outside form) ∙ ap (λ b. first-levels o form s parts b ++ levels_parts text known named o around rest) e
    where
      by_outside : (b : Bool) → elim b [
        | true ↦ levels_parts text known named o o parts ++ levels_parts text known named o around rest
        | false ↦ levels text known named around (Node form s parts) ++ levels_parts text known named o around rest
      ] ≡ first-levels o form s parts b ++ levels_parts text known named o around rest
      by_outside true = refl
      by_outside false = refl

  pub levels-except : (s : Span) (function : Tree) (updates : Trees) → levels text known named around (Node Form.Except s (Cons function updates)) ≡ (at_node text known named around Form.Except s (Cons function updates) ++ levels text known named around function) ++ levels_updates text known named around (function_text text known named around function) updates
  levels-except s function updates = refl
