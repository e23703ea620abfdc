-- What is found at a node, by how its form names things.
use Rattle.std.proofs.Common.{◌≡◌, [], ◌∷◌, ◌++◌, Bool, true, false, true≢false, refl, ap, sym}
use Rattle.tla_symbols.specs.declared.lexeme.Lexeme.{Lexeme}
use Rattle.tla_symbols.specs.declared.lexeme.Span.{Span}
use Rattle.tla_tree.specs.declared.form.Form.TheVariants as Form
use Rattle.tla_tree.specs.Syntax.{Trees, Node}
use Rattle.tla_model.specs.declared.names.Binding.TheVariants as binding
use Rattle.tla_model.specs.Contexts.{Context, bind, bind_all}
use Rattle.tla_model.specs.Entities.{Text, defined, entity_of}
use Rattle.tla_model.specs.Lexemes.{form_lexemes}
use Rattle.tla_model.specs.Scopes.{all_refused, binders, itself, prefixed, reserved, symbol_findings}
use Rattle.module_model.specs.Instances.{implied, left_sides}
use Rattle.module_model.specs.TreeFindings.{Surroundings, replaceable, replaced, segments, walk, walk_chain, walk_each, walk_rest, walk_round, walk_sets}
use Rattle.tree_tasks.specs.declared.tasks.Naming.TheVariants as how
use Rattle.tree_tasks.specs.WalkTasks.{naming}

abbrev is_Path : how.the_data → Bool
is_Path how.Path = true
is_Path _ = false

abbrev is_Bare : how.the_data → Bool
is_Bare (how.Bare l) = true
is_Bare _ = false

abbrev is_Prefix : how.the_data → Bool
is_Prefix (how.Prefix l) = true
is_Prefix _ = false

abbrev is_Infix : how.the_data → Bool
is_Infix (how.Infix l) = true
is_Infix _ = false

abbrev is_Postfix : how.the_data → Bool
is_Postfix (how.Postfix l) = true
is_Postfix _ = false

abbrev is_InOrder : how.the_data → Bool
is_InOrder how.InOrder = true
is_InOrder _ = false

abbrev is_BoundsLast : how.the_data → Bool
is_BoundsLast how.BoundsLast = true
is_BoundsLast _ = false

abbrev is_Function : how.the_data → Bool
is_Function (how.Function l) = true
is_Function _ = false

abbrev is_Instance : how.the_data → Bool
is_Instance (how.Instance l) = true
is_Instance _ = false

abbrev is_BoundsFirst : how.the_data → Bool
is_BoundsFirst how.BoundsFirst = true
is_BoundsFirst _ = false

-- the lexeme of a naming
abbrev lexeme_in : Lexeme → how.the_data → Lexeme
lexeme_in d (how.Bare l) = l
lexeme_in d (how.Prefix l) = l
lexeme_in d (how.Infix l) = l
lexeme_in d (how.Postfix l) = l
lexeme_in d (how.Function l) = l
lexeme_in d (how.Instance l) = l
lexeme_in d _ = d

module _ (text : Text) (context : Context) where
  -- the context of a function's body
  abbrev pub in_function : Lexeme → Context
  in_function l = bind text context (record { name = l; entity = entity_of (binding.Bound false) 0 })

module _ (text : Text) (around : Surroundings) (context : Context) (s : Span) (parts : Trees) where
  pub walk-path : (form : Form.the_data) → naming form ≡ how.Path → walk text around context (Node form s parts) ≡ segments text around context parts
  walk-path Form.Identifier e = refl
  walk-path _ e = absurd (true≢false (sym (ap is_Path e)))

  pub walk-order : (form : Form.the_data) → naming form ≡ how.InOrder → walk text around context (Node form s parts) ≡ walk_chain text around context parts
  walk-order Form.Let e = refl
  walk-order _ e = absurd (true≢false (sym (ap is_InOrder e)))

  pub walk-bare : (form : Form.the_data) (l : Lexeme) → naming form ≡ how.Bare l → walk text around context (Node form s parts) ≡ symbol_findings context itself l l.kind
  walk-bare (Form.Symbol n) l e = ap (λ z. symbol_findings context itself z z.kind) (ap (lexeme_in n) e)
  walk-bare _ l e = absurd (true≢false (sym (ap is_Bare e)))

  pub walk-before : (form : Form.the_data) (l : Lexeme) → naming form ≡ how.Prefix l → walk text around context (Node form s parts) ≡ symbol_findings context prefixed l l.kind ++ walk_each text around context parts
  walk-before (Form.Prefix n) l e = ap (λ z. symbol_findings context prefixed z z.kind ++ walk_each text around context parts) (ap (lexeme_in n) e)
  walk-before _ l e = absurd (true≢false (sym (ap is_Prefix e)))

  pub walk-between : (form : Form.the_data) (l : Lexeme) → naming form ≡ how.Infix l → walk text around context (Node form s parts) ≡ walk_round text around context l parts
  walk-between (Form.Infix n) l e = ap (λ z. walk_round text around context z parts) (ap (lexeme_in n) e)
  walk-between _ l e = absurd (true≢false (sym (ap is_Infix e)))

  pub walk-behind : (form : Form.the_data) (l : Lexeme) → naming form ≡ how.Postfix l → walk text around context (Node form s parts) ≡ walk_each text around context parts ++ symbol_findings context itself l l.kind
  walk-behind (Form.Postfix n) l e = ap (λ z. walk_each text around context parts ++ symbol_findings context itself z z.kind) (ap (lexeme_in n) e)
  walk-behind _ l e = absurd (true≢false (sym (ap is_Postfix e)))

  pub walk-last : (form : Form.the_data) → naming form ≡ how.BoundsLast → walk text around context (Node form s parts) ≡
      all_refused text context (binders form parts) ++ walk_rest text around (bind_all text context (binders form parts)) parts ++ walk_sets text around context parts
  walk-last Form.SetImage e = refl
  walk-last _ e = absurd (true≢false (sym (ap is_BoundsLast e)))

  pub walk-function : (form : Form.the_data) (l : Lexeme) → naming form ≡ how.Function l → walk text around context (Node form s parts) ≡
      all_refused text context (defined form parts) ++ walk_sets text around (reserved text context form parts) parts
      ++ all_refused text (in_function text context l) (binders form parts) ++ walk_rest text around (bind_all text (in_function text context l) (binders form parts)) parts
  walk-function (Form.FunctionDefinition n) l e =
      ap (λ z. all_refused text context (defined (Form.FunctionDefinition n) parts) ++ walk_sets text around (reserved text context (Form.FunctionDefinition n) parts) parts
      ++ all_refused text (in_function text context z) (binders (Form.FunctionDefinition n) parts) ++ walk_rest text around (bind_all text (in_function text context z) (binders (Form.FunctionDefinition n) parts)) parts) (ap (lexeme_in n) e)
  walk-function _ l e = absurd (true≢false (sym (ap is_Function e)))

  pub walk-instance : (form : Form.the_data) (l : Lexeme) → naming form ≡ how.Instance l → walk text around context (Node form s parts) ≡
      replaced text around context (replaceable text around l) [] parts ++ implied context l (left_sides text.source parts) (replaceable text around l)
  walk-instance (Form.Instance n) l e =
      ap (λ z. replaced text around context (replaceable text around z) [] parts ++ implied context z (left_sides text.source parts) (replaceable text around z)) (ap (lexeme_in n) e)
  walk-instance _ l e = absurd (true≢false (sym (ap is_Instance e)))

  pub walk-plain : (form : Form.the_data) → naming form ≡ how.BoundsFirst → walk text around context (Node form s parts) ≡
      all_refused text context (defined form parts) ++ walk_sets text around (reserved text context form parts) parts
      ++ all_refused text (reserved text context form parts) (binders form parts) ++ walk_rest text around (bind_all text (reserved text context form parts) (binders form parts)) parts
  walk-plain Form.Identifier e = absurd (true≢false (sym (ap is_BoundsFirst e)))
  walk-plain (Form.Symbol l) e = absurd (true≢false (sym (ap is_BoundsFirst e)))
  walk-plain (Form.Prefix l) e = absurd (true≢false (sym (ap is_BoundsFirst e)))
  walk-plain (Form.Infix l) e = absurd (true≢false (sym (ap is_BoundsFirst e)))
  walk-plain (Form.Postfix l) e = absurd (true≢false (sym (ap is_BoundsFirst e)))
  walk-plain Form.Let e = absurd (true≢false (sym (ap is_BoundsFirst e)))
  walk-plain Form.SetImage e = absurd (true≢false (sym (ap is_BoundsFirst e)))
  walk-plain (Form.FunctionDefinition l) e = absurd (true≢false (sym (ap is_BoundsFirst e)))
  walk-plain (Form.Instance l) e = absurd (true≢false (sym (ap is_BoundsFirst e)))
  walk-plain _ e = refl

-- the name of a function is the lexeme that its form holds
pub function-name : (form : Form.the_data) (l : Lexeme) → naming form ≡ how.Function l → form_lexemes form ≡ l ∷ []
function-name (Form.FunctionDefinition n) l e = ap (λ z. z ∷ []) (ap (lexeme_in n) e)
function-name _ l e = absurd (true≢false (sym (ap is_Function e)))

-- and the name of the module of an INSTANCE
pub instance-name : (form : Form.the_data) (l : Lexeme) → naming form ≡ how.Instance l → form_lexemes form ≡ l ∷ []
instance-name (Form.Instance n) l e = ap (λ z. z ∷ []) (ap (lexeme_in n) e)
instance-name _ l e = absurd (true≢false (sym (ap is_Instance e)))
