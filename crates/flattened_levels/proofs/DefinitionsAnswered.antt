-- The questions of definitions are answered.
use Rattle.std.proofs.Common.{◌≡◌, ℕ, zero, suc, Bool, true, false, List, [], ◌∷◌, ◌++◌, Option, map, refl, sym, ap, ◌∙◌, subst, length}
use Rattle.std.proofs.lemmas.List.{map-append}
use Rattle.tla_symbols.specs.declared.lexeme.Lexeme.{Lexeme}
use Rattle.tla_symbols.specs.declared.lexeme.Span.{Span}
use Rattle.tla_symbols.specs.declared.level.Rule.TheVariants.{Plain}
use Rattle.tla_tree.specs.declared.form.Form.TheVariants as Form
use Rattle.tla_tree.specs.Forms.{helps}
use Rattle.tla_tree.specs.Syntax.{Tree, Trees, Node, Nil, Cons}
use Rattle.tla_model.specs.declared.names.Binding.TheVariants as as_binding
use Rattle.tla_model.specs.declared.names.Meaning.TheVariants.{BuiltIn, Declared}
use Rattle.tla_model.specs.Tables.{Named}
use Rattle.tla_model.specs.Entities.{Defines, Meaning, Nothing, Operator, Function, Module, Text, binding_of, declared_in, defined, defines}
use Rattle.tla_model.specs.Scopes.{binders, reserved, scope}
use Rattle.module_model.specs.Exports.{Known}
use Rattle.kind_text.specs.ExpandedKind.{kind, ruled}
use Rattle.kind_text.specs.FlatModule.{FlatModule, Form as NodeForm, IsOrdered, places_of}
use Rattle.kind_text.specs.Expansion.{text as text_at}
use Rattle.kind_text.specs.Substitution.{Item, judged}
use Rattle.kind_text.proofs.Unfolding.{text-step}
use Rattle.tree_kinds.specs.Standing.{Outside}
use Rattle.tree_kinds.specs.Expanding.{Around, before_scope, with_parameters as around_with}
use Rattle.tree_kinds.specs.TreeLevels.{by_itself, in_body, kind_at, levels, levels_parts}
use Rattle.flat_kinds.specs.Symbols.{item_itself}
use Rattle.flat_trees.specs.Stands.{Fits, Matches}
use Rattle.flat_trees.specs.Layouts.{Agrees, Layout, layout_with, order_of, parameters_of}
use Rattle.flat_trees.proofs.Agreeing.{with-agrees}
use Rattle.flattened_trees.specs.Leads.{FlatFace, Lead, Setting, with_parameters}
use Rattle.flattened_trees.specs.Questions.{IsShallow, Question, over}
use Rattle.flattened_trees.specs.NodeForms.{plain_node}
use Rattle.flattened_trees.specs.Flattened.{AreOperands, HasNode, IsDefined, IsThrough, all_parts, asked_at}
use Rattle.flattened_trees.specs.Readable.{AreInside, AreReadable, IsReadableDefinition, IsReadableThrough}
use Rattle.flattened_trees.specs.Answers.{items_of, kind_in, level_answers}
use Rattle.flattened_meanings.specs.Faces.{NameModules}
use Rattle.flattened_meanings.proofs.Fresh.{Fresh, fresh-left, fresh-right, seen-with, whole-names}
use Rattle.flattened_meanings.proofs.Rounds.{parameters-known}
use Rattle.flattened_meanings.proofs.Bodies.{helper-part}
use Rattle.flattened_meanings.proofs.Forms.{names-fresh, scope-fresh}
use Rattle.flattened_meanings.proofs.Definitions.{function-form, inside-read, module-form, operator-binds}
use Rattle.flattened_meanings.proofs.Meant.{IsDefinedBy, IsReadBy}
use Rattle.flattened_levels.specs.Shapes.{AreShaped, EndsWithInstance, IsNoInstance, IsShapedDefinition}
use Rattle.flattened_levels.proofs.NodeKinds.{Round, kinds-plain}
use Rattle.flattened_levels.proofs.AtNode.{found-nil}
use Rattle.flattened_levels.proofs.Helpers.{at-none, body-with, helper-levels, helper-ordinary, levels-next, levels-ordinary, no-function}
use Rattle.flattened_levels.proofs.Operands.{EachAnswered, operands-answered}
use Rattle.flattened_levels.proofs.FormsAnswered.{joined, scope-answered, scope-found}
use Rattle.flattened_levels.proofs.Alike.{alike-by}
use Rattle.flattened_levels.proofs.RightsAnswered.{instance-answered}

-- ---- parameters by themselves

item-same : (m : Meaning) → item_itself m ≡ by_itself m
item-same BuiltIn = refl
item-same (Declared e callee) = refl

matches-itself : (n : ℕ) (x : Item) → Matches n x x
matches-itself zero x = refl
matches-itself (suc n) x = λ ts many. refl

same-item : (m : Meaning) (n : ℕ) → Matches n (item_itself m) (by_itself m)
same-item m n = subst (λ y. Matches n (item_itself m) y) (item-same m) (matches-itself n (item_itself m))

fits-itself : (ms : List Meaning) → Fits (map order_of ms) (items_of ms) (map by_itself ms)
fits-itself [] = tt
fits-itself (m ∷ ms) = (same-item m (order_of m), fits-itself ms)

-- ---- what helps

operator-helps : (form : Form.the_data) (l : Lexeme) → defines form ≡ Operator l → (helps form ≡ true) × IsNoInstance form
operator-helps (Form.OperatorDefinition l) k e = (refl, tt)
operator-helps (Form.PrefixDefinition l) k e = (refl, tt)
operator-helps (Form.InfixDefinition l) k e = (refl, tt)
operator-helps (Form.PostfixDefinition l) k e = (refl, tt)
operator-helps form k e = cc

module _ (text : Text) (known : Known) (named : List ℕ → Outside) where
  -- where no part stands outside, it does not matter what stands there
  levels-inside : (parts : Trees) (o a : Around) → AreInside parts → levels_parts text known named o a parts ≡ levels_parts text known named a a parts
  levels-inside Nil o a only = refl
  levels-inside (Cons (Node form s parts) rest) o a only =
      levels-next text known named a o form s parts rest false only.0
      ∙ ap (λ ys. levels text known named a (Node form s parts) ++ ys) (levels-inside rest o a only.1)
      ∙ sym (levels-next text known named a a form s parts rest false only.0)

  -- a definition that is judged in its body has what is found there
  body-levels : (around : Around) (form : Form.the_data) (s : Span) (parts : Trees) → helps form ≡ true → IsNoInstance form → ((l : Lexeme) → defines form ≡ Function l → ⊥) → binding_of form ≡ as_binding.Parameter → levels text known named around (Node form s parts) ≡ levels_parts text known named (before_scope text known named around form parts) (around_with text known named around form parts (map by_itself (parameters_of text form parts))) parts
  body-levels around form s parts help other none binding =
      levels-ordinary text known named around form s parts (helper-ordinary form help other)
      ∙ ap (λ xs. xs ++ levels_parts text known named (before_scope text known named around form parts) (in_body text known named around form parts) parts) (at-none text known named around form s parts help none)
      ∙ ap (λ b. levels_parts text known named (before_scope text known named around form parts) b parts) (body-with text known named around form parts binding)

module _ (flat : FlatModule) (text : Text) (known : Known) (named : List ℕ → Outside) (means : ℕ → Option Meaning) (implied : ℕ → List Meaning) (faces : List ℕ → FlatFace) (nameable : List ℕ → Bool) where
  module _ (layout : Layout) (setting : Setting) (seen : Meaning → Bool) (around : Around) (round : Round flat text known named means implied faces nameable layout setting seen around) (form : Form.the_data) (s : Span) (parts : Trees) (fresh : Fresh text seen (defined form parts ++ binders form parts)) where
    -- in the scope of parameters, by themselves
    round-with : binding_of form ≡ as_binding.Parameter → Round flat text known named means implied faces nameable (layout_with text layout form parts) (with_parameters text setting form parts) (seen-with text (defined form parts ++ binders form parts) seen) (around_with text known named around form parts (map by_itself (parameters_of text form parts)))
    round-with binding =
        record {
          knows = parameters-known flat text known named faces nameable layout setting seen round.knows form s parts fresh binding;
          asked = record {
            frame = subst (λ items. Agrees flat (layout_with text layout form parts) items (around_with text known named around form parts (map by_itself (parameters_of text form parts)))) (sym (map-append item_itself setting.frame (parameters_of text form parts)))
                (with-agrees flat text known named layout (items_of setting.frame) around round.asked.frame form parts (items_of (parameters_of text form parts)) (map by_itself (parameters_of text form parts)) (fits-itself (parameters_of text form parts)));
            olds = round.asked.olds;
          };
        }

  module _ (ordered : IsOrdered flat) where
    -- ---- module definitions

    through-answered : (ps : Trees) (layout : Layout) (outside setting : Setting) (seen : Meaning → Bool) (o inner : Around) (own : Lexeme) (count : ℕ) (lead : List Named → Lead) (roots : List ℕ) (asked : List Question) → EachAnswered flat text known named means implied faces nameable ps → NameModules text.source nameable ps → Round flat text known named means implied faces nameable layout setting seen inner → IsThrough text means implied faces flat outside setting own count ps lead roots asked → IsReadableThrough text known named means implied faces layout.context ps → EndsWithInstance ps → Fresh text seen (whole-names text ps) → level_answers flat asked ≡ levels_parts text known named o inner ps
    through-answered Nil layout outside setting seen o inner own count lead roots asked each names round made can shaped fresh = absurd can
    through-answered (Cons (Node (Form.Instance l) s rights) rest) layout outside setting seen o inner own count lead roots asked each names round (written, j, a, b, are, is, leads, asks) (face, stand-in, readable) (last, shaped) fresh =
        ap (level_answers flat) asks
        ∙ instance-answered flat text known named means implied faces nameable ordered layout setting seen inner round l s rights (length outside.frame) count true written roots j a b names.0.0 each.1 names.0.1 are is face stand-in readable shaped (fresh-left text seen (whole-names text rights) (whole-names text rest) fresh)
        ∙ sym (levels-next text known named inner o (Form.Instance l) s rights rest false refl ∙ ap (λ ps. levels text known named inner (Node (Form.Instance l) s rights) ++ levels_parts text known named o inner ps) last ∙ found-nil _)
    through-answered (Cons (Node form s parts) rest) layout outside setting seen o inner own count lead roots asked each names round made can shaped fresh =
        let part = helper-part form shaped.0 in
        through-answered rest layout outside setting seen o inner own count lead roots asked each.2 names.1 round made can shaped.3 (fresh-right text seen _ (whole-names text rest) fresh)
        ∙ sym (
        levels-next text known named inner o form s parts rest false part.0
        ∙ ap (λ xs. xs ++ levels_parts text known named o inner rest) (helper-levels text known named inner form s parts part.1 shaped.1 ∙ ap (levels_parts text known named inner inner) shaped.2)
        )

    module _ (layout : Layout) (setting : Setting) (seen : Meaning → Bool) (around : Around) (round : Round flat text known named means implied faces nameable layout setting seen around) where
      -- ---- operators

      operator-defined : (form : Form.the_data) (s : Span) (parts : Trees) (l : Lexeme) (d : ℕ) (is : List ℕ) (asked a : List Question) → defines form ≡ Operator l → EachAnswered flat text known named means implied faces nameable parts → NameModules text.source nameable parts → AreOperands text means implied faces flat all_parts (with_parameters text setting form parts) parts is a → asked ≡ over setting.frame (IsShallow l d ∷ []) ++ a → AreInside parts → AreReadable text known named means implied faces (reserved text layout.context form parts) (scope text layout.context form parts) parts → AreShaped parts → Fresh text seen (declared_in as_binding.Constant (Node form s parts)) → level_answers flat asked ≡ levels text known named around (Node form s parts)
      operator-defined form s parts l d is asked a e each names made asks only can shaped fresh =
          let binds = operator-binds form l e in
          let help = operator-helps form l e in
          let within = layout_with text layout form parts in
          let inner = around_with text known named around form parts (map by_itself (parameters_of text form parts)) in
          let inside = round-with layout setting seen around round form s parts (names-fresh text seen form s parts fresh) binds.0 in
          let body = operands-answered flat text known named means implied faces nameable ordered parts within within (with_parameters text setting form parts) (seen-with text (defined form parts ++ binders form parts) seen) is a inner inner each names inside inside made
          (inside-read flat text known named means implied faces nameable parts (reserved text layout.context form parts) (scope text layout.context form parts) only can) shaped (scope-fresh text seen form s parts fresh) in
          ap (level_answers flat) asks
          ∙ body.found
          ∙ sym (levels-inside text known named parts (before_scope text known named around form parts) inner only)
          ∙ sym (body-levels text known named around form s parts help.0 help.1 (no-function form (Operator l) e (λ k is. cc)) binds.0)

      -- ---- functions

      function-defined : (l : Lexeme) (s : Span) (parts : Trees) (root d : ℕ) (is : List ℕ) (asked a : List Question) → EachAnswered flat text known named means implied faces nameable parts → NameModules text.source nameable parts → AreOperands text means implied faces flat all_parts setting parts is a → HasNode flat root (plain_node (NodeForm.Operation Plain) is) → asked ≡ over setting.frame (IsShallow l d ∷ []) ++ (asked_at text means implied faces flat setting root (Form.FunctionDefinition l) s parts ++ a) → AreReadable text known named means implied faces (reserved text layout.context (Form.FunctionDefinition l) parts) (scope text layout.context (Form.FunctionDefinition l) parts) parts → AreShaped parts → Fresh text seen (declared_in as_binding.Constant (Node (Form.FunctionDefinition l) s parts)) → level_answers flat asked ≡ levels text known named around (Node (Form.FunctionDefinition l) s parts)
      function-defined l s parts root d is asked a each names made node asks can shaped fresh =
          let form : Form.the_data = Form.FunctionDefinition l in
          let x : Tree = Node form s parts in
          let body = scope-answered flat text known named means implied faces nameable ordered layout setting seen around round form s parts is a false refl each names made can shaped fresh in
          let same : kind_in flat setting.frame root ≡ kind_at text known named around x =
          ap (λ o. kind (judged (places_of o) (text_at flat root (items_of setting.frame)))) node
          ∙ ap (λ (y : Item). kind y.text) (text-step flat root (plain_node (NodeForm.Operation Plain) is) (items_of setting.frame) ordered node)
          ∙ ap (ruled Plain) (sym (kinds-plain flat setting.frame is body.plain) ∙ body.kinds_are) in
          ap (level_answers flat) asks
          ∙ joined flat text known named means implied faces nameable ordered layout setting seen around round form s parts root (asked_at text means implied faces flat setting root form s parts ++ a) a tt same refl
          (λ e. alike-by flat setting.frame root text known named around x (plain_node (NodeForm.Operation Plain) is) is node refl body.kinds_are)
          (scope-found flat text known named means implied faces nameable ordered layout setting seen around round form parts a false refl body.found)

      -- ---- all definitions

      -- a definition is shaped, by what it defines
      abbrev IsShapedBy : Trees → Defines → Type 0
      IsShapedBy parts d = elim d [ Nothing ↦ ⊥ | Operator l ↦ AreShaped parts | Function l ↦ AreShaped parts | Module l ↦ EndsWithInstance parts ]

      pub definition-answered : (form : Form.the_data) (s : Span) (parts : Trees) (lead : List Named → Lead) (roots : List ℕ) (asked : List Question) → EachAnswered flat text known named means implied faces nameable parts → NameModules text.source nameable parts → IsDefined text means implied faces flat setting (Node form s parts) lead roots asked → IsReadableDefinition text known named means implied faces layout.context (Node form s parts) → IsShapedDefinition (Node form s parts) → Fresh text seen (declared_in as_binding.Constant (Node form s parts)) → level_answers flat asked ≡ levels text known named around (Node form s parts)
      definition-answered form s parts lead roots asked each names made can shaped fresh = by_defines (defines form) refl made can shaped
        where
          by_defines : (d : Defines) → defines form ≡ d → IsDefinedBy flat text known named means implied faces nameable ordered layout setting form s parts lead roots asked d → IsReadBy flat text known named means implied faces nameable ordered layout form parts d → IsShapedBy parts d → level_answers flat asked ≡ levels text known named around (Node form s parts)
          by_defines Nothing e made can shaped = absurd can
          by_defines (Operator l) e (is, root, d, a, operands, first, there, leads, are, asks) (whole, only, can) shaped =
              operator-defined form s parts l d is asked a e each names operands asks only can shaped fresh
          by_defines (Function l) e (is, root, d, a, operands, node, there, leads, are, asks) can shaped =
              subst (λ g. asked ≡ over setting.frame (IsShallow l d ∷ []) ++ (asked_at text means implied faces flat setting root g s parts ++ a) → AreReadable text known named means implied faces (reserved text layout.context g parts) (scope text layout.context g parts) parts → Fresh text seen (declared_in as_binding.Constant (Node g s parts)) → level_answers flat asked ≡ levels text known named around (Node g s parts)) (sym (function-form form l e))
              (λ asks-so can-so new. function-defined l s parts root d is asked a each names operands node asks-so can-so shaped new) asks can fresh
          by_defines (Module l) e made (none, behind, can) shaped =
              subst (λ g. IsThrough text means implied faces flat setting (with_parameters text setting g parts) l (length (parameters_of text g parts)) parts lead roots asked → IsReadableThrough text known named means implied faces (scope text layout.context g parts) parts → Fresh text seen (declared_in as_binding.Constant (Node g s parts)) → level_answers flat asked ≡ levels text known named around (Node g s parts)) (sym (module-form form l e))
              (λ through can-so new.
              let module_ : Form.the_data = Form.ModuleDefinition l in
              through-answered parts (layout_with text layout module_ parts) setting (with_parameters text setting module_ parts) (seen-with text (defined module_ parts ++ binders module_ parts) seen)
              (before_scope text known named around module_ parts) (around_with text known named around module_ parts (map by_itself (parameters_of text module_ parts))) l (length (parameters_of text module_ parts)) lead roots asked each names
              (round-with layout setting seen around round module_ s parts (names-fresh text seen module_ s parts new) refl) through can-so shaped (scope-fresh text seen module_ s parts new)
              ∙ sym (body-levels text known named around module_ s parts refl tt (λ k is. cc) refl)) made can fresh
