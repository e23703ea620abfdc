-- The questions of all forms but LET and EXCEPT are answered.
use Rattle.std.proofs.Common.{◌≡◌, ℕ, Bool, true, false, List, [], ◌++◌, Option, Some, refl, sym, ap, ◌∙◌}
use Rattle.tla_symbols.specs.declared.lexeme.Span.{Span}
use Rattle.tla_symbols.specs.declared.level.Kind.TheVariants.{Const}
use Rattle.tla_tree.specs.declared.form.Form.TheVariants as Form
use Rattle.tla_tree.specs.Syntax.{Tree, Trees, Node, Nil, Cons}
use Rattle.tla_model.specs.declared.names.Binding.TheVariants as as_binding
use Rattle.tla_model.specs.Entities.{Meaning, Nothing, Text, binding_of, bound_as, declared_in, defined, defines}
use Rattle.tla_model.specs.Scopes.{binders, reserved, scope}
use Rattle.module_model.specs.Exports.{Known, behind_meaning}
use Rattle.kind_text.specs.ExpandedKind.{kinds}
use Rattle.kind_text.specs.FlatModule.{FlatModule, Form as NodeForm, IsOrdered, Node as FlatNode}
use Rattle.level_text.specs.FormRules.{form_rule}
use Rattle.tree_kinds.specs.Standing.{Outside}
use Rattle.tree_kinds.specs.Expanding.{Around, before_scope, in_scope, operands}
use Rattle.tree_kinds.specs.TreeLevels.{in_body, is_judged, kind_at, levels, levels_parts}
use Rattle.flat_trees.specs.Layouts.{Layout, layout_before, layout_in}
use Rattle.flat_trees.proofs.Agreeing.{before-agrees, scope-agrees}
use Rattle.flattened_trees.specs.Leads.{FlatFace, Setting}
use Rattle.flattened_trees.specs.Questions.{Question}
use Rattle.flattened_trees.specs.NodeForms.{rule_order, last_first, plain_node, ruled_node}
use Rattle.flattened_trees.specs.Flattened.{AreOperands, IsFlattened, all_parts, asked_at, written_node}
use Rattle.flattened_trees.specs.Readable.{AreReadable, IsReadable}
use Rattle.flattened_trees.specs.Answers.{have_kinds, items_of, kind_in, level_answers}
use Rattle.flattened_meanings.specs.Faces.{NameModules, NamesModules}
use Rattle.flattened_meanings.proofs.Fresh.{Fresh, seen-with}
use Rattle.flattened_meanings.proofs.Rounds.{before-known, scope-known}
use Rattle.flattened_meanings.proofs.Forms.{bound-form, names-fresh, scope-fresh, wholes-fresh}
use Rattle.flattened_levels.specs.Shapes.{AreShaped, IsShaped}
use Rattle.flattened_levels.proofs.NodeKinds.{Round, have-last, have-ordered, kind-same, kinds-in}
use Rattle.flattened_levels.proofs.AtNode.{AreAlike, answers-parted, node-asked}
use Rattle.flattened_levels.proofs.Helpers.{IsOrdinary, before-still, body-bound, in-scope-still, levels-ordinary}
use Rattle.flattened_levels.proofs.Operands.{AreAnswered, EachAnswered, operands-answered}
use Rattle.flattened_levels.proofs.Arguments.{ArgumentsAnswered, arguments-answered, arguments-none, path-answered, path-none}
use Rattle.flattened_levels.proofs.Alike.{alike-all, alike-by, alike-leaf, bare-parts, olds-kinds, operator-parts, path-parts, ruled-parts}

module _ (flat : FlatModule) (text : Text) (known : Known) (named : List ℕ → Outside) (means : ℕ → Option Meaning) (implied : ℕ → List Meaning) (faces : List ℕ → FlatFace) (nameable : List ℕ → Bool) where
  -- ---- what is known in scopes

  module _ (layout : Layout) (setting : Setting) (seen : Meaning → Bool) (around : Around) (round : Round flat text known named means implied faces nameable layout setting seen around) (form : Form.the_data) (s : Span) (parts : Trees) (fresh : Fresh text seen (defined form parts ++ binders form parts)) where
    pub round-before : Round flat text known named means implied faces nameable (layout_before text layout form parts) setting (seen-with text (defined form parts ++ binders form parts) seen) (before_scope text known named around form parts)
    round-before =
        record {
          knows = before-known flat text known named faces nameable layout setting seen round.knows form s parts fresh;
          asked = record { frame = before-agrees flat text known named layout (items_of setting.frame) around round.asked.frame form parts; olds = round.asked.olds };
        }

    pub round-scope : (state : Bool) → binding_of form ≡ as_binding.Bound state → Round flat text known named means implied faces nameable (layout_in text layout form parts) setting (seen-with text (defined form parts ++ binders form parts) seen) (in_scope text known named around form parts)
    round-scope state binding =
        record {
          knows = scope-known flat text known named faces nameable layout setting seen round.knows form s parts fresh state binding;
          asked = record { frame = scope-agrees flat text known named layout (items_of setting.frame) around round.asked.frame form parts; olds = round.asked.olds };
        }

  -- ---- a node and its parts

  module _ (ordered : IsOrdered flat) (layout : Layout) (setting : Setting) (seen : Meaning → Bool) (around : Around) (round : Round flat text known named means implied faces nameable layout setting seen around) where
    -- questions of a node and of its parts
    pub joined : (form : Form.the_data) (s : Span) (parts : Trees) (i : ℕ) (asked a : List Question) → IsOrdinary form → kind_in flat setting.frame i ≡ kind_at text known named around (Node form s parts) → asked ≡ asked_at text means implied faces flat setting i form s parts ++ a → (is_judged form ≡ true → AreAlike flat text known named setting.frame i around (Node form s parts)) → level_answers flat a ≡ levels_parts text known named (before_scope text known named around form parts) (in_body text known named around form parts) parts → level_answers flat asked ≡ levels text known named around (Node form s parts)
    joined form s parts i asked a is same asks alike found =
        answers-parted flat asked (asked_at text means implied faces flat setting i form s parts) a _ _ asks (node-asked flat text known named setting.frame i around form s parts same alike) found
        ∙ sym (levels-ordinary text known named around form s parts is)

    -- forms that bind nothing
    still-levels : (form : Form.the_data) (parts : Trees) (state : Bool) → defines form ≡ Nothing → binding_of form ≡ as_binding.Bound state → binders form parts ≡ [] → levels_parts text known named around around parts ≡ levels_parts text known named (before_scope text known named around form parts) (in_body text known named around form parts) parts
    still-levels form parts state none binding binds =
        sym (
        ap (λ b. levels_parts text known named b (in_body text known named around form parts) parts) (before-still text known named around form parts none)
        ∙ ap (λ b. levels_parts text known named around b parts) (body-bound text known named around form parts state binding ∙ in-scope-still text known named around form parts none binds)
        )

    still-operands : (form : Form.the_data) (parts : Trees) → defines form ≡ Nothing → binders form parts ≡ [] → kinds (operands text known named around around parts) ≡ kinds (operands text known named (before_scope text known named around form parts) (in_scope text known named around form parts) parts)
    still-operands form parts none binds =
        sym (
        ap (λ b. kinds (operands text known named b (in_scope text known named around form parts) parts)) (before-still text known named around form parts none)
        ∙ ap (λ b. kinds (operands text known named around b parts)) (in-scope-still text known named around form parts none binds)
        )

    -- without parts there is nothing
    no-parts : (parts : Trees) (is : List ℕ) (asked : List Question) (o a : Around) → parts ≡ Nil → AreOperands text means implied faces flat all_parts setting parts is asked → (is ≡ []) × (level_answers flat asked ≡ levels_parts text known named o a parts) × (kinds-in flat setting.frame is ≡ kinds (operands text known named o a parts))
    no-parts Nil is asked o a e made = (made.0, ap (level_answers flat) made.1, ap (kinds-in flat setting.frame) made.0)
    no-parts (Cons x rest) is asked o a e made = cc

    -- operands in the scope of a form with a rule
    pub scope-answered : (form : Form.the_data) (s : Span) (parts : Trees) (is : List ℕ) (asked : List Question) (state : Bool) → binding_of form ≡ as_binding.Bound state → EachAnswered flat text known named means implied faces nameable parts → NameModules text.source nameable parts → AreOperands text means implied faces flat all_parts setting parts is asked → AreReadable text known named means implied faces (reserved text layout.context form parts) (scope text layout.context form parts) parts → AreShaped parts → Fresh text seen (declared_in as_binding.Constant (Node form s parts)) → AreAnswered flat text known named means implied faces nameable setting (before_scope text known named around form parts) (in_scope text known named around form parts) is asked parts
    scope-answered form s parts is asked state binding each names made can shaped fresh =
        let new = names-fresh text seen form s parts fresh in
        operands-answered flat text known named means implied faces nameable ordered parts (layout_before text layout form parts) (layout_in text layout form parts) setting (seen-with text (defined form parts ++ binders form parts) seen) is asked
        (before_scope text known named around form parts) (in_scope text known named around form parts) each names
        (round-before layout setting seen around round form s parts new) (round-scope layout setting seen around round form s parts new state binding) made can shaped (scope-fresh text seen form s parts fresh)

    pub scope-found : (form : Form.the_data) (parts : Trees) (asked : List Question) (state : Bool) → binding_of form ≡ as_binding.Bound state → level_answers flat asked ≡ levels_parts text known named (before_scope text known named around form parts) (in_scope text known named around form parts) parts → level_answers flat asked ≡ levels_parts text known named (before_scope text known named around form parts) (in_body text known named around form parts) parts
    scope-found form parts asked state binding found =
        found ∙ sym (ap (λ b. levels_parts text known named (before_scope text known named around form parts) b parts) (body-bound text known named around form parts state binding))

    -- symbols on operands
    operator-answered : (form : Form.the_data) (s : Span) (parts : Trees) (i : ℕ) (orders is : List ℕ) (asked a : List Question) (node : FlatNode) → ArgumentsAnswered flat text known named means implied faces nameable setting around is a parts → IsOrdinary form → kind_in flat setting.frame i ≡ kind_at text known named around (Node form s parts) → asked ≡ asked_at text means implied faces flat setting i form s parts ++ a → defines form ≡ Nothing → binding_of form ≡ as_binding.Bound false → binders form parts ≡ [] → AreAlike flat text known named setting.frame i around (Node form s parts) → level_answers flat asked ≡ levels text known named around (Node form s parts)
    operator-answered form s parts i orders is asked a node answered is-ordinary same asks none binding binds alike =
        joined form s parts i asked a is-ordinary same asks (λ e. alike) (answered.found ∙ still-levels form parts false none binding binds)

    pub form-answered : (form : Form.the_data) (s : Span) (parts : Trees) (i : ℕ) (asked : List Question) → IsOrdinary form → EachAnswered flat text known named means implied faces nameable parts → NamesModules text.source nameable (Node form s parts) → IsFlattened text means implied faces flat setting (Node form s parts) i asked → IsReadable text known named means implied faces layout.context (Node form s parts) → IsShaped (Node form s parts) → Fresh text seen (declared_in as_binding.Constant (Node form s parts)) → level_answers flat asked ≡ levels text known named around (Node form s parts)
    form-answered Form.Let s parts i asked ordinary each names made can shaped fresh = absurd ordinary
    form-answered Form.Except s parts i asked ordinary each names made can shaped fresh = absurd ordinary
    form-answered (Form.Instance l) s parts i asked ordinary each names made can shaped fresh = absurd ordinary
    form-answered Form.Identifier s parts i asked ordinary each names (is, a, made, there, asks) can shaped fresh =
        let same = kind-same flat text known named means implied faces nameable ordered layout setting seen around round (Node Form.Identifier s parts) i asked names (is, a, made, there, asks) can fresh in
        let path = can.0.2 in
        let held = behind_meaning known (Some can.0.0) in
        let answered = path-answered flat text known named means implied faces nameable ordered layout setting seen around round parts (Some can.0.0) held is a each names.1 made path shaped (wholes-fresh text seen Form.Identifier s parts fresh) in
        let binds : binders Form.Identifier parts ≡ [] = ap (bound_as (as_binding.Bound false)) (path-none flat text known named means implied faces nameable parts (Some can.0.0) held layout path) in
        operator-answered Form.Identifier s parts i [] is asked a (written_node text means implied faces flat setting Form.Identifier parts is) answered tt same asks refl refl binds
        (alike-all flat setting.frame i text known named around (Node Form.Identifier s parts) ordered (written_node text means implied faces flat setting Form.Identifier parts is) is there (path-parts text.source means setting parts is) same (answered.kinds_are ∙ still-operands Form.Identifier parts refl binds))
    form-answered (Form.Prefix l) s parts i asked ordinary each names (is, a, made, there, asks) (orders, can, cans) shaped fresh =
        let same = kind-same flat text known named means implied faces nameable ordered layout setting seen around round (Node (Form.Prefix l) s parts) i asked names (is, a, made, there, asks) (orders, can, cans) fresh in
        let answered = arguments-answered flat text known named means implied faces nameable ordered layout setting seen around round parts orders is a each names.1 made cans shaped (wholes-fresh text seen (Form.Prefix l) s parts fresh) in
        let binds : binders (Form.Prefix l) parts ≡ [] = ap (bound_as (as_binding.Bound false)) (arguments-none flat text known named means implied faces nameable parts orders layout cans) in
        operator-answered (Form.Prefix l) s parts i orders is asked a (written_node text means implied faces flat setting (Form.Prefix l) parts is) answered tt same asks refl refl binds
        (alike-all flat setting.frame i text known named around (Node (Form.Prefix l) s parts) ordered (written_node text means implied faces flat setting (Form.Prefix l) parts is) is there (operator-parts text.source means setting l _ is) same (answered.kinds_are ∙ still-operands (Form.Prefix l) parts refl binds))
    form-answered (Form.Infix l) s parts i asked ordinary each names (is, a, made, there, asks) (orders, can, cans) shaped fresh =
        let same = kind-same flat text known named means implied faces nameable ordered layout setting seen around round (Node (Form.Infix l) s parts) i asked names (is, a, made, there, asks) (orders, can, cans) fresh in
        let answered = arguments-answered flat text known named means implied faces nameable ordered layout setting seen around round parts orders is a each names.1 made cans shaped (wholes-fresh text seen (Form.Infix l) s parts fresh) in
        let binds : binders (Form.Infix l) parts ≡ [] = ap (bound_as (as_binding.Bound false)) (arguments-none flat text known named means implied faces nameable parts orders layout cans) in
        operator-answered (Form.Infix l) s parts i orders is asked a (written_node text means implied faces flat setting (Form.Infix l) parts is) answered tt same asks refl refl binds
        (alike-all flat setting.frame i text known named around (Node (Form.Infix l) s parts) ordered (written_node text means implied faces flat setting (Form.Infix l) parts is) is there (operator-parts text.source means setting l _ is) same (answered.kinds_are ∙ still-operands (Form.Infix l) parts refl binds))
    form-answered (Form.Postfix l) s parts i asked ordinary each names (is, a, made, there, asks) (orders, can, cans) shaped fresh =
        let same = kind-same flat text known named means implied faces nameable ordered layout setting seen around round (Node (Form.Postfix l) s parts) i asked names (is, a, made, there, asks) (orders, can, cans) fresh in
        let answered = arguments-answered flat text known named means implied faces nameable ordered layout setting seen around round parts orders is a each names.1 made cans shaped (wholes-fresh text seen (Form.Postfix l) s parts fresh) in
        let binds : binders (Form.Postfix l) parts ≡ [] = ap (bound_as (as_binding.Bound false)) (arguments-none flat text known named means implied faces nameable parts orders layout cans) in
        operator-answered (Form.Postfix l) s parts i orders is asked a (written_node text means implied faces flat setting (Form.Postfix l) parts is) answered tt same asks refl refl binds
        (alike-all flat setting.frame i text known named around (Node (Form.Postfix l) s parts) ordered (written_node text means implied faces flat setting (Form.Postfix l) parts is) is there (operator-parts text.source means setting l _ is) same (answered.kinds_are ∙ still-operands (Form.Postfix l) parts refl binds))
    form-answered (Form.Number l) s parts i asked ordinary each names (is, a, made, there, asks) can shaped fresh =
        let x : Tree = Node (Form.Number l) s parts in
        let same = kind-same flat text known named means implied faces nameable ordered layout setting seen around round x i asked names (is, a, made, there, asks) can fresh in
        joined (Form.Number l) s parts i asked a tt same asks (λ e. alike-leaf flat setting.frame i text known named around x ordered Const there same) (no-parts parts is a _ _ can made).1
    form-answered (Form.Text l) s parts i asked ordinary each names (is, a, made, there, asks) can shaped fresh =
        let x : Tree = Node (Form.Text l) s parts in
        let same = kind-same flat text known named means implied faces nameable ordered layout setting seen around round x i asked names (is, a, made, there, asks) can fresh in
        joined (Form.Text l) s parts i asked a tt same asks (λ e. alike-leaf flat setting.frame i text known named around x ordered Const there same) (no-parts parts is a _ _ can made).1
    form-answered (Form.At l) s parts i asked ordinary each names (is, a, made, there, asks) can shaped fresh =
        let x : Tree = Node (Form.At l) s parts in
        let same = kind-same flat text known named means implied faces nameable ordered layout setting seen around round x i asked names (is, a, made, there, asks) can fresh in
        joined (Form.At l) s parts i asked a tt same asks
        (λ e. alike-by flat setting.frame i text known named around x (plain_node NodeForm.Old setting.olds) setting.olds there refl (olds-kinds flat text known named means implied faces nameable layout setting seen around round))
        (no-parts parts is a _ _ can made).1
    form-answered (Form.Symbol l) s parts i asked ordinary each names (is, a, made, there, asks) can shaped fresh =
        let x : Tree = Node (Form.Symbol l) s parts in
        let same = kind-same flat text known named means implied faces nameable ordered layout setting seen around round x i asked names (is, a, made, there, asks) can fresh in
        let none = no-parts parts is a (before_scope text known named around (Form.Symbol l) parts) (in_scope text known named around (Form.Symbol l) parts) can.0 made in
        joined (Form.Symbol l) s parts i asked a tt same asks
        (λ e. alike-all flat setting.frame i text known named around x ordered (written_node text means implied faces flat setting (Form.Symbol l) parts is) [] there (bare-parts text.source means setting l _) same (ap (kinds-in flat setting.frame) (sym none.0) ∙ none.2))
        (no-parts parts is a _ _ can.0 made).1
    form-answered Form.Parentheses s parts i asked ordinary each names (is, a, made, there, asks) can shaped fresh =
        let same = kind-same flat text known named means implied faces nameable ordered layout setting seen around round (Node Form.Parentheses s parts) i asked names (is, a, made, there, asks) can fresh in
        let answered = operands-answered flat text known named means implied faces nameable ordered parts layout layout setting seen is a around around each names.1 round round made can.2 shaped.1 (wholes-fresh text seen Form.Parentheses s parts fresh) in
        joined Form.Parentheses s parts i asked a tt same asks (λ e. cc) (answered.found ∙ still-levels Form.Parentheses parts false refl refl shaped.0)
    form-answered (Form.BoundedQuantifier l) s parts i asked ordinary each names (is, a, made, there, asks) can shaped fresh =
        let x : Tree = Node (Form.BoundedQuantifier l) s parts in
        let same = kind-same flat text known named means implied faces nameable ordered layout setting seen around round x i asked names (is, a, made, there, asks) can fresh in
        let answered = scope-answered (Form.BoundedQuantifier l) s parts is a false refl each names.1 made can.1 shaped fresh in
        joined (Form.BoundedQuantifier l) s parts i asked a tt same asks
        (λ e. alike-by flat setting.frame i text known named around x (plain_node NodeForm.Bounded (last_first [] is)) is there (have-last flat setting.frame [] is) answered.kinds_are)
        (scope-found (Form.BoundedQuantifier l) parts a false refl answered.found)
    form-answered form s parts i asked ordinary each names made can shaped fresh =
        let x : Tree = Node form s parts in
        let same = kind-same flat text known named means implied faces nameable ordered layout setting seen around round x i asked names made can fresh in
        let bound = bound-form form can.0 in
        let answered = scope-answered form s parts made.0 made.1 bound.0 bound.1 each names.1 made.2 can.1 shaped fresh in
        joined form s parts i asked made.1 ordinary same made.4
        (λ e. alike-by flat setting.frame i text known named around x (ruled_node (form_rule form) (rule_order form made.0)) made.0 made.3
        (ap (have_kinds flat setting.frame) (ruled-parts (form_rule form) (rule_order form made.0) can.0) ∙ have-ordered flat setting.frame form made.0) answered.kinds_are)
        (scope-found form parts made.1 bound.0 bound.1 answered.found)
