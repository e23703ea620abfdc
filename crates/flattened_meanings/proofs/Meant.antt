-- Nodes that are written trees mean these, and names of definitions stand for what these give.
use Rattle.std.proofs.Common.{◌≡◌, ℕ, Bool, true, false, List, [], ◌∷◌, ◌++◌, Option, Some, None, refl, sym, ap, ◌∙◌, subst, length, arith}
use Rattle.std.specs.Prelude.{slice_get}
use Rattle.tla_symbols.specs.declared.lexeme.Lexeme.{Lexeme}
use Rattle.tla_symbols.specs.declared.lexeme.Span.{Span}
use Rattle.tla_symbols.specs.declared.level.Rule.TheVariants.{Plain}
use Rattle.tla_symbols.specs.declared.place.Fix.TheVariants.{Prefix, Infix, Postfix}
use Rattle.tla_tree.specs.declared.form.Form.TheVariants as Form
use Rattle.tla_tree.specs.Forms.{helps}
use Rattle.tla_tree.specs.Syntax.{Tree, Trees, Node, Nil, Cons}
use Rattle.tla_model.specs.declared.names.Binding.TheVariants as as_binding
use Rattle.tla_model.specs.Tables.{Named}
use Rattle.tla_model.specs.Entities.{Defines, Meaning, Nothing, Operator, Function, Module, Text, declared_among, declared_in, defined, defines}
use Rattle.tla_model.specs.Scopes.{all_grouped, behind as behind_context, prefixed, reserved, scope, itself as as_spelled}
use Rattle.module_model.specs.Exports.{Known, behind_meaning}
use Rattle.module_model.specs.Instances.{instance_among}
use Rattle.kind_text.specs.ExpandedKind.{Operands}
use Rattle.kind_text.specs.FlatModule.{FlatModule, Form as NodeForm, IsOrdered, Node as FlatNode}
use Rattle.kind_text.specs.Expansion.{items as items_at, text as text_at}
use Rattle.kind_text.specs.Substitution.{Item}
use Rattle.level_text.specs.FormRules.{symbol_rule}
use Rattle.tree_kinds.specs.Standing.{Outside}
use Rattle.tree_kinds.specs.Expanding.{Whole, bare_rule, expand, part_of, places_at, symbol_name, symbol_places}
use Rattle.flat_trees.specs.Names.{IsBareSymbol, order_by}
use Rattle.flat_trees.specs.Stands.{Matches}
use Rattle.flat_trees.specs.Layouts.{IsBody, Layout, layout_behind, parameters_of}
use Rattle.flat_trees.proofs.Definitions.{body-behind, body-itself, node-meant}
use Rattle.flattened_trees.specs.declared.End.TheVariants as end
use Rattle.flattened_trees.specs.Leads.{FlatFace, Lead, Setting, behind, only, with_parameters}
use Rattle.flattened_trees.specs.Questions.{IsShallow, Question, over}
use Rattle.flattened_trees.specs.NodeForms.{bare_places, let_node, plain_node}
use Rattle.flattened_trees.specs.Flattened.{AreOperands, AreRights, HasNode, IsChain, IsDefined, IsFlattened, IsInstance, IsRoot, IsThrough, Right, all_parts, asked_at, written_node}
use Rattle.flattened_trees.specs.Readable.{AreInside, AreReadable, EndsWhole, IsKnownBehind, IsReadable, IsReadableChain, IsReadableDefinition, IsReadableThrough}
use Rattle.flattened_trees.specs.Agreeing.{TakesAs}
use Rattle.flattened_meanings.specs.Faces.{NameModules, NamesModules}
use Rattle.flattened_meanings.specs.Definitions.{IsOfModule, StandsFor}
use Rattle.flattened_meanings.specs.Rounds.{IsKnownRound}
use Rattle.flattened_meanings.proofs.Fresh.{Fresh, IsOneOf, among-next, fresh-among, fresh-less, fresh-right, node-names, seen-with, whole-names}
use Rattle.flattened_meanings.proofs.Rounds.{Knows, behind-known}
use Rattle.flattened_meanings.proofs.Behind.{all-one, fresh-round, known-round, seen-round}
use Rattle.flattened_meanings.proofs.Operands.{Each, IsKept, given}
use Rattle.flattened_meanings.proofs.NodeNames.{bare-built, bare-is, identifier-built, operator-built}
use Rattle.flattened_meanings.proofs.Updates.{updates-given}
use Rattle.flattened_meanings.proofs.Forms.{bounded-given, inside-built, ruled-built, wholes-fresh}
use Rattle.flattened_meanings.proofs.Definitions.{function-for, operator-for}
use Rattle.flattened_meanings.proofs.Instances.{instance-put, module-for}

module _ (text : Text) (seen : Meaning → Bool) where
  -- what is declared among parts is new, where what their node declares is
  pub parts-fresh : (form : Form.the_data) (s : Span) (parts : Trees) → Fresh text seen (declared_in as_binding.Constant (Node form s parts)) → Fresh text seen (declared_among as_binding.Constant parts)
  parts-fresh form s parts fresh =
      fresh-less text seen (declared_in as_binding.Constant (Node form s parts)) (declared_among as_binding.Constant parts) fresh (λ m. let a = node-names text m form s parts in omega (arith, a))

  pub first-fresh : (x : Tree) (rest : Trees) → Fresh text seen (declared_among as_binding.Constant (Cons x rest)) → Fresh text seen (declared_in as_binding.Constant x)
  first-fresh x rest fresh =
      fresh-less text seen (declared_among as_binding.Constant (Cons x rest)) (declared_in as_binding.Constant x) fresh (λ m. let a = among-next text m x rest in omega (arith, a))

  pub own-fresh : (form : Form.the_data) (s : Span) (parts : Trees) → Fresh text seen (declared_in as_binding.Constant (Node form s parts)) → Fresh text seen (defined form parts)
  own-fresh form s parts fresh =
      fresh-less text seen (declared_in as_binding.Constant (Node form s parts)) (defined form parts) fresh (λ m. let a = node-names text m form s parts in omega (arith, a))

  pub rest-fresh : (form : Form.the_data) (s : Span) (parts rest : Trees) → Fresh text seen (declared_among as_binding.Constant (Cons (Node form s parts) rest)) → Fresh text (seen-with text (defined form parts) seen) (declared_among as_binding.Constant rest)
  rest-fresh form s parts rest fresh =
      fresh-among text seen (declared_among as_binding.Constant (Cons (Node form s parts) rest)) (defined form parts) (declared_among as_binding.Constant rest) fresh
      (λ m. let a = among-next text m (Node form s parts) rest in let b = node-names text m form s parts in omega (arith, a, b))

module _ (flat : FlatModule) (text : Text) (known : Known) (named : List ℕ → Outside) (means : ℕ → Option Meaning) (implied : ℕ → List Meaning) (faces : List ℕ → FlatFace) (nameable : List ℕ → Bool) (ordered : IsOrdered flat) where
  -- where a name leads, by what its definition defines
  abbrev pub IsDefinedBy : Layout → Setting → Form.the_data → Span → Trees → (List Named → Lead) → List ℕ → List Question → Defines → Type 0
  IsDefinedBy layout setting form s parts lead roots asked d = elim d [
    | Nothing ↦ (roots ≡ []) × (asked ≡ [])
    | Operator l ↦ (is : List ℕ) × (root d : ℕ) × (a : List Question)
        × AreOperands text means implied faces flat all_parts (with_parameters text setting form parts) parts is a × IsRoot flat is root
        × (slice_get flat.definitions d ≡ Some (record { outer = length setting.frame; root = root }))
        × (lead ≡ only (end.Definition d)) × (roots ≡ root ∷ [])
        × (asked ≡ over setting.frame (IsShallow l d ∷ []) ++ a)
    | Function l ↦ (is : List ℕ) × (root d : ℕ) × (a : List Question)
        × AreOperands text means implied faces flat all_parts setting parts is a × HasNode flat root (plain_node (NodeForm.Operation Plain) is)
        × (slice_get flat.definitions d ≡ Some (record { outer = length setting.frame; root = root }))
        × (lead ≡ only (end.Definition d)) × (roots ≡ root ∷ [])
        × (asked ≡ over setting.frame (IsShallow l d ∷ []) ++ (asked_at text means implied faces flat setting root form s parts ++ a))
    | Module l ↦ IsThrough text means implied faces flat setting (with_parameters text setting form parts) l (length (parameters_of text form parts)) parts lead roots asked
  ]

  -- a definition can be read, by what it defines
  abbrev pub IsReadBy : Layout → Form.the_data → Trees → Defines → Type 0
  IsReadBy layout form parts d = elim d [
    | Nothing ↦ ⊥
    | Operator l ↦ EndsWhole parts × AreInside parts × AreReadable text known named means implied faces (reserved text layout.context form parts) (scope text layout.context form parts) parts
    | Function l ↦ AreReadable text known named means implied faces (reserved text layout.context form parts) (scope text layout.context form parts) parts
    | Module l ↦ (all_grouped parts ≡ []) × IsKnownBehind text known named means implied faces l (instance_among parts) × IsReadableThrough text known named means implied faces (scope text layout.context form parts) parts
  ]

  -- the name of a definition stands for what that gives
  pub definition-for : (layout : Layout) (setting : Setting) (seen : Meaning → Bool) → Knows flat text known named faces nameable layout setting seen → (form : Form.the_data) (s : Span) (parts : Trees) (lead : List Named → Lead) (roots : List ℕ) (asked : List Question) → Each flat text known named means implied faces nameable parts → IsDefined text means implied faces flat setting (Node form s parts) lead roots asked → IsReadableDefinition text known named means implied faces layout.context (Node form s parts) → Fresh text seen (declared_in as_binding.Constant (Node form s parts)) → StandsFor flat text known named layout (Node form s parts) lead
  definition-for layout setting seen knows form s parts lead roots asked each made can fresh = by_defines (defines form) refl made can
    where
      by_defines : (d : Defines) → defines form ≡ d → IsDefinedBy layout setting form s parts lead roots asked d → IsReadBy layout form parts d → StandsFor flat text known named layout (Node form s parts) lead
      by_defines Nothing e made can = absurd can
      by_defines (Operator l) e (is, root, d, a, operands, first, there, leads, are, asks) (whole, only, can) =
          operator-for flat text known named means implied faces nameable ordered layout setting seen knows form s parts l lead is root d a e each operands first there leads whole only can fresh
      by_defines (Function l) e (is, root, d, a, operands, node, there, leads, are, asks) can =
          function-for flat text known named means implied faces nameable ordered layout setting seen knows form s parts l lead is root d a e each operands node there leads can fresh
      by_defines (Module l) e made (none, behind, can) =
          module-for flat text known named means implied faces nameable ordered layout setting seen knows form s parts l lead roots asked e each made none behind can fresh

  -- ---- LET

  -- the nodes of a chain: its body means the body, behind the definitions
  abbrev IsChainMeant : Layout → Trees → Option ℕ → Type 0
  IsChainMeant layout parts body = (i : ℕ) × (body ≡ Some i) × IsBody flat text known named layout i parts

  -- the first of a chain, by whether it is a definition
  abbrev pub IsLinkedBy : Setting → Form.the_data → Span → Trees → Trees → Option ℕ → List ℕ → List Question → List Question → Bool → Type 0
  IsLinkedBy setting form s parts rest body roots a b help = elim help [
    | true ↦ (lead : List Named → Lead) × (first others : List ℕ) × IsDefined text means implied faces flat setting (Node form s parts) lead first a
        × IsChain text means implied faces flat (behind text setting (Node form s parts) lead) rest body others b × (roots ≡ first ++ others)
    | false ↦ (i : ℕ) × (after : Option ℕ) × IsFlattened text means implied faces flat setting (Node form s parts) i a × IsChain text means implied faces flat setting rest after roots b × (body ≡ Some i)
  ]

  -- the first of a chain can be read, by whether it is a definition
  abbrev pub IsLinkRead : Layout → Form.the_data → Span → Trees → Trees → Bool → Type 0
  IsLinkRead layout form s parts rest help = elim help [
    | true ↦ IsReadableDefinition text known named means implied faces layout.context (Node form s parts) × IsReadableChain text known named means implied faces (behind_context text layout.context (Node form s parts)) rest
    | false ↦ (part_of form ≡ Whole) × (places_at text known named layout.context (Node form s parts) ≡ None) × IsReadable text known named means implied faces layout.context (Node form s parts) × (rest ≡ Nil)
  ]

  chain-meant : (parts : Trees) (layout : Layout) (setting : Setting) (seen : Meaning → Bool) (body : Option ℕ) (roots : List ℕ) (asked : List Question) → Each flat text known named means implied faces nameable parts → Knows flat text known named faces nameable layout setting seen → IsChain text means implied faces flat setting parts body roots asked → IsReadableChain text known named means implied faces layout.context parts → Fresh text seen (declared_among as_binding.Constant parts) → IsChainMeant layout parts body
  chain-meant Nil layout setting seen body roots asked each knows made can fresh = absurd can
  chain-meant (Cons (Node form s parts) rest) layout setting seen body roots asked each knows (a, b, asks, made) can fresh =
      by_help (helps form) refl made can
      (λ next then before others bs knows-on made-on can-on fresh-on. chain-meant rest next then before body others bs each.2 knows-on made-on can-on fresh-on)
    where
      by_help : (help : Bool) → helps form ≡ help → IsLinkedBy setting form s parts rest body roots a b help → IsLinkRead layout form s parts rest help → ((next : Layout) (then : Setting) (before : Meaning → Bool) (others : List ℕ) (bs : List Question) → Knows flat text known named faces nameable next then before → IsChain text means implied faces flat then rest body others bs → IsReadableChain text known named means implied faces next.context rest → Fresh text before (declared_among as_binding.Constant rest) → IsChainMeant next rest body) → IsChainMeant layout (Cons (Node form s parts) rest) body
      by_help true e (lead, first, others, is, chain, joined) (can-here, can-rest) again =
          let new = first-fresh text seen (Node form s parts) rest fresh in
          let found = definition-for layout setting seen knows form s parts lead first a each.1 is can-here new in
          let takes = λ (m : Meaning) (one : IsOneOf text (defined form parts) m). all-one text (λ n. TakesAs found.stand (behind_meaning known (Some n)) n) (defined form parts) m found.takes one in
          let behind-it = behind-known flat text known named faces nameable layout setting seen knows form s parts found.stand lead (own-fresh text seen form s parts new) found.leads takes in
          let after = again (layout_behind text layout (Node form s parts) found.stand) (behind text setting (Node form s parts) lead) (seen-with text (defined form parts) seen) others b behind-it chain can-rest (rest-fresh text seen form s parts rest fresh) in
          (after.0, after.1, body-behind flat text known named layout after.0 form s parts rest found.stand e found.stands after.2)
      by_help false e (i, after, is, chain, body-is) (whole, plain, can-here, last) again =
          (i, body-is, body-itself flat text known named layout i form s parts rest e plain (each.0 layout setting seen i a knows is can-here (first-fresh text seen (Node form s parts) rest fresh)))

  -- ---- all forms

  node-kept : (form : Form.the_data) (s : Span) (parts : Trees) → Each flat text known named means implied faces nameable parts → IsKept flat text known named means implied faces nameable (Node form s parts)
  node-kept Form.Identifier s parts each layout setting seen i asked knows (is, a, made, there, asks) can fresh =
      node-meant flat text known named layout i (written_node text means implied faces flat setting Form.Identifier parts is) (Node Form.Identifier s parts) ordered there (λ frame more around agrees.
      identifier-built flat text known named means implied faces nameable layout setting seen knows frame more around agrees s parts is a each made can.0 can.1 (wholes-fresh text seen Form.Identifier s parts fresh))
  node-kept (Form.Number l) s parts each layout setting seen i asked knows (is, a, made, there, asks) can fresh =
      node-meant flat text known named layout i (written_node text means implied faces flat setting (Form.Number l) parts is) (Node (Form.Number l) s parts) ordered there (λ frame more around agrees. refl)
  node-kept (Form.Text l) s parts each layout setting seen i asked knows (is, a, made, there, asks) can fresh =
      node-meant flat text known named layout i (written_node text means implied faces flat setting (Form.Text l) parts is) (Node (Form.Text l) s parts) ordered there (λ frame more around agrees. refl)
  node-kept (Form.At l) s parts each layout setting seen i asked knows (is, a, made, there, asks) can fresh =
      node-meant flat text known named layout i (written_node text means implied faces flat setting (Form.At l) parts is) (Node (Form.At l) s parts) ordered there (λ frame more around agrees.
      (refl, ap (λ js. given flat text known named means implied faces nameable js (frame ++ more)) (sym knows.settings.olds) ∙ agrees.old more))
  node-kept (Form.Symbol l) s parts each layout setting seen i asked knows (is, a, made, there, asks) (empty, same, can) fresh =
      node-meant flat text known named layout i (written_node text means implied faces flat setting (Form.Symbol l) parts is) (Node (Form.Symbol l) s parts) ordered there (λ frame more around agrees.
      subst (λ (node : FlatNode). IsBareSymbol layout.stands around.context (bare_rule l.kind) (symbol_name as_spelled l.kind) (symbol_places around.context l.kind) node.form (items_at (text_at flat) node.parts (frame ++ more)))
      (sym (bare-is flat text known named means implied faces nameable layout setting seen knows frame more around agrees l (bare_rule l.kind)))
      (bare-built flat text known named means implied faces nameable layout setting seen knows frame more around agrees l l.kind (bare_rule l.kind) (bare_places text.source means l l.kind) same can))
  node-kept (Form.Prefix l) s parts each layout setting seen i asked knows (is, a, made, there, asks) (orders, can, cans) fresh =
      node-meant flat text known named layout i (written_node text means implied faces flat setting (Form.Prefix l) parts is) (Node (Form.Prefix l) s parts) ordered there (λ frame more around agrees.
      operator-built flat text known named means implied faces nameable layout setting seen knows frame more around agrees prefixed l l.kind (symbol_rule Prefix l.kind) parts orders is a each made can cans (wholes-fresh text seen (Form.Prefix l) s parts fresh))
  node-kept (Form.Infix l) s parts each layout setting seen i asked knows (is, a, made, there, asks) (orders, can, cans) fresh =
      node-meant flat text known named layout i (written_node text means implied faces flat setting (Form.Infix l) parts is) (Node (Form.Infix l) s parts) ordered there (λ frame more around agrees.
      operator-built flat text known named means implied faces nameable layout setting seen knows frame more around agrees as_spelled l l.kind (symbol_rule Infix l.kind) parts orders is a each made can cans (wholes-fresh text seen (Form.Infix l) s parts fresh))
  node-kept (Form.Postfix l) s parts each layout setting seen i asked knows (is, a, made, there, asks) (orders, can, cans) fresh =
      node-meant flat text known named layout i (written_node text means implied faces flat setting (Form.Postfix l) parts is) (Node (Form.Postfix l) s parts) ordered there (λ frame more around agrees.
      operator-built flat text known named means implied faces nameable layout setting seen knows frame more around agrees as_spelled l l.kind (symbol_rule Postfix l.kind) parts orders is a each made can cans (wholes-fresh text seen (Form.Postfix l) s parts fresh))
  node-kept Form.Parentheses s parts each layout setting seen i asked knows (is, a, made, there, asks) (whole, only, can) fresh =
      node-meant flat text known named layout i (written_node text means implied faces flat setting Form.Parentheses parts is) (Node Form.Parentheses s parts) ordered there (λ frame more around agrees.
      inside-built flat text known named means implied faces nameable layout setting seen knows s parts is a each made whole only can (wholes-fresh text seen Form.Parentheses s parts fresh) frame more around agrees)
  node-kept (Form.BoundedQuantifier l) s parts each layout setting seen i asked knows (is, a, made, there, asks) (whole, can) fresh =
      node-meant flat text known named layout i (written_node text means implied faces flat setting (Form.BoundedQuantifier l) parts is) (Node (Form.BoundedQuantifier l) s parts) ordered there (λ frame more around agrees.
      (refl, bounded-given flat text known named means implied faces nameable layout setting seen knows l s parts is a each made whole can fresh frame more around agrees))
  node-kept Form.Let s parts each layout setting seen i asked knows (body, roots, chain, there) can fresh =
      let found = chain-meant parts layout setting seen body roots asked each knows chain can (parts-fresh text seen Form.Let s parts fresh) in
      node-meant flat text known named layout i (let_node (Some found.0) roots) (Node Form.Let s parts) ordered (there ∙ ap (λ o. Some (let_node o roots)) found.1) (λ frame more around agrees.
      (text_at flat found.0 (frame ++ more), items_at (text_at flat) roots (frame ++ more), refl, refl, found.2 frame more around agrees))
  node-kept Form.Except s Nil each layout setting seen i asked knows made can fresh = absurd can
  node-kept Form.Except s (Cons (Node form at parts) updates) each layout setting seen i asked knows (f, is, a, b, made, changed, there, asks) (help, plain, can, written, cans) fresh =
      let x : Tree = Node form at parts in
      let new = first-fresh text seen x updates (parts-fresh text seen Form.Except s (Cons x updates) fresh) in
      let meant-here = each.0 layout setting seen f a knows made can new in
      node-meant flat text known named layout i (plain_node (NodeForm.Operation Plain) (f ∷ is)) (Node Form.Except s (Cons x updates)) ordered there (λ frame more around agrees.
      let function : (longer : List Item) → (text_at flat f (frame ++ longer)).text ≡ (expand text known named around x).text =
      λ longer. subst (λ o. Matches (order_by o) (text_at flat f (frame ++ longer)) (expand text known named around x)) plain (meant-here frame longer around agrees) in
      let others = updates-given flat text known named means implied faces nameable updates layout setting seen f is b each.2 knows changed written cans
      (fresh-right text seen _ (whole-names text updates) (wholes-fresh text seen Form.Except s (Cons x updates) fresh)) frame more around (expand text known named around x).text agrees function in
      (refl, ap (λ t. Operands.Cons t (given flat text known named means implied faces nameable is (frame ++ more))) (function more) ∙ ap (Operands.Cons (expand text known named around x).text) others))
  node-kept form s parts each layout setting seen i asked knows made can fresh =
      node-meant flat text known named layout i (written_node text means implied faces flat setting form parts made.0) (Node form s parts) ordered made.3 (λ frame more around agrees.
      ruled-built flat text known named means implied faces nameable layout setting seen knows form s parts made.0 made.1 each made.2 can.0 can.1 fresh frame more around agrees)

  pub each-kept : (parts : Trees) → NameModules text.source nameable parts → Each flat text known named means implied faces nameable parts
  each-kept Nil names = tt
  each-kept (Cons (Node form s parts) rest) names =
      let inner-kept = each-kept parts names.0.1 in
      (node-kept form s parts inner-kept, inner-kept, each-kept rest names.1, names.0.0)

  pub tree-kept : (x : Tree) → NamesModules text.source nameable x → IsKept flat text known named means implied faces nameable x
  tree-kept (Node form s parts) names = node-kept form s parts (each-kept parts names.1)

  -- ---- by what is known round a tree

  pub definition-stands : (layout : Layout) (setting : Setting) (seen : List Meaning) (x : Tree) (lead : List Named → Lead) (roots : List ℕ) (asked : List Question) → IsKnownRound flat text known named faces nameable layout setting seen x → IsReadableDefinition text known named means implied faces layout.context x → IsDefined text means implied faces flat setting x lead roots asked → StandsFor flat text known named layout x lead
  definition-stands layout setting seen (Node form s parts) lead roots asked round can made =
      let x : Tree = Node form s parts in
      definition-for layout setting (seen-round flat text known named faces nameable layout setting seen x round) (known-round flat text known named faces nameable layout setting seen x round) form s parts lead roots asked
      (each-kept parts round.instances.1) made can (fresh-round flat text known named faces nameable layout setting seen x round)

  pub instance-stands : (layout : Layout) (setting : Setting) (seen : List Meaning) (l : Lexeme) (at : Span) (rights : Trees) (outer count : ℕ) (guards : Bool) (written : List Right) (roots : List ℕ) (j : ℕ) (asked more : List Question) → IsKnownRound flat text known named faces nameable layout setting seen (Node (Form.Instance l) at rights) → IsReadableThrough text known named means implied faces layout.context (Cons (Node (Form.Instance l) at rights) Nil) → AreRights text means implied faces flat setting l rights written roots asked → IsInstance text means implied faces flat setting outer count guards l written j more → IsOfModule flat text known named faces layout outer count guards l rights j
  instance-stands layout setting seen l at rights outer count guards written roots j asked more round can are is =
      let x : Tree = Node (Form.Instance l) at rights in
      let before = seen-round flat text known named faces nameable layout setting seen x round in
      instance-put flat text known named means implied faces nameable ordered layout setting before (known-round flat text known named faces nameable layout setting seen x round) outer count guards l rights written roots j asked more round.instances.0
      (each-kept rights round.instances.1) are is can.0 can.1 can.2 (wholes-fresh text before (Form.Instance l) at rights (fresh-round flat text known named faces nameable layout setting seen x round))
