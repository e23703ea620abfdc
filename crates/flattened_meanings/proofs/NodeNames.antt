-- Nodes of names and of symbols are built of these.
use Rattle.std.proofs.Common.{◌≡◌, ℕ, Bool, true, false, cond, List, [], ◌∷◌, ◌++◌, Option, Some, None, refl, sym, ap, ◌∙◌, subst}
use Rattle.std.specs.Prelude.{is_some, replicate}
use Rattle.tla_symbols.specs.declared.lexeme.LexKind.TheVariants as LexKind
use Rattle.tla_symbols.specs.declared.lexeme.Lexeme.{Lexeme}
use Rattle.tla_symbols.specs.declared.lexeme.Span.{Span}
use Rattle.tla_symbols.specs.declared.level.Rule.{Rule}
use Rattle.tla_symbols.specs.declared.op.Op.TheVariants as Op
use Rattle.tla_tree.specs.declared.form.Form.TheVariants as Form
use Rattle.tla_tree.specs.Syntax.{Tree, Trees, Node, Nil, Cons}
use Rattle.tla_model.specs.Tables.{Named, Symbol}
use Rattle.tla_model.specs.Entities.{Meaning, Text, name_of}
use Rattle.tla_model.specs.Contexts.{meaning_of}
use Rattle.tla_model.specs.Scopes.{is_free, itself as as_spelled}
use Rattle.module_model.specs.Exports.{Known, behind_meaning}
use Rattle.kind_text.specs.FlatModule.{FlatModule, Form as NodeForm, Node as FlatNode}
use Rattle.kind_text.specs.Expansion.{items as items_at, text as text_at}
use Rattle.kind_text.specs.Substitution.{Item}
use Rattle.tree_kinds.specs.Standing.{Outside, Steps, operator_places}
use Rattle.tree_kinds.specs.Expanding.{Around, built_in_places, called_behind, is_bare, items, places_at, steps, symbol_name, symbol_places}
use Rattle.tree_kinds.specs.TreeDepths.{path_names}
use Rattle.flat_trees.specs.Stands.{Fits, Stand}
use Rattle.flat_trees.specs.Names.{IsBareSymbol, IsNamed, IsPath, IsSymbolOn, IsMeaning as IsMadeBy}
use Rattle.flat_trees.specs.Layouts.{Agrees, Layout}
use Rattle.flattened_trees.specs.Leads.{FlatFace, Setting}
use Rattle.flattened_trees.specs.Questions.{Question}
use Rattle.flattened_trees.specs.NodeForms.{bare_node, bare_places, lead_of, name_node, operator_node, path_node, path_places}
use Rattle.flattened_trees.specs.Flattened.{AreOperands, all_parts}
use Rattle.flattened_trees.specs.Readable.{AreArguments, IsMeaning, IsOperator, IsReadableBare, IsReadableFirst, IsReadablePath}
use Rattle.flattened_trees.specs.Readable as readable
use Rattle.flattened_trees.specs.Agreeing.{lead_by}
use Rattle.flattened_meanings.proofs.Leading.{PathFits, fits-texts, path-has-places, path-node}
use Rattle.flattened_meanings.proofs.Fresh.{Fresh, whole-names}
use Rattle.flattened_meanings.proofs.Rounds.{Knows}
use Rattle.flattened_meanings.proofs.Operands.{Each, arguments-fit, path-fits}

module _ (flat : FlatModule) (text : Text) (known : Known) (named : List ℕ → Outside) (means : ℕ → Option Meaning) (implied : ℕ → List Meaning) (faces : List ℕ → FlatFace) (nameable : List ℕ → Bool) (layout : Layout) (setting : Setting) (seen : Meaning → Bool) (knows : Knows flat text known named faces nameable layout setting seen) (frame more : List Item) (around : Around) (agrees : Agrees flat layout frame around) where
  -- a node is made of a name
  abbrev IsNode : Option ℕ → Stand → List Item → Steps → FlatNode → Type 0
  IsNode o stand arguments path node = IsNamed o stand arguments path node.form (items_at (text_at flat) node.parts (frame ++ more))

  -- where a name leads is by what it stands for
  lead-at : (l : Lexeme) (name : Named) (meaning : Meaning) (names : List Named) → IsMeaning text known named means implied faces layout.context l name meaning → lead_of setting.leads (means l.span.start) names ≡ lead_by (layout.stands meaning) names
  lead-at l name meaning names is = ap (λ found. lead_of setting.leads found names) is.here ∙ knows.settings.leads meaning names

  -- a node that is made by where a name leads, of what the name means in the context
  at-meaning : (o places : Option ℕ) (l : Lexeme) (name : Named) (meaning : Meaning) (arguments : List Item) (path : Steps) (names : List Named) (is : List ℕ) → IsMeaning text known named means implied faces layout.context l name meaning → places ≡ o → IsNode o (layout.stands meaning) arguments path (name_node o (lead_by (layout.stands meaning) names) is) → IsPath layout.stands layout.context o (record { name = name; arguments = arguments } ∷ path) (name_node places (lead_of setting.leads (means l.span.start) names) is).form (items_at (text_at flat) (name_node places (lead_of setting.leads (means l.span.start) names) is).parts (frame ++ more))
  at-meaning o places l name meaning arguments path names is known-as same node =
      subst (λ found. IsMadeBy layout.stands layout.context o found arguments path (name_node places (lead_of setting.leads (means l.span.start) names) is).form (items_at (text_at flat) (name_node places (lead_of setting.leads (means l.span.start) names) is).parts (frame ++ more))) (sym known-as.there)
      (subst (λ p. IsNode o (layout.stands meaning) arguments path (name_node p (lead_of setting.leads (means l.span.start) names) is)) (sym same)
      (subst (λ lead. IsNode o (layout.stands meaning) arguments path (name_node o lead is)) (sym (lead-at l name meaning names known-as)) node))

  pub identifier-built : (s : Span) (parts : Trees) (is : List ℕ) (asked : List Question) → Each flat text known named means implied faces nameable parts → AreOperands text means implied faces flat all_parts setting parts is asked → ((meaning : Meaning) × IsReadableFirst text known named means implied faces layout.context meaning parts × IsReadablePath text known named means implied faces layout.context (Some meaning) (behind_meaning known (Some meaning)) parts) → path_places text.source means parts ≡ places_at text known named layout.context (Node Form.Identifier s parts) → Fresh text seen (whole-names text parts) → IsPath layout.stands around.context (places_at text known named around.context (Node Form.Identifier s parts)) (steps text known named around parts) (path_node text.source means setting parts is).form (items_at (text_at flat) (path_node text.source means setting parts is).parts (frame ++ more))
  identifier-built s Nil is asked each made can places fresh = absurd can.1
  identifier-built s (Cons (Node (Form.Segment l) at arguments) rest) is asked each made (meaning, first, path) places fresh =
      let parts : Trees = Cons (Node (Form.Segment l) at arguments) rest in
      let held = behind_meaning known (Some meaning) in
      let o = places_at text known named layout.context (Node Form.Identifier s parts) in
      let fits = path-fits flat text known named means implied faces nameable layout setting seen knows frame more around agrees parts (Some meaning) held is asked each made path fresh in
      let here = ap (λ found. cond (is_bare false parts) (operator_places (called_behind text known named (behind_meaning known found) found rest)) None) first.there in
      let node = path-node text known named around (text_at flat) (frame ++ more) is (layout.stands meaning) o held meaning l at arguments rest (knows.orders (name_of text.source l) meaning first.there) fits here in
      subst (λ context. IsPath layout.stands context (places_at text known named context (Node Form.Identifier s parts)) (steps text known named around parts) (path_node text.source means setting parts is).form (items_at (text_at flat) (path_node text.source means setting parts is).parts (frame ++ more))) (sym agrees.context)
      (at-meaning o (path_places text.source means parts) l (name_of text.source l) meaning (items text known named around arguments) (steps text known named around rest) (path_names text.source rest) is first places node)
  identifier-built s (Cons (Node form at arguments) rest) is asked each made can places fresh = absurd can.1

  -- ---- symbols

  -- a symbol that means something, on operands
  symbol-on : (l : Lexeme) (name : Named) (meaning : Meaning) (x : Tree) (parts : Trees) (is : List ℕ) → IsMeaning text known named means implied faces layout.context l name meaning → PathFits text known named around (Some meaning) (behind_meaning known (Some meaning)) (Cons (Node (Form.Segment l) l.span (Cons x parts)) Nil) (items_at (text_at flat) is (frame ++ more)) → IsPath layout.stands layout.context None (record { name = name; arguments = items text known named around (Cons x parts) } ∷ []) (name_node None (lead_of setting.leads (means l.span.start) []) is).form (items_at (text_at flat) (name_node None (lead_of setting.leads (means l.span.start) []) is).parts (frame ++ more))
  symbol-on l name meaning x parts is first fits =
      at-meaning None None l name meaning (items text known named around (Cons x parts)) [] [] is first refl
      (path-node text known named around (text_at flat) (frame ++ more) is (layout.stands meaning) None (behind_meaning known (Some meaning)) meaning l l.span (Cons x parts) Nil (knows.orders name meaning first.there) fits refl)

  count-orders : (parts : Trees) (orders : List ℕ) → AreArguments text known named means implied faces layout.context orders parts → orders ≡ replicate (readable.count parts) 0 → (made : List Item) → Fits orders made (items text known named around parts) → Fits (replicate (readable.count parts) 0) made (items text known named around parts)
  count-orders parts orders can same made fits = subst (λ os. Fits os made (items text known named around parts)) same fits

  pub operator-built : (which : Op.the_data → Op.the_data) (l : Lexeme) (kind : LexKind.the_data) (rule : Option Rule) (parts : Trees) (orders is : List ℕ) (asked : List Question) → Each flat text known named means implied faces nameable parts → AreOperands text means implied faces flat all_parts setting parts is asked → IsOperator text known named means implied faces layout.context l which kind rule parts orders → AreArguments text known named means implied faces layout.context orders parts → Fresh text seen (whole-names text parts) → IsSymbolOn layout.stands around.context rule (symbol_name which kind) (items text known named around parts) (operator_node text.source means setting l rule is).form (items_at (text_at flat) (operator_node text.source means setting l rule is).parts (frame ++ more))
  operator-built which l kind (Some rule) parts orders is asked each made can cans fresh =
      let fits = arguments-fit flat text known named means implied faces nameable layout setting seen knows frame more around agrees parts orders is asked each made cans fresh in
      (refl, fits-texts (readable.count parts) (items_at (text_at flat) is (frame ++ more)) (items text known named around parts) (count-orders parts orders cans can (items_at (text_at flat) is (frame ++ more)) fits))
  operator-built which l (LexKind.Sym op) None (Cons x parts) orders is asked each made (free, (meaning, first, plain, same)) cans fresh =
      let fits = arguments-fit flat text known named means implied faces nameable layout setting seen knows frame more around agrees (Cons x parts) orders is asked each made cans fresh in
      subst (λ context. IsPath layout.stands context None (record { name = Symbol (which op); arguments = items text known named around (Cons x parts) } ∷ []) (name_node None (lead_of setting.leads (means l.span.start) []) is).form (items_at (text_at flat) (name_node None (lead_of setting.leads (means l.span.start) []) is).parts (frame ++ more))) (sym agrees.context)
      (symbol-on l (Symbol (which op)) meaning x parts is first (plain.0, subst (λ os. Fits os (items_at (text_at flat) is (frame ++ more)) (items text known named around (Cons x parts))) same fits))
  operator-built which l (LexKind.Sym op) None Nil orders is asked each made can cans fresh = absurd can
  operator-built which l kind None parts orders is asked each made can cans fresh = absurd can

  -- a bare symbol that means something
  bare-on : (l : Lexeme) (op : Op.the_data) (o : Option ℕ) (meaning : Meaning) (count : ℕ) → o ≡ Some count → symbol_places layout.context (LexKind.Sym op) ≡ Some count → is_free op ≡ true → IsMeaning text known named means implied faces layout.context l (Symbol op) meaning → readable.CanStandBare meaning → IsPath layout.stands layout.context (Some count) (record { name = Symbol op; arguments = [] } ∷ []) (name_node o (lead_of setting.leads (means l.span.start) []) []).form (items_at (text_at flat) (name_node o (lead_of setting.leads (means l.span.start) []) []).parts (frame ++ more))
  bare-on l op o meaning count same places free first bare =
      at-meaning (Some count) o l (Symbol op) meaning [] [] [] [] first same
      (path-node text known named around (text_at flat) (frame ++ more) [] (layout.stands meaning) (Some count) (behind_meaning known (Some meaning)) meaning l l.span Nil Nil (knows.orders (Symbol op) meaning first.there) (refl, bare)
      (sym places ∙ ap (λ b. cond b (operator_places (meaning_of layout.context (Symbol op))) (Some (built_in_places op))) free ∙ ap operator_places first.there))

  some-count : (o : Option ℕ) → is_some o ≡ true → (count : ℕ) × (o ≡ Some count)
  some-count None e = cc
  some-count (Some count) e = (count, refl)

  -- the node of a bare symbol with so many places
  abbrev pub symbol-node : Lexeme → Option Rule → Option ℕ → FlatNode
  symbol-node l (Some rule) o = record { form = NodeForm.Symbol rule; places = o; parts = [] }
  symbol-node l None o = name_node o (lead_of setting.leads (means l.span.start) []) []

  pub bare-built : (l : Lexeme) (kind : LexKind.the_data) (rule : Option Rule) (o : Option ℕ) → o ≡ symbol_places layout.context kind → IsReadableBare text known named means implied faces layout.context l kind rule → IsBareSymbol layout.stands around.context rule (symbol_name as_spelled kind) (symbol_places around.context kind) (symbol-node l rule o).form (items_at (text_at flat) (symbol-node l rule o).parts (frame ++ more))
  bare-built l kind (Some rule) o same can = refl
  bare-built l (LexKind.Sym op) None o same (free, (meaning, first, bare), some) =
      let counted = some-count (symbol_places layout.context (LexKind.Sym op)) some in
      subst (λ context. IsBareSymbol layout.stands context None (Some (Symbol op)) (symbol_places context (LexKind.Sym op)) (symbol-node l None o).form (items_at (text_at flat) (symbol-node l None o).parts (frame ++ more))) (sym agrees.context)
      (subst (λ p. IsBareSymbol layout.stands layout.context None (Some (Symbol op)) p (symbol-node l None o).form (items_at (text_at flat) (symbol-node l None o).parts (frame ++ more))) (sym counted.1)
      (bare-on l op o meaning counted.0 (same ∙ counted.1) counted.1 free first bare))
  bare-built l kind None o same can = absurd can

  -- the node of a bare symbol is that
  pub bare-is : (l : Lexeme) (rule : Option Rule) → bare_node text.source means setting l rule ≡ symbol-node l rule (bare_places text.source means l l.kind)
  bare-is l (Some rule) = refl
  bare-is l None = refl

  -- ---- the places of these nodes

  name-has-places : (o places : Option ℕ) (l : Lexeme) (name : Named) (meaning : Meaning) (names : List Named) (is : List ℕ) → IsMeaning text known named means implied faces layout.context l name meaning → places ≡ o → (name_node o (lead_by (layout.stands meaning) names) is).places ≡ o → (name_node places (lead_of setting.leads (means l.span.start) names) is).places ≡ o
  name-has-places o places l name meaning names is known-as same node =
      ap (λ p. (name_node p (lead_of setting.leads (means l.span.start) names) is).places) same
      ∙ ap (λ lead. (name_node o lead is).places) (lead-at l name meaning names known-as)
      ∙ node

  pub identifier-has-places : (s : Span) (parts : Trees) (is : List ℕ) (asked : List Question) → Each flat text known named means implied faces nameable parts → AreOperands text means implied faces flat all_parts setting parts is asked → ((meaning : Meaning) × IsReadableFirst text known named means implied faces layout.context meaning parts × IsReadablePath text known named means implied faces layout.context (Some meaning) (behind_meaning known (Some meaning)) parts) → path_places text.source means parts ≡ places_at text known named layout.context (Node Form.Identifier s parts) → Fresh text seen (whole-names text parts) → (path_node text.source means setting parts is).places ≡ places_at text known named layout.context (Node Form.Identifier s parts)
  identifier-has-places s Nil is asked each made can places fresh = absurd can.1
  identifier-has-places s (Cons (Node (Form.Segment l) at arguments) rest) is asked each made (meaning, first, path) places fresh =
      let parts : Trees = Cons (Node (Form.Segment l) at arguments) rest in
      let held = behind_meaning known (Some meaning) in
      let o = places_at text known named layout.context (Node Form.Identifier s parts) in
      let fits = path-fits flat text known named means implied faces nameable layout setting seen knows frame more around agrees parts (Some meaning) held is asked each made path fresh in
      let here = ap (λ found. cond (is_bare false parts) (operator_places (called_behind text known named (behind_meaning known found) found rest)) None) first.there in
      name-has-places o (path_places text.source means parts) l (name_of text.source l) meaning (path_names text.source rest) is first places
      (path-has-places text known named around (text_at flat) (frame ++ more) is (layout.stands meaning) o held meaning l at arguments rest (knows.orders (name_of text.source l) meaning first.there) fits here)
  identifier-has-places s (Cons (Node form at arguments) rest) is asked each made can places fresh = absurd can.1

  pub operator-has-places : (which : Op.the_data → Op.the_data) (l : Lexeme) (kind : LexKind.the_data) (rule : Option Rule) (parts : Trees) (orders is : List ℕ) (asked : List Question) → Each flat text known named means implied faces nameable parts → AreOperands text means implied faces flat all_parts setting parts is asked → IsOperator text known named means implied faces layout.context l which kind rule parts orders → AreArguments text known named means implied faces layout.context orders parts → Fresh text seen (whole-names text parts) → (operator_node text.source means setting l rule is).places ≡ None
  operator-has-places which l kind (Some rule) parts orders is asked each made can cans fresh = refl
  operator-has-places which l (LexKind.Sym op) None (Cons x parts) orders is asked each made (free, (meaning, first, plain, same)) cans fresh =
      let fits = arguments-fit flat text known named means implied faces nameable layout setting seen knows frame more around agrees (Cons x parts) orders is asked each made cans fresh in
      name-has-places None None l (Symbol (which op)) meaning [] is first refl
      (path-has-places text known named around (text_at flat) (frame ++ more) is (layout.stands meaning) None (behind_meaning known (Some meaning)) meaning l l.span (Cons x parts) Nil (knows.orders (Symbol (which op)) meaning first.there)
      (plain.0, subst (λ os. Fits os (items_at (text_at flat) is (frame ++ more)) (items text known named around (Cons x parts))) same fits) refl)
  operator-has-places which l (LexKind.Sym op) None Nil orders is asked each made can cans fresh = absurd can
  operator-has-places which l kind None parts orders is asked each made can cans fresh = absurd can

  pub bare-has-places : (l : Lexeme) (kind : LexKind.the_data) (rule : Option Rule) (o : Option ℕ) → o ≡ symbol_places layout.context kind → IsReadableBare text known named means implied faces layout.context l kind rule → (symbol-node l rule o).places ≡ o
  bare-has-places l kind (Some rule) o same can = refl
  bare-has-places l (LexKind.Sym op) None o same (free, (meaning, first, bare), some) =
      name-has-places o o l (Symbol op) meaning [] [] first refl
      (path-has-places text known named around (text_at flat) (frame ++ more) [] (layout.stands meaning) o (behind_meaning known (Some meaning)) meaning l l.span Nil Nil (knows.orders (Symbol op) meaning first.there) (refl, bare)
      (same ∙ ap (λ b. cond b (operator_places (meaning_of layout.context (Symbol op))) (Some (built_in_places op))) free ∙ ap operator_places first.there))
  bare-has-places l kind None o same can = absurd can
