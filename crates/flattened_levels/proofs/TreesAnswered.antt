-- The questions of LET, and so of all trees, are answered.
use Rattle.std.proofs.Common.{◌≡◌, ℕ, Bool, true, false, List, ◌++◌, Option, Some, refl, ap}
use Rattle.tla_symbols.specs.declared.lexeme.Lexeme.{Lexeme}
use Rattle.tla_symbols.specs.declared.lexeme.Span.{Span}
use Rattle.tla_tree.specs.declared.form.Form.TheVariants as Form
use Rattle.tla_tree.specs.Forms.{helps}
use Rattle.tla_tree.specs.Syntax.{Tree, Trees, Node, Nil, Cons}
use Rattle.tla_model.specs.declared.names.Binding.TheVariants as as_binding
use Rattle.tla_model.specs.Tables.{Named}
use Rattle.tla_model.specs.Entities.{Meaning, Text, declared_among, defined}
use Rattle.module_model.specs.Exports.{Known, behind_meaning}
use Rattle.kind_text.specs.FlatModule.{FlatModule, IsOrdered}
use Rattle.tree_kinds.specs.Standing.{Outside}
use Rattle.tree_kinds.specs.Expanding.{Around, behind_tree, defined_value}
use Rattle.tree_kinds.specs.TreeLevels.{kind_at, levels, levels_chain}
use Rattle.flat_trees.specs.Layouts.{Layout, layout_behind}
use Rattle.flat_trees.proofs.Agreeing.{behind-agrees}
use Rattle.flattened_trees.specs.Leads.{FlatFace, Lead, Setting, behind}
use Rattle.flattened_trees.specs.Questions.{Question}
use Rattle.flattened_trees.specs.Flattened.{AreRights, IsChain, IsDefined, IsFlattened, IsInstance, Right}
use Rattle.flattened_trees.specs.Readable.{IsReadable, IsReadableChain, IsReadableDefinition, IsReadableThrough}
use Rattle.flattened_trees.specs.Agreeing.{TakesAs}
use Rattle.flattened_trees.specs.Answers.{items_of, kind_in, level_answers}
use Rattle.flattened_meanings.specs.Faces.{NameModules, NamesModules}
use Rattle.flattened_meanings.specs.Rounds.{IsKnownRound}
use Rattle.flattened_meanings.proofs.Fresh.{Fresh, IsOneOf, seen-with}
use Rattle.flattened_meanings.proofs.Rounds.{behind-known}
use Rattle.flattened_meanings.proofs.Behind.{all-one, fresh-round, known-round, seen-round}
use Rattle.flattened_meanings.proofs.Forms.{wholes-fresh}
use Rattle.flattened_meanings.proofs.Meant.{IsLinkRead, IsLinkedBy, definition-for, each-kept, first-fresh, own-fresh, parts-fresh, rest-fresh}
use Rattle.flattened_levels.specs.Shapes.{AreShapedRights, IsShaped, IsShapedChain, IsShapedDefinition}
use Rattle.flattened_levels.specs.Asked.{IsAskedRound}
use Rattle.flattened_levels.proofs.NodeKinds.{Round, kind-same}
use Rattle.flattened_levels.proofs.AtNode.{answers-parted}
use Rattle.flattened_levels.proofs.Operands.{EachAnswered, IsAnswered}
use Rattle.flattened_levels.proofs.FormsAnswered.{form-answered}
use Rattle.flattened_levels.proofs.UpdatesAnswered.{except-answered}
use Rattle.flattened_levels.proofs.DefinitionsAnswered.{definition-answered}
use Rattle.flattened_levels.proofs.RightsAnswered.{instance-answered}

module _ (flat : FlatModule) (text : Text) (known : Known) (named : List ℕ → Outside) (means : ℕ → Option Meaning) (implied : ℕ → List Meaning) (faces : List ℕ → FlatFace) (nameable : List ℕ → Bool) (ordered : IsOrdered flat) where
  -- the first of a chain is shaped, by whether it is a definition
  abbrev IsShapedLink : Form.the_data → Span → Trees → Bool → Type 0
  IsShapedLink form s parts help = elim help [ true ↦ IsShapedDefinition (Node form s parts) | false ↦ IsShaped (Node form s parts) ]

  pub chain-answered : (parts : Trees) (layout : Layout) (setting : Setting) (seen : Meaning → Bool) (body : Option ℕ) (roots : List ℕ) (asked : List Question) (around : Around) → EachAnswered flat text known named means implied faces nameable parts → NameModules text.source nameable parts → Round flat text known named means implied faces nameable layout setting seen around → IsChain text means implied faces flat setting parts body roots asked → IsReadableChain text known named means implied faces layout.context parts → IsShapedChain parts → Fresh text seen (declared_among as_binding.Constant parts) → level_answers flat asked ≡ levels_chain text known named around parts
  chain-answered Nil layout setting seen body roots asked around each names round made can shaped fresh = absurd can
  chain-answered (Cons (Node form s parts) rest) layout setting seen body roots asked around each names round (a, b, asks, made) can shaped fresh =
      by_help (helps form) refl made can shaped.0
      (λ next then before others bs after round-on made-on can-on fresh-on. chain-answered rest next then before body others bs after each.2 names.1 round-on made-on can-on shaped.1 fresh-on)
    where
      by_help : (help : Bool) → helps form ≡ help → IsLinkedBy flat text known named means implied faces nameable ordered setting form s parts rest body roots a b help → IsLinkRead flat text known named means implied faces nameable ordered layout form s parts rest help → IsShapedLink form s parts help → ((next : Layout) (then : Setting) (before : Meaning → Bool) (others : List ℕ) (bs : List Question) (after : Around) → Round flat text known named means implied faces nameable next then before after → IsChain text means implied faces flat then rest body others bs → IsReadableChain text known named means implied faces next.context rest → Fresh text before (declared_among as_binding.Constant rest) → level_answers flat bs ≡ levels_chain text known named after rest) → level_answers flat asked ≡ levels_chain text known named around (Cons (Node form s parts) rest)
      by_help true e (lead, first, others, is, chain, joined) (can-here, can-rest) shaped-here again =
          let x : Tree = Node form s parts in
          let new = first-fresh text seen x rest fresh in
          let each-meant = each-kept flat text known named means implied faces nameable ordered parts names.0.1 in
          let found = definition-for flat text known named means implied faces nameable ordered layout setting seen round.knows form s parts lead first a each-meant is can-here new in
          let takes = λ (m : Meaning) (one : IsOneOf text (defined form parts) m). all-one text (λ n. TakesAs found.stand (behind_meaning known (Some n)) n) (defined form parts) m found.takes one in
          let round-behind : Round flat text known named means implied faces nameable (layout_behind text layout x found.stand) (behind text setting x lead) (seen-with text (defined form parts) seen) (behind_tree text known named around x) = record {
            knows = behind-known flat text known named faces nameable layout setting seen round.knows form s parts found.stand lead (own-fresh text seen form s parts new) found.leads takes;
            asked = record {
              frame = behind-agrees flat text known named layout (items_of setting.frame) around round.asked.frame x found.stand (defined_value text known named around x) (found.stands (items_of setting.frame) around round.asked.frame);
              olds = round.asked.olds;
            };
          } in
          answers-parted flat asked a b _ _ asks
          (definition-answered flat text known named means implied faces nameable ordered layout setting seen around round form s parts lead first a each.1 names.0.1 is can-here shaped-here new)
          (again (layout_behind text layout x found.stand) (behind text setting x lead) (seen-with text (defined form parts) seen) others b (behind_tree text known named around x) round-behind chain can-rest (rest-fresh text seen form s parts rest fresh))
      by_help false e (i, after, is, chain, body-is) (whole, plain, can-here, last) shaped-here again =
          answers-parted flat asked a b _ _ asks
          (each.0 layout setting seen i a around round is can-here shaped-here (first-fresh text seen (Node form s parts) rest fresh))
          (no-more rest last chain)
        where
          no-more : (ps : Trees) → ps ≡ Nil → IsChain text means implied faces flat setting ps after roots b → level_answers flat b ≡ levels_chain text known named (behind_tree text known named around (Node form s parts)) ps
          no-more Nil e chain = ap (level_answers flat) chain.2
          no-more (Cons y ys) e chain = cc

  -- ---- all forms

  node-answered : (form : Form.the_data) (s : Span) (parts : Trees) → EachAnswered flat text known named means implied faces nameable parts → NamesModules text.source nameable (Node form s parts) → IsAnswered flat text known named means implied faces nameable (Node form s parts)
  node-answered Form.Let s parts each names layout setting seen i asked around round (body, roots, chain, there) can shaped fresh =
      chain-answered parts layout setting seen body roots asked around each names.1 round chain can shaped (parts-fresh text seen Form.Let s parts fresh)
  node-answered Form.Except s Nil each names layout setting seen i asked around round made can shaped fresh = absurd can
  node-answered Form.Except s (Cons (Node form at parts) updates) each names layout setting seen i asked around round made can shaped fresh =
      except-answered flat text known named means implied faces nameable ordered s at form parts updates layout setting seen i asked around each names round made can shaped fresh
  node-answered (Form.Instance l) s parts each names layout setting seen i asked around round made can shaped fresh = absurd (let never : false ≡ true = can.0 in cc)
  node-answered form s parts each names layout setting seen i asked around round made can shaped fresh =
      form-answered flat text known named means implied faces nameable ordered layout setting seen around round form s parts i asked tt each names made can shaped fresh

  pub each-answered : (parts : Trees) → NameModules text.source nameable parts → EachAnswered flat text known named means implied faces nameable parts
  each-answered Nil names = tt
  each-answered (Cons (Node form s parts) rest) names =
      let inner = each-answered parts names.0.1 in
      (node-answered form s parts inner names.0, inner, each-answered rest names.1)

  pub tree-answered : (x : Tree) → NamesModules text.source nameable x → IsAnswered flat text known named means implied faces nameable x
  tree-answered (Node form s parts) names = node-answered form s parts (each-answered parts names.1) names

  -- ---- by what is known round a tree

  module _ (layout : Layout) (setting : Setting) (seen : List Meaning) (around : Around) (x : Tree) (round : IsKnownRound flat text known named faces nameable layout setting seen x) (asked-round : IsAskedRound flat layout setting around) where
    -- all names were seen but those of the tree
    abbrev before : Meaning → Bool
    before = seen-round flat text known named faces nameable layout setting seen x round

    round-all : Round flat text known named means implied faces nameable layout setting before around
    round-all = record { knows = known-round flat text known named faces nameable layout setting seen x round; asked = asked-round }

    pub tree-kind : (i : ℕ) (asked : List Question) → IsReadable text known named means implied faces layout.context x → IsFlattened text means implied faces flat setting x i asked → kind_in flat setting.frame i ≡ kind_at text known named around x
    tree-kind i asked can made =
        kind-same flat text known named means implied faces nameable ordered layout setting before around round-all x i asked round.instances made can (fresh-round flat text known named faces nameable layout setting seen x round)

    pub tree-levels : (i : ℕ) (asked : List Question) → IsReadable text known named means implied faces layout.context x → IsShaped x → IsFlattened text means implied faces flat setting x i asked → level_answers flat asked ≡ levels text known named around x
    tree-levels i asked can shaped made =
        tree-answered x round.instances layout setting before i asked around round-all made can shaped (fresh-round flat text known named faces nameable layout setting seen x round)

  pub definition-levels : (layout : Layout) (setting : Setting) (seen : List Meaning) (around : Around) (x : Tree) (lead : List Named → Lead) (roots : List ℕ) (asked : List Question) → IsKnownRound flat text known named faces nameable layout setting seen x → IsAskedRound flat layout setting around → IsReadableDefinition text known named means implied faces layout.context x → IsShapedDefinition x → IsDefined text means implied faces flat setting x lead roots asked → level_answers flat asked ≡ levels text known named around x
  definition-levels layout setting seen around (Node form s parts) lead roots asked round asked-round can shaped made =
      let x : Tree = Node form s parts in
      definition-answered flat text known named means implied faces nameable ordered layout setting (before layout setting seen around x round asked-round) around (round-all layout setting seen around x round asked-round)
      form s parts lead roots asked (each-answered parts round.instances.1) round.instances.1 made can shaped (fresh-round flat text known named faces nameable layout setting seen x round)

  pub instance-levels : (layout : Layout) (setting : Setting) (seen : List Meaning) (around : Around) (l : Lexeme) (at : Span) (rights : Trees) (outer count : ℕ) (guards : Bool) (written : List Right) (roots : List ℕ) (j : ℕ) (asked more : List Question) → IsKnownRound flat text known named faces nameable layout setting seen (Node (Form.Instance l) at rights) → IsAskedRound flat layout setting around → IsReadableThrough text known named means implied faces layout.context (Cons (Node (Form.Instance l) at rights) Nil) → AreShapedRights rights → AreRights text means implied faces flat setting l rights written roots asked → IsInstance text means implied faces flat setting outer count guards l written j more → level_answers flat (asked ++ more) ≡ levels text known named around (Node (Form.Instance l) at rights)
  instance-levels layout setting seen around l at rights outer count guards written roots j asked more round asked-round can shaped are is =
      let x : Tree = Node (Form.Instance l) at rights in
      instance-answered flat text known named means implied faces nameable ordered layout setting (before layout setting seen around x round asked-round) around (round-all layout setting seen around x round asked-round)
      l at rights outer count guards written roots j asked more round.instances.0 (each-answered rights round.instances.1) round.instances.1 are is can.0 can.1 can.2 shaped
      (wholes-fresh text (before layout setting seen around x round asked-round) (Form.Instance l) at rights (fresh-round flat text known named faces nameable layout setting seen x round))
