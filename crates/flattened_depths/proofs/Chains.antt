-- LET is as deep as its definitions and its body.
use Rattle.std.proofs.Common.{◌≡◌, ℕ, ◌+◌, ◌≤◌, max, Bool, true, false, List, ◌++◌, Option, Some, None, map, refl, sym, ap, ◌∙◌, subst, arith}
use Rattle.tla_symbols.specs.declared.lexeme.Span.{Span}
use Rattle.tla_tree.specs.declared.form.Form.TheVariants as Form
use Rattle.tla_tree.specs.Forms.{helps}
use Rattle.tla_tree.specs.Syntax.{Trees, Node, Nil, Cons}
use Rattle.tla_model.specs.declared.names.Binding.TheVariants as as_binding
use Rattle.tla_model.specs.Tables.{Named}
use Rattle.tla_model.specs.Entities.{Meaning, Text, declared_among, defined, meant, within}
use Rattle.tla_model.specs.Contexts.{Context}
use Rattle.tla_model.specs.Scopes.{binders}
use Rattle.tla_model.specs.Scopes as scopes
use Rattle.module_model.specs.Exports.{Known}
use Rattle.kind_text.specs.FlatModule.{FlatModule, IsOrdered}
use Rattle.level_text.specs.Depth.{depth as depth_at, greatest}
use Rattle.tree_kinds.specs.Standing.{Outside}
use Rattle.tree_kinds.specs.Expanding.{Whole, part_of, places_at}
use Rattle.tree_kinds.specs.TreeDepths.{Depths, behind_depth, chain_depth, deep_chain, deep_names, defined_depth, depth, with_depth}
use Rattle.flat_depths.proofs.Joining.{greatest-joins}
use Rattle.flat_trees.specs.Layouts.{with_stands}
use Rattle.flat_trees.specs.Stands.{Stand}
use Rattle.flattened_trees.specs.Leads.{FlatFace, Lead, Setting, behind}
use Rattle.flattened_trees.specs.Questions.{Question}
use Rattle.flattened_trees.specs.Flattened.{IsChain, IsDefined, IsFlattened}
use Rattle.flattened_trees.specs.Readable.{IsReadable, IsReadableChain, IsReadableDefinition}
use Rattle.flattened_depths.specs.Arranged.{IsArranged, IsArrangedChain, IsArrangedDefinition}
use Rattle.flattened_trees.specs.Answers.{deep_answers}
use Rattle.flattened_depths.specs.Rounds.{LeadsBehind}
use Rattle.flattened_depths.proofs.Counting.{New, and_seen, new-behind, new-fewer, times, times-joins, within-counts}
use Rattle.flattened_depths.proofs.Definitions.{DefinedGood, function-good, operator-good}
use Rattle.flattened_depths.proofs.Facts.{Everywhere, TreeGood, asked-joins, beneath}
use Rattle.flattened_depths.proofs.Instances.{module-good}
use Rattle.flattened_depths.proofs.Rounds.{Round, Usable, behind-round, behind-usable}

module _ (flat : FlatModule) (text : Text) (known : Known) (named : List ℕ → Outside) (means : ℕ → Option Meaning) (implied : ℕ → List Meaning) (faces : List ℕ → FlatFace) (inside : List ℕ → Named → Stand) (ordered : IsOrdered flat) where
  module _ (seen : List Meaning) (stands : Meaning → Stand) (setting : Setting) (depths : Depths) (context : Context) (round : Round text flat known seen stands setting depths) (here : Usable text flat known seen stands context) where
    pub definition-good : (form : Form.the_data) (s : Span) (parts : Trees) (lead : List Named → Lead) (roots : List ℕ) (asked : List Question) → Everywhere flat text known named means implied faces inside parts → New text seen (within (Node form s parts)) → IsArrangedDefinition (LeadsBehind flat text known named faces inside) (Node form s parts) → IsReadableDefinition text known named means implied faces context (Node form s parts) → IsDefined text means implied faces flat setting (Node form s parts) lead roots asked → DefinedGood flat text known named means implied faces inside ordered context depths form s parts lead roots asked
    definition-good (Form.OperatorDefinition l) s parts lead roots asked below new (body, arranged) readable (is, root, d, a, operands, first, there, leads, one, joined) =
        operator-good flat text known named means implied faces inside ordered seen stands setting depths context round here (Form.OperatorDefinition l) s parts below new l refl body arranged readable.2 lead roots asked is root d a operands first there leads one joined
    definition-good (Form.PrefixDefinition l) s parts lead roots asked below new (body, arranged) readable (is, root, d, a, operands, first, there, leads, one, joined) =
        operator-good flat text known named means implied faces inside ordered seen stands setting depths context round here (Form.PrefixDefinition l) s parts below new l refl body arranged readable.2 lead roots asked is root d a operands first there leads one joined
    definition-good (Form.InfixDefinition l) s parts lead roots asked below new (body, arranged) readable (is, root, d, a, operands, first, there, leads, one, joined) =
        operator-good flat text known named means implied faces inside ordered seen stands setting depths context round here (Form.InfixDefinition l) s parts below new l refl body arranged readable.2 lead roots asked is root d a operands first there leads one joined
    definition-good (Form.PostfixDefinition l) s parts lead roots asked below new (body, arranged) readable (is, root, d, a, operands, first, there, leads, one, joined) =
        operator-good flat text known named means implied faces inside ordered seen stands setting depths context round here (Form.PostfixDefinition l) s parts below new l refl body arranged readable.2 lead roots asked is root d a operands first there leads one joined
    definition-good (Form.FunctionDefinition l) s parts lead roots asked below new arranged readable (is, root, d, a, operands, node, there, leads, one, joined) =
        function-good flat text known named means implied faces inside ordered seen stands setting depths context round here l s parts below new arranged readable lead roots asked is root d a operands node there leads one joined
    definition-good (Form.ModuleDefinition l) s parts lead roots asked below new arranged readable through =
        module-good flat text known named means implied faces inside ordered seen stands setting depths context round here l s parts below new arranged readable.1 readable.2 lead roots asked through
    definition-good form s parts lead roots asked below new arranged readable flattened = absurd arranged

  -- nodes are the definitions and the body of a LET
  pub record ChainMatches (context : Context) (depths : Depths) (parts : Trees) (body : Option ℕ) (roots : List ℕ) (asked : List Question) : Type 0 where
    pub node : ℕ
    pub there : body ≡ Some node
    pub deep : max (depth_at flat node) (greatest (depth_at flat) roots) ≡ chain_depth text known named (beneath context depths) parts
    pub names : deep_answers flat asked ≡ deep_chain text known named (beneath context depths) parts

  -- wherever it can be read, a LET is as deep as it is written
  abbrev pub ChainGood : Trees → Type 0
  ChainGood parts =
      (seen : List Meaning) (stands : Meaning → Stand) (setting : Setting) (depths : Depths) (context : Context) (body : Option ℕ) (roots : List ℕ) (asked : List Question)
      → Round text flat known seen stands setting depths → Usable text flat known seen stands context
      → New text seen (declared_among (as_binding.Bound false) parts) → IsArrangedChain (LeadsBehind flat text known named faces inside) parts
      → IsReadableChain text known named means implied faces context parts → IsChain text means implied faces flat setting parts body roots asked
      → ChainMatches context depths parts body roots asked

  turn : (a b c : ℕ) → max a (max b c) ≡ max b (max a c)
  turn a b c = omega arith

  chain-cons : (form : Form.the_data) (s : Span) (parts rest : Trees) → TreeGood flat text known named means implied faces inside (Node form s parts) → Everywhere flat text known named means implied faces inside parts → ChainGood rest → ChainGood (Cons (Node form s parts) rest)
  chain-cons form s parts rest tree below later seen stands setting depths context body roots asked round here new arranged readable (a, b, joined, flattened) =
      by_helps (helps form) arranged.0 readable flattened
    where
      in_front : (m : Meaning) → times text m (declared_among (as_binding.Bound false) (Cons (Node form s parts) rest)) ≡ times text m (within (Node form s parts)) + times text m (declared_among (as_binding.Bound false) rest)
      in_front m = times-joins text m (within (Node form s parts)) (declared_among (as_binding.Bound false) rest)

      first_new : New text seen (within (Node form s parts))
      first_new = new-fewer text (declared_among (as_binding.Bound false) (Cons (Node form s parts) rest)) (within (Node form s parts)) seen (λ m. let e = in_front m in omega (arith, e)) new

      own_few : (m : Meaning) → times text m (defined form parts) ≤ times text m (within (Node form s parts))
      own_few m = let e = within-counts text m form s parts in let j = times-joins text m (defined form parts) (binders form parts) in omega (arith, e, j)

      own_new : New text seen (defined form parts)
      own_new = new-fewer text (within (Node form s parts)) (defined form parts) seen own_few first_new

      later_new : New text (and_seen text (defined form parts) seen) (declared_among (as_binding.Bound false) rest)
      later_new = new-behind text (defined form parts) (declared_among (as_binding.Bound false) (Cons (Node form s parts) rest)) (declared_among (as_binding.Bound false) rest) seen (λ m. let e = in_front m in let f = own_few m in omega (arith, e, f)) new

      behind_one : (lead : List Named → Lead) (first others : List ℕ) → roots ≡ first ++ others → DefinedGood flat text known named means implied faces inside ordered context depths form s parts lead first a → IsChain text means implied faces flat (behind text setting (Node form s parts) lead) rest body others b → IsReadableChain text known named means implied faces (scopes.behind text context (Node form s parts)) rest → ChainMatches context depths (Cons (Node form s parts) rest) body roots asked
      behind_one lead first others split good chain reads =
          let stands_now = with_stands stands (map (meant text) (defined form parts)) good.stand in
          let reached = defined_depth text known named (beneath context depths) (Node form s parts) in
          let match = later (and_seen text (defined form parts) seen) stands_now (behind text setting (Node form s parts) lead) (with_depth depths (map (meant text) (defined form parts)) reached) (scopes.behind text context (Node form s parts)) body others b
          (behind-round text flat known seen stands setting depths form s parts good.stand lead reached round own_new good.leads good.reached good.parameters)
          (behind-usable text flat known seen stands setting depths form s parts good.stand lead reached round own_new context good.takes here)
          later_new arranged.1 reads chain in
          record {
            node = match.node;
            there = match.there;
            deep = ap (λ xs. max (depth_at flat match.node) (greatest (depth_at flat) xs)) split
                ∙ ap (max (depth_at flat match.node)) (greatest-joins (depth_at flat) first others)
                ∙ turn (depth_at flat match.node) (greatest (depth_at flat) first) (greatest (depth_at flat) others)
                ∙ ap (λ n. max n (max (depth_at flat match.node) (greatest (depth_at flat) others))) good.deep
                ∙ ap (max (depth text known named (beneath context depths) (Node form s parts))) match.deep;
            names = ap (deep_answers flat) joined ∙ asked-joins flat a b ∙ ap (λ xs. xs ++ deep_answers flat b) good.names
                ∙ ap (λ xs. deep_names text known named (beneath context depths) (Node form s parts) ++ xs) match.names;
          }

      last_one : (i : ℕ) (after : Option ℕ) → IsArranged (LeadsBehind flat text known named faces inside) (Node form s parts) → IsReadable text known named means implied faces context (Node form s parts) → rest ≡ Nil → IsFlattened text means implied faces flat setting (Node form s parts) i a → IsChain text means implied faces flat setting rest after roots b → body ≡ Some i → ChainMatches context depths (Cons (Node form s parts) rest) body roots asked
      last_one i after kept reads none one chain there =
          let match = tree seen stands setting depths context i a round here first_new kept reads one in
          let empty = subst (λ (xs : Trees). IsChain text means implied faces flat setting xs after roots b) none chain in
          record {
            node = i;
            there = there;
            deep = ap (λ xs. max (depth_at flat i) (greatest (depth_at flat) xs)) empty.1 ∙ ap (λ n. max n 0) match.deep
                ∙ ap (λ xs. max (depth text known named (beneath context depths) (Node form s parts)) (chain_depth text known named (behind_depth text known named (beneath context depths) (Node form s parts) (defined_depth text known named (beneath context depths) (Node form s parts))) xs)) (sym none);
            names = ap (deep_answers flat) joined ∙ asked-joins flat a b ∙ ap (λ xs. xs ++ deep_answers flat b) match.names
                ∙ ap (λ xs. deep_names text known named (beneath context depths) (Node form s parts) ++ deep_answers flat xs) empty.2
                ∙ ap (λ xs. deep_names text known named (beneath context depths) (Node form s parts) ++ deep_chain text known named (behind_depth text known named (beneath context depths) (Node form s parts) (defined_depth text known named (beneath context depths) (Node form s parts))) xs) (sym none);
          }

      by_helps : (t : Bool)
          → (elim t as (λ _. Type 0) [ true ↦ IsArrangedDefinition (LeadsBehind flat text known named faces inside) (Node form s parts) | false ↦ IsArranged (LeadsBehind flat text known named faces inside) (Node form s parts) ])
          → (elim t as (λ _. Type 0) [
            | true ↦ IsReadableDefinition text known named means implied faces context (Node form s parts) × IsReadableChain text known named means implied faces (scopes.behind text context (Node form s parts)) rest
            | false ↦ (part_of form ≡ Whole) × (places_at text known named context (Node form s parts) ≡ None) × IsReadable text known named means implied faces context (Node form s parts) × (rest ≡ Nil)
          ])
          → (elim t as (λ _. Type 0) [
            | true ↦ (lead : List Named → Lead) × (first others : List ℕ) × IsDefined text means implied faces flat setting (Node form s parts) lead first a
                × IsChain text means implied faces flat (behind text setting (Node form s parts) lead) rest body others b × (roots ≡ first ++ others)
            | false ↦ (i : ℕ) × (after : Option ℕ) × IsFlattened text means implied faces flat setting (Node form s parts) i a × IsChain text means implied faces flat setting rest after roots b × (body ≡ Some i)
          ])
          → ChainMatches context depths (Cons (Node form s parts) rest) body roots asked
      by_helps true kept (reads, reads_on) (lead, first, others, one, chain, split) =
          behind_one lead first others split (definition-good seen stands setting depths context round here form s parts lead first a below first_new kept reads one) chain reads_on
      by_helps false kept (whole, places, reads, none) (i, after, one, chain, there) = last_one i after kept reads none one chain there

  pub chain-good : (parts : Trees) → Everywhere flat text known named means implied faces inside parts → ChainGood parts
  chain-good Nil below = λ seen stands setting depths context body roots asked round here new arranged readable flattened. absurd readable
  chain-good (Cons (Node form s parts) rest) (tree, below, later) = chain-cons form s parts rest tree below (chain-good rest later)
