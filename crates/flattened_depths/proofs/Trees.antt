-- Nodes are the trees that they are flattened from.
use Rattle.std.proofs.Common.{◌≡◌, ℕ, max, Bool, true, false, List, [], ◌∷◌, ◌++◌, Option, Some, None, refl, sym, ap, ◌∙◌, subst, append_assoc, append-nil, arith}
use Rattle.std.specs.Prelude.{is_some}
use Rattle.tla_symbols.specs.declared.lexeme.Span.{Span}
use Rattle.tla_symbols.specs.declared.level.Rule.{Rule}
use Rattle.tla_symbols.specs.declared.level.Rule.TheVariants.{Plain}
use Rattle.tla_symbols.specs.declared.place.Fix.TheVariants.{Prefix, Infix, Postfix}
use Rattle.tla_tree.specs.declared.form.Form.TheVariants as Form
use Rattle.tla_tree.specs.Forms.{helps}
use Rattle.tla_tree.specs.Syntax.{Tree, Trees, Node, Nil, Cons}
use Rattle.tla_model.specs.declared.names.Binding.TheVariants as as_binding
use Rattle.tla_model.specs.Tables.{Named}
use Rattle.tla_model.specs.Entities.{Meaning, Nothing, Text, binding_of, defined, defines, within}
use Rattle.tla_model.specs.Contexts.{Context}
use Rattle.tla_model.specs.Scopes.{binders, prefixed, reserved, scope, itself as as_spelled}
use Rattle.module_model.specs.Exports.{Known}
use Rattle.kind_text.specs.FlatModule.{FlatModule, Form as NodeForm, IsOrdered, Node as FlatNode, places_of}
use Rattle.level_text.specs.Depth.{depth as depth_at, form_depth, greatest}
use Rattle.level_text.specs.FormRules.{form_rule, symbol_rule}
use Rattle.level_text.proofs.Depths.{depth-step}
use Rattle.tree_kinds.specs.Standing.{Outside}
use Rattle.tree_kinds.specs.Expanding.{places_at}
use Rattle.tree_kinds.specs.TreeDepths as written
use Rattle.tree_kinds.specs.TreeDepths.{Depths, deep_names, deep_parts, depth, parts_depth}
use Rattle.flat_trees.specs.Stands.{Stand}
use Rattle.flat_depths.proofs.Joining.{greatest-joins}
use Rattle.flat_depths.proofs.Nodes.{infix-none, postfix-none, prefix-none, top}
use Rattle.flattened_trees.specs.Leads.{FlatFace, Setting}
use Rattle.flattened_trees.specs.NodeForms.{constant_node, rule_order, inside_node, last_first, let_node, plain_node, ruled_node}
use Rattle.flattened_trees.specs.Questions.{Question, asks_at, over}
use Rattle.flattened_trees.specs.Flattened.{AreOperands, AreUpdates, HasNode, IsFlattened, all_parts}
use Rattle.flattened_trees.specs.Readable.{AreReadable, AreUpdatesWritten, IsReadable}
use Rattle.flattened_depths.specs.Arranged.{AreArranged, BindsNothing}
use Rattle.flattened_trees.specs.Answers.{deep_answers}
use Rattle.flattened_depths.specs.Rounds.{LeadsBehind}
use Rattle.flattened_depths.proofs.Arguments.{arguments-good, arranged-whole, segments-good, updates-good, whole-new}
use Rattle.flattened_depths.proofs.Chains.{ChainMatches, chain-good}
use Rattle.flattened_depths.proofs.Counting.{New, and_seen, inner_names, new-fewer, plain-whole, within-counts}
use Rattle.flattened_depths.proofs.Definitions.{inner-new, own-new}
use Rattle.flattened_depths.proofs.Facts.{Everywhere, PartsMatch, TreeGood, TreeMatches, beneath, unbound-depth, unbound-names}
use Rattle.flattened_depths.proofs.Leaves.{bare-matches, form-names, identifier-matches, operator-matches}
use Rattle.flattened_depths.proofs.Operands.{operands-good, parts-join, rest-new, whole-part}
use Rattle.flattened_depths.proofs.Rounds.{Round, Usable, more-round, more-usable, reserved-usable, scope-usable}

-- ---- operands in another order

swapped : (a b : ℕ) → max a (max b 0) ≡ max b (max a 0)
swapped a b = omega arith

ordered-same : (f : ℕ → ℕ) (form : Form.the_data) (is : List ℕ) → greatest f (rule_order form is) ≡ greatest f is
ordered-same f (Form.Fairness l) [] = refl
ordered-same f (Form.Fairness l) (i ∷ []) = refl
ordered-same f (Form.Fairness l) (i ∷ j ∷ []) = swapped (f j) (f i)
ordered-same f (Form.Fairness l) (i ∷ j ∷ k ∷ is) = refl
ordered-same f form is = refl

last-same : (f : ℕ → ℕ) (before is : List ℕ) → greatest f (last_first before is) ≡ greatest f (before ++ is)
last-same f before [] = ap (greatest f) (sym (append-nil before))
last-same f before (i ∷ []) = turned (f i) (greatest f before) ∙ sym (greatest-joins f before (i ∷ []))
  where
    turned : (a b : ℕ) → max a b ≡ max b (max a 0)
    turned a b = omega arith
last-same f before (i ∷ j ∷ is) = last-same f (before ++ i ∷ []) (j ∷ is) ∙ ap (greatest f) (append_assoc before (i ∷ []) (j ∷ is))

-- a form with a rule that defines nothing binds names for its parts alone
binds-bound : (form : Form.the_data) → is_some (form_rule form) ≡ true → defines form ≡ Nothing → (state : Bool) × (binding_of form ≡ as_binding.Bound state)
binds-bound (Form.OperatorDefinition l) some none = cc
binds-bound (Form.PrefixDefinition l) some none = cc
binds-bound (Form.InfixDefinition l) some none = cc
binds-bound (Form.PostfixDefinition l) some none = cc
binds-bound (Form.ModuleDefinition l) some none = cc
binds-bound Form.Lambda some none = cc
binds-bound (Form.TemporalQuantifier l) some none = (true, refl)
binds-bound form some none = (false, refl)

module _ (flat : FlatModule) (text : Text) (known : Known) (named : List ℕ → Outside) (means : ℕ → Option Meaning) (implied : ℕ → List Meaning) (faces : List ℕ → FlatFace) (inside : List ℕ → Named → Stand) (ordered : IsOrdered flat) where
  module _ (seen : List Meaning) (stands : Meaning → Stand) (setting : Setting) (depths : Depths) (context : Context) (round : Round text flat known seen stands setting depths) (here : Usable text flat known seen stands context) where
    -- a node over parts in the scope of a form
    scoped : (state : Bool) (form : Form.the_data) (s : Span) (parts : Trees) (is : List ℕ) (a : List Question) → Everywhere flat text known named means implied faces inside parts → binding_of form ≡ as_binding.Bound state → New text seen (within (Node form s parts)) → AreArranged (LeadsBehind flat text known named faces inside) false parts → AreReadable text known named means implied faces (reserved text context form parts) (scope text context form parts) parts → AreOperands text means implied faces flat all_parts setting parts is a → PartsMatch flat text known named means implied faces inside (reserved text context form parts) (scope text context form parts) depths parts is a
    scoped state form s parts is a below bound new arranged readable operands =
        let fresh = own-new flat text known named means implied faces inside ordered seen form s parts new in
        operands-good flat text known named means implied faces inside (and_seen text (defined form parts ++ binders form parts) seen) stands setting depths
        (more-round text flat known (defined form parts ++ binders form parts) seen stands setting depths round) parts below
        (reserved text context form parts) (scope text context form parts) false is a
        (more-usable text flat known (defined form parts ++ binders form parts) seen stands (reserved text context form parts) (reserved-usable text flat known seen stands context form parts here))
        (scope-usable text flat known seen stands setting depths context state form parts bound round here fresh)
        (λ never. cc never) (inner-new flat text known named means implied faces inside ordered seen form s parts new) arranged readable operands

    -- the names in the expressions of a form are new
    fewer-new : (form : Form.the_data) (s : Span) (parts : Trees) → New text seen (within (Node form s parts)) → New text seen (inner_names text parts)
    fewer-new form s parts new = new-fewer text (within (Node form s parts)) (inner_names text parts) seen (λ m. let e = within-counts text m form s parts in omega (arith, e)) new

    -- a node that is as deep as its parts
    over-parts : (form : Form.the_data) (s : Span) (parts : Trees) (i : ℕ) (asked a : List Question) (node : FlatNode) (is : List ℕ) → HasNode flat i node → node.places ≡ None → form_depth flat (depth_at flat) node.form node.parts ≡ greatest (depth_at flat) is
        → defines form ≡ Nothing → asked ≡ over setting.frame (asks_at i form s parts) ++ a
        → depth text known named (beneath context depths) (Node form s parts) ≡ max 0 (parts_depth text known named (beneath (reserved text context form parts) depths) (beneath (scope text context form parts) depths) parts)
        → places_at text known named context (Node form s parts) ≡ None
        → deep_names text known named (beneath context depths) (Node form s parts) ≡ written.deep_name text known named (beneath context depths) (Node form s parts) ++ deep_parts text known named (beneath (reserved text context form parts) depths) (beneath (scope text context form parts) depths) parts
        → PartsMatch flat text known named means implied faces inside (reserved text context form parts) (scope text context form parts) depths parts is a
        → TreeMatches flat text known named means implied faces inside context depths (Node form s parts) i asked
    over-parts form s parts i asked a node is there bare deep none joined opens bare_not names_open match =
        record {
          deep = depth-step flat i node ordered there ∙ deep ∙ top match.deep ∙ sym opens;
          places = ap places_of there ∙ bare ∙ sym bare_not;
          names = form-names flat text known named means implied faces inside ordered context depths setting i form s parts asked a none joined names_open match.names;
        }

    ruled-bare : (rule : Option Rule) (is : List ℕ) → (ruled_node rule is).places ≡ None
    ruled-bare None is = refl
    ruled-bare (Some rule) is = refl

    ruled-deep : (rule : Option Rule) (is : List ℕ) → is_some rule ≡ true → form_depth flat (depth_at flat) (ruled_node rule is).form (ruled_node rule is).parts ≡ greatest (depth_at flat) is
    ruled-deep None is some = cc
    ruled-deep (Some rule) is some = refl

    -- a form with a rule
    ruled : (form : Form.the_data) (s : Span) (parts : Trees) (i : ℕ) (asked a : List Question) (is : List ℕ) → Everywhere flat text known named means implied faces inside parts → New text seen (within (Node form s parts)) → (defines form ≡ Nothing) × AreArranged (LeadsBehind flat text known named faces inside) false parts
        → (is_some (form_rule form) ≡ true) × AreReadable text known named means implied faces (reserved text context form parts) (scope text context form parts) parts
        → AreOperands text means implied faces flat all_parts setting parts is a → HasNode flat i (ruled_node (form_rule form) (rule_order form is)) → asked ≡ over setting.frame (asks_at i form s parts) ++ a
        → depth text known named (beneath context depths) (Node form s parts) ≡ max 0 (parts_depth text known named (beneath (reserved text context form parts) depths) (beneath (scope text context form parts) depths) parts)
        → places_at text known named context (Node form s parts) ≡ None
        → deep_names text known named (beneath context depths) (Node form s parts) ≡ written.deep_name text known named (beneath context depths) (Node form s parts) ++ deep_parts text known named (beneath (reserved text context form parts) depths) (beneath (scope text context form parts) depths) parts
        → TreeMatches flat text known named means implied faces inside context depths (Node form s parts) i asked
    ruled form s parts i asked a is below new (none, arranged) (some, readable) operands there joined opens bare_not names_open =
        let bound = binds-bound form some none in
        over-parts form s parts i asked a (ruled_node (form_rule form) (rule_order form is)) is there (ruled-bare (form_rule form) (rule_order form is))
        (ruled-deep (form_rule form) (rule_order form is) some ∙ ordered-same (depth_at flat) form is) none joined opens bare_not names_open
        (scoped bound.0 form s parts is a below bound.1 new arranged readable operands)

    -- parts that are in the context of the form, which binds nothing
    unbound-match : (form : Form.the_data) (parts : Trees) (is : List ℕ) (a : List Question) → BindsNothing form parts → PartsMatch flat text known named means implied faces inside context context depths parts is a → PartsMatch flat text known named means implied faces inside (reserved text context form parts) (scope text context form parts) depths parts is a
    unbound-match form parts is a none match =
        record {
          deep = match.deep ∙ sym (unbound-depth flat text known named means implied faces inside context depths form parts none);
          names = match.names ∙ sym (unbound-names flat text known named means implied faces inside context depths form parts none);
        }

    inside-bare : (is : List ℕ) → (inside_node is).places ≡ None
    inside-bare [] = refl
    inside-bare (i ∷ is) = refl

    inside-deep : (is : List ℕ) → form_depth flat (depth_at flat) (inside_node is).form (inside_node is).parts ≡ greatest (depth_at flat) is
    inside-deep [] = refl
    inside-deep (i ∷ is) = refl

    -- a leaf without parts
    leaf : (form : Form.the_data) (s : Span) (i : ℕ) (asked a : List Question) (is : List ℕ) (node : FlatNode) → HasNode flat i node → node.places ≡ None → form_depth flat (depth_at flat) node.form node.parts ≡ 0 → (is ≡ []) × (a ≡ [])
        → defines form ≡ Nothing → asked ≡ over setting.frame (asks_at i form s Nil) ++ a
        → depth text known named (beneath context depths) (Node form s Nil) ≡ 0 → places_at text known named context (Node form s Nil) ≡ None
        → deep_names text known named (beneath context depths) (Node form s Nil) ≡ written.deep_name text known named (beneath context depths) (Node form s Nil) ++ []
        → TreeMatches flat text known named means implied faces inside context depths (Node form s Nil) i asked
    leaf form s i asked a is node there bare deep operands none joined opens bare_not names_open =
        record {
          deep = depth-step flat i node ordered there ∙ deep ∙ sym opens;
          places = ap places_of there ∙ bare ∙ sym bare_not;
          names = form-names flat text known named means implied faces inside ordered context depths setting i form s Nil asked a none joined names_open (ap (deep_answers flat) operands.1);
        }

    -- the body of a LET, and what stands in its definitions
    let-matches : (s : Span) (parts : Trees) (i : ℕ) (asked : List Question) (body : Option ℕ) (roots : List ℕ) → HasNode flat i (let_node body roots) → ChainMatches flat text known named means implied faces inside ordered context depths parts body roots asked → TreeMatches flat text known named means implied faces inside context depths (Node Form.Let s parts) i asked
    let-matches s parts i asked body roots there match =
        let node : HasNode flat i (let_node (Some match.node) roots) = subst (λ o. HasNode flat i (let_node o roots)) match.there there in
        record {
          deep = depth-step flat i (let_node (Some match.node) roots) ordered node ∙ match.deep;
          places = ap places_of node;
          names = match.names;
        }

    -- EXCEPT
    except-matches : (s : Span) (form : Form.the_data) (at : Span) (parts updates : Trees) (i f : ℕ) (is : List ℕ) (asked a b : List Question) → TreeGood flat text known named means implied faces inside (Node form at parts) → Everywhere flat text known named means implied faces inside updates
        → New text seen (within (Node Form.Except s (Cons (Node form at parts) updates))) → BindsNothing Form.Except (Cons (Node form at parts) updates) → AreArranged (LeadsBehind flat text known named faces inside) false (Cons (Node form at parts) updates)
        → helps form ≡ false → IsReadable text known named means implied faces context (Node form at parts) → AreUpdatesWritten updates → AreReadable text known named means implied faces context context updates
        → IsFlattened text means implied faces flat setting (Node form at parts) f a → AreUpdates text means implied faces flat setting f updates is b
        → HasNode flat i (plain_node (NodeForm.Operation Plain) (f ∷ is)) → asked ≡ over setting.frame (asks_at i Form.Except s (Cons (Node form at parts) updates)) ++ (a ++ b)
        → TreeMatches flat text known named means implied faces inside context depths (Node Form.Except s (Cons (Node form at parts) updates)) i asked
    except-matches s form at parts updates i f is asked a b tree later new none arranged plain readable updated reads function changes there joined =
        let whole = plain-whole form plain in
        let inner = fewer-new Form.Except s (Cons (Node form at parts) updates) new in
        let first = whole-part flat text known named means implied faces inside seen stands setting depths round context context form at parts f (f ∷ []) a tree whole refl here
        (whole-new flat text known named means implied faces inside seen form at parts updates whole inner) (arranged-whole flat text known named means implied faces inside false form at parts updates whole arranged) readable function in
        let others = updates-good flat text known named means implied faces inside seen stands setting depths round context here f updates later false is b
        (rest-new flat text known named means implied faces inside seen form at parts updates inner) arranged.1 reads updated changes in
        over-parts Form.Except s (Cons (Node form at parts) updates) i asked (a ++ b) (plain_node (NodeForm.Operation Plain) (f ∷ is)) (f ∷ is) there refl refl refl joined refl refl refl
        (unbound-match Form.Except (Cons (Node form at parts) updates) (f ∷ is) (a ++ b) none
        (parts-join flat text known named means implied faces inside context context depths form at parts updates (f ∷ is) (f ∷ []) is (a ++ b) a b refl refl first others))

  except-good : (s : Span) (parts : Trees) → Everywhere flat text known named means implied faces inside parts → TreeGood flat text known named means implied faces inside (Node Form.Except s parts)
  except-good s Nil below seen stands setting depths context i asked round here new arranged readable flattened = absurd readable
  except-good s (Cons (Node form at parts) updates) (tree, inner, later) seen stands setting depths context i asked round here new arranged (plain, places, readable, updated, reads) (f, is, a, b, function, changes, there, joined) =
      except-matches seen stands setting depths context round here s form at parts updates i f is asked a b tree later new arranged.0 arranged.1 plain readable updated reads function changes there joined

  let-good : (s : Span) (parts : Trees) → Everywhere flat text known named means implied faces inside parts → TreeGood flat text known named means implied faces inside (Node Form.Let s parts)
  let-good s parts below seen stands setting depths context i asked round here new arranged readable (body, roots, chain, there) =
      let-matches seen stands setting depths context round here s parts i asked body roots there
      (chain-good flat text known named means implied faces inside ordered parts below seen stands setting depths context body roots asked round here new arranged readable chain)

  tree-good : (form : Form.the_data) (s : Span) (parts : Trees) → Everywhere flat text known named means implied faces inside parts → TreeGood flat text known named means implied faces inside (Node form s parts)
  tree-good Form.Identifier s parts below seen stands setting depths context i asked round here new arranged readable flattened =
      identifier-matches flat text known named means implied faces inside ordered seen stands setting depths context s parts i asked round here arranged.0
      (segments-good flat text known named means implied faces inside seen stands setting depths round context here parts below false (fewer-new seen stands setting depths context round here Form.Identifier s parts new) arranged.1) readable flattened
  tree-good (Form.Number l) s Nil below seen stands setting depths context i asked round here new arranged readable (is, a, operands, there, joined) =
      leaf seen stands setting depths context round here (Form.Number l) s i asked a is constant_node there refl refl operands refl joined refl refl refl
  tree-good (Form.Number l) s (Cons x rest) below seen stands setting depths context i asked round here new arranged readable flattened = cc readable
  tree-good (Form.Text l) s Nil below seen stands setting depths context i asked round here new arranged readable (is, a, operands, there, joined) =
      leaf seen stands setting depths context round here (Form.Text l) s i asked a is constant_node there refl refl operands refl joined refl refl refl
  tree-good (Form.Text l) s (Cons x rest) below seen stands setting depths context i asked round here new arranged readable flattened = cc readable
  tree-good (Form.At l) s Nil below seen stands setting depths context i asked round here new arranged readable (is, a, operands, there, joined) =
      leaf seen stands setting depths context round here (Form.At l) s i asked a is (plain_node NodeForm.Old setting.olds) there refl refl operands refl joined refl refl refl
  tree-good (Form.At l) s (Cons x rest) below seen stands setting depths context i asked round here new arranged readable flattened = cc readable
  tree-good (Form.Symbol l) s parts below seen stands setting depths context i asked round here new arranged readable flattened =
      bare-matches flat text known named means implied faces inside ordered seen stands setting depths context round here l s parts i asked readable flattened
  tree-good (Form.Prefix l) s parts below seen stands setting depths context i asked round here new arranged (orders, operator, arguments) (is, a, operands, there, joined) =
      operator-matches flat text known named means implied faces inside ordered seen stands setting depths context round here (Form.Prefix l) l prefixed (symbol_rule Prefix l.kind) s parts orders is i asked a refl arranged.0
      (prefix-none (beneath context depths) l.kind) operator arguments
      (arguments-good flat text known named means implied faces inside seen stands setting depths round context here parts below false (fewer-new seen stands setting depths context round here (Form.Prefix l) s parts new) arranged.1)
      operands there joined refl refl refl
  tree-good (Form.Infix l) s parts below seen stands setting depths context i asked round here new arranged (orders, operator, arguments) (is, a, operands, there, joined) =
      operator-matches flat text known named means implied faces inside ordered seen stands setting depths context round here (Form.Infix l) l as_spelled (symbol_rule Infix l.kind) s parts orders is i asked a refl arranged.0
      (infix-none (beneath context depths) l.kind) operator arguments
      (arguments-good flat text known named means implied faces inside seen stands setting depths round context here parts below false (fewer-new seen stands setting depths context round here (Form.Infix l) s parts new) arranged.1)
      operands there joined refl refl refl
  tree-good (Form.Postfix l) s parts below seen stands setting depths context i asked round here new arranged (orders, operator, arguments) (is, a, operands, there, joined) =
      operator-matches flat text known named means implied faces inside ordered seen stands setting depths context round here (Form.Postfix l) l as_spelled (symbol_rule Postfix l.kind) s parts orders is i asked a refl arranged.0
      (postfix-none (beneath context depths) l.kind) operator arguments
      (arguments-good flat text known named means implied faces inside seen stands setting depths round context here parts below false (fewer-new seen stands setting depths context round here (Form.Postfix l) s parts new) arranged.1)
      operands there joined refl refl refl
  tree-good Form.Let s parts below seen stands setting depths context i asked round here new arranged readable flattened =
      let-good s parts below seen stands setting depths context i asked round here new arranged readable flattened
  tree-good Form.Except s parts below seen stands setting depths context i asked round here new arranged readable flattened =
      except-good s parts below seen stands setting depths context i asked round here new arranged readable flattened
  tree-good Form.Parentheses s parts below seen stands setting depths context i asked round here new arranged readable (is, a, operands, there, joined) =
      over-parts seen stands setting depths context round here Form.Parentheses s parts i asked a (inside_node is) is there (inside-bare seen stands setting depths context round here is) (inside-deep seen stands setting depths context round here is) refl joined refl refl refl
      (unbound-match seen stands setting depths context round here Form.Parentheses parts is a arranged.0
      (operands-good flat text known named means implied faces inside seen stands setting depths round parts below context context false is a here here (λ _. refl) (fewer-new seen stands setting depths context round here Form.Parentheses s parts new) arranged.1 readable.2 operands))
  tree-good (Form.BoundedQuantifier l) s parts below seen stands setting depths context i asked round here new arranged readable (is, a, operands, there, joined) =
      over-parts seen stands setting depths context round here (Form.BoundedQuantifier l) s parts i asked a (plain_node NodeForm.Bounded (last_first [] is)) is there refl (last-same (depth_at flat) [] is) refl joined refl refl refl
      (scoped seen stands setting depths context round here false (Form.BoundedQuantifier l) s parts is a below refl new arranged.1 readable.1 operands)
  tree-good form s parts below seen stands setting depths context i asked round here new arranged readable (is, a, operands, there, joined) =
      ruled seen stands setting depths context round here form s parts i asked a is below new arranged readable operands there joined refl refl refl

  pub everywhere : (parts : Trees) → Everywhere flat text known named means implied faces inside parts
  everywhere Nil = tt
  everywhere (Cons (Node form s parts) rest) = (tree-good form s parts (everywhere parts), everywhere parts, everywhere rest)

  pub all-good : (x : Tree) → TreeGood flat text known named means implied faces inside x
  all-good (Node form s parts) = tree-good form s parts (everywhere parts)
