-- The names of definitions in a LET lead to what is as deep as it is written.
use Rattle.std.proofs.Common.{◌≡◌, ℕ, true, false, cond, List, [], ◌∷◌, ◌++◌, Option, Some, length, map, refl, sym, ap, ◌∙◌, subst, inl, inr, arith}
use Rattle.std.specs.Prelude.{slice_get}
use Rattle.std.proofs.Math.Nat.{max-zero}
use Rattle.tla_symbols.specs.declared.lexeme.Lexeme.{Lexeme}
use Rattle.tla_symbols.specs.declared.lexeme.Span.{Span}
use Rattle.tla_symbols.specs.declared.level.Rule.TheVariants.{Plain}
use Rattle.tla_tree.specs.declared.form.Form.TheVariants as Form
use Rattle.tla_tree.specs.Forms.{helps}
use Rattle.tla_tree.specs.Syntax.{Trees, Node, Nil, Cons}
use Rattle.tla_model.specs.declared.names.Binder.{Binder}
use Rattle.tla_model.specs.declared.names.Binding.TheVariants as as_binding
use Rattle.tla_model.specs.Tables.{Named}
use Rattle.tla_model.specs.Entities.{Meaning, Defines, Nothing, Operator, Function, Module, Text, binding_of, defined, defined_as, defines, orders, within}
use Rattle.tla_model.specs.Contexts.{Context}
use Rattle.tla_model.specs.Scopes.{binders, reserved, scope}
use Rattle.module_model.specs.Exports.{Known, behind_meaning}
use Rattle.module_model.specs.Instances.{instance_among}
use Rattle.kind_text.specs.FlatModule.{FlatModule, Form as NodeForm, IsOrdered}
use Rattle.level_text.specs.Depth.{depth as depth_at, depth_of, greatest}
use Rattle.level_text.proofs.Depths.{depth-step}
use Rattle.tree_kinds.specs.Standing.{Outside}
use Rattle.tree_kinds.specs.Expanding.{Part, Outer, Helper, Whole, part_of}
use Rattle.tree_kinds.specs.TreeDepths as written
use Rattle.tree_kinds.specs.TreeDepths.{Depths, deep_names, deep_parts, defined_depth, depth, is_too_deep, parts_depth}
use Rattle.flat_trees.specs.Stands.{Stand, Unsaid, Defined, Through}
use Rattle.flat_depths.specs.Depths.{HasDepths}
use Rattle.flat_depths.proofs.Definitions.{function-deep, operator-deep}
use Rattle.flattened_trees.specs.declared.End.TheVariants as end
use Rattle.flattened_trees.specs.Leads.{FlatFace, Lead, Setting, only, with_parameters}
use Rattle.flattened_trees.specs.NodeForms.{plain_node}
use Rattle.flattened_trees.specs.Questions.{IsShallow, Question, asks_at, over}
use Rattle.flattened_trees.specs.Flattened.{AreOperands, HasNode, IsFlattened, IsRoot, all_parts}
use Rattle.flattened_trees.specs.Readable.{AreReadable}
use Rattle.flattened_trees.specs.Agreeing.{TakesAs, lead_by}
use Rattle.flattened_depths.specs.Arranged.{AreArranged, HasBody}
use Rattle.flattened_trees.specs.Answers.{deep_answers}
use Rattle.flattened_depths.specs.Rounds.{LeadsBehind, TakesParameters, definition_stand, stands_in}
use Rattle.flattened_depths.proofs.Counting.{New, and_seen, inner_names, new-behind, new-fewer, within-counts}
use Rattle.flattened_depths.proofs.Facts.{Everywhere, asked-joins, asks-none, beneath, helper-depth, names-open}
use Rattle.flattened_depths.proofs.Operands.{operands-good}
use Rattle.flattened_depths.proofs.Rounds.{Among, OwnName, Round, Usable, more-round, more-usable, outside-usable, placed-round, placed-usable, placed_stands, reserved-usable, scope-usable}

-- ---- forms that define

operator-binds : (form : Form.the_data) (l : Lexeme) → defines form ≡ Operator l → (helps form ≡ true) × (binding_of form ≡ as_binding.Parameter)
operator-binds (Form.OperatorDefinition name) l e = (refl, refl)
operator-binds (Form.PrefixDefinition name) l e = (refl, refl)
operator-binds (Form.InfixDefinition name) l e = (refl, refl)
operator-binds (Form.PostfixDefinition name) l e = (refl, refl)
operator-binds form l e = cc

module _ (flat : FlatModule) (text : Text) (known : Known) (named : List ℕ → Outside) (means : ℕ → Option Meaning) (implied : ℕ → List Meaning) (faces : List ℕ → FlatFace) (inside : List ℕ → Named → Stand) (ordered : IsOrdered flat) where
  operator-own : (form : Form.the_data) (l : Lexeme) → defines form ≡ Operator l → (m : Meaning) → OwnName text flat known form m → ⊥
  operator-own (Form.FunctionDefinition name) l e m same = cc e
  operator-own form l e m same = same

  -- one expression stands among the parts of an operator definition
  single-operand : (parts : Trees) → HasBody parts → (setting : Setting) (is : List ℕ) (a : List Question) → AreOperands text means implied faces flat all_parts setting parts is a → (i : ℕ) × (is ≡ i ∷ [])
  single-operand Nil body setting is a flattened = absurd body
  single-operand (Cons (Node form s parts) rest) body setting is a (first, others, x, y, split, joined, one, more) =
      by_part (part_of form) body one (λ later. single-operand rest later setting others y more)
    where
      by_part : (p : Part) → (elim p as (λ _. Type 0) [ Whole ↦ rest ≡ Nil | Outer ↦ ⊥ | Helper ↦ (parts ≡ Nil) × HasBody rest ])
          → (elim p as (λ _. Type 0) [
            | Outer ↦ AreOperands text means implied faces flat all_parts setting parts first x
            | Helper ↦ AreOperands text means implied faces flat all_parts setting parts first x
            | Whole ↦ (i : ℕ) × (first ≡ i ∷ []) × IsFlattened text means implied faces flat setting (Node form s parts) i x
          ])
          → (HasBody rest → (i : ℕ) × (others ≡ i ∷ [])) → (i : ℕ) × (is ≡ i ∷ [])
      by_part Outer body one next = absurd body
      by_part Helper body one next =
          let none = subst (λ (xs : Trees). AreOperands text means implied faces flat all_parts setting xs first x) body.0 one in
          let last = next body.1 in
          (last.0, split ∙ ap (λ xs. xs ++ others) none.0 ∙ last.1)
      by_part Whole body one next =
          let none = subst (λ (xs : Trees). AreOperands text means implied faces flat all_parts setting xs others y) body more in
          (one.0, split ∙ ap (λ xs. xs ++ others) one.1 ∙ ap (λ xs. one.0 ∷ xs) none.0)

  -- where the name of a definition leads, and that it is as deep as it is written
  pub record DefinedGood (context : Context) (depths : Depths) (form : Form.the_data) (s : Span) (parts : Trees) (lead : List Named → Lead) (roots : List ℕ) (asked : List Question) : Type 0 where
    pub stand : Stand
    pub number : ℕ
    pub same : stand ≡ definition_stand text inside (Node form s parts) number
    pub leads : (names : List Named) → lead names ≡ lead_by stand names
    pub reached : HasDepths flat 0 stand (defined_depth text known named (beneath context depths) (Node form s parts))
    pub parameters : TakesParameters flat stand
    pub takes : (m : Meaning) → Among text m (defined form parts) → TakesAs stand (behind_meaning known (Some m)) m
    pub deep : greatest (depth_at flat) roots ≡ depth text known named (beneath context depths) (Node form s parts)
    pub names : deep_answers flat asked ≡ deep_names text known named (beneath context depths) (Node form s parts)

  -- the name of a definition, if it is too deep
  pub own-name : (context : Context) (depths : Depths) (form : Form.the_data) (s : Span) (parts : Trees) (l : Lexeme) (n : ℕ) → map (λ (b : Binder). b.name) (defined form parts) ≡ l ∷ [] → (defined_depth text known named (beneath context depths) (Node form s parts) []).depth ≡ n → cond (is_too_deep n) (l ∷ []) [] ≡ written.deep_name text known named (beneath context depths) (Node form s parts)
  own-name context depths form s parts l n names e =
      ap (λ k. cond (is_too_deep k) (l ∷ []) []) (sym e) ∙ ap (λ xs. cond (is_too_deep (defined_depth text known named (beneath context depths) (Node form s parts) []).depth) xs []) (sym names)

  pub only-leads : (d : ℕ) (orders : List ℕ) (lead : List Named → Lead) → lead ≡ only (end.Definition d) → (names : List Named) → lead names ≡ lead_by (Defined d orders) names
  only-leads d orders lead e names = ap (λ (f : List Named → Lead). f names) e

  -- the names that a definition declares and binds are new, and those of its expressions
  pub own-new : (seen : List Meaning) (form : Form.the_data) (s : Span) (parts : Trees) → New text seen (within (Node form s parts)) → New text seen (defined form parts ++ binders form parts)
  own-new seen form s parts new = new-fewer text (within (Node form s parts)) (defined form parts ++ binders form parts) seen (λ m. let e = within-counts text m form s parts in omega (arith, e)) new

  pub inner-new : (seen : List Meaning) (form : Form.the_data) (s : Span) (parts : Trees) → New text seen (within (Node form s parts)) → New text (and_seen text (defined form parts ++ binders form parts) seen) (inner_names text parts)
  inner-new seen form s parts new = new-behind text (defined form parts ++ binders form parts) (within (Node form s parts)) (inner_names text parts) seen (λ m. within-counts text m form s parts) new

  module _ (seen : List Meaning) (stands : Meaning → Stand) (setting : Setting) (depths : Depths) (context : Context) (round : Round text flat known seen stands setting depths) (here : Usable text flat known seen stands context) (form : Form.the_data) (s : Span) (parts : Trees) (below : Everywhere flat text known named means implied faces inside parts) (new : New text seen (within (Node form s parts))) where
    pub operator-good : (l : Lexeme) → defines form ≡ Operator l → HasBody parts → AreArranged (LeadsBehind flat text known named faces inside) false parts
        → AreReadable text known named means implied faces (reserved text context form parts) (scope text context form parts) parts
        → (lead : List Named → Lead) (roots : List ℕ) (asked : List Question) (is : List ℕ) (root d : ℕ) (a : List Question)
        → AreOperands text means implied faces flat all_parts (with_parameters text setting form parts) parts is a → IsRoot flat is root
        → slice_get flat.definitions d ≡ Some (record { outer = length setting.frame; root = root })
        → lead ≡ only (end.Definition d) → roots ≡ root ∷ [] → asked ≡ over setting.frame (IsShallow l d ∷ []) ++ a
        → DefinedGood context depths form s parts lead roots asked
    operator-good l e body arranged readable lead roots asked is root d a operands first there leads one joined =
        let binds = operator-binds form l e in
        let fresh = own-new seen form s parts new in
        let match = operands-good flat text known named means implied faces inside (and_seen text (defined form parts ++ binders form parts) seen)
        (placed_stands text flat known seen stands setting depths form parts round fresh) (with_parameters text setting form parts) depths
        (placed-round text flat known seen stands setting depths form parts round fresh) parts below
        (reserved text context form parts) (scope text context form parts) false is a
        (outside-usable text flat known seen stands setting depths form parts round fresh context here)
        (placed-usable text flat known seen stands setting depths form parts round fresh context binds.1 (operator-own form l e) here)
        (λ never. cc never) (inner-new seen form s parts new) arranged readable operands in
        let single = single-operand parts body (with_parameters text setting form parts) is a operands in
        let same : root ≡ single.0 = subst (λ xs. IsRoot flat xs root) single.1 first in
        let deep : depth_at flat root ≡ depth text known named (beneath context depths) (Node form s parts) =
        ap (depth_at flat) same ∙ sym (max-zero (depth_at flat single.0)) ∙ ap (greatest (depth_at flat)) (sym single.1) ∙ match.deep ∙ sym (helper-depth flat text known named means implied faces inside (beneath context depths) form s parts binds.0) in
        let reached = operator-deep flat text known named (beneath context depths) form l s parts d (record { outer = length setting.frame; root = root }) (orders parts) e there deep in
        record {
          stand = Defined d (orders parts);
          number = d;
          same = sym (ap (λ (ds : Defines). elim ds as (λ _. Stand) [ Nothing ↦ Unsaid | Operator l ↦ Defined d (orders parts) | Function l ↦ Defined d [] | Module l ↦ Through d (orders parts) (stands_in text inside (instance_among parts)) ]) e);
          leads = only-leads d (orders parts) lead leads;
          reached = reached;
          parameters = tt;
          takes = λ m among. operator-takes m (subst (λ ds. Among text m (defined_as ds parts)) e among);
          deep = ap (greatest (depth_at flat)) one ∙ max-zero (depth_at flat root) ∙ deep;
          names = ap (deep_answers flat) joined
              ∙ ap (λ xs. xs ++ deep_answers flat a) (own-name context depths form s parts l (depth_of (depth_at flat) (slice_get flat.definitions d)) (ap (λ ds. map (λ (b : Binder). b.name) (defined_as ds parts)) e) (ap (λ r. r.depth) reached))
              ∙ ap (λ xs. written.deep_name text known named (beneath context depths) (Node form s parts) ++ xs) match.names
              ∙ sym (names-open flat text known named means implied faces inside (beneath context depths) form s parts binds.0);
        }
      where
        operator-takes : (m : Meaning) → Among text m (defined_as (Operator l) parts) → TakesAs (Defined d (orders parts)) (behind_meaning known (Some m)) m
        operator-takes m (inl same) = subst (λ x. TakesAs (Defined d (orders parts)) (behind_meaning known (Some x)) x) same (tt, refl)
        operator-takes m (inr none) = absurd none

  module _ (seen : List Meaning) (stands : Meaning → Stand) (setting : Setting) (depths : Depths) (context : Context) (round : Round text flat known seen stands setting depths) (here : Usable text flat known seen stands context) (l : Lexeme) (s : Span) (parts : Trees) (below : Everywhere flat text known named means implied faces inside parts) (new : New text seen (within (Node (Form.FunctionDefinition l) s parts))) where
    pub function-good : AreArranged (LeadsBehind flat text known named faces inside) false parts
        → AreReadable text known named means implied faces (reserved text context (Form.FunctionDefinition l) parts) (scope text context (Form.FunctionDefinition l) parts) parts
        → (lead : List Named → Lead) (roots : List ℕ) (asked : List Question) (is : List ℕ) (root d : ℕ) (a : List Question)
        → AreOperands text means implied faces flat all_parts setting parts is a → HasNode flat root (plain_node (NodeForm.Operation Plain) is)
        → slice_get flat.definitions d ≡ Some (record { outer = length setting.frame; root = root })
        → lead ≡ only (end.Definition d) → roots ≡ root ∷ [] → asked ≡ over setting.frame (IsShallow l d ∷ []) ++ (over setting.frame (asks_at root (Form.FunctionDefinition l) s parts) ++ a)
        → DefinedGood context depths (Form.FunctionDefinition l) s parts lead roots asked
    function-good arranged readable lead roots asked is root d a operands node there leads one joined =
        let fresh = own-new seen (Form.FunctionDefinition l) s parts new in
        let match = operands-good flat text known named means implied faces inside (and_seen text (defined (Form.FunctionDefinition l) parts ++ binders (Form.FunctionDefinition l) parts) seen) stands setting depths
        (more-round text flat known (defined (Form.FunctionDefinition l) parts ++ binders (Form.FunctionDefinition l) parts) seen stands setting depths round) parts below
        (reserved text context (Form.FunctionDefinition l) parts) (scope text context (Form.FunctionDefinition l) parts) false is a
        (more-usable text flat known (defined (Form.FunctionDefinition l) parts ++ binders (Form.FunctionDefinition l) parts) seen stands (reserved text context (Form.FunctionDefinition l) parts) (reserved-usable text flat known seen stands context (Form.FunctionDefinition l) parts here))
        (scope-usable text flat known seen stands setting depths context false (Form.FunctionDefinition l) parts refl round here fresh)
        (λ never. cc never) (inner-new seen (Form.FunctionDefinition l) s parts new) arranged readable operands in
        let deep : depth_at flat root ≡ depth text known named (beneath context depths) (Node (Form.FunctionDefinition l) s parts) =
        depth-step flat root (plain_node (NodeForm.Operation Plain) is) ordered node ∙ match.deep ∙ sym (helper-depth flat text known named means implied faces inside (beneath context depths) (Form.FunctionDefinition l) s parts refl) in
        let reached = function-deep flat text known named (beneath context depths) l s parts d (record { outer = length setting.frame; root = root }) [] there deep in
        record {
          stand = Defined d [];
          number = d;
          same = refl;
          leads = only-leads d [] lead leads;
          reached = reached;
          parameters = tt;
          takes = function-takes;
          deep = ap (greatest (depth_at flat)) one ∙ max-zero (depth_at flat root) ∙ deep;
          names = ap (deep_answers flat) joined
              ∙ ap (λ xs. xs ++ deep_answers flat (over setting.frame (asks_at root (Form.FunctionDefinition l) s parts) ++ a)) (own-name context depths (Form.FunctionDefinition l) s parts l (depth_of (depth_at flat) (slice_get flat.definitions d)) refl (ap (λ r. r.depth) reached))
              ∙ ap (λ xs. written.deep_name text known named (beneath context depths) (Node (Form.FunctionDefinition l) s parts) ++ xs)
              (asked-joins flat (over setting.frame (asks_at root (Form.FunctionDefinition l) s parts)) a ∙ ap (λ xs. xs ++ deep_answers flat a) (asks-none flat setting.frame root (Form.FunctionDefinition l) s parts) ∙ match.names);
        }
      where
        function-takes : (m : Meaning) → Among text m (defined (Form.FunctionDefinition l) parts) → TakesAs (Defined d []) (behind_meaning known (Some m)) m
        function-takes m (inl same) = subst (λ x. TakesAs (Defined d []) (behind_meaning known (Some x)) x) same (tt, refl)
        function-takes m (inr none) = absurd none
