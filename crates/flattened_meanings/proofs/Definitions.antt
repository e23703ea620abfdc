-- The names of operators and functions stand for what their definitions give.
use Rattle.std.proofs.Common.{◌≡◌, ℕ, Bool, true, false, cond, List, [], ◌∷◌, ◌++◌, Option, Some, None, map, refl, sym, ap, ◌∙◌, subst, length}
use Rattle.std.specs.List.{AllByRecursion}
use Rattle.std.specs.Prelude.{slice_get}
use Rattle.tla_symbols.specs.declared.level.Rule.TheVariants.{Plain}
use Rattle.tla_symbols.specs.declared.lexeme.Lexeme.{Lexeme}
use Rattle.tla_symbols.specs.declared.lexeme.Span.{Span}
use Rattle.tla_tree.specs.declared.form.Form.TheVariants as Form
use Rattle.tla_tree.specs.Syntax.{Trees, Node, Nil, Cons}
use Rattle.tla_model.specs.declared.names.Binding.TheVariants as as_binding
use Rattle.tla_model.specs.Tables.{Named}
use Rattle.tla_model.specs.Entities.{Meaning, Text, Operator, Function, Module, Defines, all_placed, binding_of, bound_as, declared_in, defined, defined_as, defines, is_group, meant, orders}
use Rattle.tla_model.specs.Contexts.{Context}
use Rattle.tla_model.specs.Scopes.{all_grouped, binders, names_in, reserved, scope}
use Rattle.module_model.specs.Exports.{Known, behind_meaning}
use Rattle.kind_text.specs.ExpandedKind.{Ruled}
use Rattle.kind_text.specs.FlatModule.{Definition, FlatModule, Form as NodeForm, IsOrdered}
use Rattle.kind_text.specs.Substitution.{Item}
use Rattle.kind_text.proofs.Unfolding.{text-step}
use Rattle.tree_kinds.specs.Standing.{Outside}
use Rattle.tree_kinds.specs.Expanding.{Outer, Helper, Whole, Part, before_scope, defined_value, in_scope, part_of, places_at, stands_outside}
use Rattle.flat_trees.specs.Stands.{Defined}
use Rattle.flat_trees.specs.Layouts.{Gives, IsBody, Layout, function_text, layout_before, layout_in, layout_with, order_of, parameters_of}
use Rattle.flat_trees.proofs.Agreeing.{before-agrees, scope-agrees}
use Rattle.flat_trees.proofs.Definitions.{definition-stands, function-stands}
use Rattle.flattened_trees.specs.declared.End.TheVariants as end
use Rattle.flattened_trees.specs.Leads.{FlatFace, Lead, Setting, only, with_parameters}
use Rattle.flattened_trees.specs.Questions.{Question}
use Rattle.flattened_trees.specs.NodeForms.{plain_node}
use Rattle.flattened_trees.specs.Flattened.{AreOperands, HasNode, IsRoot, all_parts}
use Rattle.flattened_trees.specs.Readable.{AreInside, AreReadable, EndsWhole, IsReadable}
use Rattle.flattened_trees.specs.Agreeing.{TakesAs}
use Rattle.flattened_meanings.specs.Definitions.{StandsFor}
use Rattle.flattened_meanings.proofs.Fresh.{Fresh, seen-with}
use Rattle.flattened_meanings.proofs.Rounds.{Knows, before-known, parameters-known, scope-known}
use Rattle.flattened_meanings.proofs.Operands.{Each, operands-given}
use Rattle.flattened_meanings.proofs.Bodies.{EndsAs, ends, both-ways, outer-part}
use Rattle.flattened_meanings.proofs.Forms.{names-fresh, scope-fresh}

-- ---- parameters

-- what defines an operator binds parameters
pub operator-binds : (form : Form.the_data) (l : Lexeme) → defines form ≡ Operator l → (binding_of form ≡ as_binding.Parameter) × (is_group form ≡ false)
operator-binds (Form.OperatorDefinition l) k e = (refl, refl)
operator-binds (Form.PrefixDefinition l) k e = (refl, refl)
operator-binds (Form.InfixDefinition l) k e = (refl, refl)
operator-binds (Form.PostfixDefinition l) k e = (refl, refl)
operator-binds form k e = cc

pub function-form : (form : Form.the_data) (l : Lexeme) → defines form ≡ Function l → form ≡ Form.FunctionDefinition l
function-form (Form.FunctionDefinition l) k e = cc
function-form form k e = cc

pub module-form : (form : Form.the_data) (l : Lexeme) → defines form ≡ Module l → form ≡ Form.ModuleDefinition l
module-form (Form.ModuleDefinition l) k e = cc
module-form form k e = cc

-- parts round one expression are no groups of names
grouped-none : (parts : Trees) → EndsWhole parts → AreInside parts → all_grouped parts ≡ []
grouped-none Nil whole only = absurd whole
grouped-none (Cons (Node form s parts) rest) whole only =
    by_part (part_of form) refl whole (λ left. grouped-none rest left only.1)
  where
    names-none : (group : Bool) → names_in group Nil ≡ []
    names-none true = refl
    names-none false = refl

    by_part : (p : Part) → part_of form ≡ p → EndsAs form parts rest p → (EndsWhole rest → all_grouped rest ≡ []) → names_in (is_group form) parts ++ all_grouped rest ≡ []
    by_part Outer e left again = both-ways (stands_outside form) only.0 (outer-part form e)
    by_part Helper e (empty, none, left) again =
        ap (λ ps. names_in (is_group form) ps ++ all_grouped rest) empty ∙ ap (λ ns. ns ++ all_grouped rest) (names-none (is_group form)) ∙ again left
    by_part Whole e last again =
        ap (λ group. names_in group parts ++ all_grouped rest) (no-group form e) ∙ ap all_grouped last
      where
        no-group : (g : Form.the_data) → part_of g ≡ Whole → is_group g ≡ false
        no-group Form.Names e = cc
        no-group Form.TupleNames e = cc
        no-group Form.Bound e = cc
        no-group Form.TupleBound e = cc
        no-group Form.Bounds e = cc
        no-group g e = refl

module _ (text : Text) where
  bound-orders : (names : List (Lexeme × ℕ)) → map order_of (map (meant text) (bound_as as_binding.Parameter names)) ≡ map (λ name. name.1) names
  bound-orders [] = refl
  bound-orders (name ∷ rest) = ap (λ os. name.1 ∷ os) (bound-orders rest)

  names-nil : (names : List (Lexeme × ℕ)) → names ++ [] ≡ names
  names-nil [] = refl
  names-nil (name ∷ rest) = ap (λ ns. name ∷ ns) (names-nil rest)

  -- the orders of the parameters of a definition are those that its name takes
  pub parameter-orders : (form : Form.the_data) (parts : Trees) → binding_of form ≡ as_binding.Parameter → is_group form ≡ false → all_grouped parts ≡ [] → map order_of (parameters_of text form parts) ≡ orders parts
  parameter-orders form parts binding group none =
      ap (λ b. map order_of (map (meant text) (cond b [] (bound_as (binding_of form) (all_placed parts ++ all_grouped parts))))) group
      ∙ ap (λ b. map order_of (map (meant text) (bound_as b (all_placed parts ++ all_grouped parts)))) binding
      ∙ ap (λ ns. map order_of (map (meant text) (bound_as as_binding.Parameter (all_placed parts ++ ns)))) none
      ∙ ap (λ ns. map order_of (map (meant text) (bound_as as_binding.Parameter ns))) (names-nil (all_placed parts))
      ∙ bound-orders (all_placed parts)

  -- what its name takes is what a definition takes, by what it defines
  pub takes-defined : (P : Meaning → Type 0) (form : Form.the_data) (parts : Trees) (d : Defines) → defines form ≡ d → AllByRecursion P (map (meant text) (defined_as d parts)) → AllByRecursion P (map (meant text) (defined form parts))
  takes-defined P form parts d e all = subst (λ x. AllByRecursion P (map (meant text) (defined_as x parts))) (sym e) all

module _ (flat : FlatModule) (text : Text) (known : Known) (named : List ℕ → Outside) (means : ℕ → Option Meaning) (implied : ℕ → List Meaning) (faces : List ℕ → FlatFace) (nameable : List ℕ → Bool) where
  -- a part can be read in these contexts, by what it is
  abbrev pub IsReadBy : Context → Context → Form.the_data → Span → Trees → Part → Type 0
  IsReadBy outside inside form s parts p = elim p [
    | Outer ↦ AreReadable text known named means implied faces outside outside parts
    | Helper ↦ AreReadable text known named means implied faces inside inside parts
    | Whole ↦ (places_at text known named inside (Node form s parts) ≡ None) × IsReadable text known named means implied faces inside (Node form s parts)
  ]

  -- where no part stands outside, it does not matter what is known there
  pub inside-read : (parts : Trees) (outside inside : Context) → AreInside parts → AreReadable text known named means implied faces outside inside parts → AreReadable text known named means implied faces inside inside parts
  inside-read Nil outside inside only can = tt
  inside-read (Cons (Node form s parts) rest) outside inside only can = (by_part (part_of form) refl can.0, inside-read rest outside inside only.1 can.1)
    where
      by_part : (p : Part) → part_of form ≡ p → IsReadBy outside inside form s parts p → IsReadBy inside inside form s parts p
      by_part Outer e can = both-ways (stands_outside form) only.0 (outer-part form e)
      by_part Helper e can = can
      by_part Whole e can = can

  module _ (ordered : IsOrdered flat) (layout : Layout) (setting : Setting) (seen : Meaning → Bool) (knows : Knows flat text known named faces nameable layout setting seen) where
    pub operator-for : (form : Form.the_data) (s : Span) (parts : Trees) (l : Lexeme) (lead : List Named → Lead) (is : List ℕ) (root d : ℕ) (asked : List Question) → defines form ≡ Operator l → Each flat text known named means implied faces nameable parts → AreOperands text means implied faces flat all_parts (with_parameters text setting form parts) parts is asked → IsRoot flat is root → slice_get flat.definitions d ≡ Some (record { outer = length setting.frame; root = root }) → lead ≡ only (end.Definition d) → EndsWhole parts → AreInside parts → AreReadable text known named means implied faces (reserved text layout.context form parts) (scope text layout.context form parts) parts → Fresh text seen (declared_in as_binding.Constant (Node form s parts)) → StandsFor flat text known named layout (Node form s parts) lead
    operator-for form s parts l lead is root d asked e each made first there leads whole only can fresh =
        let binds = operator-binds form l e in
        let within = layout_with text layout form parts in
        let inside = parameters-known flat text known named faces nameable layout setting seen knows form s parts (names-fresh text seen form s parts fresh) binds.0 in
        let body = ends flat text known named means implied faces nameable parts within within (with_parameters text setting form parts) (seen-with text (defined form parts ++ binders form parts) seen) is asked each inside inside whole made (inside-read parts (reserved text layout.context form parts) (scope text layout.context form parts) only can) (scope-fresh text seen form s parts fresh) in
        let one : is ≡ body.body ∷ [] = body.parted ∙ ap (λ js. js ++ (body.body ∷ [])) (body.inside_only only) in
        let same : root ≡ body.body = subst (λ js. IsRoot flat js root) one first in
        let found : Definition = record { outer = length setting.frame; root = root } in
        record {
          stand = Defined d (map order_of (parameters_of text form parts));
          leads = λ names. ap (λ (f : List Named → Lead). f names) leads;
          stands = definition-stands flat text known named layout form l s parts d found e there (sym knows.settings.places) (subst (λ i. IsBody flat text known named within i parts) (sym same) body.means_body);
          takes = takes-defined text (λ m. TakesAs (Defined d (map order_of (parameters_of text form parts))) (behind_meaning known (Some m)) m) form parts (Operator l) e
              ((tt, parameter-orders text form parts binds.0 binds.1 (grouped-none parts whole only)), tt);
        }

    function-given : (l : Lexeme) (s : Span) (parts : Trees) (is : List ℕ) (root : ℕ) (asked : List Question) → Each flat text known named means implied faces nameable parts → AreOperands text means implied faces flat all_parts setting parts is asked → HasNode flat root (plain_node (NodeForm.Operation Plain) is) → AreReadable text known named means implied faces (reserved text layout.context (Form.FunctionDefinition l) parts) (scope text layout.context (Form.FunctionDefinition l) parts) parts → Fresh text seen (declared_in as_binding.Constant (Node (Form.FunctionDefinition l) s parts)) → Gives flat layout root (λ around. function_text text known named around (Form.FunctionDefinition l) parts)
    function-given l s parts is root asked each made node can fresh frame more around agrees =
        let form : Form.the_data = Form.FunctionDefinition l in
        let names = names-fresh text seen form s parts fresh in
        let outside = before-known flat text known named faces nameable layout setting seen knows form s parts names in
        let inside = scope-known flat text known named faces nameable layout setting seen knows form s parts names false refl in
        ap (λ (x : Item). x.text) (text-step flat root (plain_node (NodeForm.Operation Plain) is) (frame ++ more) ordered node)
        ∙ ap (Ruled Plain)
        (operands-given flat text known named means implied faces nameable parts (layout_before text layout form parts) (layout_in text layout form parts) setting (seen-with text (defined form parts ++ binders form parts) seen) is asked each outside inside made can (scope-fresh text seen form s parts fresh) frame more (before_scope text known named around form parts) (in_scope text known named around form parts)
        (before-agrees flat text known named layout frame around agrees form parts) (scope-agrees flat text known named layout frame around agrees form parts))

    pub function-for : (form : Form.the_data) (s : Span) (parts : Trees) (l : Lexeme) (lead : List Named → Lead) (is : List ℕ) (root d : ℕ) (asked : List Question) → defines form ≡ Function l → Each flat text known named means implied faces nameable parts → AreOperands text means implied faces flat all_parts setting parts is asked → HasNode flat root (plain_node (NodeForm.Operation Plain) is) → slice_get flat.definitions d ≡ Some (record { outer = length setting.frame; root = root }) → lead ≡ only (end.Definition d) → AreReadable text known named means implied faces (reserved text layout.context form parts) (scope text layout.context form parts) parts → Fresh text seen (declared_in as_binding.Constant (Node form s parts)) → StandsFor flat text known named layout (Node form s parts) lead
    function-for form s parts l lead is root d asked e each made node there leads can fresh =
        subst (λ g. AreReadable text known named means implied faces (reserved text layout.context g parts) (scope text layout.context g parts) parts → Fresh text seen (declared_in as_binding.Constant (Node g s parts)) → StandsFor flat text known named layout (Node g s parts) lead) (sym (function-form form l e))
        (λ can fresh.
        let found : Definition = record { outer = length setting.frame; root = root } in
        record {
          stand = Defined d [];
          leads = λ names. ap (λ (f : List Named → Lead). f names) leads;
          stands = function-stands flat text known named layout d found (λ around. defined_value text known named around (Node (Form.FunctionDefinition l) s parts)) there (sym knows.settings.places) (function-given l s parts is root asked each made node can fresh);
          takes = ((tt, refl), tt);
        }) can fresh
