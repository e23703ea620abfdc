-- Definitions in a flat module stand for what the written ones give.
use Rattle.std.proofs.Common.{◌≡◌, ℕ, ◌≤◌, Bool, true, false, List, [], ◌∷◌, ◌++◌, Some, None, map, refl, sym, ap, ◌∙◌, subst, take, length, arith}
use Rattle.std.specs.Prelude.{slice_get}
use Rattle.std.proofs.Math.Seq.{take-length}
use mathlib.Core.Path.{fun_ext}
use Rattle.tla_symbols.specs.declared.lexeme.Lexeme.{Lexeme}
use Rattle.tla_symbols.specs.declared.lexeme.Span.{Span}
use Rattle.tla_tree.specs.declared.form.Form.TheVariants as Form
use Rattle.tla_tree.specs.Forms.{helps}
use Rattle.tla_tree.specs.Syntax.{Tree, Trees, Node, Cons}
use Rattle.tla_model.specs.Entities.{Text, Operator, defines}
use Rattle.module_model.specs.Exports.{Known}
use Rattle.kind_text.specs.FlatModule.{Definition, FlatModule, IsOrdered, Node as FlatNode}
use Rattle.kind_text.proofs.Unfolding.{text-step}
use Rattle.kind_text.specs.Expansion.{text as text_at}
use Rattle.kind_text.specs.Substitution.{Item}
use Rattle.tree_kinds.specs.Standing.{Outside, Steps, Value}
use Rattle.tree_kinds.specs.Expanding.{Around, behind_definition, defined_value, expand, inner, places_at, with_parameters}
use Rattle.flat_trees.specs.Stands.{Fits, IsStanding, Matches, Stand, Defined}
use Rattle.flat_trees.specs.Names.{order_by}
use Rattle.flat_trees.specs.Layouts.{Agrees, Gives, IsBody, IsBuiltAt, IsMeant, Layout, Stands, layout_behind, layout_with, order_of, parameters_of}
use Rattle.flat_trees.proofs.Reaching.{append-nil}
use Rattle.flat_trees.proofs.Agreeing.{all-grown, behind-agrees, with-agrees}
use Rattle.flat_trees.proofs.BuiltNodes.{built-node}

pub take-all : (n : ℕ) (s : List Item) → length s ≡ n → take n s ≡ s
take-all n s same = ap (λ k. take k s) (sym same) ∙ take-length s

module _ (flat : FlatModule) (text : Text) (known : Known) (named : List ℕ → Outside) (layout : Layout) where
  -- by what its body gives on arguments
  stands-by : (d : ℕ) (x : Definition) (orders : List ℕ) (value : Around → Value) → slice_get flat.definitions d ≡ Some x → x.outer ≡ layout.places → ((frame : List Item) (around : Around) (made arguments : List Item) → Agrees flat layout frame around → Fits orders made arguments → (text_at flat x.root (frame ++ made)).text ≡ value around arguments []) → Stands flat layout (Defined d orders) value
  stands-by d x orders value there outer gives frame around agrees =
      let room : x.outer ≤ length frame = let e = agrees.places in omega (arith, e, outer) in (
        x,
        there,
        room,
        λ made arguments fits.
            sym (ap (λ s. (text_at flat x.root (s ++ made)).text) (take-all x.outer frame (agrees.places ∙ sym outer)) ∙ gives frame around made arguments agrees fits),
      )

  pub function-stands : (d : ℕ) (x : Definition) (value : Around → Value) → slice_get flat.definitions d ≡ Some x → x.outer ≡ layout.places → Gives flat layout x.root (λ around. value around [] []) → Stands flat layout (Defined d []) value
  function-stands d x value there outer gives =
      stands-by d x [] value there outer on
    where
      on : (frame : List Item) (around : Around) (made arguments : List Item) → Agrees flat layout frame around → Fits [] made arguments → (text_at flat x.root (frame ++ made)).text ≡ value around arguments []
      on frame around [] [] agrees fits = gives frame [] around agrees
      on frame around [] (y ∷ ys) agrees fits = absurd fits
      on frame around (z ∷ zs) ys agrees fits = absurd fits

  operator-stands : (form : Form.the_data) (parts : Trees) (d : ℕ) (x : Definition) → slice_get flat.definitions d ≡ Some x → x.outer ≡ layout.places → IsBody flat text known named (layout_with text layout form parts) x.root parts → Stands flat layout (Defined d (map order_of (parameters_of text form parts))) (λ around arguments path. (inner text known named (with_parameters text known named around form parts arguments) parts).text)
  operator-stands form parts d x there outer body =
      stands-by d x (map order_of (parameters_of text form parts)) (λ around arguments path. (inner text known named (with_parameters text known named around form parts arguments) parts).text) there outer (λ frame around made arguments agrees fits.
      ap (λ s. (text_at flat x.root s).text) (sym (append-nil (frame ++ made)))
      ∙ body (frame ++ made) [] (with_parameters text known named around form parts arguments) (with-agrees flat text known named layout frame around agrees form parts made arguments fits))

  -- what the definition of an operator gives
  operator-value : (around : Around) (form : Form.the_data) (l : Lexeme) (sp : Span) (parts : Trees) (arguments : List Item) (path : Steps) → defines form ≡ Operator l → (inner text known named (with_parameters text known named around form parts arguments) parts).text ≡ defined_value text known named around (Node form sp parts) arguments path
  operator-value around (Form.OperatorDefinition name) l sp parts arguments path e = refl
  operator-value around (Form.PrefixDefinition name) l sp parts arguments path e = refl
  operator-value around (Form.InfixDefinition name) l sp parts arguments path e = refl
  operator-value around (Form.PostfixDefinition name) l sp parts arguments path e = refl
  operator-value around form l sp parts arguments path e = cc

  pub definition-stands : (form : Form.the_data) (l : Lexeme) (sp : Span) (parts : Trees) (d : ℕ) (x : Definition) → defines form ≡ Operator l → slice_get flat.definitions d ≡ Some x → x.outer ≡ layout.places → IsBody flat text known named (layout_with text layout form parts) x.root parts → Stands flat layout (Defined d (map order_of (parameters_of text form parts))) (λ around. defined_value text known named around (Node form sp parts))
  definition-stands form l sp parts d x e there outer body frame around agrees =
      subst (λ value. IsStanding flat frame [] (Defined d (map order_of (parameters_of text form parts))) value) (fun_ext (λ arguments. fun_ext (λ path. operator-value around form l sp parts arguments path e)))
      (operator-stands form parts d x there outer body frame around agrees)

  -- the body of forms that define, and of those that do not, by what the form is
  inner-by : (around : Around) (form : Form.the_data) (sp : Span) (parts rest : Trees) (help : Bool) → helps form ≡ help → inner text known named around (Cons (Node form sp parts) rest) ≡ elim help [
    | true ↦ inner text known named (behind_definition text known named around (Node form sp parts) (defined_value text known named around (Node form sp parts))) rest
    | false ↦ expand text known named around (Node form sp parts)
  ]
  inner-by around form sp parts rest help e = cc

  -- a body behind a definition
  pub body-behind : (i : ℕ) (form : Form.the_data) (sp : Span) (parts rest : Trees) (stand : Stand) → helps form ≡ true → Stands flat layout stand (λ around. defined_value text known named around (Node form sp parts)) → IsBody flat text known named (layout_behind text layout (Node form sp parts) stand) i rest → IsBody flat text known named layout i (Cons (Node form sp parts) rest)
  body-behind i form sp parts rest stand help stands body frame more around agrees =
      let value = defined_value text known named around (Node form sp parts) in
      let behind = behind_definition text known named around (Node form sp parts) value in
      body frame more behind (behind-agrees flat text known named layout frame around agrees (Node form sp parts) stand value (stands frame around agrees))
      ∙ sym (ap (λ (x : Item). x.text) (inner-by around form sp parts rest true help))

  -- the body itself
  pub body-itself : (i : ℕ) (form : Form.the_data) (sp : Span) (parts rest : Trees) → helps form ≡ false → places_at text known named layout.context (Node form sp parts) ≡ None → IsMeant flat text known named layout i (Node form sp parts) → IsBody flat text known named layout i (Cons (Node form sp parts) rest)
  body-itself i form sp parts rest help plain meant frame more around agrees =
      subst (λ o. Matches (order_by o) (text_at flat i (frame ++ more)) (expand text known named around (Node form sp parts))) plain (meant frame more around agrees)
      ∙ sym (ap (λ (x : Item). x.text) (inner-by around form sp parts rest false help))

  -- a node that is built of a tree over each frame that agrees
  pub node-meant : (i : ℕ) (node : FlatNode) (x : Tree) → IsOrdered flat → slice_get flat.nodes i ≡ Some node → IsBuiltAt flat text known named layout node x → IsMeant flat text known named layout i x
  node-meant i node x ordered there built frame more around agrees =
      subst (λ context. Matches (order_by (places_at text known named context x)) (text_at flat i (frame ++ more)) (expand text known named around x)) agrees.context
      (subst (λ y. Matches (order_by (places_at text known named around.context x)) y (expand text known named around x)) (sym (text-step flat i node (frame ++ more) ordered there))
      (built-node flat node.form node.parts (frame ++ more) layout.stands around (all-grown flat frame more layout.stands around.standing agrees.standing) text known named x (built frame more around agrees)))
