-- Nodes of bodies, of quantifiers over sets and of updates.
use Rattle.std.proofs.Common.{◌≡◌, ℕ, Bool, true, false, cond, List, [], ◌∷◌, ◌++◌, Option, map, refl, sym, ap, ◌∙◌}
use Rattle.tla_symbols.specs.declared.lexeme.Span.{Span}
use Rattle.tla_tree.specs.declared.form.Form.TheVariants as Form
use Rattle.tla_tree.specs.Forms.{helps}
use Rattle.tla_tree.specs.Syntax.{Trees, Node, Nil, Cons}
use Rattle.tla_model.specs.Entities.{Meaning, Nothing, Text, defined_as, defines, meant}
use Rattle.tla_model.specs.Contexts.{bind_all}
use Rattle.module_model.specs.Exports.{Known}
use Rattle.kind_text.specs.ExpandedKind.{Operands}
use Rattle.kind_text.specs.FlatModule.{FlatModule}
use Rattle.kind_text.specs.Substitution.{Item}
use Rattle.tree_kinds.specs.Standing.{Outside, Value, with_values}
use Rattle.tree_kinds.specs.Expanding.{Around, Outer, Helper, Whole, Part, and_operands, behind_definition, defined_value, expand, inner, operands, outer_operands, part_of, stands_outside}
use Rattle.flat_trees.specs.Layouts.{Agrees, IsBody, Layout}
use Rattle.flat_trees.proofs.Definitions.{body-itself}
use Rattle.flattened_trees.specs.Leads.{FlatFace, Setting}
use Rattle.flattened_trees.specs.Questions.{Question}
use Rattle.flattened_trees.specs.Flattened.{AreOperands, all_parts}
use Rattle.flattened_trees.specs.Readable.{AreInside, AreReadable, EndsWhole}
use Rattle.flattened_meanings.proofs.Fresh.{Fresh, fresh-left, fresh-right, whole-names}
use Rattle.flattened_meanings.proofs.Rounds.{Knows}
use Rattle.flattened_meanings.proofs.Operands.{Each, IsMadeAs, IsNewAs, IsReadAs, given, given-parted, operands-given}

-- ---- what a part is

pub both-ways : {C : Type 0} (b : Bool) → b ≡ false → b ≡ true → C
both-ways true no-way e = cc
both-ways false no-way e = cc

-- a part, by whether it stands outside and whether it helps
abbrev part-by : Bool → Bool → Part
part-by outer help = cond outer Outer (cond help Helper Whole)

outer-by : (a b : Bool) → part-by a b ≡ Outer → a ≡ true
outer-by true b e = refl
outer-by false true e = cc
outer-by false false e = cc

helper-by : (a b : Bool) → part-by a b ≡ Helper → (a ≡ false) × (b ≡ true)
helper-by true b e = cc
helper-by false true e = (refl, refl)
helper-by false false e = cc

whole-by : (a b : Bool) → part-by a b ≡ Whole → (a ≡ false) × (b ≡ false)
whole-by true b e = cc
whole-by false true e = cc
whole-by false false e = (refl, refl)

pub outer-part : (form : Form.the_data) → part_of form ≡ Outer → stands_outside form ≡ true
outer-part form e = outer-by (stands_outside form) (helps form) e

pub helper-part : (form : Form.the_data) → part_of form ≡ Helper → (stands_outside form ≡ false) × (helps form ≡ true)
helper-part form e = helper-by (stands_outside form) (helps form) e

pub whole-part : (form : Form.the_data) → part_of form ≡ Whole → (stands_outside form ≡ false) × (helps form ≡ false)
whole-part form e = whole-by (stands_outside form) (helps form) e

pub part-outer : (form : Form.the_data) → stands_outside form ≡ true → part_of form ≡ Outer
part-outer form e = ap (λ a. part-by a (helps form)) e

-- what stands outside helps, and defines nothing
pub outer-helps : (form : Form.the_data) → stands_outside form ≡ true → (helps form ≡ true) × (defines form ≡ Nothing)
outer-helps Form.IndexStep e = (refl, refl)
outer-helps Form.Bound e = (refl, refl)
outer-helps Form.TupleBound e = (refl, refl)
outer-helps form e = cc

pub and-apart : (ts us vs : Operands) → and_operands (and_operands ts us) vs ≡ and_operands ts (and_operands us vs)
and-apart Operands.Nil us vs = refl
and-apart (Operands.Cons t ts) us vs = ap (Operands.Cons t) (and-apart ts us vs)

pub nodes-apart : (is js ks : List ℕ) → (is ++ js) ++ ks ≡ is ++ (js ++ ks)
nodes-apart [] js ks = refl
nodes-apart (i ∷ is) js ks = ap (λ ls. i ∷ ls) (nodes-apart is js ks)

-- parts end with an expression, by what the first is
abbrev pub EndsAs : Form.the_data → Trees → Trees → Part → Type 0
EndsAs form parts rest p = elim p [ Whole ↦ rest ≡ Nil | Outer ↦ EndsWhole rest | Helper ↦ (parts ≡ Nil) × (defines form ≡ Nothing) × EndsWhole rest ]

module _ (flat : FlatModule) (text : Text) (known : Known) (named : List ℕ → Outside) where
  -- behind what defines nothing
  behind-nothing : (around : Around) (form : Form.the_data) (s : Span) (parts : Trees) (value : Value) → defines form ≡ Nothing → behind_definition text known named around (Node form s parts) value ≡ around
  behind-nothing around form s parts value e =
      ap (λ names. record { context = bind_all text around.context names; standing = with_values around.standing (map (meant text) names) value; old = around.old }) (ap (λ d. defined_as d parts) e)

  -- the body behind a part that helps and defines nothing
  inner-next : (around : Around) (form : Form.the_data) (s : Span) (parts rest : Trees) → helps form ≡ true → defines form ≡ Nothing → inner text known named around (Cons (Node form s parts) rest) ≡ inner text known named around rest
  inner-next around form s parts rest help none =
      by_help (helps form) help
      ∙ ap (λ a. inner text known named a rest) (behind-nothing around form s parts (defined_value text known named around (Node form s parts)) none)
    where
      by_help : (b : Bool) → b ≡ true → elim b [
        | true ↦ inner text known named (behind_definition text known named around (Node form s parts) (defined_value text known named around (Node form s parts))) rest
        | false ↦ expand text known named around (Node form s parts)
      ] ≡ inner text known named (behind_definition text known named around (Node form s parts) (defined_value text known named around (Node form s parts))) rest
      by_help true e = refl
      by_help false e = cc

  pub body-next : (layout : Layout) (i : ℕ) (form : Form.the_data) (s : Span) (parts rest : Trees) → helps form ≡ true → defines form ≡ Nothing → IsBody flat text known named layout i rest → IsBody flat text known named layout i (Cons (Node form s parts) rest)
  body-next layout i form s parts rest help none body frame more around agrees =
      body frame more around agrees ∙ sym (ap (λ (x : Item). x.text) (inner-next around form s parts rest help none))

  module _ (means : ℕ → Option Meaning) (implied : ℕ → List Meaning) (faces : List ℕ → FlatFace) (nameable : List ℕ → Bool) where
    -- the operands of parts that stand outside
    abbrev pub AreOuters : Layout → List ℕ → Trees → Type 0
    AreOuters outside outers parts = (frame more : List Item) (o : Around) → Agrees flat outside frame o → given flat text known named means implied faces nameable outers (frame ++ more) ≡ outer_operands text known named o parts

    pub outers-next : (outside : Layout) (first others is : List ℕ) (form : Form.the_data) (s : Span) (parts rest : Trees) → is ≡ first ++ others → ((frame more : List Item) (o : Around) → Agrees flat outside frame o → given flat text known named means implied faces nameable first (frame ++ more) ≡ elim (stands_outside form) [ true ↦ operands text known named o o parts | false ↦ Operands.Nil ]) → AreOuters outside others rest → AreOuters outside is (Cons (Node form s parts) rest)
    outers-next outside first others is form s parts rest parted one after frame more o agrees =
        given-parted flat text known named means implied faces nameable is first others (frame ++ more) _ _ parted (one frame more o agrees) (after frame more o agrees)

    pub outer-here : (outside : Layout) (first : List ℕ) (form : Form.the_data) (parts : Trees) (o : Around) (s : List Item) → stands_outside form ≡ true → given flat text known named means implied faces nameable first s ≡ operands text known named o o parts → given flat text known named means implied faces nameable first s ≡ elim (stands_outside form) [ true ↦ operands text known named o o parts | false ↦ Operands.Nil ]
    outer-here outside first form parts o s e same = same ∙ sym (ap (λ b. elim b [ true ↦ operands text known named o o parts | false ↦ Operands.Nil ]) e)

    pub outer-none : (outside : Layout) (first : List ℕ) (form : Form.the_data) (parts : Trees) (o : Around) (s : List Item) → stands_outside form ≡ false → first ≡ [] → given flat text known named means implied faces nameable first s ≡ elim (stands_outside form) [ true ↦ operands text known named o o parts | false ↦ Operands.Nil ]
    outer-none outside first form parts o s e none =
        ap (λ js. given flat text known named means implied faces nameable js s) none ∙ sym (ap (λ b. elim b [ true ↦ operands text known named o o parts | false ↦ Operands.Nil ]) e)

    -- the nodes of parts that end with an expression: those outside, and the body
    pub record Ends (outside inside : Layout) (is : List ℕ) (parts : Trees) : Type 0 where
      pub outers : List ℕ
      pub body : ℕ
      pub parted : is ≡ outers ++ (body ∷ [])
      pub inside_only : AreInside parts → outers ≡ []
      pub means_body : IsBody flat text known named inside body parts
      pub means_outers : AreOuters outside outers parts

    pub ends : (parts : Trees) (outside inside : Layout) (setting : Setting) (seen : Meaning → Bool) (is : List ℕ) (asked : List Question) → Each flat text known named means implied faces nameable parts → Knows flat text known named faces nameable outside setting seen → Knows flat text known named faces nameable inside setting seen → EndsWhole parts → AreOperands text means implied faces flat all_parts setting parts is asked → AreReadable text known named means implied faces outside.context inside.context parts → Fresh text seen (whole-names text parts) → Ends outside inside is parts
    ends Nil outside inside setting seen is asked each knows-out knows whole made can fresh = absurd whole
    ends (Cons (Node form s parts) rest) outside inside setting seen is asked each knows-out knows whole (first, others, b, c, parted, asks, one, rest-made) can fresh =
        by_part (part_of form) refl whole one can.0 (fresh-left text seen _ (whole-names text rest) fresh)
        (λ left. ends rest outside inside setting seen others c each.2 knows-out knows left rest-made can.1 (fresh-right text seen _ (whole-names text rest) fresh))
      where
        by_part : (p : Part) → part_of form ≡ p → EndsAs form parts rest p → IsMadeAs flat text known named means implied faces nameable setting form s parts first b p → IsReadAs flat text known named means implied faces nameable outside inside form s parts p → IsNewAs flat text known named means implied faces nameable seen form s parts p → (EndsWhole rest → Ends outside inside others rest) → Ends outside inside is (Cons (Node form s parts) rest)
        by_part Outer e left made read new again =
            let after = again left in
            let out = outer-part form e in
            let help = outer-helps form out in
            record {
              outers = first ++ after.outers;
              body = after.body;
              parted = parted ∙ ap (λ js. first ++ js) after.parted ∙ sym (nodes-apart first after.outers (after.body ∷ []));
              inside_only = λ none. both-ways (stands_outside form) none.0 out;
              means_body = body-next inside after.body form s parts rest help.0 help.1 after.means_body;
              means_outers = outers-next outside first after.outers (first ++ after.outers) form s parts rest refl
                  (λ frame more o agrees. outer-here outside first form parts o (frame ++ more) out (operands-given flat text known named means implied faces nameable parts outside outside setting seen first b each.1 knows-out knows-out made read new frame more o o agrees agrees)) after.means_outers;
            }
        by_part Helper e (empty, none, left) made read new again =
            let after = again left in
            let help = helper-part form e in
            let nothing : first ≡ [] = no-nodes parts empty made in
            record {
              outers = after.outers;
              body = after.body;
              parted = parted ∙ ap (λ js. js ++ others) nothing ∙ after.parted;
              inside_only = λ inner-parts. after.inside_only inner-parts.1;
              means_body = body-next inside after.body form s parts rest help.1 none after.means_body;
              means_outers = outers-next outside first after.outers after.outers form s parts rest (sym (ap (λ js. js ++ after.outers) nothing))
                  (λ frame more o agrees. outer-none outside first form parts o (frame ++ more) help.0 nothing) after.means_outers;
            }
          where
            no-nodes : (ps : Trees) → ps ≡ Nil → AreOperands text means implied faces flat all_parts setting ps first b → first ≡ []
            no-nodes Nil e made = made.0
            no-nodes (Cons x xs) e made = cc
        by_part Whole e last (i, single, made) read new again =
            let plain = whole-part form e in
            let meant-here = each.0 inside setting seen i b knows made read.1 new in
            let none : others ≡ [] = no-others rest last rest-made in
            record {
              outers = [];
              body = i;
              parted = parted ∙ ap (λ js. js ++ others) single ∙ ap (λ js. (i ∷ []) ++ js) none;
              inside_only = λ inner-parts. refl;
              means_body = body-itself flat text known named inside i form s parts rest plain.1 read.0 meant-here;
              means_outers = outers-next outside [] [] [] form s parts rest refl
                  (λ frame more o agrees. outer-none outside [] form parts o (frame ++ more) plain.0 refl)
                  (λ frame more o agrees. no-outers rest last o);
            }
          where
            no-others : (ps : Trees) → ps ≡ Nil → AreOperands text means implied faces flat all_parts setting ps others c → others ≡ []
            no-others Nil e made = made.0
            no-others (Cons x xs) e made = cc

            no-outers : (ps : Trees) → ps ≡ Nil → (o : Around) → Operands.Nil ≡ outer_operands text known named o ps
            no-outers Nil e o = refl
            no-outers (Cons x xs) e o = cc
