-- The nodes of operands are what the expressions in parts are, where each of these means its tree.
use Rattle.std.proofs.Common.{◌≡◌, ℕ, Bool, List, [], ◌∷◌, ◌++◌, Option, Some, None, refl, sym, ap, ◌∙◌, subst}
use Rattle.tla_symbols.specs.declared.lexeme.Span.{Span}
use Rattle.tla_tree.specs.declared.form.Form.TheVariants as Form
use Rattle.tla_tree.specs.Syntax.{Tree, Trees, Node, Nil, Cons}
use Rattle.tla_model.specs.declared.names.Binding.TheVariants as as_binding
use Rattle.tla_model.specs.Entities.{Meaning, Text, declared_in}
use Rattle.module_model.specs.Exports.{Behind, Known, entry_of, onward}
use Rattle.kind_text.specs.ExpandedKind.{Operands}
use Rattle.kind_text.specs.FlatModule.{FlatModule}
use Rattle.kind_text.specs.Expansion.{Earlier, items as items_at, text as text_at}
use Rattle.kind_text.specs.Substitution.{Item, judged, texts}
use Rattle.tree_kinds.specs.Standing.{Outside}
use Rattle.tree_kinds.specs.Expanding.{Around, Outer, Helper, Whole, Part, and_operands, expand, items, operands, part_of, places_at}
use Rattle.flat_trees.specs.Stands.{Fits, Matches}
use Rattle.flat_trees.specs.Names.{order_by}
use Rattle.flat_trees.specs.Layouts.{Agrees, IsMeant, Layout}
use Rattle.flattened_trees.specs.Leads.{FlatFace, Setting}
use Rattle.flattened_trees.specs.Questions.{Question}
use Rattle.flattened_trees.specs.Flattened.{AreOperands, IsFlattened, all_parts}
use Rattle.flattened_trees.specs.Readable.{AreArguments, AreReadable, IsReadable, IsReadablePath, first_name, orders_of}
use Rattle.flattened_meanings.specs.Faces.{IsOfNameable}
use Rattle.flattened_meanings.proofs.Leading.{PathFits}
use Rattle.flattened_meanings.proofs.Fresh.{Fresh, fresh-left, fresh-right, whole-names}
use Rattle.flattened_meanings.proofs.Rounds.{Knows}

-- ---- lists of operands

pub items-append : (f : Earlier) (xs ys : List ℕ) (s : List Item) → items_at f (xs ++ ys) s ≡ items_at f xs s ++ items_at f ys s
items-append f [] ys s = refl
items-append f (x ∷ xs) ys s = ap (λ zs. f x s ∷ zs) (items-append f xs ys s)

pub texts-append : (xs ys : List Item) → texts (xs ++ ys) ≡ and_operands (texts xs) (texts ys)
texts-append [] ys = refl
texts-append (x ∷ xs) ys = ap (Operands.Cons x.text) (texts-append xs ys)

pub operands-nil : (ts : Operands) → and_operands ts Operands.Nil ≡ ts
operands-nil Operands.Nil = refl
operands-nil (Operands.Cons t ts) = ap (Operands.Cons t) (operands-nil ts)

pub nodes-nil : (is : List ℕ) → is ++ [] ≡ is
nodes-nil [] = refl
nodes-nil (i ∷ is) = ap (λ js. i ∷ js) (nodes-nil is)

module _ (flat : FlatModule) (text : Text) (known : Known) (named : List ℕ → Outside) (means : ℕ → Option Meaning) (implied : ℕ → List Meaning) (faces : List ℕ → FlatFace) (nameable : List ℕ → Bool) where
  -- a tree is meant by the node that it is, whatever is known round it
  abbrev pub IsKept : Tree → Type 0
  IsKept x =
      (layout : Layout) (setting : Setting) (seen : Meaning → Bool) (i : ℕ) (asked : List Question) → Knows flat text known named faces nameable layout setting seen
      → IsFlattened text means implied faces flat setting x i asked
      → IsReadable text known named means implied faces layout.context x
      → Fresh text seen (declared_in as_binding.Constant x)
      → IsMeant flat text known named layout i x

  -- the same of each of these, and of each of their parts; and each INSTANCE is of a module that can be named
  abbrev pub Each : Trees → Type 0
  Each Nil = Unit {0}
  Each (Cons (Node form s parts) rest) = IsKept (Node form s parts) × Each parts × Each rest × IsOfNameable text.source nameable form

  -- the operands of nodes, over a frame
  abbrev pub given : List ℕ → List Item → Operands
  given is s = texts (items_at (text_at flat) is s)

  pub given-append : (xs ys : List ℕ) (s : List Item) → given (xs ++ ys) s ≡ and_operands (given xs s) (given ys s)
  given-append xs ys s = ap texts (items-append (text_at flat) xs ys s) ∙ texts-append (items_at (text_at flat) xs s) (items_at (text_at flat) ys s)

  pub given-parted : (is xs ys : List ℕ) (s : List Item) (ts us : Operands) → is ≡ xs ++ ys → given xs s ≡ ts → given ys s ≡ us → given is s ≡ and_operands ts us
  given-parted is xs ys s ts us parted one other =
      ap (λ js. given js s) parted ∙ given-append xs ys s ∙ ap (λ t. and_operands t (given ys s)) one ∙ ap (and_operands ts) other

  -- an expression among operands
  pub whole-given : (x : Tree) (layout : Layout) (i : ℕ) (frame more : List Item) (around : Around) → IsMeant flat text known named layout i x → places_at text known named layout.context x ≡ None → Agrees flat layout frame around → given (i ∷ []) (frame ++ more) ≡ Operands.Cons (judged (places_at text known named around.context x) (expand text known named around x)) Operands.Nil
  whole-given x layout i frame more around meant plain agrees =
      let here : (text_at flat i (frame ++ more)).text ≡ (expand text known named around x).text =
      subst (λ o. Matches (order_by o) (text_at flat i (frame ++ more)) (expand text known named around x)) plain (meant frame more around agrees) in
      let none : places_at text known named around.context x ≡ None = ap (λ context. places_at text known named context x) agrees.context ∙ plain in
      ap (λ t. Operands.Cons t Operands.Nil) (here ∙ sym (ap (λ o. judged o (expand text known named around x)) none))

  -- a part has these nodes, by what it is
  abbrev pub IsMadeAs : Setting → Form.the_data → Span → Trees → List ℕ → List Question → Part → Type 0
  IsMadeAs setting form s parts first b p = elim p [
    | Outer ↦ AreOperands text means implied faces flat all_parts setting parts first b
    | Helper ↦ AreOperands text means implied faces flat all_parts setting parts first b
    | Whole ↦ (i : ℕ) × (first ≡ i ∷ []) × IsFlattened text means implied faces flat setting (Node form s parts) i b
  ]

  -- a part can be read, by what it is
  abbrev pub IsReadAs : Layout → Layout → Form.the_data → Span → Trees → Part → Type 0
  IsReadAs outside inside form s parts p = elim p [
    | Outer ↦ AreReadable text known named means implied faces outside.context outside.context parts
    | Helper ↦ AreReadable text known named means implied faces inside.context inside.context parts
    | Whole ↦ (places_at text known named inside.context (Node form s parts) ≡ None) × IsReadable text known named means implied faces inside.context (Node form s parts)
  ]

  -- what is declared in the expressions of a part is new, by what it is
  abbrev pub IsNewAs : (Meaning → Bool) → Form.the_data → Span → Trees → Part → Type 0
  IsNewAs seen form s parts p = Fresh text seen (elim p [ Outer ↦ whole-names text parts | Helper ↦ whole-names text parts | Whole ↦ declared_in as_binding.Constant (Node form s parts) ])

  -- parts of a part give these operands
  abbrev IsGivenBy : Layout → Setting → (Meaning → Bool) → List Item → Trees → Operands → Type 0
  IsGivenBy layout setting seen s parts ts =
      (js : List ℕ) (bs : List Question) → AreOperands text means implied faces flat all_parts setting parts js bs
      → AreReadable text known named means implied faces layout.context layout.context parts → Fresh text seen (whole-names text parts) → given js s ≡ ts

  -- the operands of parts, by what is known round those outside and those inside of a scope
  pub operands-given : (parts : Trees) (outside inside : Layout) (setting : Setting) (seen : Meaning → Bool) (is : List ℕ) (asked : List Question) → Each parts → Knows flat text known named faces nameable outside setting seen → Knows flat text known named faces nameable inside setting seen → AreOperands text means implied faces flat all_parts setting parts is asked → AreReadable text known named means implied faces outside.context inside.context parts → Fresh text seen (whole-names text parts) → (frame more : List Item) (o a : Around) → Agrees flat outside frame o → Agrees flat inside frame a → given is (frame ++ more) ≡ operands text known named o a parts
  operands-given Nil outside inside setting seen is asked each knows-out knows made readable fresh frame more o a agrees-out agrees = ap (λ js. given js (frame ++ more)) made.0
  operands-given (Cons (Node form s parts) rest) outside inside setting seen is asked each knows-out knows (first, others, b, c, parted, asks, one, rest-made) readable fresh frame more o a agrees-out agrees =
      given-parted is first others (frame ++ more) _ _ parted
      (by_part (part_of form) one readable.0 (fresh-left text seen _ (whole-names text rest) fresh)
      (λ js bs made can new. operands-given parts outside outside setting seen js bs each.1 knows-out knows-out made can new frame more o o agrees-out agrees-out)
      (λ js bs made can new. operands-given parts inside inside setting seen js bs each.1 knows knows made can new frame more a a agrees agrees))
      (operands-given rest outside inside setting seen others c each.2 knows-out knows rest-made readable.1 (fresh-right text seen _ (whole-names text rest) fresh) frame more o a agrees-out agrees)
    where
      by_part : (p : Part) → IsMadeAs setting form s parts first b p → IsReadAs outside inside form s parts p → IsNewAs seen form s parts p → IsGivenBy outside setting seen (frame ++ more) parts (operands text known named o o parts) → IsGivenBy inside setting seen (frame ++ more) parts (operands text known named a a parts) → given first (frame ++ more) ≡ elim p [
        | Outer ↦ operands text known named o o parts
        | Helper ↦ operands text known named a a parts
        | Whole ↦ Operands.Cons (judged (places_at text known named a.context (Node form s parts)) (expand text known named a (Node form s parts))) Operands.Nil
      ]
      by_part Outer made can new outer helper = outer first b made can new
      by_part Helper made can new outer helper = helper first b made can new
      by_part Whole (i, single, made) can new outer helper =
          ap (λ js. given js (frame ++ more)) single
          ∙ whole-given (Node form s parts) inside i frame more a (each.0 inside setting seen i b knows made can.1 new) can.0 agrees

  -- ---- arguments

  module _ (layout : Layout) (setting : Setting) (seen : Meaning → Bool) (knows : Knows flat text known named faces nameable layout setting seen) (frame more : List Item) (around : Around) (agrees : Agrees flat layout frame around) where
    pub arguments-fit : (parts : Trees) (orders is : List ℕ) (asked : List Question) → Each parts → AreOperands text means implied faces flat all_parts setting parts is asked → AreArguments text known named means implied faces layout.context orders parts → Fresh text seen (whole-names text parts) → Fits orders (items_at (text_at flat) is (frame ++ more)) (items text known named around parts)
    arguments-fit Nil [] is asked each made can fresh = subst (λ js. Fits [] (items_at (text_at flat) js (frame ++ more)) []) (sym made.0) tt
    arguments-fit Nil (order ∷ orders) is asked each made can fresh = absurd can
    arguments-fit (Cons (Node form s parts) rest) [] is asked each made can fresh = absurd can
    arguments-fit (Cons (Node form s parts) rest) (order ∷ orders) is asked each (first, others, b, c, parted, asks, one, rest-made) (whole, takes, can, cans) fresh =
        by_part (part_of form) whole one (fresh-left text seen _ (whole-names text rest) fresh)
        (arguments-fit rest orders others c each.2 rest-made cans (fresh-right text seen _ (whole-names text rest) fresh))
      where
        by_part : (p : Part) → p ≡ Whole → IsMadeAs setting form s parts first b p → IsNewAs seen form s parts p → Fits orders (items_at (text_at flat) others (frame ++ more)) (items text known named around rest) → Fits (order ∷ orders) (items_at (text_at flat) is (frame ++ more)) (items text known named around (Cons (Node form s parts) rest))
        by_part Outer e made new after = cc
        by_part Helper e made new after = cc
        by_part Whole e (i, single, made) new after =
            let both : is ≡ i ∷ others = parted ∙ ap (λ js. js ++ others) single in
            let meant = each.0 layout setting seen i b knows made can new in
            let here : Matches order (text_at flat i (frame ++ more)) (expand text known named around (Node form s parts)) =
            subst (λ n. Matches n (text_at flat i (frame ++ more)) (expand text known named around (Node form s parts))) takes (meant frame more around agrees) in
            subst (λ js. Fits (order ∷ orders) (items_at (text_at flat) js (frame ++ more)) (items text known named around (Cons (Node form s parts) rest))) (sym both) (here, after)

    -- the arguments on a path
    pub path-fits : (parts : Trees) (meaning : Option Meaning) (held : Behind) (is : List ℕ) (asked : List Question) → Each parts → AreOperands text means implied faces flat all_parts setting parts is asked → IsReadablePath text known named means implied faces layout.context meaning held parts → Fresh text seen (whole-names text parts) → PathFits text known named around meaning held parts (items_at (text_at flat) is (frame ++ more))
    path-fits parts None held is asked each made can fresh = absurd can
    path-fits Nil (Some m) held is asked each made can fresh = absurd can
    path-fits (Cons (Node (Form.Segment l) s Nil) Nil) (Some m) held is asked each (first, others, b, c, parted, asks, one, rest-made) can fresh =
        (ap (λ js. items_at (text_at flat) js (frame ++ more)) (parted ∙ ap (λ js. js ++ others) one.0 ∙ rest-made.0), can)
    path-fits (Cons (Node (Form.Segment l) s (Cons x arguments)) Nil) (Some m) held is asked each (first, others, b, c, parted, asks, one, rest-made) can fresh =
        let all : first ≡ is = sym (parted ∙ ap (λ js. first ++ js) rest-made.0 ∙ nodes-nil first) in (
          can.0,
          subst (λ js. Fits (orders_of m) (items_at (text_at flat) js (frame ++ more)) (items text known named around (Cons x arguments))) all
              (arguments-fit (Cons x arguments) (orders_of m) first b each.1 one can.1 (fresh-left text seen (whole-names text (Cons x arguments)) [] fresh)),
        )
    path-fits (Cons (Node (Form.Segment l) s Nil) (Cons y rest)) (Some m) held is asked each (first, others, b, c, parted, asks, one, rest-made) can fresh = (
      can.0,
      (
        items_at (text_at flat) first (frame ++ more),
        items_at (text_at flat) others (frame ++ more),
        ap (λ js. items_at (text_at flat) js (frame ++ more)) parted ∙ items-append (text_at flat) first others (frame ++ more),
        arguments-fit Nil (orders_of m) first b each.1 one can.1 (fresh-left text seen (whole-names text Nil) (whole-names text (Cons y rest)) fresh),
        path-fits (Cons y rest) (entry_of (held []) (first_name text.source (Cons y rest))) (onward held (first_name text.source (Cons y rest))) others c each.2 rest-made can.2 (fresh-right text seen (whole-names text Nil) (whole-names text (Cons y rest)) fresh),
      ),
    )
    path-fits (Cons (Node (Form.Segment l) s (Cons x arguments)) (Cons y rest)) (Some m) held is asked each (first, others, b, c, parted, asks, one, rest-made) can fresh = (
      can.0,
      (
        items_at (text_at flat) first (frame ++ more),
        items_at (text_at flat) others (frame ++ more),
        ap (λ js. items_at (text_at flat) js (frame ++ more)) parted ∙ items-append (text_at flat) first others (frame ++ more),
        arguments-fit (Cons x arguments) (orders_of m) first b each.1 one can.1 (fresh-left text seen (whole-names text (Cons x arguments)) (whole-names text (Cons y rest)) fresh),
        path-fits (Cons y rest) (entry_of (held []) (first_name text.source (Cons y rest))) (onward held (first_name text.source (Cons y rest))) others c each.2 rest-made can.2 (fresh-right text seen (whole-names text (Cons x arguments)) (whole-names text (Cons y rest)) fresh),
      ),
    )
    path-fits (Cons (Node form s arguments) rest) (Some m) held is asked each made can fresh = absurd can
