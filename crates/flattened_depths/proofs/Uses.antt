-- Nodes of names and of symbols are as deep as what these reach, with their arguments.
use Rattle.std.proofs.Common.{◌≡◌, ℕ, zero, suc, ◌+◌, max, cond, List, [], ◌∷◌, ◌++◌, Option, Some, None, length, refl, sym, ap, ◌∙◌, subst, ◌⊎◌, inl, inr, take, drop, arith}
use Rattle.std.specs.Prelude.{nat_eq, slice_get}
use Rattle.std.proofs.Math.Dec.{eqb-suc-zero}
use Rattle.std.proofs.Math.Nat.{max-zero}
use Rattle.std.proofs.lemmas.List.{length-replicate, nil_from_length}
use Rattle.tla_symbols.specs.declared.lexeme.Lexeme.{Lexeme}
use Rattle.tla_symbols.specs.declared.lexeme.Span.{Span}
use Rattle.tla_tree.specs.declared.form.Form.TheVariants as Form
use Rattle.tla_tree.specs.Syntax.{Trees, Node, Nil, Cons}
use Rattle.tla_model.specs.declared.entity.Entity.TheVariants as entity
use Rattle.tla_model.specs.declared.names.Meaning.TheVariants.{BuiltIn, Declared}
use Rattle.tla_model.specs.Tables.{Named}
use Rattle.tla_model.specs.Entities.{Meaning, Text}
use Rattle.tla_model.specs.Contexts.{Context}
use Rattle.module_model.specs.Exports.{Behind, Known}
use Rattle.kind_text.specs.FlatModule.{FlatModule, Form as NodeForm, Node as FlatNode}
use Rattle.level_text.specs.Depth.{depth as depth_at, depth_of, form_depth, greatest, operator_depth, parameters_on, replaced_depth, replaced_on}
use Rattle.tree_kinds.specs.Standing.{Outside, Reached, operator_places}
use Rattle.tree_kinds.specs.TreeDepths.{Depths, counted, deep_parts, parts_depth, path_names, use_depth}
use Rattle.flat_trees.specs.Names.{order_by, places_by}
use Rattle.flat_trees.specs.Layouts.{order_of}
use Rattle.flat_trees.specs.Stands.{Stand, Unsaid, Leaf, Place, Defined, Through, Brought}
use Rattle.flat_depths.specs.Depths.{HasDepths}
use Rattle.flat_depths.specs.Parts.{AreOnPath, Counts, HasParts, counted_on, path_of}
use Rattle.flat_depths.specs.Parts as parts_of
use Rattle.flat_depths.proofs.Agreeing.{max-assoc}
use Rattle.flat_depths.proofs.Joining.{path-parts}
use Rattle.flat_depths.proofs.Nodes.{plain, used}
use Rattle.flattened_trees.specs.declared.End.TheVariants as end
use Rattle.flattened_trees.specs.Leads.{FlatFace, Setting, through}
use Rattle.flattened_trees.specs.NodeForms.{name_node, path_places, place_node, use_node}
use Rattle.flattened_trees.specs.Questions.{Question}
use Rattle.flattened_trees.specs.Flattened.{AreOperands, all_parts}
use Rattle.flattened_trees.specs.Readable.{AreArguments, IsNoInstance, IsReadablePath, orders_of}
use Rattle.flattened_trees.specs.Agreeing.{TakesAs, TakesBehind, lead_by}
use Rattle.flattened_trees.specs.Answers.{deep_answers}
use Rattle.flattened_depths.specs.Rounds.{TakesParameters}
use Rattle.flattened_depths.proofs.Facts.{beneath}
use Rattle.flattened_depths.proofs.Naming.{Led, SegmentsGood, instance-before, never-both, path-led, single-led}

-- ---- orders and places

places-zero : (n : ℕ) → cond (nat_eq n 0) None (Some n) ≡ places_by n
places-zero zero = refl
places-zero (suc n) = ap (λ b. cond b None (Some (suc n))) (eqb-suc-zero n)

pub meaning-places : (meaning : Meaning) → operator_places (Some meaning) ≡ places_by (order_of meaning)
meaning-places BuiltIn = refl
meaning-places (Declared e callee) = places-zero (order_of (Declared e callee))

pub orders-length : (meaning : Meaning) → length (orders_of meaning) ≡ order_of meaning
orders-length BuiltIn = refl
orders-length (Declared (entity.Constant n) callee) = length-replicate n 0
orders-length (Declared (entity.Parameter n) callee) = length-replicate n 0
orders-length (Declared e callee) = refl

-- an operator has places
pub positive : (o : Option ℕ) (n : ℕ) → o ≡ places_by n → order_by o ≡ 0 → o ≡ None
positive None n e none = refl
positive (Some k) zero e none = cc
positive (Some k) (suc n) e none = cc

module _ (flat : FlatModule) where
  -- a node with this depth and these places
  pub record Fits (node : FlatNode) (n : ℕ) (places : Option ℕ) : Type 0 where
    pub deep : form_depth flat (depth_at flat) node.form node.parts ≡ n
    pub placed : node.places ≡ places

  pub use-fits : (places : Option ℕ) (path : List ℕ) (d : ℕ) (is : List ℕ) (n : ℕ) (r : Reached) → r ≡ record { depth = depth_of (depth_at flat) (slice_get flat.definitions d); replaced = max 0 (replaced_on flat (depth_at flat) path) } → counted_on flat path is ≡ n → Fits (use_node places path d is) (max (use_depth r n) (greatest (depth_at flat) is)) places
  use-fits None path d is n r e counts =
      record {
        deep = ap (λ k. max (greatest (depth_at flat) is) (depth_of (depth_at flat) (slice_get flat.definitions d) + max (replaced_on flat (depth_at flat) path) k)) counts
            ∙ used r (depth_of (depth_at flat) (slice_get flat.definitions d)) (replaced_on flat (depth_at flat) path) n (greatest (depth_at flat) is) e;
        placed = refl;
      }
  use-fits (Some count) path d is n r e counts =
      record {
        deep = ap (λ k. max (greatest (depth_at flat) is) (depth_of (depth_at flat) (slice_get flat.definitions d) + max (replaced_on flat (depth_at flat) path) k)) counts
            ∙ used r (depth_of (depth_at flat) (slice_get flat.definitions d)) (replaced_on flat (depth_at flat) path) n (greatest (depth_at flat) is) e;
        placed = refl;
      }

  -- ---- single names, whose arguments do not count

  -- where a definition without further names leads
  pub record Lone (stand : Stand) (n : ℕ) (reaches : List Named → Reached) : Type 0 where
    pub path : List ℕ
    pub number : ℕ
    pub lead : lead_by stand [] ≡ record { path = path; end = end.Definition number }
    pub reached : reaches [] ≡ record { depth = depth_of (depth_at flat) (slice_get flat.definitions number); replaced = max n (replaced_on flat (depth_at flat) path) }
    pub none : parameters_on flat (depth_at flat) path ≡ 0

  lone : (stand : Stand) (n : ℕ) (reaches : List Named → Reached) (held : Behind) (meaning : Meaning) → HasDepths flat n stand reaches → TakesParameters flat stand → TakesBehind stand held meaning → IsNoInstance meaning → Lone stand n reaches
  lone Unsaid n reaches held meaning has count takes none = absurd takes
  lone (Leaf kind) n reaches held meaning has count takes none = absurd takes
  lone (Place place order) n reaches held meaning has count takes none = absurd takes
  lone (Defined d orders) n reaches held meaning has count takes none =
      record { path = []; number = d; lead = refl; reached = has ∙ ap (λ k. record { depth = depth_of (depth_at flat) (slice_get flat.definitions d); replaced = k }) (sym (max-zero n)); none = refl }
  lone (Through j orders inner) n reaches held meaning has count takes none = absurd (never-both meaning orders takes.0 none)
  lone (Brought j inner) n reaches held meaning has count takes none =
      let one = lone inner (max n (replaced_depth (depth_at flat) (slice_get flat.instances j))) reaches held meaning has count.1 takes none in
      record {
        path = j ∷ one.path;
        number = one.number;
        lead = ap (through j) one.lead;
        reached = one.reached ∙ ap (λ k. record { depth = depth_of (depth_at flat) (slice_get flat.definitions one.number); replaced = k }) (max-assoc n (replaced_depth (depth_at flat) (slice_get flat.instances j)) (replaced_on flat (depth_at flat) one.path));
        none = (let e = count.0 in let f = one.none in omega (arith, e, f));
      }

  plain-counted : (path is : List ℕ) → parameters_on flat (depth_at flat) path ≡ 0 → greatest (operator_depth flat (depth_at flat)) is ≡ 0 → counted_on flat path is ≡ 0
  plain-counted path is none counts =
      ap (λ k. max (greatest (depth_at flat) (take k is)) (greatest (operator_depth flat (depth_at flat)) (drop k is))) none ∙ ap (max 0) counts

  -- how many arguments a name has: those that it takes, or none where it stands bare
  abbrev pub HasAll : Meaning → List ℕ → Type 0
  HasAll meaning is = (is ≡ []) ⊎ (length is ≡ length (orders_of meaning))

  -- the places of a name that stands bare, and of a name on arguments
  abbrev pub HasPlaces : Meaning → Option ℕ → List ℕ → Type 0
  HasPlaces meaning places [] = places ≡ places_by (order_of meaning)
  HasPlaces meaning places (i ∷ is) = places ≡ None

  pub lone-fits : (stand : Stand) (held : Behind) (meaning : Meaning) (reaches : List Named → Reached) (places : Option ℕ) (is : List ℕ) → HasDepths flat 0 stand reaches → TakesParameters flat stand → TakesAs stand held meaning → IsNoInstance meaning → HasAll meaning is → HasPlaces meaning places is → greatest (operator_depth flat (depth_at flat)) is ≡ 0 → Fits (name_node places (lead_by stand []) is) (max (use_depth (reaches []) 0) (greatest (depth_at flat) is)) places
  lone-fits Unsaid held meaning reaches places is has count takes none all placed counts = absurd takes
  lone-fits (Leaf kind) held meaning reaches places is has count takes none all placed counts =
      let empty = no-more all in
      record {
        deep = plain (reaches []) 0 0 has (omega arith) ∙ ap (λ xs. max (use_depth (reaches []) 0) (greatest (depth_at flat) xs)) (sym empty);
        placed = sym (subst (λ xs. HasPlaces meaning places xs) empty placed ∙ ap places_by (sym (orders-length meaning) ∙ ap length takes.1));
      }
    where
      no-more : HasAll meaning is → is ≡ []
      no-more (inl e) = e
      no-more (inr e) = nil_from_length is (e ∙ ap length takes.1)
  lone-fits (Place place order) held meaning reaches places [] has count takes none all placed counts =
      record { deep = plain (reaches []) 0 0 has (omega arith); placed = ap places_by takes.1 ∙ sym placed }
  lone-fits (Place place order) held meaning reaches places (i ∷ is) has count takes none all placed counts =
      record { deep = plain (reaches []) 0 (greatest (depth_at flat) (i ∷ is)) has (omega arith); placed = sym placed }
  lone-fits (Defined d orders) held meaning reaches places is has count takes none all placed counts =
      use-fits places [] d is 0 (reaches []) has (plain-counted [] is refl counts)
  lone-fits (Through j orders inner) held meaning reaches places is has count takes none all placed counts = absurd (never-both meaning orders takes.0 none)
  lone-fits (Brought j inner) held meaning reaches places is has count takes none all placed counts =
      let one = lone (Brought j inner) 0 reaches held meaning has count takes none in
      subst (λ lead. Fits (name_node places lead is) (max (use_depth (reaches []) 0) (greatest (depth_at flat) is)) places) (sym one.lead)
      (use-fits places one.path one.number is 0 (reaches []) one.reached (plain-counted one.path is one.none counts))

module _ (flat : FlatModule) (text : Text) (known : Known) (named : List ℕ → Outside) (means : ℕ → Option Meaning) (implied : ℕ → List Meaning) (faces : List ℕ → FlatFace) (inside : List ℕ → Named → Stand) (context : Context) (depths : Depths) (setting : Setting) where
  -- ---- paths

  -- a path is as deep as what it reaches, with what counts of its arguments
  abbrev path_depth : Meaning → Trees → Trees → ℕ
  path_depth meaning segments rest =
      max (use_depth (depths meaning (path_names text.source rest)) (counted text known named (beneath context depths) segments)) (parts_depth text known named (beneath context depths) (beneath context depths) segments)

  call-fits : (place order : ℕ) (form : Form.the_data) (at : Span) (ys more : Trees) (is : List ℕ) (n : ℕ) → parts_of.AreArguments flat text known named (beneath context depths) (Cons (Node form at ys) more) is → greatest (depth_at flat) is ≡ n → Fits flat (place_node place order is) n None
  call-fits place order form at ys more [] n all e = absurd all
  call-fits place order form at ys more (i ∷ is) n all e = record { deep = e; placed = refl }

  led-fits : (stand : Stand) (meaning : Meaning) (s : Span) (segments rest : Trees) (is : List ℕ) (asked : List Question) → Led flat text known named means implied faces inside context depths setting stand 0 (depths meaning) segments rest is asked → Fits flat (name_node (path_places text.source means segments) (lead_by stand (path_names text.source rest)) is) (path_depth meaning segments rest) (path_places text.source means segments) × (deep_answers flat asked ≡ deep_parts text known named (beneath context depths) (beneath context depths) segments)
  led-fits stand meaning s segments rest is asked led =
      let parts = subst (λ xs. HasParts flat text known named (beneath context depths) (Node Form.Identifier s segments) (NodeForm.Use led.path led.number) xs) (sym led.split) (path-parts flat text known named (beneath context depths) segments s (NodeForm.Use led.path led.number) led.before led.own led.on led.many) in
      let fits = use-fits flat (path_places text.source means segments) led.path led.number is (counted text known named (beneath context depths) segments) (depths meaning (path_names text.source rest)) led.reached parts.1 in (
        subst (λ lead. Fits flat (name_node (path_places text.source means segments) lead is) (path_depth meaning segments rest) (path_places text.source means segments)) (sym led.lead)
            (record { deep = fits.deep ∙ ap (max (use_depth (depths meaning (path_names text.source rest)) (counted text known named (beneath context depths) segments))) parts.0; placed = fits.placed }),
        led.names,
      )

  -- the places of a name that stands bare
  bare-places : (meaning : Meaning) (l : Lexeme) (s : Span) → means l.span.start ≡ Some meaning → path_places text.source means (Cons (Node (Form.Segment l) s Nil) Nil) ≡ places_by (order_of meaning)
  bare-places meaning l s e = ap operator_places e ∙ meaning-places meaning

  pub identifier-fits : (stand : Stand) (held : Behind) (meaning : Meaning) (l : Lexeme) (s : Span) (arguments rest : Trees) (is : List ℕ) (asked : List Question)
      → HasDepths flat 0 stand (depths meaning) → TakesParameters flat stand → TakesAs stand held meaning → means l.span.start ≡ Some meaning
      → IsReadablePath text known named means implied faces context (Some meaning) held (Cons (Node (Form.Segment l) s arguments) rest)
      → SegmentsGood flat text known named means implied faces inside context depths setting (Cons (Node (Form.Segment l) s arguments) rest)
      → AreOperands text means implied faces flat all_parts setting (Cons (Node (Form.Segment l) s arguments) rest) is asked
      → Fits flat (name_node (path_places text.source means (Cons (Node (Form.Segment l) s arguments) rest)) (lead_by stand (path_names text.source rest)) is) (path_depth meaning (Cons (Node (Form.Segment l) s arguments) rest) rest) (path_places text.source means (Cons (Node (Form.Segment l) s arguments) rest))
      × (deep_answers flat asked ≡ deep_parts text known named (beneath context depths) (beneath context depths) (Cons (Node (Form.Segment l) s arguments) rest))
  identifier-fits Unsaid held meaning l s arguments rest is asked has count takes here readable good flattened = absurd takes
  identifier-fits (Leaf kind) held meaning l s arguments (Cons x rest) is asked has count takes here readable good flattened =
      absurd (never-both meaning (orders_of meaning) (instance-before flat text known named means implied faces inside context depths setting held meaning l s arguments x rest readable) takes.0)
  identifier-fits (Leaf kind) held meaning l s Nil Nil is asked has count takes here readable good flattened = (
    record {
      deep = plain (depths meaning []) 0 0 has (omega arith);
      placed = sym (bare-places meaning l s here ∙ ap places_by (sym (orders-length meaning) ∙ ap length takes.1));
    },
    (single-led flat text known named means implied faces inside context depths setting l s Nil [] is asked tt good flattened).1,
  )
  identifier-fits (Leaf kind) held meaning l s (Cons (Node form at ys) more) Nil is asked has count takes here readable good flattened =
      absurd (subst (λ orders. AreArguments text known named means implied faces context orders (Cons (Node form at ys) more)) takes.1 readable.1)
  identifier-fits (Place place order) held meaning l s arguments (Cons x rest) is asked has count takes here readable good flattened =
      absurd (never-both meaning (orders_of meaning) (instance-before flat text known named means implied faces inside context depths setting held meaning l s arguments x rest readable) takes.0)
  identifier-fits (Place place order) held meaning l s Nil Nil is asked has count takes here readable good (first, others, a, b, split, joined, one, later) = (
    subst (λ xs. Fits flat (place_node place order xs) (path_depth meaning (Cons (Node (Form.Segment l) s Nil) Nil) Nil) (path_places text.source means (Cons (Node (Form.Segment l) s Nil) Nil)))
        (sym (split ∙ ap (λ xs. xs ++ others) one.0 ∙ later.0))
        (record { deep = plain (depths meaning []) 0 0 has (omega arith); placed = ap places_by takes.1 ∙ sym (bare-places meaning l s here) }),
    (single-led flat text known named means implied faces inside context depths setting l s Nil [] is asked tt good (first, others, a, b, split, joined, one, later)).1,
  )
  identifier-fits (Place place order) held meaning l s (Cons (Node form at ys) more) Nil is asked has count takes here readable good flattened =
      let all = single-led flat text known named means implied faces inside context depths setting l s (Cons (Node form at ys) more) (orders_of meaning) is asked readable.1 good flattened in
      let parts = path-parts flat text known named (beneath context depths) (Cons (Node (Form.Segment l) s (Cons (Node form at ys) more)) Nil) s (NodeForm.Call place) [] is all.0 refl in (
        call-fits place order form at ys more is (path_depth meaning (Cons (Node (Form.Segment l) s (Cons (Node form at ys) more)) Nil) Nil) all.0.1
            (plain (depths meaning []) (counted text known named (beneath context depths) (Cons (Node (Form.Segment l) s (Cons (Node form at ys) more)) Nil)) (greatest (depth_at flat) is) has parts.1
            ∙ ap (max (use_depth (depths meaning []) (counted text known named (beneath context depths) (Cons (Node (Form.Segment l) s (Cons (Node form at ys) more)) Nil)))) parts.0),
        all.1,
      )
  identifier-fits (Defined d orders) held meaning l s arguments rest is asked has count takes here readable good flattened =
      led-fits (Defined d orders) meaning s (Cons (Node (Form.Segment l) s arguments) rest) rest is asked
      (path-led flat text known named means implied faces inside context depths setting (Defined d orders) 0 (depths meaning) held meaning l s arguments rest is asked has count takes readable good flattened)
  identifier-fits (Through j orders inner) held meaning l s arguments rest is asked has count takes here readable good flattened =
      led-fits (Through j orders inner) meaning s (Cons (Node (Form.Segment l) s arguments) rest) rest is asked
      (path-led flat text known named means implied faces inside context depths setting (Through j orders inner) 0 (depths meaning) held meaning l s arguments rest is asked has count takes readable good flattened)
  identifier-fits (Brought j inner) held meaning l s arguments rest is asked has count takes here readable good flattened =
      led-fits (Brought j inner) meaning s (Cons (Node (Form.Segment l) s arguments) rest) rest is asked
      (path-led flat text known named means implied faces inside context depths setting (Brought j inner) 0 (depths meaning) held meaning l s arguments rest is asked has count takes readable good flattened)
