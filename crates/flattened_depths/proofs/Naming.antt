-- Paths of names that can be read lead to definitions, as deep as what they reach, on arguments that are split among the instances on
-- the way and the definition.
use Rattle.std.proofs.Common.{◌≡◌, ℕ, ◌+◌, max, List, [], ◌∷◌, ◌++◌, Option, Some, None, length, refl, sym, ap, ◌∙◌, subst, append_assoc, length-append, append-nil, arith}
use Rattle.std.specs.Prelude.{slice_get}
use Rattle.std.proofs.Math.Nat.{max-zero}
use Rattle.tla_symbols.specs.declared.lexeme.Lexeme.{Lexeme}
use Rattle.tla_symbols.specs.declared.lexeme.Span.{Span}
use Rattle.tla_tree.specs.declared.form.Form.TheVariants as Form
use Rattle.tla_tree.specs.Syntax.{Tree, Trees, Node, Nil, Cons}
use Rattle.tla_model.specs.declared.entity.Entity.TheVariants as entity
use Rattle.tla_model.specs.declared.names.Meaning.TheVariants.{BuiltIn, Declared}
use Rattle.tla_model.specs.Tables.{Named}
use Rattle.tla_model.specs.Entities.{Meaning, Text, name_of}
use Rattle.tla_model.specs.Contexts.{Context}
use Rattle.module_model.specs.Exports.{Behind, Known, entry_of, onward}
use Rattle.kind_text.specs.FlatModule.{FlatModule}
use Rattle.level_text.specs.Depth.{depth as depth_at, depth_of, parameters_of, parameters_on, replaced_depth, replaced_on}
use Rattle.tree_kinds.specs.Standing.{Outside, Reached}
use Rattle.tree_kinds.specs.TreeDepths.{Depths, deep_names, deep_parts, path_names}
use Rattle.flat_trees.specs.Stands.{Stand, Unsaid, Leaf, Place, Defined, Through, Brought}
use Rattle.flat_depths.specs.Depths.{HasDepths}
use Rattle.flat_depths.specs.Parts.{AreOnPath}
use Rattle.flat_depths.specs.Parts as parts_of
use Rattle.flat_depths.proofs.Agreeing.{max-assoc}
use Rattle.flattened_trees.specs.declared.End.TheVariants as end
use Rattle.flattened_trees.specs.Leads.{FlatFace, Setting, through}
use Rattle.flattened_trees.specs.Questions.{Question}
use Rattle.flattened_trees.specs.Flattened.{AreOperands, all_parts}
use Rattle.flattened_trees.specs.Readable.{AreArguments, IsInstanceOf, IsNoInstance, IsReadablePath, first_name, orders_of}
use Rattle.flattened_trees.specs.Agreeing.{TakesBehind, lead_by}
use Rattle.flattened_depths.specs.Arranged.{BindsNothing}
use Rattle.flattened_trees.specs.Answers.{deep_answers}
use Rattle.flattened_depths.specs.Rounds.{TakesParameters}
use Rattle.flattened_depths.proofs.Facts.{asked-joins, beneath, helper-names, unbound-names}

-- what is an instance is not none
pub never-both : (meaning : Meaning) (orders : List ℕ) → IsInstanceOf meaning orders → IsNoInstance meaning → ⊥
never-both BuiltIn orders is none = is
never-both (Declared (entity.Instance taken) callee) orders is none = none
never-both (Declared e callee) orders is none = is

instance-orders : (meaning : Meaning) (orders : List ℕ) → IsInstanceOf meaning orders → orders_of meaning ≡ orders
instance-orders BuiltIn orders is = absurd is
instance-orders (Declared (entity.Instance taken) callee) orders is = is
instance-orders (Declared e callee) orders is = absurd is

module _ (flat : FlatModule) (text : Text) (known : Known) (named : List ℕ → Outside) (means : ℕ → Option Meaning) (implied : ℕ → List Meaning) (faces : List ℕ → FlatFace) (inside : List ℕ → Named → Stand) (context : Context) (depths : Depths) (setting : Setting) where
  -- arguments that can be read, where they are flattened, are as deep as they are written, and as many as are taken
  abbrev pub ArgumentsGood : Trees → Type 0
  ArgumentsGood arguments =
      (orders is : List ℕ) (asked : List Question) → AreArguments text known named means implied faces context orders arguments
      → AreOperands text means implied faces flat all_parts setting arguments is asked
      → parts_of.AreArguments flat text known named (beneath context depths) arguments is × (length is ≡ length orders)
      × (deep_answers flat asked ≡ deep_parts text known named (beneath context depths) (beneath context depths) arguments)

  -- the same of the arguments of all segments
  abbrev pub SegmentsGood : Trees → Type 0
  SegmentsGood Nil = Unit {0}
  SegmentsGood (Cons (Node (Form.Segment l) s arguments) rest) = ArgumentsGood arguments × BindsNothing (Form.Segment l) arguments × SegmentsGood rest
  SegmentsGood (Cons x rest) = SegmentsGood rest

  -- where a path leads, by what its first name stands for and the depths of that
  pub record Led (stand : Stand) (n : ℕ) (reaches : List Named → Reached) (segments rest : Trees) (is : List ℕ) (asked : List Question) : Type 0 where
    pub path : List ℕ
    pub number : ℕ
    pub before : List ℕ
    pub own : List ℕ
    pub lead : lead_by stand (path_names text.source rest) ≡ record { path = path; end = end.Definition number }
    pub reached : reaches (path_names text.source rest) ≡ record { depth = depth_of (depth_at flat) (slice_get flat.definitions number); replaced = max n (replaced_on flat (depth_at flat) path) }
    pub split : is ≡ before ++ own
    pub on : AreOnPath flat text known named (beneath context depths) segments before own
    pub many : length before ≡ parameters_on flat (depth_at flat) path
    pub names : deep_answers flat asked ≡ deep_parts text known named (beneath context depths) (beneath context depths) segments

  segment-names : (l : Lexeme) (s : Span) (arguments : Trees) (asked : List Question) → BindsNothing (Form.Segment l) arguments → deep_answers flat asked ≡ deep_parts text known named (beneath context depths) (beneath context depths) arguments → deep_answers flat asked ≡ deep_names text known named (beneath context depths) (Node (Form.Segment l) s arguments)
  segment-names l s arguments asked none same =
      same ∙ sym (unbound-names flat text known named means implied faces inside context depths (Form.Segment l) arguments none) ∙ sym (helper-names flat text known named means implied faces inside (beneath context depths) (Form.Segment l) s arguments refl none.0)

  -- a single name, on arguments
  pub single-readable : (held : Behind) (meaning : Meaning) (l : Lexeme) (s : Span) (arguments : Trees) → IsReadablePath text known named means implied faces context (Some meaning) held (Cons (Node (Form.Segment l) s arguments) Nil) → IsNoInstance meaning × ((orders : List ℕ) × AreArguments text known named means implied faces context orders arguments)
  single-readable held meaning l s Nil readable = (readable.0, ([], tt))
  single-readable held meaning l s (Cons x arguments) readable = (readable.0, (orders_of meaning, readable.1))

  -- a name before others
  before-readable : (held : Behind) (meaning : Meaning) (l : Lexeme) (s : Span) (arguments : Trees) (next : Lexeme) (at : Span) (more rest : Trees) → IsReadablePath text known named means implied faces context (Some meaning) held (Cons (Node (Form.Segment l) s arguments) (Cons (Node (Form.Segment next) at more) rest)) → IsInstanceOf meaning (orders_of meaning) × AreArguments text known named means implied faces context (orders_of meaning) arguments × IsReadablePath text known named means implied faces context (entry_of (held []) (name_of text.source next)) (onward held (name_of text.source next)) (Cons (Node (Form.Segment next) at more) rest)
  before-readable held meaning l s Nil next at more rest readable = readable
  before-readable held meaning l s (Cons x arguments) next at more rest readable = readable

  pub instance-before : (held : Behind) (meaning : Meaning) (l : Lexeme) (s : Span) (arguments : Trees) (x : Tree) (rest : Trees) → IsReadablePath text known named means implied faces context (Some meaning) held (Cons (Node (Form.Segment l) s arguments) (Cons x rest)) → IsInstanceOf meaning (orders_of meaning)
  instance-before held meaning l s Nil x rest readable = readable.0
  instance-before held meaning l s (Cons y arguments) x rest readable = readable.0

  -- a definition, where the path ends
  pub single-led : (l : Lexeme) (s : Span) (arguments : Trees) (orders is : List ℕ) (asked : List Question) → AreArguments text known named means implied faces context orders arguments → SegmentsGood (Cons (Node (Form.Segment l) s arguments) Nil) → AreOperands text means implied faces flat all_parts setting (Cons (Node (Form.Segment l) s arguments) Nil) is asked → AreOnPath flat text known named (beneath context depths) (Cons (Node (Form.Segment l) s arguments) Nil) [] is × (deep_answers flat asked ≡ deep_parts text known named (beneath context depths) (beneath context depths) (Cons (Node (Form.Segment l) s arguments) Nil))
  single-led l s arguments orders is asked readable (good, none, more) (first, others, a, b, split, joined, one, rest) =
      let all = good orders first a readable one in
      let same : is ≡ first = split ∙ ap (λ xs. first ++ xs) rest.0 ∙ append-nil first in (
        (refl, subst (λ xs. parts_of.AreArguments flat text known named (beneath context depths) arguments xs) (sym same) all.0),
        ap (deep_answers flat) joined ∙ asked-joins flat a b ∙ ap (λ xs. deep_answers flat a ++ xs) (ap (deep_answers flat) rest.1)
            ∙ ap (λ xs. xs ++ []) (segment-names l s arguments a none all.2),
      )

  -- one instance before what a path leads to
  abbrev after : ℕ → ℕ → ℕ
  after n j = max n (replaced_depth (depth_at flat) (slice_get flat.instances j))

  through-led : (j : ℕ) (orders : List ℕ) (inner : Named → Stand) (n : ℕ) (reaches : List Named → Reached) (meaning : Meaning) (l : Lexeme) (s : Span) (arguments : Trees) (next : Lexeme) (at : Span) (more rest : Trees) (is first others : List ℕ) (asked a b : List Question)
      → parameters_of (slice_get flat.instances j) ≡ length orders → IsInstanceOf meaning orders
      → AreArguments text known named means implied faces context (orders_of meaning) arguments
      → ArgumentsGood arguments → BindsNothing (Form.Segment l) arguments
      → is ≡ first ++ others → asked ≡ a ++ b → AreOperands text means implied faces flat all_parts setting arguments first a
      → Led (inner (name_of text.source next)) (after n j) (λ path. reaches (name_of text.source next ∷ path)) (Cons (Node (Form.Segment next) at more) rest) rest others b
      → Led (Through j orders inner) n reaches (Cons (Node (Form.Segment l) s arguments) (Cons (Node (Form.Segment next) at more) rest)) (Cons (Node (Form.Segment next) at more) rest) is asked
  through-led j orders inner n reaches meaning l s arguments next at more rest is first others asked a b count is_instance readable good none split joined one led =
      let all = good (orders_of meaning) first a readable one in
      record {
        path = j ∷ led.path;
        number = led.number;
        before = first ++ led.before;
        own = led.own;
        lead = ap (through j) led.lead;
        reached = led.reached ∙ ap (λ k. record { depth = depth_of (depth_at flat) (slice_get flat.definitions led.number); replaced = k }) (max-assoc n (replaced_depth (depth_at flat) (slice_get flat.instances j)) (replaced_on flat (depth_at flat) led.path));
        split = split ∙ ap (λ xs. first ++ xs) led.split ∙ sym (append_assoc first led.before led.own);
        on = (first, led.before, refl, all.0, led.on);
        many = length-append first led.before ∙ ap (λ k. k + length led.before) (all.1 ∙ ap length (instance-orders meaning orders is_instance) ∙ sym count) ∙ ap (λ k. parameters_of (slice_get flat.instances j) + k) led.many;
        names = ap (deep_answers flat) joined ∙ asked-joins flat a b
            ∙ ap (λ xs. xs ++ deep_answers flat b) (segment-names l s arguments a none all.2)
            ∙ ap (λ xs. deep_names text known named (beneath context depths) (Node (Form.Segment l) s arguments) ++ xs) led.names;
      }

  brought-led : (j : ℕ) (inner : Stand) (n : ℕ) (reaches : List Named → Reached) (segments rest : Trees) (is : List ℕ) (asked : List Question) → parameters_of (slice_get flat.instances j) ≡ 0 → Led inner (after n j) reaches segments rest is asked → Led (Brought j inner) n reaches segments rest is asked
  brought-led j inner n reaches segments rest is asked count led =
      record {
        path = j ∷ led.path;
        number = led.number;
        before = led.before;
        own = led.own;
        lead = ap (through j) led.lead;
        reached = led.reached ∙ ap (λ k. record { depth = depth_of (depth_at flat) (slice_get flat.definitions led.number); replaced = k }) (max-assoc n (replaced_depth (depth_at flat) (slice_get flat.instances j)) (replaced_on flat (depth_at flat) led.path));
        split = led.split;
        on = led.on;
        many = led.many ∙ (let e = count in omega (arith, e));
        names = led.names;
      }

  no-entry : (found : Option Meaning) (held : Behind) (form : Form.the_data) (s : Span) (arguments rest : Trees) → IsReadablePath text known named means implied faces context found held (Cons (Node form s arguments) rest) → (meaning : Meaning) × (found ≡ Some meaning)
  no-entry None held form s arguments rest readable = absurd readable
  no-entry (Some meaning) held form s arguments rest readable = (meaning, refl)

  is-segment : (found : Option Meaning) (held : Behind) (form : Form.the_data) (at : Span) (more rest : Trees) → IsReadablePath text known named means implied faces context found held (Cons (Node form at more) rest) → (next : Lexeme) × (form ≡ Form.Segment next)
  is-segment None held form at more rest readable = absurd readable
  is-segment (Some meaning) held (Form.Segment next) at more rest readable = (next, refl)
  is-segment (Some meaning) held form at more rest readable = absurd readable

  next-segment : (held : Behind) (meaning : Meaning) (l : Lexeme) (s : Span) (arguments : Trees) (form : Form.the_data) (at : Span) (more rest : Trees) → IsReadablePath text known named means implied faces context (Some meaning) held (Cons (Node (Form.Segment l) s arguments) (Cons (Node form at more) rest)) → (next : Lexeme) × (form ≡ Form.Segment next)
  next-segment held meaning l s Nil form at more rest readable =
      is-segment (entry_of (held []) (first_name text.source (Cons (Node form at more) rest))) (onward held (first_name text.source (Cons (Node form at more) rest))) form at more rest readable.2
  next-segment held meaning l s (Cons y arguments) form at more rest readable =
      is-segment (entry_of (held []) (first_name text.source (Cons (Node form at more) rest))) (onward held (first_name text.source (Cons (Node form at more) rest))) form at more rest readable.2

  pub path-led : (stand : Stand) (n : ℕ) (reaches : List Named → Reached) (held : Behind) (meaning : Meaning) (l : Lexeme) (s : Span) (arguments rest : Trees) (is : List ℕ) (asked : List Question)
      → HasDepths flat n stand reaches → TakesParameters flat stand → TakesBehind stand held meaning
      → IsReadablePath text known named means implied faces context (Some meaning) held (Cons (Node (Form.Segment l) s arguments) rest)
      → SegmentsGood (Cons (Node (Form.Segment l) s arguments) rest)
      → AreOperands text means implied faces flat all_parts setting (Cons (Node (Form.Segment l) s arguments) rest) is asked
      → Led stand n reaches (Cons (Node (Form.Segment l) s arguments) rest) rest is asked
  path-led Unsaid n reaches held meaning l s arguments rest is asked has count takes readable good flattened = absurd takes
  path-led (Leaf kind) n reaches held meaning l s arguments rest is asked has count takes readable good flattened = absurd takes
  path-led (Place place order) n reaches held meaning l s arguments rest is asked has count takes readable good flattened = absurd takes
  path-led (Defined d orders) n reaches held meaning l s arguments Nil is asked has count takes readable good flattened =
      let one = single-readable held meaning l s arguments readable in
      let all = single-led l s arguments one.1.0 is asked one.1.1 good flattened in
      record {
        path = [];
        number = d;
        before = [];
        own = is;
        lead = refl;
        reached = has ∙ ap (λ k. record { depth = depth_of (depth_at flat) (slice_get flat.definitions d); replaced = k }) (sym (max-zero n));
        split = refl;
        on = all.0;
        many = refl;
        names = all.1;
      }
  path-led (Defined d orders) n reaches held meaning l s arguments (Cons x rest) is asked has count takes readable good flattened =
      absurd (never-both meaning (orders_of meaning) (instance-before held meaning l s arguments x rest readable) takes.0)
  path-led (Through j orders inner) n reaches held meaning l s arguments Nil is asked has count takes readable good flattened =
      absurd (never-both meaning orders takes.0 (single-readable held meaning l s arguments readable).0)
  path-led (Through j orders inner) n reaches held meaning l s arguments (Cons (Node (Form.Segment next) at more) rest) is asked has count takes readable good (first, others, a, b, split, joined, one, later) =
      let here = before-readable held meaning l s arguments next at more rest readable in
      let found = no-entry (entry_of (held []) (name_of text.source next)) (onward held (name_of text.source next)) (Form.Segment next) at more rest here.2 in
      through-led j orders inner n reaches meaning l s arguments next at more rest is first others asked a b count.0 takes.0 here.1 good.0 good.1 split joined one
      (path-led (inner (name_of text.source next)) (after n j) (λ path. reaches (name_of text.source next ∷ path)) (onward held (name_of text.source next)) found.0 next at more rest others b
      (has.1 (name_of text.source next)) (count.1 (name_of text.source next)) (takes.1 (name_of text.source next) found.0 found.1)
      (subst (λ o. IsReadablePath text known named means implied faces context o (onward held (name_of text.source next)) (Cons (Node (Form.Segment next) at more) rest)) found.1 here.2)
      good.2 later)
  path-led (Through j orders inner) n reaches held meaning l s arguments (Cons (Node form at more) rest) is asked has count takes readable good flattened =
      let next = next-segment held meaning l s arguments form at more rest readable in cc (next.1)
  path-led (Brought j inner) n reaches held meaning l s arguments rest is asked has count takes readable good flattened =
      brought-led j inner n reaches (Cons (Node (Form.Segment l) s arguments) rest) rest is asked count.0
      (path-led inner (after n j) reaches held meaning l s arguments rest is asked has count.1 takes readable good flattened)
