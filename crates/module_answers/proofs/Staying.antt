-- How deep the names of the modules round a unit are behind it.
use Rattle.std.proofs.Common.{◌≡◌, inl, inr, ℕ, Bool, true, false, List, [], ◌∷◌, ◌++◌, Option, map, refl, sym, ap, ◌∙◌, subst, arith}
use Rattle.std.specs.Prelude.{◌⊎◌, ◌||◌}
use Rattle.std.specs.List.{AllByRecursion}
use mathlib.Core.Path.{fun_ext}
use Rattle.tla_tree.specs.declared.form.Form.TheVariants as Form
use Rattle.tla_tree.specs.Syntax.{Tree, Node}
use Rattle.unit_grammar.specs.Units.{UnitTree, Variables, Constants, OperatorDefinition, FunctionDefinition, ModuleDefinition, Instance, Assumption, Theorem, Line, ModuleBegin, ModuleEnd}
use Rattle.tla_model.specs.declared.names.Binder.{Binder}
use Rattle.tla_model.specs.Contexts.{Context}
use Rattle.tla_model.specs.Entities.{Meaning, Text, defined, meant, variables, within}
use Rattle.tla_model.specs.Scopes.{binders, definition}
use Rattle.tla_model.specs.Tables.{Named}
use Rattle.module_scope.specs.Environments.{Scope}
use Rattle.module_model.specs.Exports.{Known, and_known}
use Rattle.module_model.specs.Modules.{Reading, constants}
use Rattle.module_model.specs.Resolution.{instance_brings}
use Rattle.kind_text.specs.FlatModule.{FlatModule}
use Rattle.tree_kinds.specs.Standing.{Outside, Reached}
use Rattle.tree_kinds.specs.TreeDepths.{Depths}
use Rattle.module_kinds.specs.ModuleKinds.{KindState, after, depths_behind, known_at, views}
use Rattle.flat_trees.specs.Stands.{Stand, Unsaid}
use Rattle.flat_kinds.specs.Readings.{Leaves, is_among}
use Rattle.flat_depths.specs.Depths.{HasDepths}
use Rattle.flat_depths.proofs.Units.{meaning-left}
use Rattle.flattened_trees.specs.Agreeing.{IsFresh, is_seen, unsaid_stand}
use Rattle.flattened_trees.specs.Leads.{FlatFace, Setting}
use Rattle.flattened_trees.specs.Questions.{Question}
use Rattle.flattened_depths.specs.Rounds.{ArePlain}
use Rattle.flattened_depths.proofs.Counting.{New, first-unlike, new-fewer, new-from, rest-none, seen-none, times, times-joins, within-counts}
use Rattle.flattened_units.specs.Units.{IsInstanceMade, IsUnitMade, Reader, meanings_of}
use Rattle.module_meanings.specs.Following.{IsPlain}
use Rattle.module_meanings.specs.Premises.{AreTold, seen_behind}
use Rattle.module_meanings.proofs.Contexts.{seen-right, unseen-parts}
use Rattle.module_meanings.proofs.Nesting.{told-round}
use Rattle.module_meanings.proofs.Staying.{IsLeafName, leaf-left, leaf-or-unsaid}
use Rattle.module_answers.proofs.Depths.{Deep, round-more, usable-more}
use Rattle.module_answers.proofs.Nested.{AllNestedDeep}

-- ---- what units leave

-- what none of these names means is none of them
none-among : (text : Text) (names : List Binder) (m : Meaning) → times text m names ≡ 0 → is_among (map (meant text) names) m ≡ false
none-among text [] m none = refl
none-among text (b ∷ rest) m none = ap (λ t. t || is_among (map (meant text) rest) m) (first-unlike text b rest m none) ∙ none-among text rest m (rest-none text b rest m none)

module _ (text : Text) (outsides : List ℕ → Outside) (words : List ℕ) where
  -- names that are as deep behind a unit as before: those that were seen, and leaves
  abbrev pub StayDeep : KindState → UnitTree → List Meaning → Type 0
  StayDeep state unit seen = (m : Meaning) → (is_seen seen m ≡ true) ⊎ IsLeafName m → (path : List Named) → depths_behind text outsides words state unit m path ≡ state.depths m path

  -- behind a unit of which that is given of what was seen
  pub given-deep : (state : KindState) (unit : UnitTree) (seen : List Meaning) → ((m : Meaning) → is_seen seen m ≡ true → Leaves text outsides words state unit m ⊎ ((path : List Named) → depths_behind text outsides words state unit m path ≡ state.depths m path)) → StayDeep state unit seen
  given-deep state unit seen given m (inr leaf) path = meaning-left text outsides words state unit m path (leaf-left text outsides words state unit m leaf)
  given-deep state unit seen given m (inl is) path = by_given (given m is)
    where
      by_given : Leaves text outsides words state unit m ⊎ ((p : List Named) → depths_behind text outsides words state unit m p ≡ state.depths m p) → depths_behind text outsides words state unit m path ≡ state.depths m path
      by_given (inl leaves) = meaning-left text outsides words state unit m path leaves
      by_given (inr same) = same path

  -- behind a definition whose name is new
  pub definition-stays : (state : KindState) (unit : UnitTree) (x : Tree) (seen : List Meaning) → IsFresh text seen x → ((m : Meaning) → is_among (map (meant text) (definition x)) m ≡ false → Leaves text outsides words state unit m) → StayDeep state unit seen
  definition-stays state unit (Node form s parts) seen fresh leaves = given-deep state unit seen (λ m is. inl (leaves m (none-among text (defined form parts) m (seen-none text (defined form parts) seen m own is))))
    where
      own : New text seen (defined form parts)
      own = new-fewer text (within (Node form s parts)) (defined form parts) seen (λ m. let e = within-counts text m form s parts in let j = times-joins text m (defined form parts) (binders form parts) in omega (arith, e, j)) (new-from text (within (Node form s parts)) seen fresh)

-- ---- modules round a unit

module _ (flat : FlatModule) (text : Text) where
  -- the names of the modules round a place lead where these stand, as deep as what stands there
  abbrev pub RoundDeep : Known → List Reading → List Setting → Depths → List Meaning → List (Meaning → Stand) → Type 0
  RoundDeep known [] [] depths seen [] = Unit {0}
  RoundDeep known (reading ∷ readings) (setting ∷ settings) depths seen (stands ∷ others) = Deep flat text known reading.context depths setting seen stands × RoundDeep known readings settings depths seen others
  RoundDeep known _ _ depths seen _ = ⊥

  -- where more is known behind instances
  round-known : (known more : Known) (readings : List Reading) (settings : List Setting) (depths : Depths) (seen : List Meaning) (others : List (Meaning → Stand)) → AllByRecursion (λ (reading : Reading). AreTold known reading.context) readings → RoundDeep known readings settings depths seen others → RoundDeep (and_known known more) readings settings depths seen others
  round-known known more [] [] depths seen [] told round = tt
  round-known known more (reading ∷ readings) (setting ∷ settings) depths seen (stands ∷ others) told round = (
    record {
      round = round-more flat text known _ seen stands setting depths round.0.round;
      usable = usable-more flat text known more seen stands reading.context told.0 round.0.usable;
    },
    round-known known more readings settings depths seen others told.1 round.1,
  )
  round-known known more [] [] depths seen (stands ∷ others) told round = absurd round
  round-known known more [] (setting ∷ settings) depths seen others told round = absurd round
  round-known known more (reading ∷ readings) [] depths seen others told round = absurd round
  round-known known more (reading ∷ readings) (setting ∷ settings) depths seen [] told round = absurd round

  -- where what was seen is as deep as before, and so are leaves
  outer-stays : (known : Known) (context : Context) (depths then : Depths) (setting : Setting) (seen names : List Meaning) (stands : Meaning → Stand) → ((m : Meaning) → (is_seen seen m ≡ true) ⊎ IsLeafName m → (path : List Named) → then m path ≡ depths m path) → ArePlain (names ++ seen) then → Deep flat text known context depths setting seen stands → Deep flat text known context then setting (names ++ seen) stands
  outer-stays known context depths then setting seen names stands stay plain deep =
      record {
        round = record {
          leads = deep.round.leads;
          unsaid = λ m none. deep.round.unsaid m (unseen-parts names seen m none).1;
          plain = plain;
          deep = λ m. by_seen m (is_seen seen m) refl;
          parameters = deep.round.parameters;
        };
        usable = record { orders = deep.usable.orders; usable = λ name m e. seen-right names seen m (deep.usable.usable name m e) };
      }
    where
      as_before : (m : Meaning) → (is_seen seen m ≡ true) ⊎ IsLeafName m → HasDepths flat 0 (stands m) (then m)
      as_before m why = subst (λ (reached : List Named → Reached). HasDepths flat 0 (stands m) reached) (sym (fun_ext (λ path. stay m why path))) (deep.round.deep m)

      by_leaf : (m : Meaning) → is_seen seen m ≡ false → IsLeafName m ⊎ (unsaid_stand m ≡ Unsaid) → HasDepths flat 0 (stands m) (then m)
      by_leaf m none (inl leaf) = as_before m (inr leaf)
      by_leaf m none (inr nothing) = subst (λ stand. HasDepths flat 0 stand (then m)) (sym (deep.round.unsaid m none ∙ nothing)) tt

      by_seen : (m : Meaning) (b : Bool) → is_seen seen m ≡ b → HasDepths flat 0 (stands m) (then m)
      by_seen m true is = as_before m (inl is)
      by_seen m false none = by_leaf m none (leaf-or-unsaid m)

  -- the same of the modules round a place
  round-stays : (known : Known) (readings : List Reading) (settings : List Setting) (depths then : Depths) (seen names : List Meaning) (others : List (Meaning → Stand)) → ((settings ≡ [] → ⊥) → (m : Meaning) → (is_seen seen m ≡ true) ⊎ IsLeafName m → (path : List Named) → then m path ≡ depths m path) → ArePlain (names ++ seen) then → RoundDeep known readings settings depths seen others → RoundDeep known readings settings then (names ++ seen) others
  round-stays known [] [] depths then seen names [] stay plain round = tt
  round-stays known (reading ∷ readings) (setting ∷ settings) depths then seen names (stands ∷ others) stay plain round =
      let here = stay (λ e. cc e) in
      (outer-stays known reading.context depths then setting seen names stands here plain round.0, round-stays known readings settings depths then seen names others (λ some. here) plain round.1)
  round-stays known [] [] depths then seen names (stands ∷ others) stay plain round = absurd round
  round-stays known [] (setting ∷ settings) depths then seen names others stay plain round = absurd round
  round-stays known (reading ∷ readings) [] depths then seen names others stay plain round = absurd round
  round-stays known (reading ∷ readings) (setting ∷ settings) depths then seen names [] stay plain round = absurd round

  -- the same, and more is known behind instances
  pub round-behind : (known more : Known) (readings : List Reading) (settings : List Setting) (depths then : Depths) (seen names : List Meaning) (others : List (Meaning → Stand)) → AllByRecursion (λ (reading : Reading). AreTold known reading.context) readings → ((settings ≡ [] → ⊥) → (m : Meaning) → (is_seen seen m ≡ true) ⊎ IsLeafName m → (path : List Named) → then m path ≡ depths m path) → ArePlain (names ++ seen) then → RoundDeep known readings settings depths seen others → RoundDeep (and_known known more) readings settings then (names ++ seen) others
  round-behind known more readings settings depths then seen names others told stay plain round =
      round-stays (and_known known more) readings settings depths then seen names others stay plain (round-known known more readings settings depths seen others told round)

module _ (flat : FlatModule) (text : Text) (means : ℕ → Option Meaning) (implied : ℕ → List Meaning) (files : List ℕ → FlatFace) (outsides : List ℕ → Outside) (words : List ℕ) where
  -- what is known at a unit of the modules round it, and of nested ones that can be named
  pub record AroundDeep (state : KindState) (reader : Reader) (seen : List Meaning) (others : List (Meaning → Stand)) : Type 0 where
    pub round : RoundDeep flat text state.read.known state.read.place.round reader.round state.depths seen others
    pub nested : AllNestedDeep flat state.modules reader.faces

  module _ (state : KindState) (reader : Reader) (seen : List Meaning) (others : List (Meaning → Stand)) (around : AroundDeep state reader seen others) (told : AllByRecursion (λ (reading : Reading). AreTold state.read.known reading.context) state.read.place.round) where
    -- what is known behind a unit
    abbrev AroundBehind : UnitTree → Reader → Type 0
    AroundBehind unit next = AroundDeep (after text outsides words state unit) next (seen_behind text outsides words state unit next seen) others

    -- no module begins or ends there
    same-around : (unit : UnitTree) (next : Reader) → next.round ≡ reader.round → next.faces ≡ reader.faces → (after text outsides words state unit).read.place.round ≡ state.read.place.round → (after text outsides words state unit).modules ≡ state.modules → RoundDeep flat text (after text outsides words state unit).read.known state.read.place.round reader.round (after text outsides words state unit).depths (seen_behind text outsides words state unit next seen) others → AroundBehind unit next
    same-around unit next round faces readings modules deep =
        let then = after text outsides words state unit in
        let names = seen_behind text outsides words state unit next seen in
        record {
          round = subst (λ rs. RoundDeep flat text then.read.known rs next.round then.depths names others) (sym readings)
              (subst (λ (settings : List Setting). RoundDeep flat text then.read.known state.read.place.round settings then.depths names others) (sym round) deep);
          nested = subst (λ (ms : Scope Outside). AllNestedDeep flat ms next.faces) (sym modules) (subst (λ (fs : Scope FlatFace). AllNestedDeep flat state.modules fs) (sym faces) around.nested);
        }

    instance-same : (x : Tree) (next : Reader) (asked : List Question) → IsInstanceMade flat text means implied files outsides words state reader x next asked → (next.round ≡ reader.round) × (next.faces ≡ reader.faces)
    instance-same (Node (Form.Instance l) s rights) next asked made = (ap (λ (r : Reader). r.round) made.7, ap (λ (r : Reader). r.faces) made.7)
    instance-same (Node form s parts) next asked made = (ap (λ (r : Reader). r.round) made.0, ap (λ (r : Reader). r.faces) made.0)

    -- behind a unit that begins and ends none, where what was seen is as deep as before
    pub around-behind : (unit : UnitTree) (next : Reader) (asked : List Question) → IsPlain unit → IsUnitMade flat text means implied files outsides words state reader unit next asked → ((reader.round ≡ [] → ⊥) → StayDeep text outsides words state unit seen) → ArePlain (seen_behind text outsides words state unit next seen) (after text outsides words state unit).depths → AroundBehind unit next
    around-behind (OperatorDefinition local x) next asked only made stay plain =
        same-around (OperatorDefinition local x) next (ap (λ (r : Reader). r.round) made.3) (ap (λ (r : Reader). r.faces) made.3) refl refl
        (round-behind flat text state.read.known _ state.read.place.round reader.round state.depths _ seen (map (meant text) (definition x)) others told stay plain around.round)
    around-behind (FunctionDefinition local x) next asked only made stay plain =
        same-around (FunctionDefinition local x) next (ap (λ (r : Reader). r.round) made.3) (ap (λ (r : Reader). r.faces) made.3) refl refl
        (round-behind flat text state.read.known _ state.read.place.round reader.round state.depths _ seen (map (meant text) (definition x)) others told stay plain around.round)
    around-behind (ModuleDefinition local x) next asked only made stay plain =
        same-around (ModuleDefinition local x) next (ap (λ (r : Reader). r.round) made.3) (ap (λ (r : Reader). r.faces) made.3) refl refl
        (round-behind flat text state.read.known _ state.read.place.round reader.round state.depths _ seen (map (meant text) (definition x)) others told stay plain around.round)
    around-behind (Instance local x) next asked only made stay plain =
        let same = instance-same x next asked made in
        same-around (Instance local x) next same.0 same.1 refl refl
        (round-behind flat text (known_at text outsides words state (Instance local x)) _ state.read.place.round reader.round state.depths _ seen (meanings_of (instance_brings text (views text outsides words) words state.read x)) others (told-round state.read.known _ state.read.place.round told) stay plain
        (round-known flat text state.read.known _ state.read.place.round reader.round state.depths seen others told around.round))
    around-behind (Variables names) next asked only made stay plain =
        same-around (Variables names) next (ap (λ (r : Reader). r.round) made.0) (ap (λ (r : Reader). r.faces) made.0) refl refl
        (round-behind flat text state.read.known _ state.read.place.round reader.round state.depths state.depths seen (map (meant text) (variables names)) others told stay plain around.round)
    around-behind (Constants declarations) next asked only made stay plain =
        same-around (Constants declarations) next (ap (λ (r : Reader). r.round) made.0) (ap (λ (r : Reader). r.faces) made.0) refl refl
        (round-behind flat text state.read.known _ state.read.place.round reader.round state.depths state.depths seen (map (meant text) (constants declarations)) others told stay plain around.round)
    around-behind (Assumption word name x) next asked only made stay plain =
        same-around (Assumption word name x) next (ap (λ (r : Reader). r.round) made.3) (ap (λ (r : Reader). r.faces) made.3) refl refl
        (round-behind flat text state.read.known _ state.read.place.round reader.round state.depths state.depths seen [] others told stay plain around.round)
    around-behind (Theorem word name x) next asked only made stay plain =
        same-around (Theorem word name x) next (ap (λ (r : Reader). r.round) made.3) (ap (λ (r : Reader). r.faces) made.3) refl refl
        (round-behind flat text state.read.known _ state.read.place.round reader.round state.depths state.depths seen [] others told stay plain around.round)
    around-behind (Line dashes) next asked only made stay plain =
        same-around (Line dashes) next (ap (λ (r : Reader). r.round) made.0) (ap (λ (r : Reader). r.faces) made.0) refl refl
        (round-behind flat text state.read.known _ state.read.place.round reader.round state.depths state.depths seen [] others told stay plain around.round)
    around-behind (ModuleBegin dashes name extends) next asked only made stay plain = absurd only
    around-behind (ModuleEnd closing) next asked only made stay plain = absurd only
