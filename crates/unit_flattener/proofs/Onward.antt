-- Walking along units, one after another.
use Rattle.std.proofs.Common.{◌≡◌, ℕ, ◌<◌, ◌+◌, List, [], ◌∷◌, ◌++◌, append_assoc, drop, get_or, length, take, refl, sym, ap, subst, ◌∙◌}
use Rattle.std.specs.Prelude.{Option, map}
use Rattle.std.proofs.lemmas.List.{append-nil, map-append, take-append-drop, take_more}
use Rattle.tla_tree.specs.declared.unit.Unit.TheVariants as code
use Rattle.unit_grammar.specs.Units.{UnitTree}
use Rattle.unit_grammar.specs.UnitNodes.{unit_at}
use Rattle.tla_model.specs.Entities.{Meaning, Text}
use Rattle.module_model.specs.Modules.{text_of}
use Rattle.module_model.specs.Resolution.{words_of}
use Rattle.kind_text.specs.FlatModule.{FlatModule}
use Rattle.tree_kinds.specs.Standing.{Outside}
use Rattle.module_kinds.specs.ModuleKinds.{KindState, after, first, read_all}
use Rattle.flattened_trees.specs.Leads.{FlatFace}
use Rattle.flattened_trees.specs.Questions.{Question}
use Rattle.flattened_units.specs.Units.{AreUnitsMade, IsUnitMade, Reader}
use Rattle.tree_flattener.specs.Steps.{Steps}
use Rattle.tree_flattener.specs.Worlds.{implied_of, means_of}
use Rattle.tree_flattener.specs.declared.written.Written.{Written}
use Rattle.tree_flattener.proofs.Stepping.{extends-on, steps-none, steps-on}
use Rattle.unit_scope.specs.Steps.{Leads as LeadsOn, behind_unit}
use Rattle.unit_flattener.specs.Walked.{AreUnitsWalked, IsQuiet, IsUnitWalked, Walks, WalksAll}
use Rattle.unit_flattener.specs.Walking.{IsAtUnit, IsBefore, IsWalking, Walk, over_in, state_at}
use Rattle.unit_flattener.specs.declared.flattener.UnitFlattener.{UnitFlattener}
use Rattle.unit_flattener.proofs.Going.{IsPlain, goes}
use Rattle.unit_flattener.proofs.Making.{KeepsRound, grows}

-- ---- one unit more

module _ (text : Text) (outsides : List ℕ → Outside) (words : List ℕ) where
  -- the state behind these and those
  read-both : (state : KindState) (a b : List UnitTree) → read_all text outsides words state (a ++ b) ≡ read_all text outsides words (read_all text outsides words state a) b
  read-both state [] b = refl
  read-both state (x ∷ a) b = read-both (after text outsides words state x) a b

module _ (flat : FlatModule) (text : Text) (means : ℕ → Option Meaning) (implied : ℕ → List Meaning) (files : List ℕ → FlatFace) (outsides : List ℕ → Outside) (words : List ℕ) where
  -- units are made, and one more
  made-more : (state : KindState) (reader : Reader) (units : List UnitTree) (mid : Reader) (a : List Question) (unit : UnitTree) (next : Reader) (b : List Question)
      → AreUnitsMade flat text means implied files outsides words state reader units mid a
      → IsUnitMade flat text means implied files outsides words (read_all text outsides words state units) mid unit next b
      → AreUnitsMade flat text means implied files outsides words state reader (units ++ unit ∷ []) next (a ++ b)
  made-more state reader [] mid a unit next b made last =
      (next, b, [], subst (λ r. IsUnitMade flat text means implied files outsides words state r unit next b) made.0 last, (refl, refl), ap (λ z. z ++ b) made.1 ∙ sym (append-nil b))
  made-more state reader (x ∷ units) mid a unit next b made last =
      (made.0, made.1, made.2 ++ b, made.3, made-more (after text outsides words state x) made.0 units mid made.2 unit next b made.4 last, ap (λ z. z ++ b) made.5 ∙ append_assoc made.1 made.2 b)

-- no unit is walked
pub walks-none : (written : Written) (code : UnitFlattener) → WalksAll written [] code code
walks-none written code = λ walk before rest reader at.
    record {
      next = reader;
      asked = [];
      at = subst (λ units. IsWalking written.text.now walk units rest code reader) (sym (append-nil before)) at;
      steps = steps-none code.state;
      holds = λ more extends. (refl, refl);
    }

-- units are walked, and one more
pub walks-more : (written : Written) (units : List UnitTree) (unit : UnitTree) (old mid new : UnitFlattener) → WalksAll written units old mid → Walks written unit mid new → WalksAll written (units ++ unit ∷ []) old new
walks-more written units unit old mid new walks last = λ walk before rest reader at.
    let text = written.text.now in
    let before_all : IsWalking text walk before (units ++ unit ∷ rest) old reader = subst (λ us. IsWalking text walk before us old reader) (append_assoc units (unit ∷ []) rest) at in
    let one : AreUnitsWalked written walk before units (unit ∷ rest) old mid reader = walks walk before (unit ∷ rest) reader before_all in
    let two : IsUnitWalked written walk (before ++ units) unit rest mid new one.next = last walk (before ++ units) rest one.next one.at in
    let state_is : state_at walk (before ++ units) ≡ read_all text walk.outsides (over_in walk).words (state_at walk before) units =
    read-both (text_of walk.source walk.units) walk.outsides (words_of walk.units) (first walk.outsides walk.source walk.units) before units
    ∙ ap (λ t. read_all t walk.outsides (words_of walk.units) (state_at walk before) units) (sym at.same) in
    record {
      next = two.next;
      asked = one.asked ++ two.asked;
      at = subst (λ us. IsWalking text walk us rest new two.next) (append_assoc before units (unit ∷ [])) two.at;
      steps = steps-on old.state mid.state new.state one.asked two.asked one.steps two.steps;
      holds = λ more extends.
          made-more more text (means_of written) (implied_of written) walk.files walk.outsides (over_in walk).words (state_at walk before) reader units one.next one.asked unit two.next two.asked
          (one.holds more (extends-on mid.state.flat new.state.flat more two.steps.extends extends))
          (subst (λ state. IsUnitMade more text (means_of written) (implied_of written) walk.files walk.outsides (over_in walk).words state one.next unit two.next two.asked) state_is (two.holds more extends));
    }

-- ---- units of which nothing is made

module _ (written : Written) (old new : UnitFlattener) (keeps : KeepsRound old new) (leads : new.leads ≡ old.leads) (state : new.state ≡ old.state) where
  quiet-unit : (unit : UnitTree) → IsPlain unit
      → ((more : FlatModule) (walk : Walk) (before : List UnitTree) (reader : Reader) → IsUnitMade more written.text.now (means_of written) (implied_of written) walk.files walk.outsides (over_in walk).words (state_at walk before) reader unit reader [])
      → LeadsOn written.text.now (behind_unit written.text.now unit) old.reader new.reader → Walks written unit old new
  quiet-unit unit plain made reads = λ walk before rest reader at.
      let steps = subst (λ s. Steps old.state s []) (sym state) (steps-none old.state) in
      record {
        next = reader;
        asked = [];
        at = goes written.text.now walk before rest unit old new reader reader.setting.leads at (grows written walk before (unit ∷ rest) old new reader at [] keeps leads steps (ap (λ s. s.locals.items) state)) plain reads;
        steps = steps;
        holds = λ more extends. made more walk before reader;
      }

  -- they are walked
  pub quiet-walked : (u : code.the_data) → IsQuiet u → LeadsOn written.text.now (behind_unit written.text.now (unit_at written.tree.now u)) old.reader new.reader
      → Walks written (unit_at written.tree.now u) old new
  quiet-walked (code.Variables names) quiet reads = quiet-unit _ tt (λ more walk before reader. (refl, refl)) reads
  quiet-walked (code.Constants declarations) quiet reads = quiet-unit _ tt (λ more walk before reader. (refl, refl)) reads
  quiet-walked (code.Line dashes) quiet reads = quiet-unit _ tt (λ more walk before reader. (refl, refl)) reads
  quiet-walked (code.OperatorDefinition local node) quiet reads = absurd quiet
  quiet-walked (code.FunctionDefinition local node) quiet reads = absurd quiet
  quiet-walked (code.ModuleDefinition local node) quiet reads = absurd quiet
  quiet-walked (code.Instance local node) quiet reads = absurd quiet
  quiet-walked (code.Assumption word name node) quiet reads = absurd quiet
  quiet-walked (code.Theorem word name node) quiet reads = absurd quiet
  quiet-walked (code.ModuleBegin dashes name extends) quiet reads = absurd quiet
  quiet-walked (code.ModuleEnd closing) quiet reads = absurd quiet

-- ---- along a list

module _ {A : Type 0} (f : A → UnitTree) (xs : List A) (i : ℕ) (x : A) (within : i < length xs) (is : x ≡ get_or xs i x) where
  -- one more of these
  pub taken-more : map f (take i xs) ++ f x ∷ [] ≡ map f (take (i + 1) xs)
  taken-more = sym (map-append f (take i xs) (x ∷ [])) ∙ ap (λ z. map f (take i xs ++ z ∷ [])) is ∙ ap (map f) (sym (take_more xs i x within))

  -- the first of those that are left is the next one
  pub taken-left : map f (take i xs) ++ f x ∷ map f (drop (i + 1) xs) ≡ map f xs
  taken-left =
      sym (append_assoc (map f (take i xs)) (f x ∷ []) (map f (drop (i + 1) xs))) ∙ ap (λ z. z ++ map f (drop (i + 1) xs)) taken-more
      ∙ sym (map-append f (take (i + 1) xs) (drop (i + 1) xs)) ∙ ap (map f) (take-append-drop (i + 1) xs)

-- where units were walked before others, code walks before the next one
pub walks-here : {A : Type 0} (written : Written) (f : A → UnitTree) (xs : List A) (i : ℕ) (x : A) → i < length xs → x ≡ get_or xs i x → (old now : UnitFlattener)
    → WalksAll written (map f (take i xs)) old now → IsBefore written.text.now (map f xs) old → IsAtUnit written.text.now (f x) now
walks-here written f xs i x within is old now walks before =
    let rest = map f (drop (i + 1) xs) in
    let at = subst (λ units. IsWalking written.text.now before.walk before.before units old before.reader) (sym (taken-left f xs i x within is)) before.at in
    let walked = walks before.walk before.before (f x ∷ rest) before.reader at in
    record { rest = rest; before = record { walk = before.walk; before = before.before ++ map f (take i xs); reader = walked.next; at = walked.at } }
