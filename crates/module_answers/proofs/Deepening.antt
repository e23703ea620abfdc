-- What the nodes of the units of a module answer is what is too deep in them, and how deep the module is outside.
use Rattle.std.proofs.Common.{◌≡◌, inl, inr, ℕ, Bool, true, false, cond, List, [], ◌∷◌, ◌++◌, Option, Some, map, refl, sym, ap, ◌∙◌, subst, length, append-nil}
use Rattle.std.specs.Prelude.{◌⊎◌, is_some}
use Rattle.std.specs.List.{AllByRecursion}
use Rattle.tla_symbols.specs.declared.lexeme.Lexeme.{Lexeme}
use Rattle.tla_tree.specs.declared.form.Form.TheVariants as Form
use Rattle.tla_tree.specs.Syntax.{Tree, Node}
use Rattle.unit_grammar.specs.Units.{UnitTree, Variables, Constants, OperatorDefinition, FunctionDefinition, ModuleDefinition, Instance, Assumption, Theorem, Line, ModuleBegin, ModuleEnd, ModuleUnits}
use Rattle.tla_model.specs.declared.entity.Entity.TheVariants as entity
use Rattle.tla_model.specs.declared.names.Binder.{Binder}
use Rattle.tla_model.specs.declared.names.Meaning.TheVariants.{BuiltIn, Declared}
use Rattle.tla_model.specs.Contexts.{Context, meaning_of}
use Rattle.tla_model.specs.Entities.{Entity, Meaning, Text, all_placed, meant, variables}
use Rattle.tla_model.specs.Lexemes.{spelled}
use Rattle.tla_model.specs.Scopes.{definition}
use Rattle.tla_model.specs.Tables.{Named}
use Rattle.module_scope.specs.Environments.{first as first_scope}
use Rattle.module_model.specs.Exports.{Behind, Known, behind_meaning, entry_of, exports_of, onward}
use Rattle.module_model.specs.Modules.{constants, declare_all, text_of}
use Rattle.module_model.specs.Resolution.{outside_in, words_of}
use Rattle.kind_text.specs.FlatModule.{FlatModule, IsOrdered}
use Rattle.level_text.specs.Depth.{depth as depth_at, is_too_deep}
use Rattle.tree_kinds.specs.Standing.{Outside}
use Rattle.tree_kinds.specs.Expanding.{module_of}
use Rattle.tree_kinds.specs.TreeDepths.{Depths, deep_names, defined_depth, no_depths, with_depth}
use Rattle.module_kinds.specs.ModuleKinds.{KindState, after, beneath, deep_from, deep_in, deep_word, first, known_at, last, named, outside, read_all, too_deep, views}
use Rattle.flat_trees.specs.Stands.{Stand}
use Rattle.flat_kinds.specs.Modules.{Current, first_current, here_behind, round_behind}
use Rattle.flat_kinds.specs.Readings.{exported_stand, stand_in}
use Rattle.flat_depths.specs.Depths.{HasDepths, IsDeepModule}
use Rattle.flat_depths.proofs.Units.{state-exported}
use Rattle.flattened_trees.specs.Agreeing.{TakesAs, TakesBehind, is_seen, unsaid_stand}
use Rattle.flattened_trees.specs.Answers.{deep_answers}
use Rattle.flattened_trees.specs.Leads.{FlatFace, Leads}
use Rattle.flattened_trees.specs.Questions.{Question, IsConstant, over}
use Rattle.flattened_trees.specs.Flattened.{IsFlattened}
use Rattle.flattened_depths.specs.Arranged.{IsArranged}
use Rattle.flattened_depths.specs.Rounds.{LeadsAs, LeadsBehind, TakesParameters}
use Rattle.flattened_depths.proofs.Facts.{asked-joins}
use Rattle.flattened_depths.proofs.Knowing.{tree-asked, tree-deep}
use Rattle.flattened_meanings.proofs.Fresh.{IsOneOf}
use Rattle.flattened_units.specs.Units.{AreUnitsMade, IsDefinitionMade, IsModuleMade, IsUnitMade, Reader, exported_leads, face_in, symbol_setting}
use Rattle.module_meanings.specs.Faces.{IsPlaced}
use Rattle.module_meanings.specs.Following.{IsPlain}
use Rattle.module_meanings.specs.Premises.{AreTold, AreUnitsGiven, IsDefinitionGivenBy, IsEndGiven, IsFileAt, IsModuleGiven, IsUnitGivenBy, first_seen, seen_behind}
use Rattle.module_meanings.proofs.Beginning.{first-reader, symbol-stands}
use Rattle.module_meanings.proofs.Contexts.{declared-means, one-is-seen, seen-left, seen-right, unseen-parts}
use Rattle.module_meanings.proofs.Entering.{Holds}
use Rattle.module_meanings.proofs.Further.{AllDefinitionsLead, DefinitionsLead, unit-further}
use Rattle.module_meanings.proofs.Leads.{exported-lead, none-leads, symbols-lead}
use Rattle.module_meanings.proofs.Modules.{IsBegunWith, given-steps, module-begun}
use Rattle.module_meanings.proofs.NestedExtended.{begun-whole}
use Rattle.module_meanings.proofs.NestedFaces.{HoldsNested}
use Rattle.module_meanings.proofs.Nesting.{AreAllTold, all-told, here-told}
use Rattle.module_meanings.proofs.Units.{IsSymbolic, constants-symbolic, placed-one, placed-takes, variables-symbolic}
use Rattle.module_answers.specs.Deep.{AreUnitsArranged, IsArrangedAt, IsDeepBehind, IsDeepSo, IsModuleArranged, IsUnitArranged}
use Rattle.module_answers.specs.Shaped.{IsClaimGiven}
use Rattle.module_answers.proofs.Arranging.{definition-weaker, parts-weaker, tree-weaker}
use Rattle.module_answers.proofs.Bringing.{instance-deep}
use Rattle.module_answers.proofs.Depths.{Answered, Deep, deep-at, definition-deep, known-round}
use Rattle.module_answers.proofs.Entering.{AllDeep, AreDepthless, begun-all, ended-all, exported-few, symbols-deep}
use Rattle.module_answers.proofs.Extended.{all-extended-deep, none-brought}
use Rattle.module_answers.proofs.Nested.{AllNestedDeep, behind-leads, module-leads, modules-lead, stands-at}
use Rattle.module_answers.proofs.Staying.{StayDeep, around-behind, definition-stays, given-deep}

module _ (flat : FlatModule) (ordered : IsOrdered flat) (text : Text) (means : ℕ → Option Meaning) (implied : ℕ → List Meaning) (files : List ℕ → FlatFace) (outsides : List ℕ → Outside) (words : List ℕ) where
  module _ (state : KindState) (reader : Reader) (seen : List Meaning) (stands : Meaning → Stand) (told : AreTold state.read.known state.read.place.here.context) (deep : Deep flat text state.read.known state.read.place.here.context state.depths reader.setting seen stands) where
    -- what is known behind a unit
    abbrev AnswersUnit : UnitTree → Reader → List Question → Type 0
    AnswersUnit unit next asked =
        Answered flat text (after text outsides words state unit).read.known (after text outsides words state unit).read.place.here.context (after text outsides words state unit).depths next.setting
        (seen_behind text outsides words state unit next seen) asked (deep_in text outsides words state unit)

    abbrev at : (unit : UnitTree) → Deep flat text (known_at text outsides words state unit) state.read.place.here.context state.depths reader.setting seen stands
    at unit = deep-at flat ordered text means implied files outsides words state reader seen stands told deep unit

    -- what the names of modules stand for there
    abbrev stands-named : AllNestedDeep flat state.modules reader.faces → (List ℕ → Named → Stand) → List ℕ → Named → Stand
    stands-named nested inside = stands-at flat text means implied files outsides words state reader nested.0 inside

    -- the modules of module definitions lead where these stand
    abbrev LeadsNamed : AllNestedDeep flat state.modules reader.faces → UnitTree → (List ℕ → Named → Stand) → Lexeme → Lexeme → Type 0
    LeadsNamed nested unit inside = LeadsBehind flat text (known_at text outsides words state unit) (named text outsides words state) (face_in flat text means implied files outsides words reader.faces) (stands-named nested inside)

    -- ---- definitions and claims

    definition-answers : (nested : AllNestedDeep flat state.modules reader.faces) (unit : UnitTree) (local : Bool) (x : Tree) (next : Reader) (asked : List Question) → IsDefinitionMade flat text means implied files outsides words reader x next asked → IsDefinitionGivenBy flat text means implied files outsides words (IsFileAt flat text means implied files outsides words) state reader seen unit x → IsArrangedAt flat text means implied files outsides words state reader unit x → Answered flat text (known_at text outsides words state unit) (declare_all text local state.read.place.here (definition x)).context (with_depth state.depths (map (meant text) (definition x)) (defined_depth text (known_at text outsides words state unit) (named text outsides words state) (beneath text outsides words state) x)) next.setting (map (meant text) (definition x) ++ seen) asked (deep_names text (known_at text outsides words state unit) (named text outsides words state) (beneath text outsides words state) x)
    definition-answers nested unit local (Node form s parts) next asked made given (inside, arranged) =
        definition-deep flat ordered text means implied files outsides words state reader seen stands told deep unit local form s parts next asked (stands-named nested inside) made given
        (definition-weaker (IsDeepBehind flat text means implied files outsides words state reader unit inside) (LeadsNamed nested unit inside) (behind-leads flat text means implied files outsides words state reader nested.0 unit inside) (Node form s parts) arranged)

    claim-answers : (unit : UnitTree) (word : Lexeme) (x : Tree) (i : ℕ) (a more : List Question) (asked : List Question) (inside : List ℕ → Named → Stand) → IsClaimGiven flat text means implied files outsides words state reader seen unit x → IsArranged (LeadsBehind flat text (known_at text outsides words state unit) (named text outsides words state) (face_in flat text means implied files outsides words reader.faces) inside) x → IsFlattened text means implied (face_in flat text means implied files outsides words reader.faces) flat reader.setting x i a → deep_answers flat more ≡ [] → deep_answers flat asked ≡ cond (is_too_deep (depth_at flat i)) (word ∷ []) [] ++ deep_answers flat (a ++ more) → deep_answers flat asked ≡ deep_word text outsides words state unit word x ++ deep_names text (known_at text outsides words state unit) (named text outsides words state) (beneath text outsides words state) x
    claim-answers unit word x i a more asked inside given arranged made none asks =
        let known = known_at text outsides words state unit in
        let modules = named text outsides words state in
        let around = beneath text outsides words state in
        let faces = face_in flat text means implied files outsides words reader.faces in
        let knows = known-round flat text known state.read.place.here.context state.depths reader.setting seen stands (at unit) in
        asks
        ∙ ap (λ n. cond (is_too_deep n) (word ∷ []) [] ++ deep_answers flat (a ++ more)) (tree-deep flat text known modules means implied faces inside ordered seen _ reader.setting around knows x i a given.given.fresh arranged given.readable made)
        ∙ ap (λ ys. deep_word text outsides words state unit word x ++ ys)
        (asked-joins flat a more ∙ ap (λ ys. deep_answers flat a ++ ys) none ∙ append-nil (deep_answers flat a)
        ∙ tree-asked flat text known modules means implied faces inside ordered seen _ reader.setting around knows x i a given.given.fresh arranged given.readable made)

    -- ---- declarations

    declared-deep : (unit : UnitTree) (binders : List Binder) → ((m : Meaning) → IsOneOf text binders m → IsSymbolic m) → AllByRecursion (IsPlaced reader.setting.leads) (map (meant text) binders) → Deep flat text (known_at text outsides words state unit) (declare_all text false state.read.place.here binders).context state.depths reader.setting (map (meant text) binders ++ seen) stands
    declared-deep unit binders symbolic placed =
        record {
          round = record {
            leads = deep.round.leads;
            unsaid = λ m none. deep.round.unsaid m (unseen-parts (map (meant text) binders) seen m none).1;
            plain = λ m none. deep.round.plain m (unseen-parts (map (meant text) binders) seen m none).1;
            deep = deep.round.deep;
            parameters = deep.round.parameters;
          };
          usable = record {
            orders = λ name m e. by_orders name m (declared-means text binders false state.read.place.here name m e);
            usable = λ name m e. by_seen name m (declared-means text binders false state.read.place.here name m e);
          };
        }
      where
        by_orders : (name : Named) (m : Meaning) → (meaning_of state.read.place.here.context name ≡ Some m) ⊎ IsOneOf text binders m → TakesAs (stands m) (behind_meaning (known_at text outsides words state unit) (Some m)) m
        by_orders name m (inl before) = (at unit).usable.orders name m before
        by_orders name m (inr one) = placed-takes stands reader.setting.leads (behind_meaning (known_at text outsides words state unit) (Some m)) m deep.round.leads (placed-one text reader.setting.leads binders m placed one) (symbolic m one)

        by_seen : (name : Named) (m : Meaning) → (meaning_of state.read.place.here.context name ≡ Some m) ⊎ IsOneOf text binders m → is_seen (map (meant text) binders ++ seen) m ≡ true
        by_seen name m (inl before) = seen-right (map (meant text) binders) seen m (deep.usable.usable name m before)
        by_seen name m (inr one) = seen-left (map (meant text) binders) seen m (one-is-seen text binders m one)

    -- ---- units

    -- the reader is left as it is
    same-reader : (known : Known) (context : Context) (depths : Depths) (names : List Meaning) (next : Reader) → next ≡ reader → Deep flat text known context depths reader.setting names stands → Deep flat text known context depths next.setting names stands
    same-reader known context depths names next is here = subst (λ (r : Reader). Deep flat text known context depths r.setting names stands) (sym is) here

    unit-answers : (nested : AllNestedDeep flat state.modules reader.faces) (unit : UnitTree) (next : Reader) (asked : List Question) → IsPlain unit → IsUnitMade flat text means implied files outsides words state reader unit next asked → IsUnitGivenBy flat text means implied files outsides words (IsFileAt flat text means implied files outsides words) state reader seen unit next → IsUnitArranged flat text means implied files outsides words state reader seen unit next → AnswersUnit unit next asked
    unit-answers nested (OperatorDefinition local x) next asked plain made given arranged = definition-answers nested (OperatorDefinition local x) (is_some local) x next asked made given arranged
    unit-answers nested (FunctionDefinition local x) next asked plain made given arranged = definition-answers nested (FunctionDefinition local x) (is_some local) x next asked made given arranged
    unit-answers nested (ModuleDefinition local x) next asked plain made given arranged = definition-answers nested (ModuleDefinition local x) (is_some local) x next asked made given arranged
    unit-answers nested (Instance local (Node (Form.Instance l) s rights)) next asked plain made given (inside, none, arranged, file, stay) =
        let unit : UnitTree = Instance local (Node (Form.Instance l) s rights) in
        let leads = module-leads flat text means implied files outsides words (known_at text outsides words state unit) state.modules reader.faces l nested.0 file in
        instance-deep flat ordered text means implied files outsides words state reader seen stands told deep local l s rights next asked (stands-named nested inside) leads.0 made given none
        (parts-weaker (IsDeepBehind flat text means implied files outsides words state reader unit inside) (LeadsNamed nested unit inside) (behind-leads flat text means implied files outsides words state reader nested.0 unit inside) rights true arranged) leads.1
    unit-answers nested (Instance local x) next asked plain made given arranged = absurd arranged
    unit-answers nested (Assumption word name (Node form s parts)) next asked plain (i, a, is, same, parted) given (inside, claim, arranged) =
        let unit : UnitTree = Assumption word name (Node form s parts) in
        record {
          stands = stands;
          deep = same-reader _ _ _ _ next same (at unit);
          answers = claim-answers unit word (Node form s parts) i a (over reader.setting.frame (IsConstant s i ∷ [])) asked (stands-named nested inside) claim
              (tree-weaker (IsDeepBehind flat text means implied files outsides words state reader unit inside) (LeadsNamed nested unit inside) (behind-leads flat text means implied files outsides words state reader nested.0 unit inside) (Node form s parts) arranged) is refl (ap (deep_answers flat) parted);
        }
    unit-answers nested (Theorem word name (Node form s parts)) next asked plain (i, a, is, same, parted) given (inside, claim, arranged) =
        let unit : UnitTree = Theorem word name (Node form s parts) in
        record {
          stands = stands;
          deep = same-reader _ _ _ _ next same (at unit);
          answers = claim-answers unit word (Node form s parts) i a [] asked (stands-named nested inside) claim
              (tree-weaker (IsDeepBehind flat text means implied files outsides words state reader unit inside) (LeadsNamed nested unit inside) (behind-leads flat text means implied files outsides words state reader nested.0 unit inside) (Node form s parts) arranged) is refl (ap (deep_answers flat) parted);
        }
    unit-answers nested (Variables names) next asked plain made given arranged =
        record { stands = stands; deep = same-reader _ _ _ _ next made.0 (declared-deep (Variables names) (variables names) (variables-symbolic text names) given); answers = ap (deep_answers flat) made.1 }
    unit-answers nested (Constants declarations) next asked plain made given arranged =
        record {
          stands = stands;
          deep = same-reader _ _ _ _ next made.0 (declared-deep (Constants declarations) (constants declarations) (constants-symbolic text (all_placed declarations)) given);
          answers = ap (deep_answers flat) made.1;
        }
    unit-answers nested (Line dashes) next asked plain made given arranged =
        record { stands = stands; deep = same-reader _ _ _ _ next made.0 (at (Line dashes)); answers = ap (deep_answers flat) made.1 }
    unit-answers nested (ModuleBegin dashes name extends) next asked plain made given arranged = absurd plain
    unit-answers nested (ModuleEnd closing) next asked plain made given arranged = absurd plain

    -- what was seen is as deep behind the unit as before, in the modules round it
    unit-stays : (unit : UnitTree) (next : Reader) → IsPlain unit → IsUnitGivenBy flat text means implied files outsides words (IsFileAt flat text means implied files outsides words) state reader seen unit next → IsUnitArranged flat text means implied files outsides words state reader seen unit next → (reader.round ≡ [] → ⊥) → StayDeep text outsides words state unit seen
    unit-stays (OperatorDefinition local x) next plain given arranged some = definition-stays text outsides words state (OperatorDefinition local x) x seen given.given.fresh (λ m none. none)
    unit-stays (FunctionDefinition local x) next plain given arranged some = definition-stays text outsides words state (FunctionDefinition local x) x seen given.given.fresh (λ m none. none)
    unit-stays (ModuleDefinition local x) next plain given arranged some = definition-stays text outsides words state (ModuleDefinition local x) x seen given.given.fresh (λ m none. none)
    unit-stays (Instance local (Node (Form.Instance l) s rights)) next plain given arranged some = given-deep text outsides words state (Instance local (Node (Form.Instance l) s rights)) seen (arranged.4 some)
    unit-stays (Instance local x) next plain given arranged some = absurd arranged
    unit-stays (Variables names) next plain given arranged some = given-deep text outsides words state (Variables names) seen (λ m is. inl tt)
    unit-stays (Constants declarations) next plain given arranged some = given-deep text outsides words state (Constants declarations) seen (λ m is. inl tt)
    unit-stays (Assumption word name x) next plain given arranged some = given-deep text outsides words state (Assumption word name x) seen (λ m is. inl tt)
    unit-stays (Theorem word name x) next plain given arranged some = given-deep text outsides words state (Theorem word name x) seen (λ m is. inl tt)
    unit-stays (Line dashes) next plain given arranged some = given-deep text outsides words state (Line dashes) seen (λ m is. inl tt)
    unit-stays (ModuleBegin dashes name extends) next plain given arranged some = absurd plain
    unit-stays (ModuleEnd closing) next plain given arranged some = absurd plain

  -- all that is known of depths behind a unit, and what the unit answers
  pub record AllAnswered (state : KindState) (next : Reader) (seen : List Meaning) (asked : List Question) (found : List Lexeme) : Type 0 where
    pub all : AllDeep flat ordered text means implied files outsides words state next seen
    pub answers : deep_answers flat asked ≡ found

  module _ (state : KindState) (reader : Reader) (seen : List Meaning) (told : AreAllTold state) (further : DefinitionsLead reader.setting.leads) (all : AllDeep flat ordered text means implied files outsides words state reader seen) where
    -- behind a unit
    abbrev AnswersBehind : UnitTree → Reader → List Question → Type 0
    AnswersBehind unit next asked = AllAnswered (after text outsides words state unit) next (seen_behind text outsides words state unit next seen) asked (deep_in text outsides words state unit)

    -- a unit that begins and ends no nested module
    plain-answers : (unit : UnitTree) (next : Reader) (asked : List Question) → IsPlain unit → IsUnitMade flat text means implied files outsides words state reader unit next asked → IsUnitGivenBy flat text means implied files outsides words (IsFileAt flat text means implied files outsides words) state reader seen unit next → IsUnitArranged flat text means implied files outsides words state reader seen unit next → AnswersBehind unit next asked
    plain-answers unit next asked plain made given arranged =
        let one = unit-answers state reader seen all.stands told.0 all.here all.around.nested unit next asked plain made given arranged in
        record {
          all = record {
            stands = one.stands;
            others = all.others;
            here = one.deep;
            around = around-behind flat text means implied files outsides words state reader seen all.others all.around told.1 unit next asked plain made
                (unit-stays state reader seen all.stands told.0 all.here unit next plain given arranged) one.deep.round.plain;
          };
          answers = one.answers;
        }

    all-answer : {symbols : Meaning → Stand} {outers : List Current} → HoldsNested flat state.modules reader.setting.frame reader.round reader.faces seen symbols outers → (unit : UnitTree) (next : Reader) (asked : List Question) → IsUnitMade flat text means implied files outsides words state reader unit next asked → IsUnitGivenBy flat text means implied files outsides words (IsFileAt flat text means implied files outsides words) state reader seen unit next → IsEndGiven flat text means implied files outsides words unit state reader reader.round → IsUnitArranged flat text means implied files outsides words state reader seen unit next → AnswersBehind unit next asked
    all-answer nested (ModuleBegin dashes name extends) next asked made given end arranged =
        record {
          all = begun-all flat ordered text means implied files outsides words state reader seen all told dashes name extends next
              (λ own framed. begun-whole flat text means implied files outsides words state reader seen nested own dashes name extends (given own framed)) arranged made.0;
          answers = ap (deep_answers flat) made.1;
        }
    all-answer nested (ModuleEnd closing) next asked made given end arranged =
        record {
          all = ended-all flat ordered text means implied files outsides words state reader seen all closing next state.read.place.round reader.round all.others refl all.around.round end further made.0;
          answers = ap (deep_answers flat) made.1;
        }
    all-answer nested unit next asked made given end arranged = plain-answers unit next asked tt made given arranged

  -- what is known behind units, and what these answer
  pub record UnitsAnswered (state : KindState) (next : Reader) (asked : List Question) (found : List Lexeme) : Type 0 where
    pub seen : List Meaning
    pub behind : AllAnswered state next seen asked found

  pub units-answer : (units : List UnitTree) (state : KindState) (reader : Reader) (seen : List Meaning) (here : Current) (outers : List Current) (next : Reader) (asked : List Question) (made : AreUnitsMade flat text means implied files outsides words state reader units next asked) → AreUnitsGiven flat text means implied files outsides words state reader seen units next asked made → AreUnitsArranged flat text means implied files outsides words state reader seen units next asked made → AllDefinitionsLead reader → Holds flat ordered text means implied files outsides words state reader seen here outers → AllDeep flat ordered text means implied files outsides words state reader seen → UnitsAnswered (read_all text outsides words state units) next asked (deep_from text outsides words state units)
  units-answer [] state reader seen here outers next asked made given arranged further holds all =
      record {
        seen = seen;
        behind = record {
          all = subst (λ (r : Reader). AllDeep flat ordered text means implied files outsides words state r seen) (sym made.0) all;
          answers = ap (deep_answers flat) made.1;
        };
      }
  units-answer (unit ∷ units) state reader seen here outers next asked made given arranged further holds all =
      let told : AreAllTold state = (here-told state.read.known state.read.place.here.context reader.setting seen here.layout holds.here.follows, all-told state.read.known seen state.read.place.round reader.round outers holds.round) in
      let one = given-steps flat ordered text means implied files outsides words state reader seen here outers unit made.0 made.1 made.3 given.0.0 given.0.1 given.1 further holds in
      let first = all-answer state reader seen told further.0 all holds.nested unit made.0 made.1 made.3 given.1 given.0.1 arranged.0 in
      let others =
      units-answer units (after text outsides words state unit) made.0 (seen_behind text outsides words state unit made.0 seen) (here_behind text outsides words state here outers unit one.coming) (round_behind text outsides words here outers one.coming) next made.2 made.4 given.2 arranged.1
      (unit-further flat text means implied files outsides words state reader seen unit made.0 made.1 further given.1 made.3) one.holds first.all in
      record {
        seen = others.seen;
        behind = record {
          all = others.behind.all;
          answers = ap (deep_answers flat) made.5 ∙ asked-joins flat made.1 made.2 ∙ ap (λ xs. xs ++ deep_answers flat made.2) first.answers ∙ ap (λ ys. deep_in text outsides words state unit ++ ys) others.behind.answers;
        };
      }

-- ---- modules

unsaid-plain : (flat : FlatModule) (m : Meaning) → HasDepths flat 0 (unsaid_stand m) (no_depths m)
unsaid-plain flat BuiltIn = refl
unsaid-plain flat (Declared e x) = by_entity e
  where
    by_entity : (f : Entity) → HasDepths flat 0 (unsaid_stand (Declared f x)) (no_depths (Declared f x))
    by_entity (entity.Bound state) = refl
    by_entity f = tt

unsaid-takes : (flat : FlatModule) (m : Meaning) → TakesParameters flat (unsaid_stand m)
unsaid-takes flat BuiltIn = tt
unsaid-takes flat (Declared e x) = by_entity e
  where
    by_entity : (f : Entity) → TakesParameters flat (unsaid_stand (Declared f x))
    by_entity (entity.Bound state) = tt
    by_entity f = tt

none-deep : (symbols : List Meaning) → AreDepthless no_depths symbols
none-deep [] = tt
none-deep (s ∷ rest) = ((λ m same. refl), none-deep rest)

module _ (flat : FlatModule) (ordered : IsOrdered flat) (means : ℕ → Option Meaning) (implied : ℕ → List Meaning) (files : List ℕ → FlatFace) (outsides : List ℕ → Outside) (source : List ℕ) (units : ModuleUnits) (symbols : List Meaning) where
  abbrev begins : KindState
  begins = first outsides source units

  abbrev stands-first : Meaning → Stand
  stands-first = symbol-stands flat ordered means implied files outsides source units symbols

  -- the stands behind what the module extends
  record FirstDeep (leads : Leads) : Type 0 where
    stands : Meaning → Stand
    deep : Deep flat (text_of source units) begins.read.known begins.read.place.here.context begins.depths (first-reader flat ordered means implied files outsides source units symbols leads).setting (first_seen flat means implied files outsides source units symbols) stands

  first-deep : (final : Reader) (asked : List Question) (made : IsModuleMade flat means implied files outsides source units symbols final asked) → IsModuleGiven flat means implied files outsides source units symbols final asked made → IsModuleArranged flat means implied files outsides source units symbols final asked made → IsBegunWith flat ordered means implied files outsides source units symbols made.0 → FirstDeep made.0
  first-deep final asked made given arranged begun =
      let setting = symbol_setting flat means implied files outsides source units symbols in
      let plain = λ (m : Meaning). symbols-deep flat no_depths unsaid_stand symbols 0 m (none-deep symbols) (unsaid-plain flat m, unsaid-takes flat m) in
      let all =
      all-extended-deep flat ordered (text_of source units) means implied files outsides (words_of units) begins.read.known begins.read.place.here.context (first_scope (text_of source units).file) (first_scope (text_of source units).file) setting setting.leads
      units.extends stands-first no_depths setting.leads made.0 (symbols-lead unsaid_stand _ symbols 0 none-leads) (λ m. (plain m).0) (λ m. (plain m).1) given.extended.each
      (modules-lead flat (text_of source units) means implied files outsides (words_of units) begins.read.known (first_scope (text_of source units).file) (first_scope (text_of source units).file) units.extends (refl, tt, tt) arranged.extended) made.1 in
      let follows = begun.holds.here.follows in
      record {
        stands = all.final;
        deep = record {
          round = record {
            leads = all.leads;
            unsaid = λ m e. let parts = unseen-parts (BuiltIn ∷ symbols) _ m e in all.unsaid m parts.1 ∙ begun.holds.nested.unsaid m e;
            plain = λ m e. let parts = unseen-parts (BuiltIn ∷ symbols) _ m e in all.plain m parts.1;
            deep = all.deep;
            parameters = all.parameters;
          };
          usable = record {
            orders = λ name m e. all.takes name m e
                (λ none. subst (λ (s : Stand). TakesAs s (behind_meaning begins.read.known (Some m)) m) (none-brought (text_of source units) outsides (words_of units) (first_scope (text_of source units).file) units.extends begun.extensions stands-first m none) (follows.orders name m e));
            usable = follows.all_seen;
          };
        };
      }

  module-all : (final : Reader) (asked : List Question) (made : IsModuleMade flat means implied files outsides source units symbols final asked) → IsModuleGiven flat means implied files outsides source units symbols final asked made → IsModuleArranged flat means implied files outsides source units symbols final asked made → UnitsAnswered flat ordered (text_of source units) means implied files outsides (words_of units) (last outsides source units) final asked (too_deep outsides source units)
  module-all final asked made given arranged =
      let begun = module-begun flat ordered means implied files outsides source units symbols final asked made given in
      let at-first = first-deep final asked made given arranged begun in
      units-answer flat ordered (text_of source units) means implied files outsides (words_of units) units.units begins (first-reader flat ordered means implied files outsides source units symbols made.0) (first_seen flat means implied files outsides source units symbols)
      (first_current outsides source units stands-first (length symbols) begun.extensions) [] final asked made.2 given.given arranged.arranged begun.further begun.holds
      (record { stands = at-first.stands; others = []; here = at-first.deep; around = record { round = tt; nested = ((refl, tt, tt), tt) } })

  pub module-names : (final : Reader) (asked : List Question) (made : IsModuleMade flat means implied files outsides source units symbols final asked) → IsModuleGiven flat means implied files outsides source units symbols final asked made → IsModuleArranged flat means implied files outsides source units symbols final asked made → deep_answers flat asked ≡ too_deep outsides source units
  module-names final asked made given arranged = (module-all final asked made given arranged).behind.answers

  pub module-outside : (final : Reader) (asked : List Question) (made : IsModuleMade flat means implied files outsides source units symbols final asked) → IsModuleGiven flat means implied files outsides source units symbols final asked made → IsModuleArranged flat means implied files outsides source units symbols final asked made → IsDeepSo flat outsides source units symbols final
  module-outside final asked made given arranged =
      let all = (module-all final asked made given arranged).behind.all in
      let entries = exports_of (last outsides source units).read.place.here.exports in
      record {
        inner = exported_stand all.stands entries;
        leads = λ name names. exported-lead all.stands final.setting.leads entries name names all.here.round.leads;
        deep = state-exported flat all.stands (last outsides source units) (outside_in (views (text_of source units) outsides (words_of units)) source units) (last outsides source units).is_constant all.here.round.deep;
        parameters = λ name. exported-few flat all.stands all.here.round.parameters (entry_of entries name);
        takes = λ name used m e there. subst (λ (found : Option Meaning). TakesAs (stand_in all.stands found) (behind_meaning (last outsides source units).read.known (Some m)) m) (sym e) (all.here.usable.orders used m there);
      }

-- a module that is so deep is what is asked of one that is named
pub module-led : (flat : FlatModule) (outsides : List ℕ → Outside) (source : List ℕ) (units : ModuleUnits) (symbols : List Meaning) (final : Reader) (text : Text) (known : Known) (named_outsides : List ℕ → Outside) (faces : List ℕ → FlatFace) (l : Lexeme) (held : Behind) (deep : IsDeepSo flat outsides source units symbols final) → module_of text known named_outsides l ≡ outside outsides source units → ((name : Named) (names : List Named) → (faces (spelled text.source l)).leads (name ∷ names) ≡ exported_leads final.setting.leads (exports_of (last outsides source units).read.place.here.exports) (name ∷ names)) → ((name : Named) (next : Meaning) → entry_of (held []) name ≡ Some next → TakesBehind (deep.inner name) (onward held name) next) → LeadsAs flat text known named_outsides faces l deep.inner held
module-led flat outsides source units symbols final text known named_outsides faces l held deep same leads takes =
    record {
      leads = λ name names. leads name names ∙ deep.leads name names;
      deep = subst (λ (o : Outside). IsDeepModule flat deep.inner o) (sym same) deep.deep;
      parameters = deep.parameters;
      takes = takes;
    }
