-- Modules, unit by unit.
use Rattle.std.proofs.Common.{◌≡◌, inl, ℕ, Bool, true, false, cond, Some, drop, List, [], ◌∷◌, ◌++◌, Option, map, refl, sym, ap, ◌∙◌, subst, length, ◌+◌, arith}
use Rattle.std.specs.Prelude.{is_some, not}
use Rattle.std.proofs.lemmas.List.{length-append}
use Rattle.tla_symbols.specs.declared.lexeme.Lexeme.{Lexeme}
use Rattle.tla_tree.specs.declared.form.Form.TheVariants as Form
use Rattle.tla_tree.specs.Syntax.{Tree, Node}
use Rattle.unit_grammar.specs.Units.{UnitTree, Variables, Constants, OperatorDefinition, FunctionDefinition, ModuleDefinition, Instance, Assumption, Theorem, Line, ModuleBegin, ModuleEnd, ModuleUnits}
use Rattle.tla_model.specs.declared.entity.Entity.TheVariants as entity
use Rattle.tla_model.specs.declared.names.Meaning.TheVariants.{BuiltIn, Declared}
use Rattle.tla_model.specs.Contexts.{Context, meaning_of}
use Rattle.tla_model.specs.Entities.{Entity, Meaning, Text, all_placed, meant, same_meaning, variables, within}
use Rattle.tla_model.specs.Tables.{Named}
use Rattle.tla_model.specs.Scopes.{definition}
use Rattle.module_scope.specs.Environments.{Scope, ended, first as first_scope, meaning as module_meaning}
use Rattle.module_model.specs.Exports.{Known, behind_instance, behind_meaning, entry_of, exports_of, onward}
use Rattle.module_model.specs.Modules.{Reading, constants, left, text_of}
use Rattle.module_model.specs.Resolution.{instance_brings, module_named, words_of}
use Rattle.model_laws.proofs.Settling.{told-constants, told-defined, told-variables}
use Rattle.kind_text.specs.FlatModule.{FlatModule, IsOrdered}
use Rattle.tree_kinds.specs.Standing.{Outside}
use Rattle.module_kinds.specs.ModuleKinds.{KindState, after, first, known_at, last, named, nested_outside, read_all, views}
use Rattle.flat_trees.specs.Stands.{Stand}
use Rattle.flat_trees.specs.Layouts.{Layout, StandsBefore}
use Rattle.flat_kinds.specs.Readings.{Extension, KeepsState, exported_stand, is_among, layout_after, stand_in, with_own}
use Rattle.flat_kinds.specs.Symbols.{AreDistinct}
use Rattle.flat_kinds.specs.Modules.{AreRead, Begins, Coming, Current, Ends, Stands, IsExtended, IsRead, KeepsAll, first_current, here_behind, module_stands, round_behind}
use Rattle.flat_kinds.proofs.Modules.{module-begins, module-read, unit-all}
use Rattle.flat_kinds.proofs.Symbols.{places-before}
use Rattle.flattened_trees.specs.Agreeing.{AreNew, TakesBehind, is_seen, unsaid_stand}
use Rattle.flattened_trees.specs.Leads.{FlatFace, Leads, Setting}
use Rattle.flattened_trees.specs.Questions.{Question}
use Rattle.flattened_units.specs.Units.{AreUnitsMade, IsBegun, IsDefinitionMade, IsEnded, IsInstanceMade, IsModuleMade, IsUnitMade, Reader, face_under, meanings_of, nested_face, symbol_setting}
use Rattle.module_meanings.specs.Faces.{IsFaceBy, LeadsAs}
use Rattle.module_meanings.specs.Following.{Follows, IsBuiltSo, IsFollowed, IsMeantSo, IsPlain, LeadsBy}
use Rattle.module_meanings.specs.Premises.{AreTold, AreUnitsGiven, IsBegunGivenBy, IsBroughtGiven, IsEndGiven, IsEndedGiven, IsExtendedFile, IsFileAt, IsFileBy, IsModuleGiven, IsTreeGiven, IsTreeGivenBy, IsUnitGiven, IsUnitGivenBy, first_seen, seen_behind, symbol_leads}
use Rattle.module_meanings.proofs.Beginning.{begun-so, first-follows, first-reader, symbol-stands, symbols-unseen}
use Rattle.module_meanings.proofs.Bringing.{declared-follows, instance-follows, still-follows}
use Rattle.module_meanings.proofs.Entering.{Holds, all-extended, begun-read, drop-front, round-holds, within-holds, within-nested}
use Rattle.module_meanings.proofs.Contexts.{seen-right, unseen-parts}
use Rattle.module_meanings.proofs.Further.{AllDefinitionsLead, DefinitionsLead, extended-further, first-further, unit-further}
use Rattle.module_meanings.proofs.Instancing.{nested-extendable, nested-instanced, new-unsaid, table-own}
use Rattle.module_meanings.proofs.NestedExtended.{begun-whole}
use Rattle.module_meanings.proofs.NestedFaces.{HoldsNested, IsNestedKnown, brought-entry, further-takes, known-both, named-face, nested-ends, nested-more, symbol-as}
use Rattle.module_meanings.proofs.Extending.{symbols-alike, unsaid-alike}
use Rattle.module_meanings.proofs.Leads.{exported-lead, none-leads, symbols-lead}
use Rattle.module_meanings.proofs.Nesting.{AreAllTold, all-told, before-nowhere, here-told, HoldsAt, HoldsRound, own-at, round-more, round-stays, told-round}
use Rattle.module_meanings.proofs.Staying.{StayBehind, names-other, definition-stays, given-stays}
use Rattle.module_meanings.proofs.Units.{constants-symbolic, definition-follows, variables-symbolic}

module _ (flat : FlatModule) (ordered : IsOrdered flat) (text : Text) (means : ℕ → Option Meaning) (implied : ℕ → List Meaning) (files : List ℕ → FlatFace) (outsides : List ℕ → Outside) (words : List ℕ) where
  module _ (state : KindState) (reader : Reader) (seen : List Meaning) (layout : Layout) (follows : Follows state reader seen layout) (told : AreTold state.read.known state.read.place.here.context) where
    -- what is known behind a unit where names stand as before
    abbrev StillFollows : UnitTree → Reader → Type 0
    StillFollows unit r = Follows (after text outsides words state unit) r (seen_behind text outsides words state unit r seen) (layout_after text outsides words state layout unit layout.stands)

    pub unit-follows : (unit : UnitTree) (next : Reader) (asked : List Question) → IsPlain unit → IsUnitMade flat text means implied files outsides words state reader unit next asked → IsUnitGiven flat text means implied files outsides words state reader seen unit next → IsFollowed flat text outsides words state layout unit next seen
    unit-follows (OperatorDefinition local (Node form s parts)) next asked plain made given =
        definition-follows flat text means implied files outsides words seen form s parts state reader (OperatorDefinition local (Node form s parts)) layout follows told given.given ordered (is_some local) next asked (told-defined text state.read.known (module_named text (views text outsides words) words state.read) (Node form s parts)) refl refl made given.readable
    unit-follows (FunctionDefinition local (Node form s parts)) next asked plain made given =
        definition-follows flat text means implied files outsides words seen form s parts state reader (FunctionDefinition local (Node form s parts)) layout follows told given.given ordered (is_some local) next asked (told-defined text state.read.known (module_named text (views text outsides words) words state.read) (Node form s parts)) refl refl made given.readable
    unit-follows (ModuleDefinition local (Node form s parts)) next asked plain made given =
        definition-follows flat text means implied files outsides words seen form s parts state reader (ModuleDefinition local (Node form s parts)) layout follows told given.given ordered (is_some local) next asked (told-defined text state.read.known (module_named text (views text outsides words) words state.read) (Node form s parts)) refl refl made given.readable
    unit-follows (Instance local x) next asked plain made given =
        instance-follows flat text means implied files outsides words seen state reader layout follows told ordered local x next asked made given
    unit-follows (Variables names) next asked plain made given = (
      layout.stands,
      refl,
      subst (StillFollows (Variables names)) (sym made.0)
          (declared-follows flat text means implied files outsides words seen state reader layout follows told (Variables names) false (variables names) (variables-symbolic text names) given (told-variables text (known_at text outsides words state (Variables names)) names) refl refl),
    )
    unit-follows (Constants declarations) next asked plain made given = (
      layout.stands,
      refl,
      subst (StillFollows (Constants declarations)) (sym made.0)
          (declared-follows flat text means implied files outsides words seen state reader layout follows told (Constants declarations) false (constants declarations) (constants-symbolic text (all_placed declarations)) given (told-constants text (known_at text outsides words state (Constants declarations)) (all_placed declarations)) refl refl),
    )
    unit-follows (Assumption word name x) next asked plain (i, a, is, same, asks) given = (
      layout.stands,
      refl,
      subst (StillFollows (Assumption word name x)) (sym same)
          (still-follows flat text means implied files outsides words seen state reader layout follows told (Assumption word name x) refl refl),
    )
    unit-follows (Theorem word name x) next asked plain (i, a, is, same, asks) given = (
      layout.stands,
      refl,
      subst (StillFollows (Theorem word name x)) (sym same)
          (still-follows flat text means implied files outsides words seen state reader layout follows told (Theorem word name x) refl refl),
    )
    unit-follows (Line dashes) next asked plain made given = (
      layout.stands,
      refl,
      subst (StillFollows (Line dashes)) (sym made.0)
          (still-follows flat text means implied files outsides words seen state reader layout follows told (Line dashes) refl refl),
    )
    unit-follows (ModuleBegin dashes name extends) next asked plain made given = absurd plain
    unit-follows (ModuleEnd closing) next asked plain made given = absurd plain

  -- what comes of a unit at a state, with the modules round it, and what is known behind it
  pub record Steps (state : KindState) (reader : Reader) (seen : List Meaning) (here : Current) (outers : List Current) (unit : UnitTree) (next : Reader) : Type 0 where
    pub coming : Coming
    pub read : IsRead text outsides words flat state here outers unit coming
    pub holds :
        Holds flat ordered text means implied files outsides words (after text outsides words state unit) next (seen_behind text outsides words state unit next seen)
        (here_behind text outsides words state here outers unit coming) (round_behind text outsides words here outers coming)

  module _ (state : KindState) (reader : Reader) (seen : List Meaning) (here : Current) (outers : List Current) (holds : Holds flat ordered text means implied files outsides words state reader seen here outers) (told : AreAllTold state) (further : DefinitionsLead reader.setting.leads) where
    -- a unit that begins and ends no nested module
    plain-steps : (unit : UnitTree) (next : Reader) → IsFollowed flat text outsides words state here.layout unit next seen → (next.round ≡ reader.round) × (next.setting.frame ≡ reader.setting.frame) × (next.faces ≡ reader.faces) → (after text outsides words state unit).read.place.round ≡ state.read.place.round → HoldsRound (after text outsides words state unit).read.known state.read.place.round reader.round outers (seen_behind text outsides words state unit next seen) → ((reader.round ≡ [] → ⊥) → StayBehind text outsides words state unit seen) → (after text outsides words state unit).modules ≡ state.modules → ((m : Meaning) → is_seen seen m ≡ true → is_seen (seen_behind text outsides words state unit next seen) m ≡ true) → Steps state reader seen here outers unit next
    plain-steps unit next (stands, read, follows) (round, frame, faces) same round_holds stays modules more =
        let is-read : IsRead text outsides words flat state here outers unit (Stands stands) =
        (read, round-stays flat text outsides words state unit state.read.known state.read.place.round reader.round outers seen holds.round holds.keeps.round stays) in
        let then = after text outsides words state unit in
        let names = seen_behind text outsides words state unit next seen in
        record {
          coming = Stands stands;
          read = is-read;
          holds = record {
            here = record {
              follows = follows;
              leads = subst (λ (settings : List Setting). LeadsBy here.symbols (symbol_leads settings next.setting.frame)) (sym round)
                  (subst (λ (symbols : List Meaning). LeadsBy here.symbols (symbol_leads reader.round symbols)) (sym frame) holds.here.leads);
              alike = holds.here.alike;
              before = holds.here.before;
            };
            round = subst (λ readings. HoldsRound then.read.known readings next.round outers names) (sym same)
                (subst (λ (settings : List Setting). HoldsRound then.read.known state.read.place.round settings outers names) (sym round) round_holds);
            keeps = unit-all flat text outsides words state here outers unit (Stands stands) holds.keeps is-read;
            nested = subst (λ (ms : Scope Outside). HoldsNested flat ms next.setting.frame next.round next.faces names here.symbols outers) (sym modules)
                (subst (λ (fs : Scope FlatFace). HoldsNested flat state.modules next.setting.frame next.round fs names here.symbols outers) (sym faces)
                (subst (λ (settings : List Setting). HoldsNested flat state.modules next.setting.frame settings reader.faces names here.symbols outers) (sym round)
                (subst (λ (ms : List Meaning). HoldsNested flat state.modules ms reader.round reader.faces names here.symbols outers) (sym frame)
                (nested-more flat state.modules reader.setting.frame reader.round reader.faces seen names here.symbols outers more holds.nested))));
          };
        }

    definition-same : (x : Tree) (next : Reader) (asked : List Question) → IsDefinitionMade flat text means implied files outsides words reader x next asked → (next.round ≡ reader.round) × (next.setting.frame ≡ reader.setting.frame) × (next.faces ≡ reader.faces)
    definition-same x next asked (lead, roots, made, is) = (ap (λ (r : Reader). r.round) is, ap (λ (r : Reader). r.setting.frame) is, ap (λ (r : Reader). r.faces) is)

    reader-same : (next : Reader) → next ≡ reader → (next.round ≡ reader.round) × (next.setting.frame ≡ reader.setting.frame) × (next.faces ≡ reader.faces)
    reader-same next is = (ap (λ (r : Reader). r.round) is, ap (λ (r : Reader). r.setting.frame) is, ap (λ (r : Reader). r.faces) is)

    instance-same : (x : Tree) (next : Reader) (asked : List Question) → IsInstanceMade flat text means implied files outsides words state reader x next asked → (next.round ≡ reader.round) × (next.setting.frame ≡ reader.setting.frame) × (next.faces ≡ reader.faces)
    instance-same (Node (Form.Instance l) s rights) next asked (written, roots, j, a, b, are, made, is, asks) = (ap (λ (r : Reader). r.round) is, ap (λ (r : Reader). r.setting.frame) is, ap (λ (r : Reader). r.faces) is)
    instance-same (Node form s parts) next asked made = reader-same next made.0

    not-true : (b : Bool) → not b ≡ true → b ≡ false
    not-true true e = cc e
    not-true false e = refl

    -- what a nested module exports takes at its end what it takes
    ended-takes : (reading : Reading) (readings : List Reading) {setting : Setting} {settings : List Setting} → IsEndedGiven flat text means implied files outsides words state reader setting settings → (name : Named) (m : Meaning) → entry_of (behind_instance (nested_outside state (reading ∷ readings)).view []) name ≡ Some m → TakesBehind (exported_stand here.layout.stands (exports_of state.read.place.here.exports) name) (onward (behind_instance (nested_outside state (reading ∷ readings)).view) name) m
    ended-takes reading readings given name m found =
        let follows = holds.here.follows in
        let entry = brought-entry (exports_of state.read.place.here.exports) name m (table-own state.read given.once) found in
        let usable = given.usable name m entry.0 entry.1 in
        let takes = further-takes (here.layout.stands m) (behind_meaning state.read.known (Some m)) m (reader.setting.leads m []) (follows.settings.leads m []) (further m entry.1)
        (follows.orders name m (subst (λ (context : Context). meaning_of context name ≡ Some m) follows.context usable))
        in
        subst (λ (o : Option Meaning). TakesBehind (stand_in here.layout.stands o) (λ path. behind_meaning state.read.known o path) m) (sym entry.0) takes

    -- a nested module that ends is what is asked of it
    ended-face : (reading : Reading) (readings : List Reading) (setting : Setting) (settings : List Setting) (outer : Current) (outs : List Current) → HoldsRound state.read.known (reading ∷ readings) (setting ∷ settings) (outer ∷ outs) seen → KeepsAll flat state here (outer ∷ outs) → HoldsNested flat state.modules reader.setting.frame (setting ∷ settings) reader.faces seen here.symbols (outer ∷ outs) → IsEndedGiven flat text means implied files outsides words state reader setting settings → meanings_of (nested_face flat text means implied files outsides words state reading reader.setting setting).parameters ≡ drop (length setting.frame) reader.setting.frame
        → IsNestedKnown flat seen (symbol_leads settings setting.frame) (Some (nested_outside state (reading ∷ readings))) (Some (nested_face flat text means implied files outsides words state reading reader.setting setting))
    ended-face reading readings setting settings outer outs round keeps nested given symbols =
        let own = nested.nest.0.0 in
        let framed = nested.nest.0.1 in
        let place = length setting.frame in
        let own-is : drop place reader.setting.frame ≡ own = ap (drop place) framed ∙ drop-front setting.frame own in
        let follows = holds.here.follows in
        let known = round.0 in
        let keeps-own : KeepsState flat (with_own outer.symbols (own-at own (length setting.frame))) here.layout state = subst (λ (s : Meaning → Stand). KeepsState flat s here.layout state) nested.nest.0.2 keeps.here in
        let room : here.layout.places ≡ length setting.frame + length own = follows.settings.places ∙ ap length framed ∙ length-append setting.frame own in
        let leads-as : (m : Meaning) → LeadsAs (length setting.frame) (outer.symbols m) (symbol_leads settings setting.frame m []) = λ m. subst (λ n. LeadsAs n (outer.symbols m) (symbol_leads settings setting.frame m [])) known.follows.settings.places
        (subst (λ lead. LeadsAs outer.layout.places (outer.symbols m) lead) (sym (known.leads m [])) (symbol-as outer.layout.places (outer.symbols m) (known.before m))) in (
          nested-instanced flat text means implied files outsides words state reading readings reader.setting setting outer.symbols own here.layout
              (symbol_leads settings setting.frame) (λ m. not (is_seen seen m)) keeps-own room
              (sym (symbols ∙ own-is))
              (subst AreDistinct own-is given.distinct)
              (λ other among. before-nowhere outer.layout.places (outer.symbols other) (known.before other) (sym (known.leads other []) ∙ given.apart other (subst (λ (ms : List Meaning). is_among ms other ≡ true) (sym own-is) among)))
              given.once follows.settings.leads (λ name m found. ended-takes reading readings given name m found) leads-as
              (λ m new free. nested.unsaid_round.0 m (not-true (is_seen seen m) new) ∙ new-unsaid (λ n. not (is_seen seen n)) m (ap not nested.built) new free),
          nested-extendable flat text means implied files outsides words state reading readings reader.setting setting outer.symbols own here.layout (symbol_leads settings setting.frame) keeps-own room
              (sym (symbols ∙ own-is)) follows.settings.leads (λ name m found. ended-takes reading readings given name m found) leads-as,
        )

    ended-nested : (closing : Lexeme) (next : Reader) (reading : Reading) (readings : List Reading) (setting : Setting) (settings : List Setting) (outer : Current) (outs : List Current) → state.read.place.round ≡ reading ∷ readings → HoldsRound state.read.known (reading ∷ readings) (setting ∷ settings) (outer ∷ outs) seen → KeepsAll flat state here (outer ∷ outs) → HoldsNested flat state.modules reader.setting.frame (setting ∷ settings) reader.faces seen here.symbols (outer ∷ outs) → IsEndedGiven flat text means implied files outsides words state reader setting settings → meanings_of (nested_face flat text means implied files outsides words state reading reader.setting setting).parameters ≡ drop (length setting.frame) reader.setting.frame
        → next ≡ record { setting = setting; round = settings; faces = ended (nested_face flat text means implied files outsides words state reading reader.setting setting) reader.faces.here reader.faces.round }
        → HoldsNested flat (after text outsides words state (ModuleEnd closing)).modules next.setting.frame next.round next.faces seen outer.symbols outs
    ended-nested closing next reading readings setting settings outer outs e round keeps nested given symbols is =
        let face = ended-face reading readings setting settings outer outs round keeps nested given symbols in
        let both = nested-ends flat state.modules.here state.modules.round reader.faces.here reader.faces.round setting settings seen (nested_outside state (reading ∷ readings)) (nested_face flat text means implied files outsides words state reading reader.setting setting) nested.behind face in
        subst (λ (r : Reader). HoldsNested flat (ended (nested_outside state state.read.place.round) state.modules.here state.modules.round) r.setting.frame r.round r.faces seen outer.symbols outs) (sym is)
        (subst (λ (rs : List Reading). HoldsNested flat (ended (nested_outside state rs) state.modules.here state.modules.round) setting.frame settings (ended (nested_face flat text means implied files outsides words state reading reader.setting setting) reader.faces.here reader.faces.round) seen outer.symbols outs) (sym e)
        (record {
          nest = nested.nest.1;
          built = nested.built;
          unsaid = nested.unsaid_round.0;
          unsaid_round = nested.unsaid_round.1;
          here = both.0;
          behind = both.1;
        }))

    -- a nested module ends
    ended-steps : (closing : Lexeme) (next : Reader) (readings : List Reading) (settings : List Setting) (outs : List Current) → state.read.place.round ≡ readings → HoldsRound state.read.known readings settings outs seen → KeepsAll flat state here outs → HoldsNested flat state.modules reader.setting.frame settings reader.faces seen here.symbols outs → IsEndGiven flat text means implied files outsides words (ModuleEnd closing) state reader settings → IsEnded flat text means implied files outsides words state readings reader settings next → Steps state reader seen here outs (ModuleEnd closing) next
    ended-steps closing next [] settings outs e round keeps nested given made = absurd made
    ended-steps closing next (reading ∷ readings) [] outs e round keeps nested given made = absurd made
    ended-steps closing next (reading ∷ readings) (setting ∷ settings) [] e round keeps nested given made = absurd round
    ended-steps closing next (reading ∷ readings) (setting ∷ settings) (outer ∷ outs) e round keeps nested given (symbols, is) =
        let known = state.read.known in
        let context = ap (λ (rs : List Reading). (left known state.read.place.here rs).here.context) e in
        let rest = ap (λ (rs : List Reading). (left known state.read.place.here rs).round) e in
        record {
          coming = Ends;
          read = tt;
          holds = record {
            here = subst (λ (r : Reader). HoldsAt known (left known state.read.place.here state.read.place.round).here.context (symbol_leads r.round r.setting.frame) r.setting seen outer) (sym is)
                (subst (λ (c : Context). HoldsAt known c (symbol_leads settings setting.frame) setting seen outer) (sym context) round.0);
            round = subst (λ (r : Reader). HoldsRound known (left known state.read.place.here state.read.place.round).round r.round outs seen) (sym is)
                (subst (λ (rs : List Reading). HoldsRound known rs settings outs seen) (sym rest) round.1);
            keeps = unit-all flat text outsides words state here (outer ∷ outs) (ModuleEnd closing) Ends keeps tt;
            nested = ended-nested closing next reading readings setting settings outer outs e round keeps nested given symbols is;
          };
        }

    -- a nested module begins
    begun-steps : (dashes name : Lexeme) (extends : List Lexeme) (next : Reader) → StayBehind text outsides words state (ModuleBegin dashes name extends) seen → ((own : List Meaning) → next.setting.frame ≡ reader.setting.frame ++ own → IsBegunGivenBy flat text means implied files outsides words (IsExtendedFile flat text means implied files outsides words) state reader own dashes name extends) → IsBegun flat text means implied files outsides words state reader name extends next → Steps state reader seen here outers (ModuleBegin dashes name extends) next
    begun-steps dashes name extends next stays given (own, leads, (made, is)) =
        let unit : UnitTree = ModuleBegin dashes name extends in
        let given-own = begun-whole flat text means implied files outsides words state reader seen holds.nested own dashes name extends (given own (ap (λ (r : Reader). r.setting.frame) is)) in
        let all = all-extended flat ordered text means implied files outsides words state reader seen here outers holds told dashes name extends stays own given-own leads made in
        let come : Coming = Begins (own-at own here.layout.places) (length own) all.extensions in
        let read = begun-read flat ordered text means implied files outsides words state reader seen here outers holds told dashes name extends stays own given-own next leads all is in
        let within = within-holds flat ordered text means implied files outsides words state reader seen here outers holds told dashes name extends stays own given-own next leads all is in
        let round = round-holds flat ordered text means implied files outsides words state reader seen here outers holds told dashes name extends stays own given-own next leads all is in
        let holds-within : Holds flat ordered text means implied files outsides words (after text outsides words state unit) _ _ (here_behind text outsides words state here outers unit come) (round_behind text outsides words here outers come) =
        record {
          here = within;
          round = round;
          keeps = unit-all flat text outsides words state here outers unit come holds.keeps read;
          nested = within-nested flat ordered text means implied files outsides words state reader seen here outers holds told dashes name extends stays own given-own next leads all is;
        } in
        record {
          coming = come;
          read = read;
          holds = subst (λ (r : Reader). Holds flat ordered text means implied files outsides words (after text outsides words state unit) r (seen_behind text outsides words state unit r seen) (here_behind text outsides words state here outers unit come) (round_behind text outsides words here outers come)) (sym is) holds-within;
        }

    pub unit-steps : (unit : UnitTree) (next : Reader) (asked : List Question) → IsUnitMade flat text means implied files outsides words state reader unit next asked → IsUnitGiven flat text means implied files outsides words state reader seen unit next → IsBroughtGiven flat text means implied files outsides words state reader seen unit → IsEndGiven flat text means implied files outsides words unit state reader reader.round → Steps state reader seen here outers unit next
    unit-steps (OperatorDefinition local x) next asked made given brought end =
        plain-steps (OperatorDefinition local x) next (unit-follows state reader seen here.layout holds.here.follows told.0 (OperatorDefinition local x) next asked tt made given) (definition-same x next asked made) refl
        (round-more state.read.known _ seen (map (meant text) (definition x)) state.read.place.round reader.round outers told.1 holds.round)
        (λ some. definition-stays text outsides words state (OperatorDefinition local x) x seen given.given.fresh (λ m none. none)) refl (λ m is. seen-right (map (meant text) (definition x)) seen m is)
    unit-steps (FunctionDefinition local x) next asked made given brought end =
        plain-steps (FunctionDefinition local x) next (unit-follows state reader seen here.layout holds.here.follows told.0 (FunctionDefinition local x) next asked tt made given) (definition-same x next asked made) refl
        (round-more state.read.known _ seen (map (meant text) (definition x)) state.read.place.round reader.round outers told.1 holds.round)
        (λ some. definition-stays text outsides words state (FunctionDefinition local x) x seen given.given.fresh (λ m none. none)) refl (λ m is. seen-right (map (meant text) (definition x)) seen m is)
    unit-steps (ModuleDefinition local x) next asked made given brought end =
        plain-steps (ModuleDefinition local x) next (unit-follows state reader seen here.layout holds.here.follows told.0 (ModuleDefinition local x) next asked tt made given) (definition-same x next asked made) refl
        (round-more state.read.known _ seen (map (meant text) (definition x)) state.read.place.round reader.round outers told.1 holds.round)
        (λ some. definition-stays text outsides words state (ModuleDefinition local x) x seen given.given.fresh (λ m none. none)) refl (λ m is. seen-right (map (meant text) (definition x)) seen m is)
    unit-steps (Instance local x) next asked made given brought end =
        plain-steps (Instance local x) next (unit-follows state reader seen here.layout holds.here.follows told.0 (Instance local x) next asked tt made given) (instance-same x next asked made) refl
        (round-more (known_at text outsides words state (Instance local x)) _ seen (meanings_of (instance_brings text (views text outsides words) words state.read x)) state.read.place.round reader.round outers (told-round state.read.known _ state.read.place.round told.1)
        (round-more state.read.known _ seen [] state.read.place.round reader.round outers told.1 holds.round))
        (λ some. given-stays text outsides words state (Instance local x) seen (brought some)) refl (λ m is. seen-right (meanings_of (instance_brings text (views text outsides words) words state.read x)) seen m is)
    unit-steps (Variables names) next asked made given brought end =
        plain-steps (Variables names) next (unit-follows state reader seen here.layout holds.here.follows told.0 (Variables names) next asked tt made given) (reader-same next made.0) refl
        (round-more state.read.known _ seen (map (meant text) (variables names)) state.read.place.round reader.round outers told.1 holds.round) (λ some. given-stays text outsides words state (Variables names) seen (λ m is. inl tt)) refl (λ m is. seen-right (map (meant text) (variables names)) seen m is)
    unit-steps (Constants declarations) next asked made given brought end =
        plain-steps (Constants declarations) next (unit-follows state reader seen here.layout holds.here.follows told.0 (Constants declarations) next asked tt made given) (reader-same next made.0) refl
        (round-more state.read.known _ seen (map (meant text) (constants declarations)) state.read.place.round reader.round outers told.1 holds.round) (λ some. given-stays text outsides words state (Constants declarations) seen (λ m is. inl tt)) refl (λ m is. seen-right (map (meant text) (constants declarations)) seen m is)
    unit-steps (Assumption word name x) next asked made given brought end =
        plain-steps (Assumption word name x) next (unit-follows state reader seen here.layout holds.here.follows told.0 (Assumption word name x) next asked tt made given) (reader-same next made.3) refl
        (round-more state.read.known _ seen [] state.read.place.round reader.round outers told.1 holds.round) (λ some. given-stays text outsides words state (Assumption word name x) seen (λ m is. inl tt)) refl (λ m is. is)
    unit-steps (Theorem word name x) next asked made given brought end =
        plain-steps (Theorem word name x) next (unit-follows state reader seen here.layout holds.here.follows told.0 (Theorem word name x) next asked tt made given) (reader-same next made.3) refl
        (round-more state.read.known _ seen [] state.read.place.round reader.round outers told.1 holds.round) (λ some. given-stays text outsides words state (Theorem word name x) seen (λ m is. inl tt)) refl (λ m is. is)
    unit-steps (Line dashes) next asked made given brought end =
        plain-steps (Line dashes) next (unit-follows state reader seen here.layout holds.here.follows told.0 (Line dashes) next asked tt made given) (reader-same next made.0) refl
        (round-more state.read.known _ seen [] state.read.place.round reader.round outers told.1 holds.round) (λ some. given-stays text outsides words state (Line dashes) seen (λ m is. inl tt)) refl (λ m is. is)
    unit-steps (ModuleBegin dashes name extends) next asked made given brought end =
        begun-steps dashes name extends next (given-stays text outsides words state (ModuleBegin dashes name extends) seen brought) given made.0
    unit-steps (ModuleEnd closing) next asked made given brought end = ended-steps closing next state.read.place.round reader.round outers refl holds.round holds.keeps holds.nested end made.0

  -- ---- modules that trees name

  module _ (state : KindState) (reader : Reader) (seen : List Meaning) {symbols : Meaning → Stand} {outers : List Current} (nested : HoldsNested flat state.modules reader.setting.frame reader.round reader.faces seen symbols outers) where
    -- new names of a tree were not seen
    pub new-unseen : (names : List Meaning) (m : Meaning) → AreNew seen names → is_seen names m ≡ true → not (is_seen seen m) ≡ true
    new-unseen names m new is = not_seen (is_seen seen m) refl
      where
        not_seen : (b : Bool) → is_seen seen m ≡ b → not b ≡ true
        not_seen true before = let never : false ≡ true = sym (ap not is) ∙ names-other seen names m new before in cc never
        not_seen false before = refl

    pub tree-named : (x : Tree) → IsTreeGivenBy flat text means implied files outsides words (IsFileAt flat text means implied files outsides words) state reader seen x → IsTreeGiven flat text means implied files outsides words state reader seen x
    tree-named x given =
        record {
          fresh = given.fresh;
          nameable = given.nameable;
          names = given.names;
          faces = λ name can.
              let new : Meaning → Bool = λ m. is_seen (map (meant text) (within x)) m in
              let asked = given.faces name can in
              named-face flat seen (symbol_leads reader.round reader.setting.frame) reader.setting.leads new files outsides name (module_meaning state.modules.here name) (module_meaning reader.faces.here name)
              (λ m is. new-unseen (map (meant text) (within x)) m given.fresh is)
              (λ one e. subst (λ (o : Option (Option FlatFace)). IsFileBy flat text means implied files outsides words state reader new name o) e asked)
              (known-both flat seen (symbol_leads reader.round reader.setting.frame) state.modules.here reader.faces.here name nested.here)
              (λ e. subst (λ (o : Option (Option FlatFace)). IsFaceBy flat new reader.setting.leads (face_under files o name) (named text outsides words state name)) e
              (subst (λ (o : Option (Option FlatFace)). IsFileBy flat text means implied files outsides words state reader new name o) e asked));
        }

    pub unit-named : (unit : UnitTree) (next : Reader) → IsUnitGivenBy flat text means implied files outsides words (IsFileAt flat text means implied files outsides words) state reader seen unit next → IsUnitGiven flat text means implied files outsides words state reader seen unit next
    unit-named (OperatorDefinition local x) next given = record { given = tree-named x given.given; readable = given.readable }
    unit-named (FunctionDefinition local x) next given = record { given = tree-named x given.given; readable = given.readable }
    unit-named (ModuleDefinition local x) next given = record { given = tree-named x given.given; readable = given.readable }
    unit-named (Instance local x) next given = record { given = tree-named x given.given; readable = given.readable; comes = given.comes }
    unit-named (Variables names) next given = given
    unit-named (Constants declarations) next given = given
    unit-named (Assumption word name x) next given = tt
    unit-named (Theorem word name x) next given = tt
    unit-named (Line dashes) next given = tt
    unit-named (ModuleBegin dashes name extends) next given = given
    unit-named (ModuleEnd closing) next given = tt

  -- what comes of a unit, where the modules that its trees name are what is known of them
  pub given-steps : (state : KindState) (reader : Reader) (seen : List Meaning) (here : Current) (outers : List Current) (unit : UnitTree) (next : Reader) (asked : List Question) → IsUnitMade flat text means implied files outsides words state reader unit next asked → IsBroughtGiven flat text means implied files outsides words state reader seen unit → IsEndGiven flat text means implied files outsides words unit state reader reader.round → IsUnitGivenBy flat text means implied files outsides words (IsFileAt flat text means implied files outsides words) state reader seen unit next → AllDefinitionsLead reader → Holds flat ordered text means implied files outsides words state reader seen here outers → Steps state reader seen here outers unit next
  given-steps state reader seen here outers unit next asked made brought end given further holds =
      unit-steps state reader seen here outers holds
      (here-told state.read.known state.read.place.here.context reader.setting seen here.layout holds.here.follows, all-told state.read.known seen state.read.place.round reader.round outers holds.round) further.0 unit next asked made
      (unit-named state reader seen holds.nested unit next given) brought end

  -- what comes of units, up to a module behind these, with no other round it
  pub record AreFollowed (state : KindState) (units : List UnitTree) (here : Current) (outers : List Current) (next : Reader) : Type 0 where
    pub comings : List Coming
    pub behind : Current
    pub seen : List Meaning
    pub read : AreRead text outsides words flat state units comings here outers behind
    pub follows : Follows (read_all text outsides words state units) next seen behind.layout

  none-round : (known : Known) (readings : List Reading) (settings : List Setting) (outers : List Current) (seen : List Meaning) (here : Current) (state : KindState) → settings ≡ [] → HoldsRound known readings settings outers seen → AreRead text outsides words flat state [] [] here outers here
  none-round known readings [] [] seen here state e holds = refl
  none-round known readings (setting ∷ settings) outers seen here state e holds = cc e
  none-round known [] [] (outer ∷ outers) seen here state e holds = absurd holds
  none-round known (reading ∷ readings) [] (outer ∷ outers) seen here state e holds = absurd holds

  pub units-follow : (units : List UnitTree) (state : KindState) (reader : Reader) (seen : List Meaning) (here : Current) (outers : List Current) (next : Reader) (asked : List Question) (made : AreUnitsMade flat text means implied files outsides words state reader units next asked) → AreUnitsGiven flat text means implied files outsides words state reader seen units next asked made → next.round ≡ [] → AllDefinitionsLead reader → Holds flat ordered text means implied files outsides words state reader seen here outers → AreFollowed state units here outers next
  units-follow [] state reader seen here outers next asked made given ends further holds =
      record {
        comings = [];
        behind = here;
        seen = seen;
        read = none-round state.read.known state.read.place.round reader.round outers seen here state (sym (ap (λ (r : Reader). r.round) made.0) ∙ ends) holds.round;
        follows = subst (λ (r : Reader). Follows state r seen here.layout) (sym made.0) holds.here.follows;
      }
  units-follow (unit ∷ units) state reader seen here outers next asked made given ends further holds =
      let one = given-steps state reader seen here outers unit made.0 made.1 made.3 given.0.0 given.0.1 given.1 further holds in
      let others =
      units-follow units (after text outsides words state unit) made.0 (seen_behind text outsides words state unit made.0 seen) (here_behind text outsides words state here outers unit one.coming) (round_behind text outsides words here outers one.coming) next made.2 made.4 given.2 ends
      (unit-further flat text means implied files outsides words state reader seen unit made.0 made.1 further given.1 made.3) one.holds in
      record {
        comings = one.coming ∷ others.comings;
        behind = others.behind;
        seen = others.seen;
        read = (one.read, others.read);
        follows = others.follows;
      }

-- ---- modules

unsaid-before : (m : Meaning) → StandsBefore 0 (unsaid_stand m)
unsaid-before BuiltIn = tt
unsaid-before (Declared (entity.Bound state) x) = tt
unsaid-before (Declared e x) = by_entity e
  where
    by_entity : (f : Entity) → StandsBefore 0 (unsaid_stand (Declared f x))
    by_entity (entity.Bound state) = tt
    by_entity f = tt

unseen-tail : (symbols : List Meaning) (m : Meaning) → is_seen (BuiltIn ∷ symbols) m ≡ false → is_seen symbols m ≡ false
unseen-tail symbols m none = by_same (same_meaning m BuiltIn) none
  where
    by_same : (b : Bool) → cond b true (is_seen symbols m) ≡ false → is_seen symbols m ≡ false
    by_same true e = cc e
    by_same false e = e

module _ (flat : FlatModule) (ordered : IsOrdered flat) (means : ℕ → Option Meaning) (implied : ℕ → List Meaning) (files : List ℕ → FlatFace) (outsides : List ℕ → Outside) (source : List ℕ) (units : ModuleUnits) (symbols : List Meaning) where
  -- the module behind what it extends, before its units
  pub record IsBegunWith (leads : Leads) : Type 0 where
    pub extensions : List Extension
    pub extended : IsExtended outsides source units flat (symbol-stands flat ordered means implied files outsides source units symbols) (length symbols) extensions
    pub holds :
        Holds flat ordered (text_of source units) means implied files outsides (words_of units) (first outsides source units) (first-reader flat ordered means implied files outsides source units symbols leads) (first_seen flat means implied files outsides source units symbols)
        (first_current outsides source units (symbol-stands flat ordered means implied files outsides source units symbols) (length symbols) extensions) []
    pub further : AllDefinitionsLead (first-reader flat ordered means implied files outsides source units symbols leads)

  pub module-begun : (final : Reader) (asked : List Question) (made : IsModuleMade flat means implied files outsides source units symbols final asked) → IsModuleGiven flat means implied files outsides source units symbols final asked made → IsBegunWith made.0
  module-begun final asked (leads, extended, made) given =
      let begun = begun-so flat ordered means implied files outsides source units symbols leads extended given.extended in
      let stands = symbol-stands flat ordered means implied files outsides source units symbols in
      let here = first_current outsides source units stands (length symbols) begun.extensions in
      let extended-here = begun.are here.layout refl in
      record {
        extensions = begun.extensions;
        extended = extended-here;
        holds = record {
          here = record {
            follows = first-follows flat ordered means implied files outsides source units symbols leads begun given.extended;
            leads = symbols-lead unsaid_stand _ symbols 0 none-leads;
            alike = symbols-alike unsaid_stand symbols 0 unsaid-alike;
            before = λ m. let e : 0 + length symbols ≡ length symbols = omega arith in subst (λ n. StandsBefore n (stands m)) e (places-before unsaid_stand symbols 0 m (unsaid-before m));
          };
          round = tt;
          keeps = module-begins flat outsides source units stands (length symbols) begun.extensions extended-here;
          nested = record {
            nest = tt;
            built = refl;
            unsaid = λ m none. let parts = unseen-parts (BuiltIn ∷ symbols) _ m none in symbols-unseen unsaid_stand symbols 0 m (unseen-tail symbols m parts.0);
            unsaid_round = tt;
            here = (refl, tt, tt);
            behind = tt;
          };
        };
        further = (
          extended-further flat (text_of source units) means implied files outsides (words_of units) (first_scope (text_of source units).file) (first_scope (text_of source units).file) (symbol_setting flat means implied files outsides source units symbols) (symbol_setting flat means implied files outsides source units symbols).leads units.extends leads (first-further symbols) extended,
          tt,
        );
      }

  pub module-meant : (final : Reader) (asked : List Question) (made : IsModuleMade flat means implied files outsides source units symbols final asked) → IsModuleGiven flat means implied files outsides source units symbols final asked made → IsBuiltSo flat outsides source units symbols final
  module-meant final asked made given =
      let begun = module-begun final asked made given in
      let here = first_current outsides source units (symbol-stands flat ordered means implied files outsides source units symbols) (length symbols) begun.extensions in
      let all =
      units-follow flat ordered (text_of source units) means implied files outsides (words_of units) units.units (first outsides source units) (first-reader flat ordered means implied files outsides source units symbols made.0) (first_seen flat means implied files outsides source units symbols) here [] final asked made.2 given.given given.ends
      begun.further begun.holds in
      record {
        extensions = begun.extensions;
        comings = all.comings;
        behind = all.behind;
        built = record { extended = begun.extended; read = all.read };
        seen = all.seen;
        follows = all.follows;
        leads = λ name names. exported-lead all.behind.layout.stands final.setting.leads (exports_of (last outsides source units).read.place.here.exports) name names all.follows.settings.leads;
      }

  pub module-means : (final : Reader) → IsBuiltSo flat outsides source units symbols final → IsMeantSo flat outsides source units symbols final
  module-means final built =
      record {
        inner = module_stands outsides source units built.behind.layout;
        kept = module-read flat outsides source units (symbol-stands flat ordered means implied files outsides source units symbols) (length symbols) built.extensions built.comings built.behind built.built;
        leads = built.leads;
      }
