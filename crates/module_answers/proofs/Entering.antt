-- How deep the names are in a nested module that begins, and behind one that ends.
use Rattle.std.proofs.Common.{◌≡◌, inl, inr, ℕ, suc, Bool, true, false, cond, List, [], ◌∷◌, ◌++◌, Option, Some, None, refl, sym, ap, ◌∙◌, subst, length}
use Rattle.std.specs.Prelude.{◌⊎◌}
use Rattle.std.specs.List.{AllByRecursion}
use Rattle.tla_symbols.specs.declared.lexeme.Lexeme.{Lexeme}
use Rattle.unit_grammar.specs.Units.{UnitTree, ModuleBegin, ModuleEnd}
use Rattle.tla_model.specs.Contexts.{Context, meaning_of}
use Rattle.tla_model.specs.Entities.{Meaning, Text}
use Rattle.tla_model.specs.EntityKinds.{is_meant, stands_for_parameter}
use Rattle.tla_model.specs.Lexemes.{spelled}
use Rattle.tla_model.specs.Tables.{Named}
use Rattle.module_scope.specs.Environments.{Scope, begun, ended}
use Rattle.module_model.specs.Exports.{behind_instance, behind_meaning, entry_of, exports_of, onward}
use Rattle.module_model.specs.Instances.{nested_view}
use Rattle.module_model.specs.Modules.{Reading, left, nested}
use Rattle.kind_text.specs.FlatModule.{FlatModule, IsOrdered}
use Rattle.tree_kinds.specs.Standing.{Outside}
use Rattle.tree_kinds.specs.TreeDepths.{Depths}
use Rattle.module_kinds.specs.ModuleKinds.{KindState, after, nested_outside}
use Rattle.flat_trees.specs.Stands.{Stand, Place}
use Rattle.flat_trees.specs.Layouts.{order_of}
use Rattle.flat_kinds.specs.Readings.{exported_stand, stand_in, with_own}
use Rattle.flat_kinds.specs.Symbols.{same_symbol, symbols_at}
use Rattle.flat_kinds.proofs.Distinct.{words-own}
use Rattle.flat_kinds.proofs.Symbols.{own-symbols}
use Rattle.flat_depths.specs.Depths.{HasDepths}
use Rattle.flat_depths.proofs.Units.{state-exported}
use Rattle.flattened_trees.specs.Agreeing.{TakesAs, TakesBehind, is_seen}
use Rattle.flattened_trees.specs.Leads.{FlatFace, Leads, Setting}
use Rattle.flattened_depths.specs.Rounds.{TakesParameters}
use Rattle.flattened_units.specs.Units.{AreExtended, IsBegun, IsEnded, Reader, nested_face, with_symbols}
use Rattle.module_meanings.specs.Faces.{IsPlaced}
use Rattle.module_meanings.specs.Following.{LeadsBy}
use Rattle.module_meanings.specs.Premises.{AreTold, IsBegunGiven, IsEndGiven, IsEndedGiven, extended_meanings, seen_behind, symbol_leads}
use Rattle.module_meanings.proofs.Beginning.{parameter-takes, symbols-unseen}
use Rattle.module_meanings.proofs.Contexts.{seen-left, seen-right, unseen-parts}
use Rattle.module_meanings.proofs.Extending.{extends-means}
use Rattle.module_meanings.proofs.Further.{DefinitionsLead}
use Rattle.module_meanings.proofs.Leads.{exported-lead}
use Rattle.module_meanings.proofs.NestedFaces.{brought-entry, further-takes}
use Rattle.module_meanings.proofs.Nesting.{own-at, own-lead, own-takes}
use Rattle.module_answers.specs.Deep.{IsBegunArranged}
use Rattle.module_answers.proofs.Depths.{Deep, usable-more}
use Rattle.module_answers.proofs.Extended.{ExtendedDeep, all-extended-deep}
use Rattle.module_answers.proofs.Nested.{AllNestedDeep, IsDeepFace, begun-deep, ended-deep, modules-lead}
use Rattle.module_answers.proofs.Staying.{AroundDeep, RoundDeep, given-deep, round-behind}

-- ---- symbols

-- symbols have no depths
abbrev pub AreDepthless : Depths → List Meaning → Type 0
AreDepthless depths symbols = AllByRecursion (λ (symbol : Meaning). (m : Meaning) → same_symbol m symbol ≡ true → depths m [] ≡ record { depth = 0; replaced = 0 }) symbols

-- what stands has depths, and instances on the way take what is said of them
abbrev pub IsDeepStand : FlatModule → Depths → Meaning → Stand → Type 0
IsDeepStand flat depths m stand = HasDepths flat 0 stand (depths m) × TakesParameters flat stand

-- so what stands with symbols at places has depths
pub symbols-deep : (flat : FlatModule) (depths : Depths) (base : Meaning → Stand) (symbols : List Meaning) (place : ℕ) (m : Meaning) → AreDepthless depths symbols → IsDeepStand flat depths m (base m) → IsDeepStand flat depths m (symbols_at base symbols place m)
symbols-deep flat depths base [] place m plain has = has
symbols-deep flat depths base (s ∷ rest) place m plain has = by_same (same_symbol m s) refl (symbols-deep flat depths base rest (suc place) m plain.1 has)
  where
    by_same : (b : Bool) → same_symbol m s ≡ b → IsDeepStand flat depths m (symbols_at base rest (suc place) m) → IsDeepStand flat depths m (cond b (Place place (order_of s)) (symbols_at base rest (suc place) m))
    by_same true same others = (plain.0 m same, tt)
    by_same false same others = others

-- instances on the way of what is exported take what is said of them
pub exported-few : (flat : FlatModule) (stands : Meaning → Stand) → ((m : Meaning) → TakesParameters flat (stands m)) → (found : Option Meaning) → TakesParameters flat (stand_in stands found)
exported-few flat stands few None = tt
exported-few flat stands few (Some m) = few m

module _ (flat : FlatModule) (ordered : IsOrdered flat) (text : Text) (means : ℕ → Option Meaning) (implied : ℕ → List Meaning) (files : List ℕ → FlatFace) (outsides : List ℕ → Outside) (words : List ℕ) where
  -- all that is known of depths at a unit: of the module that is read, of those round it, and of nested ones that can be named
  pub record AllDeep (state : KindState) (reader : Reader) (seen : List Meaning) : Type 0 where
    pub stands : Meaning → Stand
    pub others : List (Meaning → Stand)
    pub here : Deep flat text state.read.known state.read.place.here.context state.depths reader.setting seen stands
    pub around : AroundDeep flat text means implied files outsides words state reader seen others

  module _ (state : KindState) (reader : Reader) (seen : List Meaning) (all : AllDeep state reader seen) where
    abbrev context : Context
    context = state.read.place.here.context

    -- ---- a nested module begins

    module _ (told : AllByRecursion (λ (reading : Reading). AreTold state.read.known reading.context) (state.read.place.here ∷ state.read.place.round)) (dashes name : Lexeme) (extends : List Lexeme) (own : List Meaning) (given : IsBegunGiven flat text means implied files outsides words state reader own dashes name extends) (arranged : IsBegunArranged flat text means implied files outsides words state reader seen own dashes name extends) where
      abbrev unit : UnitTree
      unit = ModuleBegin dashes name extends

      abbrev then : KindState
      then = after text outsides words state unit

      abbrev modules : Scope Outside
      modules = begun state.modules (spelled text.source name)

      abbrev faces : Scope FlatFace
      faces = begun reader.faces (spelled text.source name)

      abbrev place : ℕ
      place = length reader.setting.frame

      -- the nested module before what it extends
      abbrev inner : Setting
      inner = record { leads = with_symbols reader.setting.leads own place; frame = reader.setting.frame ++ own; olds = [] }

      abbrev inner-symbols : Leads
      inner-symbols = with_symbols (symbol_leads reader.round reader.setting.frame) own place

      abbrev own-stands : Meaning → Stand
      own-stands = with_own all.stands (own-at own place)

      leads-own : LeadsBy own-stands inner.leads
      leads-own = own-lead all.stands reader.setting.leads own place place refl all.here.round.leads

      deep-own : (m : Meaning) → IsDeepStand flat state.depths m (own-stands m)
      deep-own m = subst (λ stand. IsDeepStand flat state.depths m stand) (sym (own-symbols all.stands own place m)) (symbols-deep flat state.depths all.stands own place m arranged.plain (all.here.round.deep m, all.here.round.parameters m))

      -- nested modules that can be named there
      nested-then : AllNestedDeep flat modules faces
      nested-then = begun-deep flat state.modules reader.faces (spelled text.source name) all.around.nested

      module _ (leads : Leads) (made : AreExtended flat text means implied files outsides words modules faces inner inner.leads extends leads) where
        extended-then : ExtendedDeep flat ordered text means implied files outsides words then.read.known then.read.place.here.context modules faces inner inner-symbols own-stands state.depths extends leads
        extended-then =
            all-extended-deep flat ordered text means implied files outsides words then.read.known then.read.place.here.context modules faces inner inner-symbols extends own-stands state.depths inner.leads leads leads-own (λ m. (deep-own m).0) (λ m. (deep-own m).1) given.extended.each
            (modules-lead flat text means implied files outsides words then.read.known modules faces extends nested-then.0 arranged.extended) made

        -- the names that were seen then
        abbrev names : List Meaning
        names = inner.frame ++ extended_meanings text outsides words modules extends

        abbrev within : Reader
        within = record { setting = record { leads = leads; frame = inner.frame; olds = [] }; round = reader.setting ∷ reader.round; faces = faces }

        by-other : (m : Meaning) → ((is_meant stands_for_parameter m ≡ true) × IsPlaced inner.leads m) ⊎ ((used : Named) × (meaning_of context used ≡ Some m)) → TakesAs (own-stands m) (behind_meaning then.read.known (Some m)) m
        by-other m (inl (symbol, placed)) = parameter-takes own-stands inner.leads (behind_meaning then.read.known (Some m)) m leads-own symbol placed
        by-other m (inr (used, there)) =
            own-takes all.stands own place (behind_meaning then.read.known (Some m)) m ((usable-more flat text state.read.known _ seen all.stands context told.0 all.here.usable).orders used m there)

        by-seen : (used : Named) (m : Meaning) → (meaning_of context used ≡ Some m) ⊎ (is_seen (extended_meanings text outsides words modules extends) m ≡ true) → is_seen (names ++ seen) m ≡ true
        by-seen used m (inl before) = seen-right names seen m (all.here.usable.usable used m before)
        by-seen used m (inr one) = seen-left names seen m (seen-right inner.frame (extended_meanings text outsides words modules extends) m one)

        within-deep : Deep flat text then.read.known then.read.place.here.context then.depths within.setting (names ++ seen) extended-then.final
        within-deep =
            record {
              round = record {
                leads = extended-then.leads;
                unsaid = λ m none.
                    let parts = unseen-parts names seen m none in
                    let more = unseen-parts inner.frame (extended_meanings text outsides words modules extends) m parts.0 in
                    let both = unseen-parts reader.setting.frame own m more.0 in
                    extended-then.unsaid m more.1 ∙ own-symbols all.stands own place m ∙ symbols-unseen all.stands own place m both.1 ∙ all.here.round.unsaid m parts.1;
                plain = λ m none.
                    let parts = unseen-parts names seen m none in
                    let more = unseen-parts inner.frame (extended_meanings text outsides words modules extends) m parts.0 in
                    extended-then.plain m more.1 ∙ all.here.round.plain m parts.1;
                deep = extended-then.deep;
                parameters = extended-then.parameters;
              };
              usable = record {
                orders = λ used m e. extended-then.takes used m e (λ none. by-other m (given.extended.others used m e none));
                usable = λ used m e. by-seen used m (extends-means text outsides words modules extends (nested text state.read.place.here name) used m given.same e);
              };
            }

        within-all : AllDeep then within (names ++ seen)
        within-all =
            record {
              stands = extended-then.final;
              others = all.stands ∷ all.others;
              here = within-deep;
              around = record {
                round = round-behind flat text state.read.known _ (state.read.place.here ∷ state.read.place.round) (reader.setting ∷ reader.round) state.depths then.depths seen names (all.stands ∷ all.others) told
                    (λ some. given-deep text outsides words state unit seen arranged.stay) within-deep.round.plain (all.here, all.around.round);
                nested = nested-then;
              };
            }

    -- all is known in it
    pub begun-all : (told : AllByRecursion (λ (reading : Reading). AreTold state.read.known reading.context) (state.read.place.here ∷ state.read.place.round)) (dashes name : Lexeme) (extends : List Lexeme) (next : Reader) → ((own : List Meaning) → next.setting.frame ≡ reader.setting.frame ++ own → IsBegunGiven flat text means implied files outsides words state reader own dashes name extends) → ((own : List Meaning) → next.setting.frame ≡ reader.setting.frame ++ own → IsBegunArranged flat text means implied files outsides words state reader seen own dashes name extends) → IsBegun flat text means implied files outsides words state reader name extends next → AllDeep (after text outsides words state (ModuleBegin dashes name extends)) next (seen_behind text outsides words state (ModuleBegin dashes name extends) next seen)
    begun-all told dashes name extends next given arranged (own, leads, (made, is)) =
        let same = ap (λ (r : Reader). r.setting.frame) is in
        subst (λ (r : Reader). AllDeep (after text outsides words state (ModuleBegin dashes name extends)) r (seen_behind text outsides words state (ModuleBegin dashes name extends) r seen)) (sym is)
        (within-all told dashes name extends own (given own same) (arranged own same) leads made)

    -- ---- a nested module ends

    -- what it exports takes there what it takes
    ended-takes : (reading : Reading) (readings : List Reading) (setting : Setting) (settings : List Setting) → IsEndedGiven flat text means implied files outsides words state reader setting settings → DefinitionsLead reader.setting.leads → (name : Named) (m : Meaning) → entry_of (behind_instance (nested_outside state (reading ∷ readings)).view []) name ≡ Some m → TakesBehind (exported_stand all.stands (exports_of state.read.place.here.exports) name) (onward (behind_instance (nested_outside state (reading ∷ readings)).view) name) m
    ended-takes reading readings setting settings given further name m found =
        let entry = brought-entry (exports_of state.read.place.here.exports) name m (words-own state.read.place.here.exports.words state.read.place.here.exports.symbols given.once.0 given.once.1) found in
        let usable = given.usable name m entry.0 entry.1 in
        let takes = further-takes (all.stands m) (behind_meaning state.read.known (Some m)) m (reader.setting.leads m []) (all.here.round.leads m []) (further m entry.1) (all.here.usable.orders name m usable) in
        subst (λ (o : Option Meaning). TakesBehind (stand_in all.stands o) (λ path. behind_meaning state.read.known o path) m) (sym entry.0) takes

    -- its names lead where they stand, as deep as outside of it
    ended-face : (reading : Reading) (readings : List Reading) (setting : Setting) (settings : List Setting) → IsEndedGiven flat text means implied files outsides words state reader setting settings → DefinitionsLead reader.setting.leads → IsDeepFace flat (nested_face flat text means implied files outsides words state reading reader.setting setting) (nested_outside state (reading ∷ readings))
    ended-face reading readings setting settings given further =
        record {
          inner = exported_stand all.stands (exports_of state.read.place.here.exports);
          leads = λ name names. exported-lead all.stands reader.setting.leads (exports_of state.read.place.here.exports) name names all.here.round.leads;
          deep = state-exported flat all.stands state (nested_view state.read.known reading.context (exports_of state.read.place.here.exports)) false all.here.round.deep;
          parameters = λ name. exported-few flat all.stands all.here.round.parameters (entry_of (exports_of state.read.place.here.exports) name);
          takes = ended-takes reading readings setting settings given further;
        }

    -- all is known behind it
    pub ended-all : (closing : Lexeme) (next : Reader) (readings : List Reading) (settings : List Setting) (others : List (Meaning → Stand)) → state.read.place.round ≡ readings → RoundDeep flat text state.read.known readings settings state.depths seen others → IsEndGiven flat text means implied files outsides words (ModuleEnd closing) state reader settings → DefinitionsLead reader.setting.leads → IsEnded flat text means implied files outsides words state readings reader settings next → AllDeep (after text outsides words state (ModuleEnd closing)) next seen
    ended-all closing next [] settings others e round given further made = absurd made
    ended-all closing next (reading ∷ readings) [] others e round given further made = absurd made
    ended-all closing next (reading ∷ readings) (setting ∷ settings) [] e round given further made = absurd round
    ended-all closing next (reading ∷ readings) (setting ∷ settings) (stands ∷ others) e round given further (symbols, is) =
        let known = state.read.known in
        let face = ended-face reading readings setting settings given further in
        let outer = ap (λ (rs : List Reading). (left known state.read.place.here rs).here.context) e in
        let rest = ap (λ (rs : List Reading). (left known state.read.place.here rs).round) e in
        record {
          stands = stands;
          others = others;
          here = subst (λ (r : Reader). Deep flat text known (left known state.read.place.here state.read.place.round).here.context state.depths r.setting seen stands) (sym is)
              (subst (λ (c : Context). Deep flat text known c state.depths setting seen stands) (sym outer) round.0);
          around = record {
            round = subst (λ (r : Reader). RoundDeep flat text known (left known state.read.place.here state.read.place.round).round r.round state.depths seen others) (sym is)
                (subst (λ (rs : List Reading). RoundDeep flat text known rs settings state.depths seen others) (sym rest) round.1);
            nested = subst (λ (r : Reader). AllNestedDeep flat (ended (nested_outside state state.read.place.round) state.modules.here state.modules.round) r.faces) (sym is)
                (subst (λ (rs : List Reading). AllNestedDeep flat (ended (nested_outside state rs) state.modules.here state.modules.round) (ended (nested_face flat text means implied files outsides words state reading reader.setting setting) reader.faces.here reader.faces.round)) (sym e)
                (ended-deep flat state.modules reader.faces (nested_outside state (reading ∷ readings)) (nested_face flat text means implied files outsides words state reading reader.setting setting) all.around.nested face));
          };
        }
