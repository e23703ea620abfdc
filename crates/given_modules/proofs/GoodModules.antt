-- A module that is given is good to modules that name it, and stays so.
use Rattle.std.proofs.Common.{◌≡◌, ℕ, Bool, false, List, [], ◌∷◌, Option, Some, refl, sym, subst, length}
use Rattle.std.specs.List.{AllByRecursion}
use Rattle.list_laws.proofs.Lists.{all-weaker}
use Rattle.unit_grammar.specs.Units.{ModuleUnits, UnitTree}
use Rattle.tla_model.specs.declared.names.Meaning.TheVariants.{BuiltIn}
use Rattle.tla_model.specs.Contexts.{Context, meaning_of}
use Rattle.tla_model.specs.Entities.{Meaning, Text}
use Rattle.tla_model.specs.Tables.{Named}
use Rattle.module_scope.specs.Environments.{first as first_scope}
use Rattle.module_model.specs.Exports.{ModuleView, behind_instance, behind_meaning, entries_from, entry_of, exports_of, onward, parameters_in}
use Rattle.module_model.specs.Modules.{text_of}
use Rattle.module_model.specs.Resolution.{ReadState, words_of}
use Rattle.kind_text.specs.FlatModule.{Extends, FlatModule, IsOrdered, UsesInstance}
use Rattle.tree_kinds.specs.Standing.{Outside}
use Rattle.module_kinds.specs.ModuleKinds.{KindState, after, first, last, outside}
use Rattle.flat_trees.specs.Stands.{Stand, Unsaid, Defined, Brought}
use Rattle.flat_trees.specs.Instances.{symbols_of}
use Rattle.flat_trees.proofs.Growing.{within-kept}
use Rattle.flat_kinds.specs.Declarations.{Declarations, IsOnce}
use Rattle.flat_kinds.specs.Modules.{module_stands}
use Rattle.flat_kinds.specs.Readings.{stand_in}
use Rattle.flat_kinds.specs.Symbols.{AreDistinct, symbols_at}
use Rattle.flat_kinds.proofs.Declarations.{read-same}
use Rattle.flat_kinds.proofs.Modules.{module-read}
use Rattle.flattened_trees.specs.declared.End.TheVariants as end
use Rattle.flattened_trees.specs.Agreeing.{TakesBehind, unsaid_stand}
use Rattle.flattened_trees.specs.Leads.{FlatFace, Lead, Leads, Setting}
use Rattle.flattened_trees.specs.Questions.{Question}
use Rattle.flattened_trees.specs.Within.{IsEndWithin, IsLeadWithin}
use Rattle.flattened_units.specs.Units.{AreUnitsMade, IsModuleMade, Reader, symbol_setting}
use Rattle.module_meanings.specs.Faces.{IsExtendedBy, IsFaceBy, IsFaceWithin, IsPlaced, IsReaderWithin, LeavesLead}
use Rattle.module_meanings.specs.Following.{IsBuiltSo, IsMeantSo}
use Rattle.module_meanings.specs.Premises.{AreUnitsGiven, IsFileAt, IsModuleGiven, seen_behind, symbol_leads}
use Rattle.module_meanings.proofs.Further.{AllDefinitionsLead, extended-further, first-further, unit-further}
use Rattle.module_meanings.proofs.Growing.{extended-grows, face-grows}
use Rattle.module_meanings.proofs.Instancing.{meant-instanced, table-own}
use Rattle.module_meanings.proofs.Meant.{meant-extended}
use Rattle.module_meanings.proofs.Modules.{module-meant}
use Rattle.module_meanings.proofs.NestedFaces.{brought-entry, further-takes}
use Rattle.module_meanings.proofs.Within.{extended-within, first-within, unit-within}
use Rattle.accepted_modules.specs.Behind.{Behinds}
use Rattle.given_modules.specs.Good.{IsGoodFile, face_of}

-- ---- along units

module _ (flat : FlatModule) (text : Text) (means : ℕ → Option Meaning) (implied : ℕ → List Meaning) (files : List ℕ → FlatFace) (outsides : List ℕ → Outside) (words : List ℕ) where
  -- definitions lead further than symbols, behind all units
  units-further : (units : List UnitTree) (state : KindState) (reader : Reader) (seen : List Meaning) (next : Reader) (asked : List Question) (made : AreUnitsMade flat text means implied files outsides words state reader units next asked) → AreUnitsGiven flat text means implied files outsides words state reader seen units next asked made
      → AllDefinitionsLead reader → AllDefinitionsLead next
  units-further [] state reader seen next asked made given all = subst AllDefinitionsLead (sym made.0) all
  units-further (unit ∷ units) state reader seen next asked made given all =
      units-further units (after text outsides words state unit) made.0 (seen_behind text outsides words state unit made.0 seen) next made.2 made.4 given.2
      (unit-further flat text means implied files outsides words state reader seen unit made.0 made.1 all given.1 made.3)

  -- names lead to what is there, behind all units
  units-within : ((title : List ℕ) → IsFaceWithin flat (files title)) → (units : List UnitTree) (state : KindState) (reader : Reader) (seen : List Meaning) (next : Reader) (asked : List Question) (made : AreUnitsMade flat text means implied files outsides words state reader units next asked)
      → AreUnitsGiven flat text means implied files outsides words state reader seen units next asked made → IsReaderWithin flat reader → IsReaderWithin flat next
  units-within there [] state reader seen next asked made given all = subst (IsReaderWithin flat) (sym made.0) all
  units-within there (unit ∷ units) state reader seen next asked made given all =
      units-within there units (after text outsides words state unit) made.0 (seen_behind text outsides words state unit made.0 seen) next made.2 made.4 given.2
      (unit-within flat text means implied files outsides words there (IsFileAt flat text means implied files outsides words) state reader seen unit made.0 made.1 all given.1 made.3)

-- ---- modules

-- what a module is to others, by what is read of it
abbrev view_by : ReadState → ModuleView
view_by state = record { entries = entries_from state.known (exports_of state.place.here.exports); parameters = parameters_in (exports_of state.place.here.exports) }

module _ (flat : FlatModule) (ordered : IsOrdered flat) (means : ℕ → Option Meaning) (implied : ℕ → List Meaning) (files : List ℕ → FlatFace) (outsides : List ℕ → Outside) (source : List ℕ) (units : ModuleUnits) (symbols : List Meaning) (final : Reader) (asked : List Question)
    (made : IsModuleMade flat means implied files outsides source units symbols final asked) (given : IsModuleGiven flat means implied files outsides source units symbols final asked made) where
  abbrev text : Text
  text = text_of source units

  abbrev words : List ℕ
  words = words_of units

  pub final-within : ((title : List ℕ) → IsFaceWithin flat (files title)) → IsReaderWithin flat final
  final-within there =
      units-within flat text means implied files outsides words there units.units (first outsides source units) _ _ final asked made.2 given.given
      (record {
        leads =
            extended-within flat text means implied files outsides words there (first_scope text.file) (first_scope text.file) (symbol_setting flat means implied files outsides source units symbols)
            (symbol_setting flat means implied files outsides source units symbols).leads units.extends made.0 (tt, tt) (first-within flat symbols) made.1;
        round = tt;
        faces = (tt, tt);
        behind = tt;
      })

  final-further : AllDefinitionsLead final
  final-further =
      units-further flat text means implied files outsides words units.units (first outsides source units) _ _ final asked made.2 given.given (
        extended-further flat text means implied files outsides words (first_scope text.file) (first_scope text.file) (symbol_setting flat means implied files outsides source units symbols)
            (symbol_setting flat means implied files outsides source units symbols).leads units.extends made.0 (first-further symbols) made.1,
        tt,
      )

  module _ (once : IsOnce (last outsides source units).read.place.here.exports)
      (usable : (name : Named) (m : Meaning) → entry_of (exports_of (last outsides source units).read.place.here.exports) name ≡ Some m → meaning_of (last outsides source units).read.place.here.context name ≡ Some m) where
    built : IsBuiltSo flat outsides source units symbols final
    built = module-meant flat ordered means implied files outsides source units symbols final asked made given

    -- what the module exports stands so outside of it
    abbrev inner : Named → Stand
    inner = module_stands outsides source units built.behind.layout

    takes-read : (name : Named) (m : Meaning) → entry_of (behind_instance (view_by (last outsides source units).read) []) name ≡ Some m
        → TakesBehind (inner name) (onward (behind_instance (view_by (last outsides source units).read)) name) m
    takes-read name m found =
        let state : ReadState = (last outsides source units).read in
        let follows = built.follows in
        let entry = brought-entry (exports_of state.place.here.exports) name m (table-own state once) found in
        let takes =
        further-takes (built.behind.layout.stands m) (behind_meaning state.known (Some m)) m (final.setting.leads m []) (follows.settings.leads m []) (final-further.0 m entry.1)
        (follows.orders name m (subst (λ (context : Context). meaning_of context name ≡ Some m) follows.context (usable name m entry.0))) in
        subst (λ (o : Option Meaning). TakesBehind (stand_in built.behind.layout.stands o) (λ path. behind_meaning state.known o path) m) (sym entry.0) takes

    takes : (name : Named) (m : Meaning) → entry_of (behind_instance (outside outsides source units).view []) name ≡ Some m → TakesBehind (inner name) (onward (behind_instance (outside outsides source units).view) name) m
    takes name m =
        subst (λ (state : ReadState). entry_of (behind_instance (view_by state) []) name ≡ Some m → TakesBehind (inner name) (onward (behind_instance (view_by state)) name) m)
        (read-same text outsides words (first outsides source units) units.units) (takes-read name m)

    meant : IsMeantSo flat outsides source units symbols final
    meant = record {
      inner = module_stands outsides source units built.behind.layout;
      kept = module-read flat outsides source units (symbols_at unsaid_stand symbols 0) (length symbols) built.extensions built.comings built.behind built.built;
      leads = built.leads;
    }

    takes-meant : (name : Named) (m : Meaning) → entry_of (behind_instance (outside outsides source units).view []) name ≡ Some m → TakesBehind (meant.inner name) (onward (behind_instance (outside outsides source units).view) name) m
    unfolding meant
    takes-meant name m found = takes name m found

    pub module-named : symbols ≡ symbols_of (outside outsides source units) → AreDistinct symbols → (new : Meaning → Bool) (leads : Leads) → LeavesLead leads → new BuiltIn ≡ false
        → IsFaceBy flat new leads (face_of outsides source units final) (outside outsides source units)
    module-named same distinct new leads leaves old =
        meant-instanced flat outsides source units symbols final (face_of outsides source units final) leads new meant same refl distinct once (λ name names. refl) takes-meant leaves old

    pub module-extended : symbols ≡ symbols_of (outside outsides source units) → (leads : Leads) (round : List Setting) (frame : List Meaning)
        → AllByRecursion (λ m. IsPlaced (symbol_leads round frame) m × (leads m [] ≡ symbol_leads round frame m [])) (symbols_of (outside outsides source units)) → IsExtendedBy flat leads (symbol_leads round frame) (face_of outsides source units final) (outside outsides source units)
    module-extended same leads round frame placed =
        meant-extended flat outsides source units symbols final (face_of outsides source units final) leads round frame meant same refl refl (λ name names. refl) takes-meant
        (subst (AllByRecursion (λ m. IsPlaced (symbol_leads round frame) m × (leads m [] ≡ symbol_leads round frame m []))) (sym same) placed)

-- ---- in a flat module that has more

module _ (flat more : FlatModule) (extends : Extends flat more) (ordered : IsOrdered flat) where
  end-kept : (e : end.the_data) → IsEndWithin flat e → IsEndWithin more e
  end-kept (end.Definition d) is = within-kept flat more extends (Defined d []) is
  end-kept end.Nowhere is = tt
  end-kept (end.Leaf kind) is = tt
  end-kept (end.Place place order) is = tt

  lead-kept : (lead : Lead) → IsLeadWithin flat lead → IsLeadWithin more lead
  lead-kept lead is = record {
    path = all-weaker (UsesInstance flat (length flat.nodes)) (UsesInstance more (length more.nodes)) (λ j uses. let kept = within-kept flat more extends (Brought j Unsaid) (uses, tt) in kept.0) lead.path is.path;
    end = end-kept lead.end is.end;
  }

  -- a file stays good
  pub file-grows : (declares : Declarations) (behinds : Behinds) (face : FlatFace) (outside : Outside) → IsGoodFile flat declares behinds face outside → IsGoodFile more declares behinds face outside
  file-grows declares behinds face outside is = record {
    comes = is.comes;
    given = is.given;
    reads = is.reads;
    there = λ name names. lead-kept (face.leads (name ∷ names)) (is.there name names);
    named = λ new leads leaves old. face-grows flat more extends ordered new leads face outside (λ name names. is.there name names) (is.named new leads leaves old);
    extended = λ leads round frame placed. extended-grows flat more extends ordered leads (symbol_leads round frame) face outside (λ name names. is.there name names) (is.extended leads round frame placed);
  }
