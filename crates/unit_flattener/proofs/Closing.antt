-- Behind a module: it is made, and what it is to its instances has a number.
use Rattle.std.proofs.Common.{◌≡◌, ℕ, ◌<◌, Bool, List, [], ◌∷◌, Option, reverse, refl, sym, ap, subst, ◌∙◌, arith}
use Rattle.std.proofs.lemmas.List.{append-nil}
use Rattle.unit_grammar.specs.Units.{ModuleUnits}
use Rattle.tla_model.specs.Entities.{Meaning}
use Rattle.tla_model.specs.Tables.{Table}
use Rattle.module_model.specs.Exports.{Exports, exports_of, files_of}
use Rattle.module_model.specs.Imports.{Imports}
use Rattle.module_model.specs.Modules.{text_of}
use Rattle.module_model.specs.Resolution.{ReadState, words_of, last as last_read}
use Rattle.kind_text.specs.FlatModule.{Extends, FlatModule}
use Rattle.tree_kinds.specs.Standing.{Outside}
use Rattle.module_kinds.specs.ModuleKinds.{KindState, first as first_state}
use Rattle.flat_kinds.proofs.Declarations.{read-same}
use Rattle.flattened_trees.specs.Leads.{FlatFace, Leads, Setting}
use Rattle.flattened_units.specs.Units.{AreExtended, AreUnitsMade, IsModuleMade, Reader, meanings_of, no_leads}
use Rattle.tree_flattener.specs.Steps.{Steps}
use Rattle.tree_flattener.specs.Worlds.{implied_of, means_of}
use Rattle.tree_flattener.specs.declared.state.Flattening.{Flattening}
use Rattle.tree_flattener.specs.declared.written.Written.{Written}
use Rattle.tree_flattener.proofs.Stepping.{extends-on, steps-on}
use Rattle.module_leads.specs.Leading.{IsSound, Leading, face_over, leading_in, left, left_by, with_face}
use Rattle.module_leads.specs.There.{AllLeadWithin}
use Rattle.module_leads.proofs.Led.{faced-there, left-there}
use Rattle.unit_flattener.specs.Modules.{BeginsAreEnded, IsBetween, IsModuleWalked}
use Rattle.unit_flattener.specs.Numbers.{KeepsFaces, file_faces}
use Rattle.unit_flattener.specs.Walked.{AreBrought, AreUnitsWalked, ExtendsAll, WalksAll, leading_with}
use Rattle.unit_flattener.specs.Walking.{AreSettingsOf, IsBefore, IsWalking, Walk, over_in, state_at}
use Rattle.unit_flattener.specs.declared.flattener.UnitFlattener.{UnitFlattener}
use Rattle.unit_flattener.specs.declared.modules.Tables.{Tables}
use Rattle.unit_flattener.proofs.Entering.{frames-added}
use Rattle.unit_flattener.proofs.Naming.{face-there, keeps-faces-on, one-more-face}
use Rattle.unit_flattener.proofs.Opening.{IsOpened, first_reader, known_files, walk_over, walks-first}

-- where no module is round a place, no name was in scope round it
round-none : (frames : List (List Meaning)) (numbers : List ℕ) (round : List Leads) (settings : List Setting) → AreSettingsOf frames numbers round [] settings → round ≡ no_leads ∷ []
round-none frames [] (leads ∷ []) [] are = λ i. are i ∷ []
round-none frames [] [] settings are = absurd are
round-none frames [] (leads ∷ more ∷ round) settings are = absurd are
round-none frames [] (leads ∷ []) (setting ∷ settings) are = absurd are
round-none frames (number ∷ numbers) [] settings are = absurd are
round-none frames (number ∷ numbers) (leads ∷ round) settings are = absurd are

module _ (written : Written) (imports : Imports) (source : List ℕ) (units : ModuleUnits) (tables made : Tables) (numbers : List ℕ → Option ℕ) (outsides : List ℕ → Outside) (symbols : Exports) (constant : Bool) (face : ℕ)
    (first extended last : UnitFlattener)
    (views : (λ name. (outsides name).view) ≡ files_of imports) (closed : BeginsAreEnded imports source units)
    (opened : IsOpened written.text.now imports source units tables numbers (meanings_of symbols) first)
    (brought : AreBrought written (walk_over imports source units tables numbers outsides) [] units.extends units.units first extended (first_reader written.text.now.file (meanings_of symbols)))
    (walked : AreUnitsWalked written (walk_over imports source units tables numbers outsides) [] units.units [] extended last (leading_with (first_reader written.text.now.file (meanings_of symbols)) brought.leads))
    (state-is : made.state ≡ last.state) (number : face ≡ (leading_in last.leads).count) (sound : IsSound made.leads) where
  abbrev walk : Walk
  walk = walk_over imports source units tables numbers outsides

  abbrev behind : KindState
  behind = state_at walk units.units

  abbrev led : Leading
  led = leading_in last.leads

  abbrev new_face : FlatFace
  new_face = face_over symbols 0 constant (exports_of behind.read.place.here.exports) led.leads

  abbrev faced : Leading
  faced = with_face led new_face

  -- what is known behind it
  module _ (known : leading_in made.leads ≡ left faced) where
    round-is : led.round ≡ no_leads ∷ []
    round-is =
        round-none last.state.frames.items (reverse last.round.items) led.round walked.next.round
        (subst (λ readings. AreSettingsOf last.state.frames.items (reverse last.round.items) led.round readings walked.next.round) (ap (λ read. read.place.round) (read-same (text_of source units) outsides (words_of units) (first_state outsides source units) units.units) ∙ (λ i. (last_read (views i) source units).place.round) ∙ closed) walked.at.round)

    abbrev gone : Leading
    gone = record { count = faced.count; faces = faced.faces; leads = no_leads; round = [] }

    gone-is : leading_in made.leads ≡ gone
    gone-is = known ∙ ap (left_by faced) round-is

    keeps : KeepsFaces (leading_in tables.leads) faced
    keeps = keeps-faces-on (leading_in tables.leads) led faced walked.at.earlier (one-more-face led new_face)

    between-made : IsBetween made
    between-made =
        record {
          leads = ap (λ known. known.leads) gone-is;
          round = ap (λ known. known.round) gone-is;
          sound = sound;
          within = subst (λ s. AllLeadWithin s.flat (leading_in made.leads)) (sym state-is)
              (subst (AllLeadWithin last.state.flat) (sym known)
              (left-there last.state.flat faced (faced-there last.state.flat led symbols 0 constant (exports_of behind.read.place.here.exports) walked.at.within)));
          locals = ap (λ (s : Flattening). s.locals.items) state-is ∙ walked.at.locals;
        }

    steps-made : Steps tables.state made.state walked.asked
    steps-made =
        subst (λ s. Steps tables.state s walked.asked) (sym state-is)
        (steps-on tables.state first.state last.state [] walked.asked (frames-added tables.state first.state (meanings_of symbols) first.frame opened.begun.state)
        (steps-on first.state extended.state last.state [] walked.asked brought.steps walked.steps))

    holds-made : (more : FlatModule) → Extends made.state.flat more
        → IsModuleMade more (means_of written) (implied_of written) walk.files outsides source units (meanings_of symbols) walked.next walked.asked
    holds-made more grows =
        let behind-last : Extends last.state.flat more = subst (λ s. Extends s.flat more) state-is grows in
        let behind-extended : Extends extended.state.flat more = extends-on extended.state.flat last.state.flat more walked.steps.extends behind-last in (
          brought.leads,
          subst (λ text. AreExtended more text (means_of written) (implied_of written) walk.files outsides (over_in walk).words (state_at walk []).modules (first_reader text.file (meanings_of symbols)).faces
              (first_reader text.file (meanings_of symbols)).setting (first_reader text.file (meanings_of symbols)).setting.leads units.extends brought.leads) opened.text_is (brought.holds more behind-extended),
          subst (λ text. AreUnitsMade more text (means_of written) (implied_of written) walk.files outsides (over_in walk).words (state_at walk []) (leading_with (first_reader text.file (meanings_of symbols)) brought.leads)
              units.units walked.next walked.asked) opened.text_is (walked.holds more behind-last),
        )

    -- the module is made
    pub module-walked : IsModuleWalked written source units walk.files outsides tables made symbols constant face
    module-walked =
        record {
          last = walked.next;
          asked = walked.asked;
          between = between-made;
          steps = steps-made;
          more_faces = subst (λ known. (leading_in tables.leads).count < known.count) (sym gone-is) (let e = walked.at.earlier.count in omega (arith, e));
          faces = λ other there. ap (λ known. known.faces other) gone-is ∙ keeps.faces other there;
          there = subst (λ known. face < known.count) (sym gone-is) (omega (arith, number));
          is = ap (λ known. known.faces face) gone-is ∙ ap faced.faces number ∙ face-there led new_face
              ∙ (λ i. face_over symbols 0 constant (exports_of behind.read.place.here.exports) ((sym walked.at.setting.lead) i));
          holds = holds-made;
        }

-- ---- by what code does

module _ (written : Written) (imports : Imports) (source : List ℕ) (units : ModuleUnits) (tables : Tables) (numbers : List ℕ → Option ℕ) (symbols : Exports) (first extended : UnitFlattener)
    (opened : IsOpened written.text.now imports source units tables numbers (meanings_of symbols) first) (extends : ExtendsAll written units.extends first extended) where
  abbrev began : Reader
  began = first_reader written.text.now.file (meanings_of symbols)

  brought-over : (outsides : List ℕ → Outside) → (λ name. (outsides name).view) ≡ files_of imports → AreBrought written (walk_over imports source units tables numbers outsides) [] units.extends units.units first extended began
  brought-over outsides views =
      extends (walk_over imports source units tables numbers outsides) [] units.units began (walks-first written.text.now imports source units tables numbers (meanings_of symbols) first opened outsides views)

  -- code walks before the first unit, behind what is extended
  pub before-units : IsBefore written.text.now units.units extended
  before-units =
      let brought = brought-over (known_files imports) refl in
      record { walk = walk_over imports source units tables numbers (known_files imports); before = []; reader = leading_with began brought.leads; at = brought.at }

  module _ (last : UnitFlattener) (walks : WalksAll written units.units extended last) where
    walked-over : (outsides : List ℕ → Outside) (views : (λ name. (outsides name).view) ≡ files_of imports)
        → AreUnitsWalked written (walk_over imports source units tables numbers outsides) [] units.units [] extended last (leading_with began (brought-over outsides views).leads)
    walked-over outsides views =
        let walk : Walk = walk_over imports source units tables numbers outsides in
        let reader : Reader = leading_with began (brought-over outsides views).leads in
        walks walk [] [] reader (subst (λ us. IsWalking written.text.now walk [] us extended reader) (sym (append-nil units.units)) (brought-over outsides views).at)

    -- what the module exports behind them
    exports-read : (outsides : List ℕ → Outside) (views : (λ name. (outsides name).view) ≡ files_of imports)
        → (state_at (walk_over imports source units tables numbers outsides) units.units).read.place.here.exports ≡ (last_read (files_of imports) source units).place.here.exports
    exports-read outsides views =
        ap (λ (read : ReadState). read.place.here.exports) (read-same (text_of source units) outsides (words_of units) (first_state outsides source units) units.units)
        ∙ (λ i. (last_read (views i) source units).place.here.exports)

    -- what is known behind them is sound
    pub last-sound : IsSound last.leads
    last-sound = (walked-over (known_files imports) refl).at.sound

    -- the module is walked
    pub module-walks : (made : Tables) (constant : Bool) (face : ℕ) → BeginsAreEnded imports source units
        → made.state ≡ last.state → face ≡ (leading_in last.leads).count → IsSound made.leads
        → leading_in made.leads
        ≡ left (with_face (leading_in last.leads) (face_over symbols 0 constant (exports_of (last_read (files_of imports) source units).place.here.exports) (leading_in last.leads).leads))
        → (outsides : List ℕ → Outside) → (λ name. (outsides name).view) ≡ files_of imports
        → IsModuleWalked written source units (file_faces (leading_in tables.leads).faces numbers) outsides tables made symbols constant face
    module-walks made constant face closed state-is number sound known outsides views =
        let walked = walked-over outsides views in
        module-walked written imports source units tables made numbers outsides symbols constant face first extended last views closed opened (brought-over outsides views) walked state-is number sound
        (known ∙ ap (λ (table : Table Meaning). left (with_face (leading_in last.leads) (face_over symbols 0 constant (exports_of table) (leading_in last.leads).leads))) (sym (exports-read outsides views)))
