-- Walking on behind a nested module that ends.
use Rattle.std.proofs.Common.{◌≡◌, ℕ, suc, ◌<◌, List, [], ◌∷◌, ◌++◌, Some, drop, length, reverse, refl, sym, ap, subst, ◌∙◌, arith}
use Rattle.indexmap.specs.IndexMap.{get_by_text}
use Rattle.std.specs.Prelude.{IfSome, Option, None, false}
use Rattle.std.specs.List.{AllByRecursion}
use Rattle.std.proofs.lemmas.List.{reverse-append, reverse-reverse}
use Rattle.list_laws.proofs.Lists.{all-left, all-right}
use Rattle.tla_symbols.specs.declared.lexeme.Lexeme.{Lexeme}
use Rattle.unit_grammar.specs.Units.{ModuleEnd, UnitTree}
use Rattle.tla_model.specs.Entities.{Meaning, Text}
use Rattle.module_scope.specs.Environments.{Scope, ended}
use Rattle.module_model.specs.Exports.{Exports, exports_of}
use Rattle.module_model.specs.Instances.{nested_view}
use Rattle.module_model.specs.Modules.{Reading, left, text_of}
use Rattle.module_model.specs.Resolution.{after}
use Rattle.kind_text.specs.FlatModule.{FlatModule}
use Rattle.module_kinds.specs.ModuleKinds.{KindState}
use Rattle.flattened_trees.specs.Leads.{FlatFace, Leads, Setting}
use Rattle.flattened_units.specs.Units.{IsEnded, Reader, exported_leads}
use Rattle.tree_flattener.specs.Steps.{Steps}
use Rattle.tree_flattener.specs.Worlds.{frame_at, implied_of, means_of}
use Rattle.tree_flattener.specs.declared.state.Flattening.{Flattening}
use Rattle.tree_flattener.specs.declared.written.Written.{Written}
use Rattle.tree_flattener.proofs.Stepping.{steps-none}
use Rattle.module_leads.specs.Leading.{Leading, face_over, leading_in, left_by, with_face}
use Rattle.module_leads.specs.There.{AllLeadWithin}
use Rattle.module_leads.proofs.Led.{faced-there, left-there}
use Rattle.brought_entries.specs.Entries.{AreOwn}
use Rattle.unit_scope.specs.EnclosingReadings.{IsAt}
use Rattle.unit_scope.specs.Readings.{files_over}
use Rattle.unit_scope.specs.Steps.{Leads as LeadsOn, behind_unit}
use Rattle.unit_scope.specs.declared.reader.ModuleReader.{ModuleReader}
use Rattle.own_symbols.specs.Ahead.{own_ahead, own_at}
use Rattle.unit_flattener.specs.Ahead.{AreOwned}
use Rattle.unit_flattener.specs.Numbers.{AreBelow, KeepsFaces, file_faces, scope_faces}
use Rattle.unit_flattener.specs.Scopes.{IsKept}
use Rattle.unit_flattener.specs.Walked.{AreFramesThere, IsFrameLeft, IsUnitWalked, LeavesFrame}
use Rattle.unit_flattener.specs.Walking.{AreNumbered, AreSettingsOf, IsSettingOf, IsWalking, Walk, ahead, files_in, over_in, state_at}
use Rattle.unit_flattener.specs.declared.flattener.UnitFlattener.{UnitFlattener}
use Rattle.unit_flattener.proofs.Naming.{below-ended, face-there, faces-ended, files-same, keeps-faces-on, one-more-face, others-stay, scope-same}
use Rattle.unit_flattener.proofs.Results.{last-of}
use Rattle.unit_flattener.proofs.Stepping.{read-is, reads-next, settled-next}

-- ---- frames round a place

all-turned : {A : Type 0} (P : A → Type 0) (xs : List A) → AllByRecursion P (reverse xs) → AllByRecursion P xs
all-turned P [] all = tt
all-turned P (x ∷ xs) all =
    let both : AllByRecursion P (reverse xs ++ x ∷ []) = subst (AllByRecursion P) (reverse-append (x ∷ []) xs) all in
    ((all-right P (reverse xs) (x ∷ []) both).0, all-turned P xs (all-left P (reverse xs) (x ∷ []) both))

settings-there : (frames : List (List Meaning)) (numbers : List ℕ) (round : List Leads) (readings : List Reading) (settings : List Setting) → AreSettingsOf frames numbers round readings settings
    → AllByRecursion (λ number. number < length frames) numbers
settings-there frames [] round readings settings are = tt
settings-there frames (number ∷ numbers) (leads ∷ round) (reading ∷ readings) (setting ∷ settings) are = (are.0.there, settings-there frames numbers round readings settings are.1)
settings-there frames (number ∷ numbers) [] readings settings are = absurd are
settings-there frames (number ∷ numbers) (leads ∷ round) [] settings are = absurd are
settings-there frames (number ∷ numbers) (leads ∷ round) (reading ∷ readings) [] are = absurd are

-- where code walks, frames round the place are there
pub frames-there : (text : Text) (walk : Walk) (before rest : List UnitTree) (code : UnitFlattener) (reader : Reader) → IsWalking text walk before rest code reader → AreFramesThere code
frames-there text walk before rest code reader at =
    all-turned (λ number. number < length code.state.frames.items) code.round.items
    (settings-there code.state.frames.items (reverse code.round.items) (leading_in code.leads).round (state_at walk before).read.place.round reader.round at.round)

-- the module round a place is the innermost one
pub frame-left : (old new : UnitFlattener) (parameters entries : Exports) (rest : List ℕ) (outer : ℕ) → old.round.items ≡ rest ++ outer ∷ [] → IsFrameLeft old new parameters entries rest outer → LeavesFrame old new parameters entries
frame-left old new parameters entries rest outer popped left before number is =
    let last = last-of rest before outer number (sym popped ∙ is) in
    subst (IsFrameLeft old new parameters entries before) last.1 (subst (λ ns. IsFrameLeft old new parameters entries ns outer) last.0 left)

-- ---- the end of a nested module

module _ (written : Written) (walk : Walk) (before rest : List UnitTree) (closing : Lexeme) (old new : UnitFlattener) (reader : Reader) (following : ModuleReader) (parameters entries : Exports)
    (at : IsWalking written.text.now walk before (ModuleEnd closing ∷ rest) old reader)
    (reads : LeadsOn written.text.now (behind_unit written.text.now (ModuleEnd closing)) old.reader following)
    (exports : entries ≡ exports_of (state_at walk before).read.place.here.exports)
    (own : AreOwn written.text.now old.reader parameters)
    (leaves : LeavesFrame (record old { reader = following }) new parameters entries) where
  abbrev text : Text
  text = written.text.now

  abbrev unit : UnitTree
  unit = ModuleEnd closing

  abbrev state : KindState
  state = state_at walk before

  abbrev led : Leading
  led = leading_in old.leads

  read-there : after text (files_over (over_in walk)) (over_in walk).words state.read unit ≡ (state_at walk (before ++ unit ∷ [])).read
  read-there = read-is text walk before (unit ∷ rest) old reader at unit

  ahead-next : own_ahead (text_of walk.source walk.units) (files_over (over_in walk)) (over_in walk).words (after (text_of walk.source walk.units) (files_over (over_in walk)) (over_in walk).words state.read unit) rest
      ≡ ahead walk (before ++ unit ∷ []) rest
  ahead-next =
      ap (λ read. own_ahead (text_of walk.source walk.units) (files_over (over_in walk)) (over_in walk).words read rest)
      (subst (λ t. after t (files_over (over_in walk)) (over_in walk).words state.read unit ≡ (state_at walk (before ++ unit ∷ [])).read) at.same read-there)

  owned-here : AreOwned (own_at state.read state.read.place.round ∷ (ahead walk (before ++ unit ∷ []) rest).round) reader.setting reader.round
  owned-here = subst (λ owned. AreOwned (own_at state.read state.read.place.round ∷ owned.round) reader.setting reader.round) ahead-next at.owned

  -- where a module is round the place
  module _ (number : ℕ) (numbers : List ℕ) (leads : Leads) (round : List Leads) (outside : Reading) (readings : List Reading) (outer : Setting) (settings : List Setting)
      (numbers-are : reverse old.round.items ≡ number ∷ numbers) (round-is : led.round ≡ leads ∷ round) (readings-are : state.read.place.round ≡ outside ∷ readings) (settings-are : reader.round ≡ outer ∷ settings)
      (setting : IsSettingOf old.state.frames.items number leads outer) (others : AreSettingsOf old.state.frames.items numbers round readings settings)
      (mine : own_at state.read (outside ∷ readings) ≡ drop (length outer.frame) reader.setting.frame) (owned : AreOwned (ahead walk (before ++ unit ∷ []) rest).round outer settings) where
    rounds : old.round.items ≡ reverse numbers ++ number ∷ []
    rounds = sym (reverse-reverse old.round.items) ∙ ap reverse numbers-are ∙ reverse-append (number ∷ []) numbers

    is-left : IsFrameLeft (record old { reader = following }) new parameters entries (reverse numbers) number
    is-left = leaves (reverse numbers) number rounds

    abbrev face : FlatFace
    face = face_over parameters (length (frame_at old.state.frames.items number)) false entries led.leads

    abbrev nested : FlatFace
    nested = record {
      parameters = (nested_view state.read.known outside.context (exports_of state.read.place.here.exports)).parameters;
      outer = length outer.frame;
      leads = exported_leads reader.setting.leads (exports_of state.read.place.here.exports);
      is_constant = false;
    }

    abbrev faced : Leading
    faced = with_face led face

    abbrev gone : Leading
    gone = record { count = faced.count; faces = faced.faces; leads = leads; round = round }

    gone-is : leading_in new.leads ≡ gone
    gone-is = is-left.leads ∙ ap (left_by faced) round-is

    face-is : face ≡ nested
    face-is = λ i. record {
      parameters = own (over_in walk) state.read outside readings at.reads readings-are i;
      outer = length ((sym setting.framed) i);
      leads = exported_leads ((sym at.setting.lead) i) (exports i);
      is_constant = false;
    }

    abbrev next : Reader
    next = record { setting = outer; round = settings; faces = ended nested reader.faces.here reader.faces.round }

    kept-out : IsKept new.modules (ended led.count at.names.here at.names.round)
    kept-out = is-left.modules at.names at.kept

    below-here : AreBelow led.count at.names.here
    below-here = subst (AreBelow led.count) at.kept.here at.numbered.nested

    files-are : new.files ≡ old.files
    files-are = is-left.files

    numbered-out : AreNumbered new
    numbered-out = record {
      files = λ name. subst (λ known. IfSome (files_in new name) (λ n. n < known.count)) (sym gone-is)
          (subst (λ files. IfSome (get_by_text files.now name) (λ n. n < suc led.count)) (sym files-are) (one-more (files_in old name) (at.numbered.files name)));
      nested = subst (λ known. AreBelow known.count new.modules.here) (sym gone-is)
          (subst (AreBelow (suc led.count)) (sym kept-out.here) (below-ended led.count at.names below-here at.kept.fronts));
    }
      where
        one-more : (found : Option ℕ) → IfSome found (λ n. n < led.count) → IfSome found (λ n. n < suc led.count)
        one-more None below = tt
        one-more (Some n) below = omega arith

    setting-out : IsSettingOf new.state.frames.items new.frame (leading_in new.leads).leads outer
    setting-out =
        subst (λ s. IsSettingOf s.frames.items new.frame (leading_in new.leads).leads outer) (sym is-left.state)
        (subst (λ n. IsSettingOf old.state.frames.items n (leading_in new.leads).leads outer) (sym is-left.frame)
        (record { there = setting.there; framed = setting.framed; lead = setting.lead ∙ ap (λ known. known.leads) (sym gone-is); olds = setting.olds }))

    read-round : readings ≡ (state_at walk (before ++ unit ∷ [])).read.place.round
    read-round = sym (ap (λ rs. (left state.read.known state.read.place.here rs).round) readings-are) ∙ ap (λ read. read.place.round) read-there

    round-out : AreSettingsOf new.state.frames.items (reverse new.round.items) (leading_in new.leads).round (state_at walk (before ++ unit ∷ [])).read.place.round settings
    round-out =
        subst (λ s. AreSettingsOf s.frames.items (reverse new.round.items) (leading_in new.leads).round (state_at walk (before ++ unit ∷ [])).read.place.round settings) (sym is-left.state)
        (subst (λ known. AreSettingsOf old.state.frames.items (reverse new.round.items) known.round (state_at walk (before ++ unit ∷ [])).read.place.round settings) (sym gone-is)
        (subst (λ rs. AreSettingsOf old.state.frames.items (reverse new.round.items) round rs settings) read-round
        (subst (λ ns. AreSettingsOf old.state.frames.items ns round readings settings) (sym (ap reverse is-left.round ∙ reverse-reverse numbers)) others)))

    faces-out : next.faces ≡ scope_faces (leading_in new.leads).faces (ended led.count at.names.here at.names.round)
    faces-out =
        ap (λ f. ended f reader.faces.here reader.faces.round) (sym (face-there led face ∙ face-is))
        ∙ ap (λ (scope : Scope FlatFace). ended (faced.faces led.count) scope.here scope.round) (at.faces ∙ sym (scope-same led.count led.faces faced.faces (others-stay led face) at.names below-here at.kept.fronts))
        ∙ sym (faces-ended faced.faces led.count at.names)
        ∙ ap (λ known. scope_faces known.faces (ended led.count at.names.here at.names.round)) (sym gone-is)

    -- code walks behind it
    walks-out : IsWalking text walk (before ++ unit ∷ []) rest new next
    walks-out =
        record {
          same = at.same;
          views = at.views;
          reads = subst (λ read. IsAt text (over_in walk) read (state_at walk (before ++ unit ∷ [])).read) (sym is-left.reader)
              (reads-next text walk before (unit ∷ rest) old reader at unit following reads);
          settled = settled-next text walk before (unit ∷ rest) old reader at unit;
          setting = setting-out;
          round = round-out;
          names = ended led.count at.names.here at.names.round;
          kept = kept-out;
          faces = faces-out;
          files = at.files ∙ sym (files-same led.count led.faces faced.faces (others-stay led face) (files_in old) at.numbered.files)
              ∙ ap (λ known. file_faces known.faces (files_in old)) (sym gone-is) ∙ ap (λ files. file_faces (leading_in new.leads).faces (λ name. get_by_text files.now name)) (sym files-are);
          numbered = numbered-out;
          earlier = subst (KeepsFaces walk.known) (sym gone-is)
              (let keeps = keeps-faces-on walk.known led faced at.earlier (one-more-face led face) in record { count = keeps.count; faces = keeps.faces });
          begun = ap reverse is-left.ahead ∙ at.begun ∙ ap (λ owned. owned.begun) ahead-next;
          owned = owned;
          sound = is-left.sound;
          within = subst (λ s. AllLeadWithin s.flat (leading_in new.leads)) (sym is-left.state)
              (subst (AllLeadWithin old.state.flat) (sym is-left.leads)
              (left-there old.state.flat faced (faced-there old.state.flat led parameters (length (frame_at old.state.frames.items number)) false entries at.within)));
          locals = ap (λ (s : Flattening). s.locals.items) is-left.state ∙ at.locals;
        }

    -- and what it is is made
    ends-there : IsUnitWalked written walk before unit rest old new reader
    ends-there =
        record {
          next = next;
          asked = [];
          at = walks-out;
          steps = subst (λ s. Steps old.state s []) (sym is-left.state) (steps-none old.state);
          holds = λ more extends. (made more, refl);
        }
      where
        made : (more : FlatModule) → IsEnded more text (means_of written) (implied_of written) walk.files walk.outsides (over_in walk).words state state.read.place.round reader reader.round next
        made more =
            subst (λ rs. IsEnded more text (means_of written) (implied_of written) walk.files walk.outsides (over_in walk).words state rs reader reader.round next) (sym readings-are)
            (subst (λ ss. IsEnded more text (means_of written) (implied_of written) walk.files walk.outsides (over_in walk).words state (outside ∷ readings) reader ss next) (sym settings-are)
            (mine, refl))

  -- a module is round it, since its symbols are among those that end
  ends-by : (numbers : List ℕ) (round : List Leads) (readings : List Reading) (settings : List Setting)
      → reverse old.round.items ≡ numbers → led.round ≡ round → state.read.place.round ≡ readings → reader.round ≡ settings
      → AreSettingsOf old.state.frames.items numbers round readings settings → AreOwned (own_at state.read readings ∷ (ahead walk (before ++ unit ∷ []) rest).round) reader.setting settings
      → IsUnitWalked written walk before unit rest old new reader
  ends-by (number ∷ numbers) (leads ∷ round) (outside ∷ readings) (outer ∷ settings) a b c d are owned =
      ends-there number numbers leads round outside readings outer settings a b c d are.0 are.1 owned.0 owned.1
  ends-by numbers round readings [] a b c d are owned = absurd owned
  ends-by [] [] readings (outer ∷ settings) a b c d are owned = absurd are
  ends-by [] (leads ∷ []) [] (outer ∷ settings) a b c d are owned = absurd are
  ends-by [] (leads ∷ []) (reading ∷ readings) (outer ∷ settings) a b c d are owned = absurd are
  ends-by [] (leads ∷ more ∷ round) readings (outer ∷ settings) a b c d are owned = absurd are
  ends-by (number ∷ numbers) [] readings (outer ∷ settings) a b c d are owned = absurd are
  ends-by (number ∷ numbers) (leads ∷ round) [] (outer ∷ settings) a b c d are owned = absurd are

  -- the end of a nested module is walked
  pub ends : IsUnitWalked written walk before unit rest old new reader
  ends = ends-by (reverse old.round.items) led.round state.read.place.round reader.round refl refl refl refl at.round owned-here
