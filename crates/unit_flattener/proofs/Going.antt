-- Walking on, behind a unit that begins and ends no module.
use Rattle.std.proofs.Common.{◌≡◌, ℕ, ◌<◌, List, [], ◌∷◌, ◌++◌, reverse, length, refl, sym, ap, subst, ◌∙◌}
use Rattle.indexmap.specs.IndexMap.{get_by_text}
use Rattle.std.specs.Prelude.{⊤, IfSome, drop}
use Rattle.std.proofs.lemmas.Option.{slice_get_within}
use Rattle.unit_grammar.specs.Units.{UnitTree, Variables, Constants, OperatorDefinition, FunctionDefinition, ModuleDefinition, Instance, Assumption, Theorem, Line, ModuleBegin, ModuleEnd}
use Rattle.tla_model.specs.Entities.{Meaning, Text}
use Rattle.module_model.specs.Exports.{ModuleView}
use Rattle.module_model.specs.Modules.{Reading, text_of}
use Rattle.model_laws.specs.Settled.{IsSettled}
use Rattle.module_model.specs.Resolution.{ReadState, after}
use Rattle.kind_text.specs.FlatModule.{Keeps}
use Rattle.flattened_trees.specs.Leads.{Leads, Setting}
use Rattle.flattened_units.specs.Units.{Reader}
use Rattle.tree_flattener.specs.Worlds.{frame_at}
use Rattle.tree_flattener.proofs.Stepping.{frame-kept, framed}
use Rattle.module_leads.specs.Leading.{IsSound, leading, leading_in}
use Rattle.module_leads.specs.There.{AllLeadWithin}
use Rattle.unit_scope.specs.EnclosingReadings.{IsAt}
use Rattle.unit_scope.specs.Readings.{files_over}
use Rattle.unit_scope.specs.Steps.{Leads as LeadsOn, behind_unit}
use Rattle.own_symbols.specs.Ahead.{own_ahead}
use Rattle.unit_flattener.specs.Ahead.{AreOwned}
use Rattle.unit_flattener.specs.Numbers.{AreBelow, KeepsFaces, file_faces, scope_faces}
use Rattle.unit_flattener.specs.Scopes.{IsKept}
use Rattle.unit_flattener.specs.Walked.{leading_with}
use Rattle.unit_flattener.specs.Walking.{AreNumbered, AreSettingsOf, IsSettingOf, IsWalking, Walk, ahead, files_in, over_in, state_at}
use Rattle.unit_flattener.specs.declared.flattener.UnitFlattener.{UnitFlattener}
use Rattle.unit_flattener.proofs.Stepping.{read-is, reads-next, settled-next}

-- ---- settings where frames grow

pub setting-kept : (old new : List (List Meaning)) (number : ℕ) (leads : Leads) (setting : Setting) → Keeps old new → IsSettingOf old number leads setting → IsSettingOf new number leads setting
setting-kept old new number leads setting keeps is =
    record {
      there = slice_get_within new number (frame_at old number) (keeps number (frame_at old number) (framed old number is.there));
      framed = is.framed ∙ sym (frame-kept old new number keeps is.there);
      lead = is.lead;
      olds = is.olds;
    }

pub settings-kept : (old new : List (List Meaning)) (numbers : List ℕ) (round : List Leads) (readings : List Reading) (settings : List Setting) → Keeps old new
    → AreSettingsOf old numbers round readings settings → AreSettingsOf new numbers round readings settings
settings-kept old new [] (leads ∷ []) [] [] keeps are = are
settings-kept old new (number ∷ numbers) (leads ∷ round) (reading ∷ readings) (setting ∷ settings) keeps are =
    (setting-kept old new number leads setting keeps are.0, settings-kept old new numbers round readings settings keeps are.1)
settings-kept old new [] [] readings settings keeps are = absurd are
settings-kept old new [] (leads ∷ x ∷ round) readings settings keeps are = absurd are
settings-kept old new [] (leads ∷ []) (reading ∷ readings) settings keeps are = absurd are
settings-kept old new [] (leads ∷ []) [] (setting ∷ settings) keeps are = absurd are
settings-kept old new (number ∷ numbers) [] readings settings keeps are = absurd are
settings-kept old new (number ∷ numbers) (leads ∷ round) [] settings keeps are = absurd are
settings-kept old new (number ∷ numbers) (leads ∷ round) (reading ∷ readings) [] keeps are = absurd are

-- ---- own symbols, with other leads

pub owned-with : (owns : List (List Meaning)) (setting other : Setting) (round : List Setting) → other.frame ≡ setting.frame → AreOwned owns setting round → AreOwned owns other round
owned-with [] setting other round same are = tt
owned-with (own ∷ owns) setting other [] same are = absurd are
owned-with (own ∷ owns) setting other (outer ∷ round) same are = (are.0 ∙ ap (drop (length outer.frame)) (sym same), are.1)

-- ---- units

-- it begins and ends no module
abbrev pub IsPlain : UnitTree → Type 0
IsPlain (ModuleBegin dashes name extends) = ⊥
IsPlain (ModuleEnd closing) = ⊥
IsPlain unit = ⊤

module _ (text : Text) (files : List ℕ → ModuleView) (words : List ℕ) (state : ReadState) where
  pub round-same : (unit : UnitTree) → IsPlain unit → (after text files words state unit).place.round ≡ state.place.round
  round-same (Variables names) plain = refl
  round-same (Constants declarations) plain = refl
  round-same (OperatorDefinition local x) plain = refl
  round-same (FunctionDefinition local x) plain = refl
  round-same (ModuleDefinition local x) plain = refl
  round-same (Instance local x) plain = refl
  round-same (Assumption word name x) plain = refl
  round-same (Theorem word name x) plain = refl
  round-same (Line dashes) plain = refl
  round-same (ModuleBegin dashes name extends) plain = absurd plain
  round-same (ModuleEnd closing) plain = absurd plain

  pub ahead-same : (unit : UnitTree) (units : List UnitTree) → IsPlain unit → own_ahead text files words state (unit ∷ units) ≡ own_ahead text files words (after text files words state unit) units
  ahead-same (Variables names) units plain = refl
  ahead-same (Constants declarations) units plain = refl
  ahead-same (OperatorDefinition local x) units plain = refl
  ahead-same (FunctionDefinition local x) units plain = refl
  ahead-same (ModuleDefinition local x) units plain = refl
  ahead-same (Instance local x) units plain = refl
  ahead-same (Assumption word name x) units plain = refl
  ahead-same (Theorem word name x) units plain = refl
  ahead-same (Line dashes) units plain = refl
  ahead-same (ModuleBegin dashes name extends) units plain = absurd plain
  ahead-same (ModuleEnd closing) units plain = absurd plain

-- ---- what changes on the way

-- what code keeps of the place is as before; what was made grows; and names lead so
pub record GoesOn (old new : UnitFlattener) (leads : Leads) : Type 0 where
  pub files : new.files ≡ old.files
  pub modules : new.modules ≡ old.modules
  pub own : new.own.items ≡ old.own.items
  pub frame : new.frame ≡ old.frame
  pub round : new.round.items ≡ old.round.items
  pub frames : Keeps old.state.frames.items new.state.frames.items
  pub locals : new.state.locals.items ≡ old.state.locals.items
  pub lead : leading_in new.leads ≡ leading (leading_in old.leads) leads
  pub sound : IsSound new.leads
  pub within : AllLeadWithin new.state.flat (leading_in new.leads)

module _ (text : Text) (walk : Walk) (before units : List UnitTree) (old new : UnitFlattener) (reader : Reader) (leads : Leads) (at : IsWalking text walk before units old reader) (on : GoesOn old new leads) where
  numbered-on : AreNumbered new
  numbered-on = record {
    files = λ name. subst (λ known. IfSome (files_in new name) (λ number. number < known.count)) (sym on.lead)
        (subst (λ files. IfSome (get_by_text files.now name) (λ number. number < (leading_in old.leads).count)) (sym on.files) (at.numbered.files name));
    nested = subst (λ known. AreBelow known.count new.modules.here) (sym on.lead)
        (subst (λ modules. AreBelow (leading_in old.leads).count modules.here) (sym on.modules) at.numbered.nested);
  }

  setting-on : IsSettingOf new.state.frames.items new.frame (leading_in new.leads).leads (leading_with reader leads).setting
  setting-on =
      subst (λ number. IsSettingOf new.state.frames.items number (leading_in new.leads).leads (leading_with reader leads).setting) (sym on.frame)
      (setting-kept old.state.frames.items new.state.frames.items old.frame (leading_in new.leads).leads (leading_with reader leads).setting on.frames
      (record { there = at.setting.there; framed = at.setting.framed; lead = ap (λ known. known.leads) (sym on.lead); olds = at.setting.olds }))

  round-on : (readings : List Reading) → readings ≡ (state_at walk before).read.place.round
      → AreSettingsOf new.state.frames.items (reverse new.round.items) (leading_in new.leads).round readings reader.round
  round-on readings same =
      subst (λ rs. AreSettingsOf new.state.frames.items (reverse new.round.items) (leading_in new.leads).round rs reader.round) (sym same)
      (subst (λ known. AreSettingsOf new.state.frames.items (reverse new.round.items) known.round (state_at walk before).read.place.round reader.round) (sym on.lead)
      (subst (λ numbers. AreSettingsOf new.state.frames.items (reverse numbers) (leading_in old.leads).round (state_at walk before).read.place.round reader.round) (sym on.round)
      (settings-kept old.state.frames.items new.state.frames.items (reverse old.round.items) (leading_in old.leads).round (state_at walk before).read.place.round reader.round on.frames at.round)))

  -- wherever that is read from here on, and whatever is ahead, code walks there with these leads
  pub walks-on : (before' units' : List UnitTree) → IsAt text (over_in walk) new.reader (state_at walk before').read → IsSettled (state_at walk before').read
      → (state_at walk before').read.place.round ≡ (state_at walk before).read.place.round → ahead walk before' units' ≡ ahead walk before units
      → IsWalking text walk before' units' new (leading_with reader leads)
  walks-on before' units' reads settled round ahead-is =
      record {
        same = at.same;
        views = at.views;
        reads = reads;
        settled = settled;
        setting = setting-on;
        round = round-on (state_at walk before').read.place.round round;
        names = at.names;
        kept = subst (λ modules. IsKept modules at.names) (sym on.modules) at.kept;
        faces = at.faces ∙ ap (λ known. scope_faces known.faces at.names) (sym on.lead);
        files = at.files ∙ ap (λ known. file_faces known.faces (files_in old)) (sym on.lead) ∙ ap (λ files. file_faces (leading_in new.leads).faces (λ name. get_by_text files.now name)) (sym on.files);
        numbered = numbered-on;
        earlier = subst (KeepsFaces walk.known) (sym on.lead) (record { count = at.earlier.count; faces = at.earlier.faces });
        begun = ap reverse on.own ∙ at.begun ∙ ap (λ owned. owned.begun) (sym ahead-is);
        owned = subst (λ owned. AreOwned owned.round (leading_with reader leads).setting reader.round) (sym ahead-is)
            (owned-with (ahead walk before units).round reader.setting (leading_with reader leads).setting reader.round refl at.owned);
        sound = on.sound;
        within = on.within;
        locals = on.locals ∙ at.locals;
      }

  -- at the same place
  pub stays : new.reader ≡ old.reader → IsWalking text walk before units new (leading_with reader leads)
  stays same = walks-on before units (subst (λ read. IsAt text (over_in walk) read (state_at walk before).read) (sym same) at.reads) at.settled refl refl

module _ (text : Text) (walk : Walk) (before rest : List UnitTree) (unit : UnitTree) (old new : UnitFlattener) (reader : Reader) (leads : Leads)
    (at : IsWalking text walk before (unit ∷ rest) old reader) (on : GoesOn old new leads) where
  -- behind a unit that begins and ends no module
  pub goes : IsPlain unit → LeadsOn text (behind_unit text unit) old.reader new.reader → IsWalking text walk (before ++ unit ∷ []) rest new (leading_with reader leads)
  goes plain reads =
      walks-on text walk before (unit ∷ rest) old new reader leads at on (before ++ unit ∷ []) rest
      (reads-next text walk before (unit ∷ rest) old reader at unit new.reader reads) (settled-next text walk before (unit ∷ rest) old reader at unit)
      (ap (λ read. read.place.round) (sym is) ∙ round-same text (files_over (over_in walk)) (over_in walk).words (state_at walk before).read unit plain)
      (ap (λ read. own_ahead (text_of walk.source walk.units) (files_over (over_in walk)) (over_in walk).words read rest) (sym there)
      ∙ sym (ahead-same (text_of walk.source walk.units) (files_over (over_in walk)) (over_in walk).words (state_at walk before).read unit rest plain))
    where
      is : after text (files_over (over_in walk)) (over_in walk).words (state_at walk before).read unit ≡ (state_at walk (before ++ unit ∷ [])).read
      is = read-is text walk before (unit ∷ rest) old reader at unit

      there : after (text_of walk.source walk.units) (files_over (over_in walk)) (over_in walk).words (state_at walk before).read unit ≡ (state_at walk (before ++ unit ∷ [])).read
      there = subst (λ t. after t (files_over (over_in walk)) (over_in walk).words (state_at walk before).read unit ≡ (state_at walk (before ++ unit ∷ [])).read) at.same is
