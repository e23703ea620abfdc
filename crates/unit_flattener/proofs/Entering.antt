-- Walking on into a nested module that begins.
use Rattle.std.proofs.Common.{◌≡◌, ℕ, ◌<◌, List, [], ◌∷◌, ◌++◌, drop, length, reverse, refl, sym, ap, subst, ◌∙◌, arith}
use Rattle.indexmap.specs.IndexMap.{get_by_text}
use Rattle.std.specs.Prelude.{IfSome, None, slice_get}
use Rattle.std.proofs.lemmas.List.{length_push, reverse-append}
use Rattle.std.proofs.lemmas.Option.{get_or_from_slice_get}
use Rattle.list_laws.proofs.Lists.{at-end}
use Rattle.tla_symbols.specs.declared.lexeme.Lexeme.{Lexeme}
use Rattle.tla_tree.specs.declared.unit.Unit.TheVariants as code
use Rattle.unit_grammar.specs.UnitNodes.{unit_at}
use Rattle.unit_grammar.specs.Units.{ModuleBegin, UnitTree}
use Rattle.tla_model.specs.Entities.{Meaning, Text}
use Rattle.tla_model.specs.Lexemes.{spelled}
use Rattle.module_scope.specs.Environments.{Scope, begun}
use Rattle.module_model.specs.Modules.{text_of}
use Rattle.module_model.specs.Resolution.{after}
use Rattle.kind_text.specs.FlatModule.{Keeps}
use Rattle.flattened_units.specs.Units.{Reader, with_symbols}
use Rattle.tree_flattener.specs.Steps.{AddsFrame, Steps}
use Rattle.tree_flattener.specs.Worlds.{frame_at}
use Rattle.tree_flattener.specs.declared.state.Flattening.{Flattening}
use Rattle.tree_flattener.specs.declared.written.Written.{Written}
use Rattle.tree_flattener.proofs.Stepping.{extends-same, keeps-append, steps-same}
use Rattle.module_leads.specs.Leading.{IsSound, leading_in}
use Rattle.module_leads.specs.Leading as known
use Rattle.module_leads.specs.There.{AllLeadWithin}
use Rattle.module_leads.proofs.Led.{entered-there}
use Rattle.unit_scope.specs.Readings.{files_over}
use Rattle.unit_scope.specs.Steps.{Leads as LeadsOn, behind_unit}
use Rattle.own_symbols.specs.Ahead.{first_own, own_ahead}
use Rattle.unit_flattener.specs.Ahead.{AreOwned}
use Rattle.unit_flattener.specs.Numbers.{AreBelow, KeepsFaces, file_faces, scope_faces}
use Rattle.unit_flattener.specs.Scopes.{IsKept}
use Rattle.unit_flattener.specs.Walked.{Enters, IsBegin, IsEntered, entered}
use Rattle.unit_flattener.specs.Walking.{AreNumbered, AreSettingsOf, IsAtUnit, IsSettingOf, IsWithinUnits, IsWalking, Walk, ahead, files_in, over_in, state_at}
use Rattle.unit_flattener.specs.declared.flattener.UnitFlattener.{UnitFlattener}
use Rattle.unit_flattener.proofs.Going.{setting-kept, settings-kept}
use Rattle.unit_flattener.proofs.Naming.{below-added, faces-begun}
use Rattle.unit_flattener.proofs.Stepping.{read-is, reads-next, settled-next}

-- ---- a frame more

-- all frames are kept where one is added
pub frames-added : (old new : Flattening) (symbols : List Meaning) (frame : ℕ) → AddsFrame old new symbols frame → Steps old new []
frames-added old new symbols frame adds =
    steps-same old new (extends-same old.flat new.flat adds.flat)
    (subst (Keeps old.frames.items) (sym adds.frames) (keeps-append old.frames.items (symbols ∷ []))) adds.questions

-- the frame that was added has its symbols
pub frame-added : (old new : Flattening) (symbols : List Meaning) (frame : ℕ) → AddsFrame old new symbols frame → (frame < length new.frames.items) × (symbols ≡ frame_at new.frames.items frame)
frame-added old new symbols frame adds = (
  subst (λ frames. frame < length frames) (sym adds.frames) (let l = length_push old.frames.items symbols in let e = adds.number in omega (arith, l, e)),
  sym (get_or_from_slice_get new.frames.items frame symbols []
      (ap (λ frames. slice_get frames frame) adds.frames ∙ ap (slice_get (old.frames.items ++ symbols ∷ [])) adds.number ∙ at-end old.frames.items symbols)),
)

-- what stands behind symbols
pub dropped : (frame own : List Meaning) → drop (length frame) (frame ++ own) ≡ own
dropped [] own = refl
dropped (x ∷ frame) own = dropped frame own

-- ---- what changes on the way

-- a nested module of this name is entered, with symbols of its own
pub record GoesIn (text : Text) (unit : UnitTree) (name : Lexeme) (own : List Meaning) (old new : UnitFlattener) : Type 0 where
  pub first : own ≡ first_own (reverse old.own.items)
  pub rest : reverse new.own.items ≡ drop 1 (reverse old.own.items)
  pub modules : (scope : Scope ℕ) → IsKept old.modules scope → IsKept new.modules (begun scope (spelled text.source name))
  pub leads : leading_in new.leads ≡ known.entered (leading_in old.leads) own (length (frame_at old.state.frames.items old.frame))
  pub sound : IsSound old.leads → IsSound new.leads
  pub state : AddsFrame old.state new.state (frame_at old.state.frames.items old.frame ++ own) new.frame
  pub round : new.round.items ≡ old.round.items ++ old.frame ∷ []
  pub files : new.files ≡ old.files
  pub reads : LeadsOn text (behind_unit text unit) old.reader new.reader

module _ (written : Written) (walk : Walk) (before rest : List UnitTree) (dashes name : Lexeme) (extends : List Lexeme) (own : List Meaning) (old new : UnitFlattener) (reader : Reader)
    (at : IsWalking written.text.now walk before (ModuleBegin dashes name extends ∷ rest) old reader)
    (goes : GoesIn written.text.now (ModuleBegin dashes name extends) name own old new) where
  abbrev text : Text
  text = written.text.now

  abbrev unit : UnitTree
  unit = ModuleBegin dashes name extends

  abbrev symbols : List Meaning
  symbols = frame_at old.state.frames.items old.frame ++ own

  abbrev inner : Reader
  inner = entered text reader name own

  steps : Steps old.state new.state []
  steps = frames-added old.state new.state symbols new.frame goes.state

  read-there : after text (files_over (over_in walk)) (over_in walk).words (state_at walk before).read unit ≡ (state_at walk (before ++ unit ∷ [])).read
  read-there = read-is text walk before (unit ∷ rest) old reader at unit

  ahead-next : own_ahead (text_of walk.source walk.units) (files_over (over_in walk)) (over_in walk).words (after (text_of walk.source walk.units) (files_over (over_in walk)) (over_in walk).words (state_at walk before).read unit) rest
      ≡ ahead walk (before ++ unit ∷ []) rest
  ahead-next =
      ap (λ read. own_ahead (text_of walk.source walk.units) (files_over (over_in walk)) (over_in walk).words read rest)
      (subst (λ t. after t (files_over (over_in walk)) (over_in walk).words (state_at walk before).read unit ≡ (state_at walk (before ++ unit ∷ [])).read) at.same read-there)

  -- the own symbols are those of the first module that ends ahead
  begun-is : reverse old.own.items ≡ first_own (ahead walk (before ++ unit ∷ []) rest).round ∷ (ahead walk (before ++ unit ∷ []) rest).begun
  begun-is = at.begun ∙ ap (λ owned. first_own owned.round ∷ owned.begun) ahead-next

  own-is : own ≡ first_own (ahead walk (before ++ unit ∷ []) rest).round
  own-is = goes.first ∙ ap first_own begun-is

  owned-round : AreOwned (drop 1 (ahead walk (before ++ unit ∷ []) rest).round) reader.setting reader.round
  owned-round = subst (λ owned. AreOwned (drop 1 owned.round) reader.setting reader.round) ahead-next at.owned

  owned-in : (owns : List (List Meaning)) → own ≡ first_own owns → AreOwned (drop 1 owns) reader.setting reader.round → AreOwned owns inner.setting inner.round
  owned-in [] is owned = tt
  owned-in (x ∷ owns) is owned = (sym is ∙ sym (dropped reader.setting.frame own), owned)

  numbered-in : AreNumbered new
  numbered-in = record {
    files = λ name. subst (λ known. IfSome (files_in new name) (λ number. number < known.count)) (sym goes.leads)
        (subst (λ files. IfSome (get_by_text files.now name) (λ number. number < (leading_in old.leads).count)) (sym goes.files) (at.numbered.files name));
    nested = subst (λ known. AreBelow known.count new.modules.here) (sym goes.leads)
        (subst (AreBelow (leading_in old.leads).count) (sym (goes.modules at.names at.kept).here)
        (below-added (leading_in old.leads).count at.names.here (spelled text.source name) None
        (subst (AreBelow (leading_in old.leads).count) at.kept.here at.numbered.nested) tt));
  }

  setting-in : IsSettingOf new.state.frames.items new.frame (leading_in new.leads).leads inner.setting
  setting-in =
      let framed = frame-added old.state new.state symbols new.frame goes.state in
      record {
        there = framed.0;
        framed = ap (λ frame. frame ++ own) at.setting.framed ∙ framed.1;
        lead =
            (λ i. with_symbols (at.setting.lead i) own (length (at.setting.framed i)))
            ∙ ap (λ known. known.leads) (sym goes.leads);
        olds = refl;
      }

  round-in : AreSettingsOf new.state.frames.items (reverse new.round.items) (leading_in new.leads).round (state_at walk (before ++ unit ∷ [])).read.place.round inner.round
  round-in =
      subst (λ read. AreSettingsOf new.state.frames.items (reverse new.round.items) (leading_in new.leads).round read.place.round inner.round) read-there
      (subst (λ known. AreSettingsOf new.state.frames.items (reverse new.round.items) known.round ((state_at walk before).read.place.here ∷ (state_at walk before).read.place.round) inner.round) (sym goes.leads)
      (subst (λ numbers. AreSettingsOf new.state.frames.items numbers ((leading_in old.leads).leads ∷ (leading_in old.leads).round) ((state_at walk before).read.place.here ∷ (state_at walk before).read.place.round) inner.round)
      (sym (ap reverse goes.round ∙ reverse-append old.round.items (old.frame ∷ []))) (
        setting-kept old.state.frames.items new.state.frames.items old.frame (leading_in old.leads).leads reader.setting steps.frames at.setting,
        settings-kept old.state.frames.items new.state.frames.items (reverse old.round.items) (leading_in old.leads).round (state_at walk before).read.place.round reader.round steps.frames at.round,
      )))

  -- code walks in it
  walks-in : IsWalking text walk (before ++ unit ∷ []) rest new inner
  walks-in =
      record {
        same = at.same;
        views = at.views;
        reads = reads-next text walk before (unit ∷ rest) old reader at unit new.reader goes.reads;
        settled = settled-next text walk before (unit ∷ rest) old reader at unit;
        setting = setting-in;
        round = round-in;
        names = begun at.names (spelled text.source name);
        kept = goes.modules at.names at.kept;
        faces =
            ap (λ scope. begun scope (spelled text.source name)) at.faces
            ∙ sym (faces-begun (leading_in old.leads).faces at.names (spelled text.source name))
            ∙ ap (λ known. scope_faces known.faces (begun at.names (spelled text.source name))) (sym goes.leads);
        files = at.files ∙ ap (λ known. file_faces known.faces (files_in old)) (sym goes.leads) ∙ ap (λ files. file_faces (leading_in new.leads).faces (λ name. get_by_text files.now name)) (sym goes.files);
        numbered = numbered-in;
        earlier = subst (KeepsFaces walk.known) (sym goes.leads) (record { count = at.earlier.count; faces = at.earlier.faces });
        begun = goes.rest ∙ ap (drop 1) begun-is;
        owned = owned-in (ahead walk (before ++ unit ∷ []) rest).round own-is owned-round;
        sound = goes.sound at.sound;
        within = subst (AllLeadWithin new.state.flat) (sym goes.leads)
            (subst (λ flat. AllLeadWithin flat (known.entered (leading_in old.leads) own (length (frame_at old.state.frames.items old.frame)))) (sym goes.state.flat)
            (entered-there old.state.flat (leading_in old.leads) own (length (frame_at old.state.frames.items old.frame)) at.within));
        locals = goes.state.locals ∙ at.locals;
      }

  -- and nothing is asked
  pub enters : IsEntered written walk before unit name rest old new reader
  enters = record { own = own; at = walks-in; steps = steps }

-- ---- the same of units in code

module _ (written : Written) (own : List Meaning) (old new : UnitFlattener) where
  -- wherever code walked, it walks in the module then
  pub enters-there : (x : code.the_data) (title : Lexeme) → IsBegin x title → GoesIn written.text.now (unit_at written.tree.now x) title own old new → Enters written (unit_at written.tree.now x) old new
  enters-there (code.ModuleBegin dashes name extends) title is goes = λ walk before rest reader at.
      enters written walk before rest dashes name extends own old new reader at (subst (λ l. GoesIn written.text.now (ModuleBegin dashes name extends) l own old new) is goes)
  enters-there (code.Variables names) title is goes = absurd is
  enters-there (code.Constants declarations) title is goes = absurd is
  enters-there (code.OperatorDefinition local node) title is goes = absurd is
  enters-there (code.FunctionDefinition local node) title is goes = absurd is
  enters-there (code.ModuleDefinition local node) title is goes = absurd is
  enters-there (code.Instance local node) title is goes = absurd is
  enters-there (code.Assumption word name node) title is goes = absurd is
  enters-there (code.Theorem word name node) title is goes = absurd is
  enters-there (code.Line dashes) title is goes = absurd is
  enters-there (code.ModuleEnd closing) title is goes = absurd is

  -- and so it walks somewhere
  pub enters-within : (x : code.the_data) (title : Lexeme) → IsBegin x title → GoesIn written.text.now (unit_at written.tree.now x) title own old new → IsAtUnit written.text.now (unit_at written.tree.now x) old
      → IsWithinUnits written.text.now new
  enters-within (code.ModuleBegin dashes name extends) title is goes there =
      let b = there.before in
      record {
        rest = there.rest;
        before = record {
          walk = b.walk;
          before = b.before ++ ModuleBegin dashes name extends ∷ [];
          reader = entered written.text.now b.reader name own;
          at = walks-in written b.walk b.before there.rest dashes name extends own old new b.reader b.at (subst (λ l. GoesIn written.text.now (ModuleBegin dashes name extends) l own old new) is goes);
        };
      }
  enters-within (code.Variables names) title is goes there = absurd is
  enters-within (code.Constants declarations) title is goes there = absurd is
  enters-within (code.OperatorDefinition local node) title is goes there = absurd is
  enters-within (code.FunctionDefinition local node) title is goes there = absurd is
  enters-within (code.ModuleDefinition local node) title is goes there = absurd is
  enters-within (code.Instance local node) title is goes there = absurd is
  enters-within (code.Assumption word name node) title is goes there = absurd is
  enters-within (code.Theorem word name node) title is goes there = absurd is
  enters-within (code.Line dashes) title is goes there = absurd is
  enters-within (code.ModuleEnd closing) title is goes there = absurd is
