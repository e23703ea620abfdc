-- A module that was walked over what is kept between modules: what its nodes answer is what is found of it.
use Rattle.std.proofs.Common.{◌≡◌, ℕ, ◌<◌, Bool, List, [], ◌++◌, sym, ap, subst, ◌∙◌}
use Rattle.unit_grammar.specs.Units.{ModuleUnits}
use Rattle.module_model.specs.Exports.{Exports, exports_of, files_of}
use Rattle.module_model.specs.Imports.{Imports}
use Rattle.kind_text.specs.FlatModule.{Extends, FlatModule, IsOrdered}
use Rattle.tree_kinds.specs.Standing.{Outside}
use Rattle.module_kinds.specs.ModuleKinds.{nowhere, last as last_state}
use Rattle.flattened_trees.specs.Leads.{FlatFace}
use Rattle.flattened_units.specs.Units.{IsModuleMade, meanings_of}
use Rattle.tree_flattener.specs.Steps.{AreAsked}
use Rattle.tree_flattener.specs.Worlds.{implied_of, means_of}
use Rattle.tree_flattener.specs.declared.written.Written.{Written}
use Rattle.tree_flattener.proofs.Stepping.{extends-itself}
use Rattle.level_facts.specs.Facts.{IsFacts}
use Rattle.node_depths.specs.Capped.{IsDepths}
use Rattle.module_leads.specs.Leading.{IsSound, face_over, leading_in}
use Rattle.module_leads.specs.There.{AllLeadWithin}
use Rattle.module_leads.specs.declared.leads.ModuleLeads.{ModuleLeads}
use Rattle.unit_flattener.specs.Modules.{IsBetween, IsModuleWalked}
use Rattle.unit_flattener.specs.declared.modules.Tables.{Tables}
use Rattle.module_levels.specs.Kept.{AreBehind, AreKept, IsAnswered, IsLeveled}
use Rattle.module_levels.specs.declared.levels.ModuleLevels.{ModuleLevels}
use Rattle.module_levels.specs.declared.tables.LevelTables.{LevelTables}

-- files that have these names, of which nothing else is known
abbrev pub known_files : Imports → List ℕ → Outside
known_files imports name = record nowhere { view = files_of imports name }

-- where no frame is kept and nothing is asked, and else nothing changed, all is kept
pub kept-between : (made : Tables) (new : LevelTables) → new.tables.leads ≡ made.leads → new.tables.state.flat ≡ made.state.flat → new.tables.state.locals ≡ made.state.locals → IsBetween made
    → IsOrdered new.tables.state.flat → IsFacts new.tables.state.flat new.facts → IsDepths new.tables.state.flat new.depths.nodes.items → new.tables.state.frames.items ≡ [] → new.tables.state.asked.items ≡ [] → AreKept new
kept-between made new leads flat locals between ordered facts depths frames asked =
    record {
      between = record {
        leads = ap (λ (l : ModuleLeads). (leading_in l).leads) leads ∙ between.leads;
        round = ap (λ (l : ModuleLeads). (leading_in l).round) leads ∙ between.round;
        sound = subst IsSound (sym leads) between.sound;
        within = subst (λ (l : ModuleLeads). AllLeadWithin new.tables.state.flat (leading_in l)) (sym leads) (subst (λ (f : FlatModule). AllLeadWithin f (leading_in made.leads)) (sym flat) between.within);
        locals = ap (λ entries. entries.items) locals ∙ between.locals;
      };
      ordered = ordered;
      facts = facts;
      depths = depths;
      frames = frames;
      asked = asked;
    }

module _ (written : Written) (source : List ℕ) (units : ModuleUnits) (files : List ℕ → FlatFace) (outsides : List ℕ → Outside) (old : LevelTables) (made : Tables) (symbols : Exports) (constant : Bool) (face : ℕ) (kept : AreKept old)
    (walked : IsModuleWalked written source units files outsides old.tables made symbols constant face) where
  -- kinds and depths that were found are those of the tables of before
  pub behind-walked : AreBehind (record { tables = made; facts = old.facts; depths = old.depths })
  behind-walked = record { before = old.tables.state.flat; extends = walked.steps.extends; ordered = kept.ordered; facts = kept.facts; depths = kept.depths }

  -- what is asked now is asked of the module
  pub asked-walked : AreAsked made.state.frames.items made.state.asked.items walked.asked
  asked-walked =
      let questions : made.state.asked.items ≡ walked.steps.more = walked.steps.questions ∙ ap (λ asked. asked ++ walked.steps.more) kept.asked in
      subst (λ asked. AreAsked made.state.frames.items asked walked.asked) (sym questions) walked.steps.are

  -- what its nodes answer is found of it
  pub leveled-walked : (new : LevelTables) (found : ModuleLevels) → made.leads ≡ new.tables.leads → made.state.flat ≡ new.tables.state.flat → face ≡ found.face → IsAnswered made.state.flat walked.asked found
      → IsLeveled written source units files outsides old new symbols constant found
  leveled-walked new found leads flat number answered =
      let exports = exports_of (last_state outsides source units).read.place.here.exports in
      record {
        last = walked.last;
        asked = walked.asked;
        extends = subst (Extends old.tables.state.flat) flat walked.steps.extends;
        more_faces = subst (λ (l : ModuleLeads). (leading_in old.tables.leads).count < (leading_in l).count) leads walked.more_faces;
        faces = λ other before. subst (λ (l : ModuleLeads). (leading_in l).faces other ≡ (leading_in old.tables.leads).faces other) leads (walked.faces other before);
        there = subst (λ (n : ℕ). n < (leading_in new.tables.leads).count) number (subst (λ (l : ModuleLeads). face < (leading_in l).count) leads walked.there);
        is = subst (λ (n : ℕ). (leading_in new.tables.leads).faces n ≡ face_over symbols 0 constant exports walked.last.setting.leads) number
            (subst (λ (l : ModuleLeads). (leading_in l).faces face ≡ face_over symbols 0 constant exports walked.last.setting.leads) leads walked.is);
        made = subst (λ (f : FlatModule). IsModuleMade f (means_of written) (implied_of written) files outsides source units (meanings_of symbols) walked.last walked.asked) flat
            (walked.holds made.state.flat (extends-itself made.state.flat));
        answered = subst (λ (f : FlatModule). IsAnswered f walked.asked found) flat answered;
      }
