-- Names of a module lead through an instance where code walks.
use Rattle.std.proofs.Common.{◌≡◌, ℕ, List, Option, sym, ap, subst, ◌∙◌, length}
use Rattle.tla_symbols.specs.declared.lexeme.Lexeme.{Lexeme}
use Rattle.unit_grammar.specs.Units.{ModuleUnits, UnitTree}
use Rattle.tla_model.specs.Entities.{Text}
use Rattle.tla_model.specs.Lexemes.{spelled}
use Rattle.module_model.specs.Exports.{Exports, ModuleView, exported, files_of, instantiable}
use Rattle.module_model.specs.Modules.{text_of}
use Rattle.module_model.specs.Resolution.{module_named, words_of}
use Rattle.kind_text.specs.FlatModule.{UsesInstance}
use Rattle.tree_kinds.specs.Standing.{Outside}
use Rattle.module_kinds.specs.ModuleKinds.{named}
use Rattle.flattened_units.specs.Units.{Reader, with_brought}
use Rattle.accepted_modules.specs.States.{HaveViews, kinds_behind}
use Rattle.tree_flattener.specs.declared.written.Written.{Written}
use Rattle.tree_flattener.proofs.Stepping.{keeps-same}
use Rattle.module_leads.specs.Leading.{IsSound, leading, leading_in}
use Rattle.module_leads.specs.There.{AllLeadWithin}
use Rattle.module_leads.specs.Ways.{face_at}
use Rattle.module_leads.proofs.Led.{brought-there}
use Rattle.brought_entries.specs.Entries.{IsExtended}
use Rattle.unit_flattener.specs.Walked.{Brings, brought_of, walk_face}
use Rattle.unit_flattener.specs.Walking.{IsWalking, Walk, face_number, over_in, state_at}
use Rattle.unit_flattener.specs.declared.flattener.UnitFlattener.{UnitFlattener}
use Rattle.unit_flattener.proofs.Going.{GoesOn, stays}
use Rattle.unit_flattener.proofs.Places.{faces-here}

-- names of a module are brought, and the place is the same but for what is read
pub record BringsNames (old new : UnitFlattener) (entries : Exports) (j : ℕ) (face : Option ℕ) : Type 0 where
  pub files : new.files ≡ old.files
  pub modules : new.modules ≡ old.modules
  pub own : new.own.items ≡ old.own.items
  pub frame : new.frame ≡ old.frame
  pub round : new.round.items ≡ old.round.items
  pub state : new.state ≡ old.state
  pub known : leading_in new.leads ≡ leading (leading_in old.leads) (with_brought (leading_in old.leads).leads entries j (face_at (leading_in old.leads).faces face))
  pub sound : IsSound old.leads → IsSound new.leads

module _ (written : Written) (walk : Walk) (before rest : List UnitTree) (old new : UnitFlattener) (reader : Reader) (at : IsWalking written.text.now walk before rest old reader)
    (entries those : Exports) (j : ℕ) (face : Option ℕ) (l : Lexeme) where
  -- by the module of a name, through an instance that is there
  pub brought-on : BringsNames old new entries j face → entries ≡ those → face ≡ face_number old (spelled written.text.now.source l) → UsesInstance old.state.flat (length old.state.flat.nodes) j
      → GoesOn old new (with_brought reader.setting.leads those j (walk_face written.text.now walk reader l))
  brought-on brings are is used = record {
    files = brings.files;
    modules = brings.modules;
    own = brings.own;
    frame = brings.frame;
    round = brings.round;
    frames = keeps-same old.state.frames.items new.state.frames.items (ap (λ s. s.frames.items) brings.state);
    locals = ap (λ s. s.locals.items) brings.state;
    lead = brings.known ∙ (λ i. leading (leading_in old.leads) (with_brought (sym at.setting.lead i) (are i) j (same i)));
    sound = brings.sound at.sound;
    within = subst (λ s. AllLeadWithin s.flat (leading_in new.leads)) (sym brings.state)
        (subst (AllLeadWithin old.state.flat) (sym brings.known) (brought-there old.state.flat (leading_in old.leads) entries j face used at.within));
  }
    where
      same : face_at (leading_in old.leads).faces face ≡ walk_face written.text.now walk reader l
      same = ap (face_at (leading_in old.leads).faces) is ∙ ap (λ faces. faces (spelled written.text.now.source l)) (faces-here written walk before rest old reader at old.state.flat)

-- ---- modules that are extended

-- what the module of a name is by the views of files is what it is where a module is walked
abbrev pub ViewsAgree : Type 0
ViewsAgree =
    (outsides : List ℕ → Outside) (files : List ℕ → ModuleView) (source : List ℕ) (units : ModuleUnits) (before : List UnitTree) (name : List ℕ) → HaveViews outsides files
    → (named (text_of source units) outsides (words_of units) (kinds_behind outsides source units before) name).view
    ≡ module_named (text_of source units) files (words_of units) (kinds_behind outsides source units before).read name

module _ (agree : ViewsAgree) (text : Text) (walk : Walk) (before rest : List UnitTree) (code : UnitFlattener) (reader : Reader) (at : IsWalking text walk before rest code reader) where
  -- what it brings to one that extends it
  pub extended-entries : (entries : Exports) (l : Lexeme) → IsExtended text code.reader (spelled text.source l) entries → entries ≡ brought_of text walk before l
  extended-entries entries l is =
      is (over_in walk) (state_at walk before).read at.reads
      ∙ ap (λ view. instantiable (exported view)) (
      ap (λ t. module_named t (files_of walk.imports) (words_of walk.units) (state_at walk before).read (spelled text.source l)) at.same
      ∙ sym (agree walk.outsides (files_of walk.imports) walk.source walk.units before (spelled text.source l) (λ name. ap (λ views. views name) at.views))
      ∙ ap (λ t. (named t walk.outsides (words_of walk.units) (state_at walk before) (spelled text.source l)).view) (sym at.same))

-- so names lead through its instance behind that
pub module-brings : (agree : ViewsAgree) (written : Written) (old new : UnitFlattener) (entries : Exports) (j : ℕ) (face : Option ℕ) (l : Lexeme)
    → IsExtended written.text.now old.reader (spelled written.text.now.source l) entries → face ≡ face_number old (spelled written.text.now.source l)
    → BringsNames old new entries j face → new.reader ≡ old.reader → Brings written old new l j
module-brings agree written old new entries j face l is number brings same = λ walk before rest reader at used.
    let those = brought_of written.text.now walk before l in
    stays written.text.now walk before rest old new reader (with_brought reader.setting.leads those j (walk_face written.text.now walk reader l)) at
    (brought-on written walk before rest old new reader at entries those j face l brings (extended-entries agree written.text.now walk before rest old reader at entries l is) number used) same
