-- Units that are an INSTANCE without a name.
use Rattle.std.proofs.Common.{◌≡◌, ℕ, ◌<◌, false, List, [], ◌∷◌, ◌++◌, Option, refl, sym, ap, subst, ◌∙◌, length}
use Rattle.tla_symbols.specs.declared.lexeme.Lexeme.{Lexeme}
use Rattle.tla_tree.specs.Arena.{node_at, tree_at}
use Rattle.tla_tree.specs.declared.form.Form.TheVariants as Form
use Rattle.tla_tree.specs.declared.unit.Unit.TheVariants as unit
use Rattle.tla_tree.specs.Syntax.{Tree, Trees, Node}
use Rattle.tla_tree.proofs.Nodes.{tree_at-form}
use Rattle.unit_grammar.specs.Units.{Instance, UnitTree}
use Rattle.unit_grammar.specs.UnitNodes.{unit_at}
use Rattle.tla_model.specs.Entities.{Text}
use Rattle.tla_model.specs.Lexemes.{spelled}
use Rattle.module_model.specs.Exports.{Exports}
use Rattle.module_model.specs.Instances.{brought_by}
use Rattle.module_model.specs.NamedModules.{unit_of, view_of}
use Rattle.module_model.specs.Resolution.{instance_brings, module_named}
use Rattle.kind_text.specs.FlatModule.{Extends, FlatModule}
use Rattle.declared_names.specs.Nodes.{IsWhole, form_at, parts_at}
use Rattle.module_kinds.specs.ModuleKinds.{KindState, views}
use Rattle.flattened_trees.specs.Flattened.{AreRights, IsInstance}
use Rattle.flattened_units.specs.Units.{IsInstanceMade, Reader, face_in, with_brought}
use Rattle.tree_flattener.specs.declared.instances.Right.{Right}
use Rattle.tree_flattener.specs.declared.state.Flattening.{Flattening}
use Rattle.tree_flattener.specs.declared.written.Written.{Written}
use Rattle.tree_flattener.specs.Replacing.{Instantiates, rights_in}
use Rattle.tree_flattener.specs.Righting.{RightsAll}
use Rattle.tree_flattener.specs.Steps.{Steps}
use Rattle.tree_flattener.specs.Worlds.{World, frame_at, implied_of, means_of, setting_of}
use Rattle.tree_flattener.proofs.Stepping.{extends-on, frame-kept, keeps-itself, same-setting, steps-none, steps-on}
use Rattle.module_leads.specs.Leading.{leading, leading_in}
use Rattle.brought_entries.specs.Entries.{IsInstantiated}
use Rattle.unit_scope.specs.Steps.{Leads as LeadsOn, behind_unit}
use Rattle.unit_scope.specs.declared.reader.ModuleReader.{ModuleReader}
use Rattle.unit_flattener.specs.Changes.{ChangesState}
use Rattle.unit_flattener.specs.Walked.{MakesInstance, Walks, leading_with, walk_face}
use Rattle.unit_flattener.specs.Walking.{IsWalking, Walk, face_number, over_in, state_at, world_at}
use Rattle.unit_flattener.specs.declared.flattener.UnitFlattener.{UnitFlattener}
use Rattle.unit_flattener.proofs.BroughtNames.{BringsNames, brought-on}
use Rattle.unit_flattener.proofs.Going.{GoesOn, goes}
use Rattle.unit_flattener.proofs.GrowingState.{grown-stays}
use Rattle.unit_flattener.proofs.Places.{faces-here, setting-here}

-- ---- the instance

-- it is made behind its right sides
pub instance-placed : (w : World) (old new : UnitFlattener) (mid : Flattening) (l : Lexeme) (rights : Trees) (made : List Right) (before after : List ℕ) (j : ℕ) → old.frame < length old.state.frames.items
    → RightsAll w old.state mid old.frame [] l rights made before after
    → Instantiates w (setting_of w mid old.frame []) (length (frame_at mid.frames.items old.frame)) 0 false l (rights_in made) mid new.state j
    → MakesInstance w old new l rights j
instance-placed w old new mid l rights made before after j there righted instance =
    let setting = same-setting w old.state mid old.frame [] righted.steps.frames righted.locals there in
    let frame = frame-kept old.state.frames.items mid.frames.items old.frame righted.steps.frames there in
    record {
      written = rights_in made;
      roots = righted.first;
      a = righted.asked;
      b = instance.asked;
      steps = steps-on old.state mid new.state righted.asked instance.asked righted.steps instance.steps;
      locals = instance.locals ∙ righted.locals;
      there = instance.there;
      rights_are = λ more extends. righted.holds more (extends-on mid.flat new.state.flat more instance.steps.extends extends);
      is = λ more extends.
          subst (λ f. IsInstance w.text w.means w.implied w.faces more (setting_of w old.state old.frame []) (length f) 0 false l (rights_in made) j instance.asked) frame
          (subst (λ z. IsInstance w.text w.means w.implied w.faces more z (length (frame_at mid.frames.items old.frame)) 0 false l (rights_in made) j instance.asked) setting (instance.holds more extends));
    }

-- ---- the unit

module _ (written : Written) (node : ℕ) (local : Option Lexeme) (old new : UnitFlattener) where
  -- the instance is made, and then its names are brought, and the unit is passed
  pub instance-walked : (mid : UnitFlattener) (l : Lexeme) (j : ℕ) (entries : Exports) (face : Option ℕ) → form_at written.tree.now node ≡ Form.Instance l → IsWhole written.tree.now node
      → MakesInstance (world_at written old) old mid l (parts_at written.tree.now node) j → ChangesState old mid
      → IsInstantiated written.text.now mid.reader l entries → face ≡ face_number mid (spelled written.text.now.source l) → BringsNames mid new entries j face
      → LeadsOn written.text.now (behind_unit written.text.now (Instance local (tree_at written.tree.now node))) mid.reader new.reader
      → Walks written (Instance local (tree_at written.tree.now node)) old new
  instance-walked mid l j entries face form whole made changes listed number brings reads = λ walk before rest reader at.
      let text = written.text.now in
      let nodes = written.tree.now in
      let w = world_at written old in
      let unit : UnitTree = Instance local (tree_at nodes node) in
      let words = (over_in walk).words in
      let state = state_at walk before in
      let parts = parts_at nodes node in
      let instance : Tree = Node (Form.Instance l) (node_at nodes node).span parts in
      let is : instance ≡ tree_at nodes node = ap (λ f. Node f (node_at nodes node).span parts) (sym form) ∙ sym whole in
      let there = grown-stays text walk before (unit ∷ rest) old mid reader at (made.a ++ made.b) changes made.steps made.locals in
      let those : Exports = instance_brings text (views text walk.outsides words) words state.read instance in
      let are : entries ≡ those = listed (over_in walk) state.read there.reads ∙ ap (λ files. brought_by (unit_of text words l) (view_of text (module_named text files words state.read) l)) (sym at.views) in
      let leads = with_brought reader.setting.leads those j (walk_face text walk reader l) in
      let on = brought-on written walk before (unit ∷ rest) mid new reader there entries those j face l brings are number made.there in
      record {
        next = leading_with reader leads;
        asked = made.a ++ made.b;
        at = goes text walk before rest unit mid new reader leads there on tt reads;
        steps = subst (λ s. Steps old.state s (made.a ++ made.b)) (sym brings.state) made.steps;
        holds = λ more extends.
            let from_mid = subst (λ (s : Flattening). Extends s.flat more) brings.state extends in
            let faces = face_in more text (means_of written) (implied_of written) walk.files walk.outsides words reader.faces in
            let setting = setting-here written walk before (unit ∷ rest) old reader at in
            let same = faces-here written walk before (unit ∷ rest) old reader at more in
            subst (λ x. IsInstanceMade more text (means_of written) (implied_of written) walk.files walk.outsides words state reader x (leading_with reader leads) (made.a ++ made.b)) is (
              made.written,
              made.roots,
              j,
              made.a,
              made.b,
              subst (λ fs. AreRights text (means_of written) (implied_of written) fs more reader.setting l parts made.written made.roots made.a) same
                  (subst (λ z. AreRights text (means_of written) (implied_of written) w.faces more z l parts made.written made.roots made.a) setting (made.rights_are more from_mid)),
              subst (λ fs. IsInstance text (means_of written) (implied_of written) fs more reader.setting (length reader.setting.frame) 0 false l made.written j made.b) same
                  (subst (λ z. IsInstance text (means_of written) (implied_of written) w.faces more z (length z.frame) 0 false l made.written j made.b) setting (made.is more from_mid)),
              refl,
              refl,
            );
      }

  -- the tree is no INSTANCE
  pub no-instance-made : (more : FlatModule) (text : Text) (walk : Walk) (words : List ℕ) (state : KindState) (reader : Reader) (form : Form.the_data) (parts : Trees) → ((l : Lexeme) → form ≡ Form.Instance l → ⊥)
      → IsInstanceMade more text (means_of written) (implied_of written) walk.files walk.outsides words state reader (Node form (node_at written.tree.now node).span parts) reader []
  no-instance-made more text walk words state reader (Form.Instance l) parts none = absurd (none l refl)
  no-instance-made more text walk words state reader _ parts none = (refl, refl)

-- what is read alone changed
pub passed-on : (text : Text) (walk : Walk) (before rest : List UnitTree) (old : UnitFlattener) (next : ModuleReader) (reader : Reader) → IsWalking text walk before rest old reader
    → GoesOn old (record old { reader = next }) reader.setting.leads
passed-on text walk before rest old next reader at = record {
  files = refl;
  modules = refl;
  own = refl;
  frame = refl;
  round = refl;
  frames = keeps-itself old.state.frames.items;
  locals = refl;
  lead = ap (leading (leading_in old.leads)) (sym at.setting.lead);
  sound = at.sound;
  within = at.within;
}

-- a unit that brings nothing is passed
pub no-instance-walked : (written : Written) (node : ℕ) (local : Option Lexeme) (old : UnitFlattener) (next : ModuleReader) → node < length written.tree.now
    → ((l : Lexeme) → form_at written.tree.now node ≡ Form.Instance l → ⊥)
    → LeadsOn written.text.now (behind_unit written.text.now (Instance local (tree_at written.tree.now node))) old.reader next
    → Walks written (Instance local (tree_at written.tree.now node)) old (record old { reader = next })
no-instance-walked written node local old next there none reads = λ walk before rest reader at.
    let text = written.text.now in
    let nodes = written.tree.now in
    let new : UnitFlattener = record old { reader = next } in
    let unit : UnitTree = Instance local (tree_at nodes node) in
    let whole = tree_at-form nodes node there in
    record {
      next = reader;
      asked = [];
      at = goes text walk before rest unit old new reader reader.setting.leads at (passed-on text walk before (unit ∷ rest) old next reader at) tt reads;
      steps = steps-none old.state;
      holds = λ more extends.
          subst (λ x. IsInstanceMade more text (means_of written) (implied_of written) walk.files walk.outsides (over_in walk).words (state_at walk before) reader x reader []) (sym whole.1)
          (no-instance-made written node local old new more text walk (over_in walk).words (state_at walk before) reader (form_at nodes node) whole.0 none);
    }

-- ---- by the unit in code

-- the unit that is an INSTANCE is walked as its tree is
pub walked-as : (written : Written) (one : unit.the_data) (local : Option Lexeme) (node : ℕ) (old mid new : UnitFlattener) → one ≡ unit.Instance local node
    → (LeadsOn written.text.now (behind_unit written.text.now (Instance local (tree_at written.tree.now node))) mid.reader new.reader → Walks written (Instance local (tree_at written.tree.now node)) old new)
    → LeadsOn written.text.now (behind_unit written.text.now (unit_at written.tree.now one)) mid.reader new.reader → Walks written (unit_at written.tree.now one) old new
walked-as written one local node old mid new is walks =
    subst (λ u. LeadsOn written.text.now (behind_unit written.text.now (unit_at written.tree.now u)) mid.reader new.reader → Walks written (unit_at written.tree.now u) old new) (sym is) walks
