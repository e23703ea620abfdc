-- Instances through which modules come that are extended, one after another, and where names lead that these bring.
use Rattle.std.proofs.Common.{◌≡◌, ℕ, ◌+◌, ◌<◌, List, [], ◌∷◌, ◌++◌, refl, sym, ap, subst, ◌∙◌, arith, get_or, length, take}
use Rattle.std.proofs.lemmas.List.{length-take-le, take_more}
use Rattle.list_laws.proofs.Lists.{all-both, all-left, all-right, all-weaker}
use Rattle.tla_symbols.specs.declared.lexeme.Lexeme.{Lexeme}
use Rattle.unit_grammar.specs.Units.{UnitTree}
use Rattle.tla_model.specs.Entities.{Text}
use Rattle.tla_model.specs.Lexemes.{spelled}
use Rattle.kind_text.specs.FlatModule.{Extends, FlatModule, UsesInstance}
use Rattle.flattened_trees.specs.Leads.{FlatFace, Leads, Setting}
use Rattle.flattened_units.specs.Units.{AreExtended, IsExtension, Reader, with_brought}
use Rattle.tree_flattener.specs.declared.state.Flattening.{Flattening}
use Rattle.tree_flattener.specs.declared.written.Written.{Written}
use Rattle.tree_flattener.specs.Steps.{Steps}
use Rattle.tree_flattener.specs.Worlds.{World, implied_of, means_of, setting_of}
use Rattle.tree_flattener.proofs.Stepping.{extends-on, length-both, same-setting, steps-on}
use Rattle.tree_flattener.proofs.Within.{instance-on}
use Rattle.module_leads.specs.Leading.{leading_in}
use Rattle.module_leads.specs.Ways.{face_at}
use Rattle.unit_flattener.specs.Changes.{ChangesLeads, ChangesState}
use Rattle.unit_flattener.specs.Walked.{AreExtensions, Brings, BringsAll, ExtendsAll, IsExtended, MakesExtensions, brought_leads, brought_of, leading_with, walk_face}
use Rattle.unit_flattener.specs.Walking.{IsWalking, IsWithinUnits, Walk, face_number, over_in, state_at, world_at}
use Rattle.unit_flattener.specs.declared.flattener.UnitFlattener.{UnitFlattener}
use Rattle.unit_flattener.proofs.GrowingState.{grown-stays, world-same}
use Rattle.unit_flattener.proofs.Places.{faces-here, setting-here}

-- ---- instances

module _ (m : FlatModule) (setting : Setting) (faces : Lexeme → FlatFace) where
  extensions-more : (names : List Lexeme) (instances : List ℕ) (l : Lexeme) (j : ℕ) → AreExtensions m setting faces names instances → IsExtension m setting (faces l) j
      → AreExtensions m setting faces (names ++ l ∷ []) (instances ++ j ∷ [])
  extensions-more [] [] l j are one = (one, tt)
  extensions-more [] (x ∷ instances) l j are one = absurd are
  extensions-more (n ∷ names) [] l j are one = absurd are
  extensions-more (n ∷ names) (x ∷ instances) l j are one = (are.0, extensions-more names instances l j are.1 one)

-- one more is made
pub extensions-on : (written : Written) (old mid new : UnitFlattener) (names : List Lexeme) (instances : List ℕ) (l : Lexeme) (j : ℕ) → old.frame < length old.state.frames.items
    → MakesExtensions (world_at written old) old mid names instances → ChangesState old mid
    → IsExtended mid.state new.state (setting_of (world_at written mid) mid.state mid.frame []) (face_at (leading_in mid.leads).faces (face_number mid (spelled written.text.now.source l))) j
    → MakesExtensions (world_at written old) old new (names ++ l ∷ []) (instances ++ j ∷ [])
extensions-on written old mid new names instances l j there made changes one =
    let w = world_at written old in
    let world : world_at written mid ≡ w = world-same written old mid changes in
    let name = spelled written.text.now.source l in
    let setting : setting_of (world_at written mid) mid.state mid.frame [] ≡ setting_of w old.state old.frame [] =
    (λ i. setting_of (world i) mid.state (changes.place.frame i) []) ∙ same-setting w old.state mid.state old.frame [] made.steps.frames made.locals there
    in
    let face : face_at (leading_in mid.leads).faces (face_number mid name) ≡ w.faces name = ap (λ (z : World). z.faces name) world in
    record {
      steps = steps-on old.state mid.state new.state [] [] made.steps one.steps;
      locals = one.locals ∙ made.locals;
      each = length-both instances (j ∷ []) ∙ ap (λ n. n + 1) made.each ∙ sym (length-both names (l ∷ []));
      there = all-both (UsesInstance new.state.flat (length new.state.flat.nodes)) instances (j ∷ [])
          (all-weaker (UsesInstance mid.state.flat (length mid.state.flat.nodes)) (UsesInstance new.state.flat (length new.state.flat.nodes)) (instance-on mid.state.flat new.state.flat one.steps.extends) instances made.there)
          (one.there, tt);
      holds = λ more extends.
          extensions-more more (setting_of w old.state old.frame []) (λ n. w.faces (spelled w.text.source n)) names instances l j
          (made.holds more (extends-on mid.state.flat new.state.flat more one.steps.extends extends))
          (subst (λ z. IsExtension more z (w.faces name) j) setting
          (subst (λ f. IsExtension more (setting_of (world_at written mid) mid.state mid.frame []) f j) face (one.holds more extends)));
    }

-- the next one of some modules is
pub extensions-next : (written : Written) (old mid new : UnitFlattener) (names : List Lexeme) (i : ℕ) (d : Lexeme) (instances after : List ℕ) (j : ℕ) → i < length names → old.frame < length old.state.frames.items
    → MakesExtensions (world_at written old) old mid (take i names) instances → ChangesState old mid
    → IsExtended mid.state new.state (setting_of (world_at written mid) mid.state mid.frame []) (face_at (leading_in mid.leads).faces (face_number mid (spelled written.text.now.source (get_or names i d)))) j
    → after ≡ instances ++ j ∷ [] → MakesExtensions (world_at written old) old new (take (i + 1) names) after
extensions-next written old mid new names i d instances after j here there made changes one pushed =
    subst (MakesExtensions (world_at written old) old new (take (i + 1) names)) (sym pushed)
    (subst (λ ns. MakesExtensions (world_at written old) old new ns (instances ++ j ∷ [])) (sym (take_more names i d here))
    (extensions-on written old mid new (take i names) instances (get_or names i d) j there made changes one))

-- ---- names that they bring

module _ (text : Text) (walk : Walk) (before : List UnitTree) (reader : Reader) where
  brought-more : (leads : Leads) (names : List Lexeme) (instances : List ℕ) (l : Lexeme) (j : ℕ) → length instances ≡ length names
      → brought_leads text walk before reader leads (names ++ l ∷ []) (instances ++ j ∷ [])
      ≡ with_brought (brought_leads text walk before reader leads names instances) (brought_of text walk before l) j (walk_face text walk reader l)
  brought-more leads [] [] l j each = refl
  brought-more leads [] (x ∷ instances) l j each = absurd (let no : ⊥ = cc in no)
  brought-more leads (n ∷ names) [] l j each = absurd (let no : ⊥ = cc in no)
  brought-more leads (n ∷ names) (x ∷ instances) l j each =
      let rest : length instances ≡ length names = cc in
      brought-more (with_brought leads (brought_of text walk before n) x (walk_face text walk reader n)) names instances l j rest

-- one more brings names
pub brings-on : (written : Written) (old mid new : UnitFlattener) (names : List Lexeme) (instances : List ℕ) (l : Lexeme) (j : ℕ) → length instances ≡ length names
    → BringsAll written old mid names instances → ChangesLeads old mid → Brings written mid new l j
    → BringsAll written old new (names ++ l ∷ []) (instances ++ j ∷ [])
brings-on written old mid new names instances l j each all changes one = λ walk before rest reader at used.
    let text = written.text.now in
    let leads = brought_leads text walk before reader reader.setting.leads names instances in
    let P = UsesInstance old.state.flat (length old.state.flat.nodes) in
    let last : P j = (all-right P instances (j ∷ []) used).0 in
    subst (λ z. IsWalking text walk before rest new (leading_with reader z)) (sym (brought-more text walk before reader reader.setting.leads names instances l j each))
    (one walk before rest (leading_with reader leads) (all walk before rest reader at (all-left P instances (j ∷ []) used))
    (subst (λ (s : Flattening). UsesInstance s.flat (length s.flat.nodes) j) (sym changes.state) last))

-- the next one of some modules does
pub brings-next : (written : Written) (old mid new : UnitFlattener) (names : List Lexeme) (instances : List ℕ) (i : ℕ) (d : Lexeme) → i < length names → length instances ≡ length names
    → BringsAll written old mid (take i names) (take i instances) → ChangesLeads old mid → Brings written mid new (get_or names i d) (get_or instances i 0)
    → BringsAll written old new (take (i + 1) names) (take (i + 1) instances)
brings-next written old mid new names instances i d here each all changes one =
    let before_names : length (take i names) ≡ i = length-take-le i names (omega arith) in
    let before_instances : length (take i instances) ≡ i = length-take-le i instances (omega arith) in
    let within : i < length instances = omega arith in
    subst (λ ns. BringsAll written old new ns (take (i + 1) instances)) (sym (take_more names i d here))
    (subst (BringsAll written old new (take i names ++ get_or names i d ∷ [])) (sym (take_more instances i 0 within))
    (brings-on written old mid new (take i names) (take i instances) (get_or names i d) (get_or instances i 0) (before_instances ∙ sym before_names) all changes one))

-- ---- both

module _ (written : Written) (walk : Walk) (before : List UnitTree) (reader : Reader) (more : FlatModule) where
  extended-all : (leads : Leads) (names : List Lexeme) (instances : List ℕ) → AreExtensions more reader.setting (λ l. walk_face written.text.now walk reader l) names instances
      → AreExtended more written.text.now (means_of written) (implied_of written) walk.files walk.outsides (over_in walk).words (state_at walk before).modules reader.faces reader.setting leads names
      (brought_leads written.text.now walk before reader leads names instances)
  extended-all leads [] [] are = refl
  extended-all leads [] (j ∷ instances) are = absurd are
  extended-all leads (l ∷ names) [] are = absurd are
  extended-all leads (l ∷ names) (j ∷ instances) are =
      (j, are.0, extended-all (with_brought leads (brought_of written.text.now walk before l) j (walk_face written.text.now walk reader l)) names instances are.1)

-- all are extended, by their instances and the names that they bring
pub all-extended : (written : Written) (old mid new : UnitFlattener) (names : List Lexeme) (instances : List ℕ) → MakesExtensions (world_at written old) old mid names instances → ChangesState old mid
    → BringsAll written mid new names instances → ChangesLeads mid new → ExtendsAll written names old new
all-extended written old mid new names instances made changes brings others = λ walk before rest reader at.
    let text = written.text.now in
    record {
      leads = brought_leads text walk before reader reader.setting.leads names instances;
      at = brings walk before rest reader (grown-stays text walk before rest old mid reader at [] changes made.steps made.locals) made.there;
      steps = subst (λ s. Steps old.state s []) (sym others.state) made.steps;
      holds = λ more extends.
          extended-all written walk before reader more reader.setting.leads names instances
          (subst (λ setting. AreExtensions more setting (λ l. walk_face text walk reader l) names instances) (setting-here written walk before rest old reader at)
          (subst (λ (faces : List ℕ → FlatFace). AreExtensions more (setting_of (world_at written old) old.state old.frame []) (λ l. faces (spelled text.source l)) names instances) (faces-here written walk before rest old reader at more)
          (made.holds more (subst (λ (s : Flattening). Extends s.flat more) others.state extends))));
    }

-- and code walks somewhere still
pub within-extended : (written : Written) (old new : UnitFlattener) (names : List Lexeme) → IsWithinUnits written.text.now old → ExtendsAll written names old new → IsWithinUnits written.text.now new
within-extended written old new names within extends =
    let brought = extends within.before.walk within.before.before within.rest within.before.reader within.before.at in
    record {
      rest = within.rest;
      before = record {
        walk = within.before.walk;
        before = within.before.before;
        reader = leading_with within.before.reader brought.leads;
        at = brought.at;
      };
    }
