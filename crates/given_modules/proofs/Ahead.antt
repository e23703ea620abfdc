-- What is so of the symbols of nested modules at their ends is so of them from their beginnings on.
use Rattle.std.proofs.Common.{◌≡◌, ℕ, List, [], ◌∷◌, ◌++◌, Option, refl, sym, ap, subst, ◌∙◌, drop, length}
use Rattle.std.specs.List.{AllByRecursion}
use Rattle.std.proofs.Math.Seq.{drop-append_seam}
use Rattle.list_laws.proofs.Lists.{all-both}
use Rattle.tla_tree.specs.declared.form.Form.TheVariants as Form
use Rattle.tla_tree.specs.Syntax.{Tree, Node}
use Rattle.unit_grammar.specs.Units.{UnitTree, Variables, Constants, OperatorDefinition, FunctionDefinition, ModuleDefinition, Instance, Assumption, Theorem, Line, ModuleBegin, ModuleEnd, ModuleUnits}
use Rattle.tla_model.specs.Entities.{Meaning, Text}
use Rattle.module_model.specs.Modules.{Reading, text_of}
use Rattle.module_model.specs.Resolution.{words_of}
use Rattle.kind_text.specs.FlatModule.{FlatModule}
use Rattle.tree_kinds.specs.Standing.{Outside}
use Rattle.module_kinds.specs.ModuleKinds.{KindState, after, first, nested_outside, read_all}
use Rattle.flat_trees.specs.Instances.{symbols_of}
use Rattle.flattened_trees.specs.Leads.{FlatFace, Setting}
use Rattle.flattened_trees.specs.Questions.{Question}
use Rattle.flattened_units.specs.Units.{AreUnitsMade, IsEnded, IsUnitMade, Reader}
use Rattle.accepted_modules.specs.States.{kinds_behind}

-- it is so of the own symbols of each nested module round a place
abbrev pub AreOwnSo : (Meaning → Type 0) → List Meaning → List Setting → Type 0
AreOwnSo Q frame [] = Unit {0}
AreOwnSo Q frame (outer ∷ round) = AllByRecursion Q (drop (length outer.frame) frame) × AreOwnSo Q outer.frame round

-- it is so of all symbols at a reader
abbrev pub AreFramesSo : (Meaning → Type 0) → Reader → Type 0
AreFramesSo Q reader = AllByRecursion Q reader.setting.frame × AllByRecursion (λ (setting : Setting). AllByRecursion Q setting.frame) reader.round

module _ (outsides : List ℕ → Outside) (source : List ℕ) (units : ModuleUnits) where
  -- a state is that behind the units before, and these are those behind
  pub record IsAt (before behind : List UnitTree) (state : KindState) : Type 0 where
    pub split : units.units ≡ before ++ behind
    pub same : state ≡ kinds_behind outsides source units before

  append-kinds : (state : KindState) (a b : List UnitTree)
      → read_all (text_of source units) outsides (words_of units) state (a ++ b) ≡ read_all (text_of source units) outsides (words_of units) (read_all (text_of source units) outsides (words_of units) state a) b
  append-kinds state [] b = refl
  append-kinds state (unit ∷ a) b = append-kinds (after (text_of source units) outsides (words_of units) state unit) a b

  pub append-one : (a : List UnitTree) (unit : UnitTree) (b : List UnitTree) → a ++ unit ∷ b ≡ (a ++ unit ∷ []) ++ b
  append-one [] unit b = refl
  append-one (other ∷ a) unit b = ap (λ us. other ∷ us) (append-one a unit b)

  -- one unit further
  pub at-next : (before : List UnitTree) (unit : UnitTree) (behind : List UnitTree) (state : KindState) → IsAt before (unit ∷ behind) state → IsAt (before ++ unit ∷ []) behind (after (text_of source units) outsides (words_of units) state unit)
  at-next before unit behind state at = record {
    split = at.split ∙ append-one before unit behind;
    same =
        ap (λ (s : KindState). after (text_of source units) outsides (words_of units) s unit) at.same
        ∙ sym (append-kinds (first outsides source units) before (unit ∷ []));
  }

  pub at-first : IsAt [] units.units (first outsides source units)
  at-first = record { split = refl; same = refl }

module _ (flat : FlatModule) (text : Text) (means : ℕ → Option Meaning) (implied : ℕ → List Meaning) (files : List ℕ → FlatFace) (outsides : List ℕ → Outside) (words : List ℕ) (Q : Meaning → Type 0) where
  -- at a reader
  abbrev pub IsOwnAt : Reader → Type 0
  IsOwnAt reader = AreOwnSo Q reader.setting.frame reader.round

  pub own-before : (state : KindState) (reader : Reader) (unit : UnitTree) (next : Reader) (asked : List Question) → IsUnitMade flat text means implied files outsides words state reader unit next asked
      → AllByRecursion Q (symbols_of (nested_outside state state.read.place.round)) → IsOwnAt next → IsOwnAt reader
  own-before state reader (OperatorDefinition local x) next asked made ends is = subst IsOwnAt made.3 is
  own-before state reader (FunctionDefinition local x) next asked made ends is = subst IsOwnAt made.3 is
  own-before state reader (ModuleDefinition local x) next asked made ends is = subst IsOwnAt made.3 is
  own-before state reader (Instance local x) next asked made ends is = by x made
    where
      by : (x : Tree) → IsUnitMade flat text means implied files outsides words state reader (Instance local x) next asked → IsOwnAt reader
      by (Node (Form.Instance l) s rights) made = subst IsOwnAt made.7 is
      by (Node Form.Let s rights) made = subst IsOwnAt made.0 is
      by (Node _ s rights) made = subst IsOwnAt made.0 is
  own-before state reader (Assumption word name x) next asked made ends is = subst IsOwnAt made.3 is
  own-before state reader (Theorem word name x) next asked made ends is = subst IsOwnAt made.3 is
  own-before state reader (ModuleBegin dashes name extends) next asked made ends is = let inner = subst IsOwnAt made.0.2.1 is in inner.1
  own-before state reader (ModuleEnd closing) next asked made ends is = by state.read.place.round reader.round made.0 ends
    where
      by : (round : List Reading) (settings : List Setting) → IsEnded flat text means implied files outsides words state round reader settings next → AllByRecursion Q (symbols_of (nested_outside state round)) → AreOwnSo Q reader.setting.frame settings
      by [] settings made ends = absurd made
      by (outer ∷ round) [] made ends = absurd made
      by (outer ∷ round) (setting ∷ settings) made ends = (subst (AllByRecursion Q) made.0 ends, subst IsOwnAt made.1 is)
  own-before state reader (Variables names) next asked made ends is = subst IsOwnAt made.0 is
  own-before state reader (Constants declarations) next asked made ends is = subst IsOwnAt made.0 is
  own-before state reader (Line dashes) next asked made ends is = subst IsOwnAt made.0 is

module _ (flat : FlatModule) (text : Text) (means : ℕ → Option Meaning) (implied : ℕ → List Meaning) (files : List ℕ → FlatFace) (outsides : List ℕ → Outside) (words : List ℕ) (Q : Meaning → Type 0) where
  -- symbols behind a unit, by the own ones of a nested module
  pub frames-after : (state : KindState) (reader : Reader) (unit : UnitTree) (next : Reader) (asked : List Question) → IsUnitMade flat text means implied files outsides words state reader unit next asked
      → AreOwnSo Q next.setting.frame next.round → AreFramesSo Q reader → AreFramesSo Q next
  frames-after state reader (OperatorDefinition local x) next asked made own is = subst (AreFramesSo Q) (sym made.3) is
  frames-after state reader (FunctionDefinition local x) next asked made own is = subst (AreFramesSo Q) (sym made.3) is
  frames-after state reader (ModuleDefinition local x) next asked made own is = subst (AreFramesSo Q) (sym made.3) is
  frames-after state reader (Instance local x) next asked made own is = by x made
    where
      by : (x : Tree) → IsUnitMade flat text means implied files outsides words state reader (Instance local x) next asked → AreFramesSo Q next
      by (Node (Form.Instance l) s rights) made = subst (AreFramesSo Q) (sym made.7) is
      by (Node Form.Let s rights) made = subst (AreFramesSo Q) (sym made.0) is
      by (Node _ s rights) made = subst (AreFramesSo Q) (sym made.0) is
  frames-after state reader (Assumption word name x) next asked made own is = subst (AreFramesSo Q) (sym made.3) is
  frames-after state reader (Theorem word name x) next asked made own is = subst (AreFramesSo Q) (sym made.3) is
  frames-after state reader (ModuleBegin dashes name extends) next asked made own is =
      let symbols : List Meaning = made.0.0 in
      let inner : AreOwnSo Q (reader.setting.frame ++ symbols) (reader.setting ∷ reader.round) = subst (λ (r : Reader). AreOwnSo Q r.setting.frame r.round) made.0.2.1 own in
      subst (AreFramesSo Q) (sym made.0.2.1) (
        all-both Q reader.setting.frame symbols is.0 (subst (AllByRecursion Q) (drop-append_seam reader.setting.frame symbols) inner.0),
        is,
      )
  frames-after state reader (ModuleEnd closing) next asked made own is = by state.read.place.round reader.round made.0 is.1
    where
      by : (round : List Reading) (settings : List Setting) → IsEnded flat text means implied files outsides words state round reader settings next → AllByRecursion (λ (setting : Setting). AllByRecursion Q setting.frame) settings → AreFramesSo Q next
      by [] settings made all = absurd made
      by (outer ∷ round) [] made all = absurd made
      by (outer ∷ round) (setting ∷ settings) made all = subst (AreFramesSo Q) (sym made.1) all
  frames-after state reader (Variables names) next asked made own is = subst (AreFramesSo Q) (sym made.0) is
  frames-after state reader (Constants declarations) next asked made own is = subst (AreFramesSo Q) (sym made.0) is
  frames-after state reader (Line dashes) next asked made own is = subst (AreFramesSo Q) (sym made.0) is

module _ (flat : FlatModule) (means : ℕ → Option Meaning) (implied : ℕ → List Meaning) (files : List ℕ → FlatFace) (outsides : List ℕ → Outside) (source : List ℕ) (units : ModuleUnits) (Q : Meaning → Type 0) where
  -- what is so of symbols of nested modules at their ends is so at each reader before
  pub own-ahead : ((before behind : List UnitTree) → units.units ≡ before ++ behind → AllByRecursion Q (symbols_of (nested_outside (kinds_behind outsides source units before) (kinds_behind outsides source units before).read.place.round)))
      → (before behind : List UnitTree) (state : KindState) (reader next : Reader) (asked : List Question) → IsAt outsides source units before behind state
      → AreUnitsMade flat (text_of source units) means implied files outsides (words_of units) state reader behind next asked → next.round ≡ []
      → AreOwnSo Q reader.setting.frame reader.round
  own-ahead ends before [] state reader next asked at made none =
      subst (λ (round : List Setting). AreOwnSo Q reader.setting.frame round) (sym (ap (λ (r : Reader). r.round) (sym made.0) ∙ none)) tt
  own-ahead ends before (unit ∷ behind) state reader next asked at made none =
      own-before flat (text_of source units) means implied files outsides (words_of units) Q state reader unit made.0 made.1 made.3
      (subst (λ (s : KindState). AllByRecursion Q (symbols_of (nested_outside s s.read.place.round))) (sym at.same) (ends before (unit ∷ behind) at.split))
      (own-ahead ends (before ++ unit ∷ []) behind (after (text_of source units) outsides (words_of units) state unit) made.0 next made.2 (at-next outsides source units before unit behind state at) made.4 none)

  -- so is what is so of all symbols at a unit behind it
  pub frames-next : ((before behind : List UnitTree) → units.units ≡ before ++ behind → AllByRecursion Q (symbols_of (nested_outside (kinds_behind outsides source units before) (kinds_behind outsides source units before).read.place.round)))
      → (before behind : List UnitTree) (unit : UnitTree) (state : KindState) (reader mid next : Reader) (a b : List Question) → IsAt outsides source units before (unit ∷ behind) state
      → IsUnitMade flat (text_of source units) means implied files outsides (words_of units) state reader unit mid a
      → AreUnitsMade flat (text_of source units) means implied files outsides (words_of units) (after (text_of source units) outsides (words_of units) state unit) mid behind next b → next.round ≡ []
      → AreFramesSo Q reader → AreFramesSo Q mid
  frames-next ends before behind unit state reader mid next a b at one made none is =
      frames-after flat (text_of source units) means implied files outsides (words_of units) Q state reader unit mid a one
      (own-ahead ends (before ++ unit ∷ []) behind (after (text_of source units) outsides (words_of units) state unit) mid next b (at-next outsides source units before unit behind state at) made none) is
