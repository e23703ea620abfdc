-- The names of trees are new along the units of a module.
use Rattle.std.proofs.Common.{◌≡◌, ℕ, List, [], ◌∷◌, ◌++◌, Option, refl, sym, subst}
use Rattle.std.specs.List.{AllByRecursion}
use Rattle.list_laws.proofs.Lists.{all-both}
use Rattle.tla_symbols.specs.declared.lexeme.Lexeme.{Lexeme}
use Rattle.tla_tree.specs.declared.form.Form.TheVariants as Form
use Rattle.tla_tree.specs.Syntax.{Tree, Node, Nil, Cons}
use Rattle.unit_grammar.specs.Units.{UnitTree, Variables, Constants, OperatorDefinition, FunctionDefinition, ModuleDefinition, Instance, Assumption, Theorem, Line, ModuleBegin, ModuleEnd, ModuleUnits}
use Rattle.tla_model.specs.declared.names.Binder.{Binder}
use Rattle.tla_model.specs.Entities.{Meaning, Text, declared_by, declaring, variables}
use Rattle.tla_model.specs.Lexemes.{spelled}
use Rattle.module_scope.specs.Environments.{begun, first as first_scope}
use Rattle.module_model.specs.Exports.{exported}
use Rattle.module_model.specs.Instances.{unit_trees}
use Rattle.module_model.specs.Modules.{constants, text_of}
use Rattle.module_model.specs.NamedModules.{unit_of, view_of}
use Rattle.module_model.specs.Resolution.{module_named, words_of}
use Rattle.kind_text.specs.FlatModule.{FlatModule}
use Rattle.tree_kinds.specs.Standing.{Outside}
use Rattle.module_kinds.specs.ModuleKinds.{KindState, after, first, named_in, outside, views}
use Rattle.flat_trees.specs.Instances.{symbols_of}
use Rattle.flattened_trees.specs.Agreeing.{IsFresh}
use Rattle.flattened_trees.specs.Leads.{FlatFace, Setting}
use Rattle.flattened_trees.specs.Questions.{Question}
use Rattle.flattened_units.specs.Units.{AreUnitsMade, IsModuleMade, IsUnitMade, Reader, meanings_of}
use Rattle.module_meanings.specs.Premises.{extended_meanings, first_seen, seen_behind}
use Rattle.accepted_modules.specs.Behind.{IsForeignView}
use Rattle.fresh_names.specs.Seen.{IsElsewhere, brought_by, symbols_in}
use Rattle.fresh_names.proofs.Brought.{instance-elsewhere, modules-elsewhere}
use Rattle.fresh_names.proofs.First.{extended-elsewhere}
use Rattle.fresh_names.proofs.Kept.{Within, all-wider, joined, kept, left, right, symbols-within}
use Rattle.given_modules.specs.Fresh.{AreTreesFresh, AreUnitsFresh, IsModuleFresh}
use Rattle.given_modules.proofs.Ahead.{AreFramesSo, IsAt, at-first, at-next, frames-next}
use Rattle.given_modules.proofs.Elsewhere.{ended-symbols, files-elsewhere, module-symbols, nested-elsewhere, view-elsewhere}

module _ (text : Text) where
  more : (unit : UnitTree) (a b : List UnitTree) → Within text (declaring a ++ symbols_in b) (declaring (unit ∷ a) ++ symbols_in b)
  more unit a b =
      joined text (declaring a) (symbols_in b) (declaring (unit ∷ a) ++ symbols_in b)
      (λ d one. left text (declaring (unit ∷ a)) (symbols_in b) d (right text (declared_by unit) (declaring a) d one))
      (λ d other. right text (declaring (unit ∷ a)) (symbols_in b) d other)

  -- symbols of units are declared before, or are symbols of those behind
  pub symbols-parts : (a b : List UnitTree) → Within text (symbols_in (a ++ b)) (declaring a ++ symbols_in b)
  symbols-parts [] b decl declared = declared
  symbols-parts (Variables names ∷ a) b decl declared =
      joined text (variables names) (symbols_in (a ++ b)) (declaring (Variables names ∷ a) ++ symbols_in b)
      (λ d one. left text (variables names ++ declaring a) (symbols_in b) d (left text (variables names) (declaring a) d one))
      (λ d other. more (Variables names) a b d (symbols-parts a b d other)) decl declared
  symbols-parts (Constants declarations ∷ a) b decl declared =
      joined text (constants declarations) (symbols_in (a ++ b)) (declaring (Constants declarations ∷ a) ++ symbols_in b)
      (λ d one.
      left text (declaring (Constants declarations ∷ a)) (symbols_in b) d
      (symbols-within text (Constants declarations ∷ a) d (left text (constants declarations) (symbols_in a) d one)))
      (λ d other. more (Constants declarations) a b d (symbols-parts a b d other)) decl declared
  symbols-parts (unit ∷ a) b decl declared = more unit a b decl (symbols-parts a b decl declared)

-- names of the tree of a unit are new where all that was seen comes from elsewhere
abbrev pub AreNewThere : List ℕ → ModuleUnits → Type 0
AreNewThere source units =
    (before behind : List UnitTree) (unit : UnitTree) (x : Tree) (seen : List Meaning) → units.units ≡ before ++ unit ∷ behind → unit_trees unit ≡ Cons x Nil
    → AllByRecursion (IsElsewhere (text_of source units) (declaring before ++ symbols_in (unit ∷ behind))) seen → IsFresh (text_of source units) seen x

module _ (flat : FlatModule) (means : ℕ → Option Meaning) (implied : ℕ → List Meaning) (files : List ℕ → FlatFace) (outsides : List ℕ → Outside) (source : List ℕ) (units : ModuleUnits) (foreign : (name : List ℕ) → IsForeignView (text_of source units).file (outsides name).view) where
  abbrev text : Text
  text = text_of source units

  abbrev words : List ℕ
  words = words_of units

  -- a meaning is of none but of units and files
  abbrev Comes : Meaning → Type 0
  Comes m = IsElsewhere text (symbols_in units.units) m

  -- what was seen at a unit comes from elsewhere, and so do all symbols there
  pub record IsSeenSo (before behind : List UnitTree) (state : KindState) (reader : Reader) (seen : List Meaning) : Type 0 where
    pub at : IsAt outsides source units before behind state
    pub seen_so : AllByRecursion (IsElsewhere text (declaring before ++ symbols_in behind)) seen
    pub frames : AreFramesSo Comes reader

  -- symbols at a unit are elsewhere
  symbols-wide : (before behind : List UnitTree) → units.units ≡ before ++ behind → (ms : List Meaning) → AllByRecursion Comes ms → AllByRecursion (IsElsewhere text (declaring before ++ symbols_in behind)) ms
  symbols-wide before behind split ms all =
      all-wider text (symbols_in units.units) (declaring before ++ symbols_in behind)
      (subst (λ (us : List UnitTree). Within text (symbols_in us) (declaring before ++ symbols_in behind)) (sym split) (symbols-parts text before behind)) ms all

  -- what a unit brings is elsewhere, by the symbols behind it
  brought-so : (before behind : List UnitTree) (unit : UnitTree) (state : KindState) (next : Reader) → IsAt outsides source units before (unit ∷ behind) state → AllByRecursion Comes next.setting.frame
      → AllByRecursion (IsElsewhere text (declaring before ++ symbols_in (unit ∷ behind))) (brought_by text outsides words state unit next)
  brought-so before behind (Instance local (Node (Form.Instance l) s parts)) state next at frame =
      let unit : UnitTree = Instance local (Node (Form.Instance l) s parts) in
      let others : List Binder = declaring before ++ symbols_in (unit ∷ behind) in
      let view = view_of text (module_named text (views text outsides words) words state.read) l in
      instance-elsewhere text others (unit_of text words l) view.parameters (exported view)
      (all-wider text (declaring before) others (left text (declaring before) (symbols_in (unit ∷ behind))) (meanings_of (exported view))
      (subst (λ (s : KindState). AllByRecursion (IsElsewhere text (declaring before)) (meanings_of (exported (module_named text (views text outsides words) words s.read (spelled text.source l))))) (sym at.same)
      (view-elsewhere outsides source units foreign before (spelled text.source l))))
  brought-so before behind (Instance local (Node Form.Let s parts)) state next at frame = tt
  brought-so before behind (Instance local (Node _ s parts)) state next at frame = tt
  brought-so before behind (ModuleBegin dashes name extends) state next at frame =
      let unit : UnitTree = ModuleBegin dashes name extends in
      let others : List Binder = declaring before ++ symbols_in (unit ∷ behind) in
      all-both (IsElsewhere text others) next.setting.frame (extended_meanings text outsides words (begun state.modules (spelled text.source name)) extends)
      (symbols-wide before (unit ∷ behind) at.split next.setting.frame frame)
      (modules-elsewhere text others outsides words (begun state.modules (spelled text.source name)) extends (each others (left text (declaring before) (symbols_in (unit ∷ behind))) extends))
    where
      each : (others : List Binder) → Within text (declaring before) others → (ls : List Lexeme)
          → AllByRecursion (λ l. AllByRecursion (IsElsewhere text others) (meanings_of (exported (named_in text outsides words (begun state.modules (spelled text.source name)) (spelled text.source l)).view))) ls
      each others among [] = tt
      each others among (l ∷ ls) = (
        all-wider text (declaring before) others among (meanings_of (exported (named_in text outsides words (begun state.modules (spelled text.source name)) (spelled text.source l)).view))
            (subst (λ (s : KindState). AllByRecursion (IsElsewhere text (declaring before)) (meanings_of (exported (named_in text outsides words (begun s.modules (spelled text.source name)) (spelled text.source l)).view))) (sym at.same)
            (nested-elsewhere outsides source units foreign before (spelled text.source name) (spelled text.source l))),
        each others among ls,
      )
  brought-so before behind unit state next at frame = tt

  -- one unit further
  pub seen-next : (before behind : List UnitTree) (unit : UnitTree) (state : KindState) (reader : Reader) (seen : List Meaning) (mid next : Reader) (a b : List Question) → IsSeenSo before (unit ∷ behind) state reader seen
      → IsUnitMade flat text means implied files outsides words state reader unit mid a → AreUnitsMade flat text means implied files outsides words (after text outsides words state unit) mid behind next b → next.round ≡ []
      → IsSeenSo (before ++ unit ∷ []) behind (after text outsides words state unit) mid (seen_behind text outsides words state unit mid seen)
  seen-next before behind unit state reader seen mid next a b is one made none =
      let there = at-next outsides source units before unit behind state is.at in
      let frames : AreFramesSo Comes mid = frames-next flat means implied files outsides source units Comes (ended-symbols outsides source units foreign) before behind unit state reader mid next a b is.at one made none is.frames in
      record {
        at = there;
        seen_so = kept text outsides words state before behind unit mid seen is.seen_so (brought-so before behind unit state mid is.at frames.0);
        frames = frames;
      }

  -- before the first unit
  pub seen-first : (symbols : List Meaning) (reader : Reader) → symbols ≡ symbols_of (outside outsides source units) → reader.setting.frame ≡ symbols → reader.round ≡ [] → IsSeenSo [] units.units (first outsides source units) reader (first_seen flat means implied files outsides source units symbols)
  seen-first symbols reader same frame round =
      let own : AllByRecursion Comes symbols = subst (AllByRecursion Comes) (sym same) (module-symbols outsides source units foreign) in
      record {
        at = at-first outsides source units;
        seen_so = (
          tt,
          all-both Comes symbols (extended_meanings text outsides words (first_scope text.file) units.extends) own
              (extended-elsewhere text outsides words (symbols_in units.units) (files-elsewhere outsides source units foreign) units.extends),
        );
        frames = (
          subst (AllByRecursion Comes) (sym frame) own,
          subst (λ (settings : List Setting). AllByRecursion (λ (setting : Setting). AllByRecursion Comes setting.frame) settings) (sym round) tt,
        );
      }

  module _ (new : AreNewThere source units) where
    -- the tree of a unit
    pub tree-fresh : (before behind : List UnitTree) (unit : UnitTree) (state : KindState) (reader : Reader) (seen : List Meaning) (x : Tree) → IsSeenSo before (unit ∷ behind) state reader seen → unit_trees unit ≡ Cons x Nil → IsFresh text seen x
    tree-fresh before behind unit state reader seen x is tree = new before behind unit x seen is.at.split tree is.seen_so

    trees-fresh : (before behind : List UnitTree) (unit : UnitTree) (state : KindState) (reader : Reader) (seen : List Meaning) → IsSeenSo before (unit ∷ behind) state reader seen → AreTreesFresh text seen (unit_trees unit)
    trees-fresh before behind (OperatorDefinition local x) state reader seen is = (tree-fresh before behind (OperatorDefinition local x) state reader seen x is refl, tt)
    trees-fresh before behind (FunctionDefinition local x) state reader seen is = (tree-fresh before behind (FunctionDefinition local x) state reader seen x is refl, tt)
    trees-fresh before behind (ModuleDefinition local x) state reader seen is = (tree-fresh before behind (ModuleDefinition local x) state reader seen x is refl, tt)
    trees-fresh before behind (Instance local x) state reader seen is = (tree-fresh before behind (Instance local x) state reader seen x is refl, tt)
    trees-fresh before behind (Assumption word name x) state reader seen is = (tree-fresh before behind (Assumption word name x) state reader seen x is refl, tt)
    trees-fresh before behind (Theorem word name x) state reader seen is = (tree-fresh before behind (Theorem word name x) state reader seen x is refl, tt)
    trees-fresh before behind (Variables names) state reader seen is = tt
    trees-fresh before behind (Constants declarations) state reader seen is = tt
    trees-fresh before behind (Line dashes) state reader seen is = tt
    trees-fresh before behind (ModuleBegin dashes name extends) state reader seen is = tt
    trees-fresh before behind (ModuleEnd closing) state reader seen is = tt

    units-fresh : (before behind : List UnitTree) (state : KindState) (reader : Reader) (seen : List Meaning) (next : Reader) (asked : List Question) (made : AreUnitsMade flat text means implied files outsides words state reader behind next asked) → next.round ≡ []
        → IsSeenSo before behind state reader seen → AreUnitsFresh flat text means implied files outsides words state reader seen behind next asked made
    units-fresh before [] state reader seen next asked made none is = tt
    units-fresh before (unit ∷ behind) state reader seen next asked made none is = (
      trees-fresh before behind unit state reader seen is,
      units-fresh (before ++ unit ∷ []) behind (after text outsides words state unit) made.0 (seen_behind text outsides words state unit made.0 seen) next made.2 made.4 none
          (seen-next before behind unit state reader seen made.0 next made.1 made.2 is made.3 made.4 none),
    )

    pub module-fresh : (symbols : List Meaning) (final : Reader) (asked : List Question) (made : IsModuleMade flat means implied files outsides source units symbols final asked) → symbols ≡ symbols_of (outside outsides source units) → final.round ≡ []
        → IsModuleFresh flat means implied files outsides source units symbols final asked made
    module-fresh symbols final asked made same none =
        let reader : Reader = record { setting = record { leads = made.0; frame = symbols; olds = [] }; round = []; faces = first_scope text.file } in
        units-fresh [] units.units (first outsides source units) reader (first_seen flat means implied files outsides source units symbols) final asked made.2 none (seen-first symbols reader same refl refl)
