-- The units of a module, read one after another into a flat module.
use Rattle.std.proofs.Common.{◌≡◌, ℕ, Bool, List, [], ◌∷◌, ◌++◌, Option, Some, None, refl, sym, ap, subst, length}
use Rattle.tla_symbols.specs.declared.lexeme.Lexeme.{Lexeme}
use Rattle.tla_tree.specs.Syntax.{Tree}
use Rattle.unit_grammar.specs.Units.{UnitTree, Variables, Constants, OperatorDefinition, FunctionDefinition, ModuleDefinition, Instance, Assumption, Theorem, Line, ModuleBegin, ModuleEnd}
use Rattle.tla_model.specs.Entities.{Meaning, Text}
use Rattle.tla_model.specs.Lexemes.{spelled}
use Rattle.module_scope.specs.Environments.{Scope}
use Rattle.module_model.specs.Exports.{ModuleView, entry_of, exports_of}
use Rattle.kind_text.specs.FlatModule.{FlatModule}
use Rattle.kind_text.specs.Expansion.{items as items_at, text as text_at}
use Rattle.kind_text.specs.Substitution.{Item, texts}
use Rattle.tree_kinds.specs.Standing.{Environment, Outside, Value, value_in, with_entries}
use Rattle.tree_kinds.specs.Expanding.{defined_value}
use Rattle.module_kinds.specs.ModuleKinds.{KindState, after, around, extended, known_at, named, named_in, outside_by, standing_behind, with_definition}
use Rattle.flat_trees.specs.Stands.{AreStanding, IsStanding, Stand}
use Rattle.flat_trees.specs.Layouts.{Agrees, Layout, with_brought}
use Rattle.flat_trees.specs.Instances.{IsModule}
use Rattle.flat_trees.proofs.Agreeing.{behind-agrees}
use Rattle.flat_trees.proofs.Instances.{extended-stand}
use Rattle.flat_kinds.specs.Readings.{AreExtensions, Extension, IsDefinitionRead, IsUnitRead, KeepsState, exported_stand, extended_entries, extended_stands, layout_after, layout_as, stand_in}

module _ (flat : FlatModule) where
  -- what a state stands for outside of its module
  pub state-exported : (symbols : Meaning → Stand) (layout : Layout) (state : KindState) (view : ModuleView) (constant : Bool) → KeepsState flat symbols layout state → IsModule flat symbols layout.places (exported_stand layout.stands (exports_of state.read.place.here.exports)) (outside_by view constant state)
  state-exported symbols layout state view constant keeps frame parameters room stands name =
      by_found (entry_of (exports_of state.read.place.here.exports) name)
    where
      by_found : (found : Option Meaning) → IsStanding flat frame [] (stand_in layout.stands found) (λ arguments path. value_in (state.standing parameters) found arguments path)
      by_found None = tt
      by_found (Some meaning) = keeps.standing frame parameters room stands meaning

  module _ (text : Text) (files : List ℕ → Outside) (words : List ℕ) where
    pub extensions-stand : (layout : Layout) (here : Meaning → Stand) (modules : Scope Outside) (ls : List Lexeme) (es : List Extension) (stands : Meaning → Stand) (frame : List Item) (standing parameters : Environment) → AreExtensions text files words flat layout here modules ls es → length frame ≡ layout.places → AreStanding flat frame here parameters → AreStanding flat frame stands standing → AreStanding flat frame (extended_stands text files words modules stands ls es) (extended text files words modules parameters standing ls)
    extensions-stand layout here modules [] [] stands frame standing parameters all room symbols others = others
    extensions-stand layout here modules [] (e ∷ es) stands frame standing parameters all room symbols others = absurd all
    extensions-stand layout here modules (l ∷ ls) [] stands frame standing parameters all room symbols others = absurd all
    extensions-stand layout here modules (l ∷ ls) (e ∷ es) stands frame standing parameters all room symbols others =
        let outside = named_in text files words modules (spelled text.source l) in
        let entries = extended_entries text files words modules l in
        extensions-stand layout here modules ls es (with_brought stands entries e.number e.inner) frame (with_entries standing entries (outside.standing parameters)) parameters all.1 room symbols
        (extended-stand flat (layout_as layout layout.context stands) frame standing parameters e.number e.instance outside e.symbols here e.places e.inner entries
        (record { there = all.0.made.there; outer = all.0.made.outer; parameters = all.0.made.parameters; guards = all.0.made.guards }) all.0.many all.0.kept all.0.stays room symbols others)

    module _ (symbols : Meaning → Stand) (state : KindState) (layout : Layout) (keeps : KeepsState flat symbols layout state) where
      -- a frame agrees with what stands round the expressions of a unit
      pub state-agrees : (frame : List Item) (parameters : Environment) → length frame ≡ layout.places → AreStanding flat frame symbols parameters → Agrees flat layout frame (around text files words state parameters)
      state-agrees frame parameters room stands =
          record {
            context = keeps.context;
            places = room;
            standing = keeps.standing frame parameters room stands;
            old = λ more. ap (λ is. texts (items_at (text_at flat) is (frame ++ more))) keeps.olds;
          }

      definition-read : (unit : UnitTree) (x : Tree) (next : Meaning → Stand) → IsDefinitionRead text files words flat state layout unit x next → (frame : List Item) (parameters : Environment) → length frame ≡ layout.places → AreStanding flat frame symbols parameters → AreStanding flat frame next (with_definition text files words state unit x parameters)
      definition-read unit x next (stand, stands, same) frame parameters room symbols-stand =
          let surrounding = around text files words state parameters in
          let known = known_at text files words state unit in
          let modules = named text files words state in
          let agrees = state-agrees frame parameters room symbols-stand in
          let value : Value = defined_value text known modules surrounding x in
          subst (λ n. AreStanding flat frame n (with_definition text files words state unit x parameters)) (sym same)
          (behind-agrees flat text known modules layout frame surrounding agrees x stand value (stands frame surrounding agrees)).standing

      unit-read : (unit : UnitTree) (next : Meaning → Stand) → IsUnitRead text files words flat state layout unit next → (frame : List Item) (parameters : Environment) → length frame ≡ layout.places → AreStanding flat frame symbols parameters → AreStanding flat frame next (standing_behind text files words state unit parameters)
      unit-read (OperatorDefinition local x) next read = definition-read (OperatorDefinition local x) x next read
      unit-read (FunctionDefinition local x) next read = definition-read (FunctionDefinition local x) x next read
      unit-read (ModuleDefinition local x) next read = definition-read (ModuleDefinition local x) x next read
      unit-read (Instance local x) next read = λ frame parameters room stands. read frame (around text files words state parameters) (state-agrees frame parameters room stands)
      unit-read (ModuleBegin dashes name extends) next read = absurd read
      unit-read (ModuleEnd closing) next read = absurd read
      unit-read (Variables names) next read = λ frame parameters room stands. subst (λ n. AreStanding flat frame n (state.standing parameters)) (sym read) (keeps.standing frame parameters room stands)
      unit-read (Constants declarations) next read = λ frame parameters room stands. subst (λ n. AreStanding flat frame n (state.standing parameters)) (sym read) (keeps.standing frame parameters room stands)
      unit-read (Assumption word name x) next read = λ frame parameters room stands. subst (λ n. AreStanding flat frame n (state.standing parameters)) (sym read) (keeps.standing frame parameters room stands)
      unit-read (Theorem word name x) next read = λ frame parameters room stands. subst (λ n. AreStanding flat frame n (state.standing parameters)) (sym read) (keeps.standing frame parameters room stands)
      unit-read (Line dashes) next read = λ frame parameters room stands. subst (λ n. AreStanding flat frame n (state.standing parameters)) (sym read) (keeps.standing frame parameters room stands)

      -- behind a unit
      pub state-after : (unit : UnitTree) (next : Meaning → Stand) → IsUnitRead text files words flat state layout unit next → KeepsState flat symbols (layout_after text files words state layout unit next) (after text files words state unit)
      state-after unit next read = record { context = refl; olds = keeps.olds; standing = unit-read unit next read }
