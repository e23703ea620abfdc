-- How deep names are, whichever way they come: from files and from nested modules.
use Rattle.std.proofs.Common.{◌≡◌, ℕ, true, List, [], ◌∷◌, ◌⊎◌, inl, inr, Option, Some, None, refl, sym, ap, ◌∙◌, subst, arith}
use Rattle.std.specs.Prelude.{max}
use Rattle.tla_symbols.specs.declared.lexeme.Lexeme.{Lexeme}
use Rattle.tla_symbols.specs.declared.lexeme.Span.{Span}
use Rattle.tla_tree.specs.declared.form.Form.TheVariants as Form
use Rattle.tla_tree.specs.Syntax.{Tree, Trees, Node}
use Rattle.unit_grammar.specs.Units.{UnitTree, Variables, Constants, OperatorDefinition, FunctionDefinition, ModuleDefinition, Instance, Assumption, Theorem, Line, ModuleBegin, ModuleEnd, ModuleUnits}
use Rattle.tla_model.specs.Entities.{Meaning, Text}
use Rattle.tla_model.specs.EntityKinds.{is_meant, stands_behind}
use Rattle.tla_model.specs.Lexemes.{spelled}
use Rattle.tla_model.specs.Tables.{Named}
use Rattle.module_scope.specs.Environments.{Environment as Modules, Scope, begun, ended, first as first_scope, meaning as module_meaning}
use Rattle.module_model.specs.Exports.{Exports, ModuleView, entry_of, exported, exports_of, instantiable}
use Rattle.module_model.specs.Instances.{brought_entries}
use Rattle.module_model.specs.Modules.{Reading, text_of}
use Rattle.module_model.specs.NamedModules.{unit_of, view_of}
use Rattle.module_model.specs.Resolution.{ReadState, instance_brings, module_named, words_of}
use Rattle.tree_kinds.specs.Standing.{Outside, Reached, name_among}
use Rattle.tree_kinds.specs.TreeDepths.{Depths, coming_depth, deeper, no_depths, reached_by, replaced_depth, with_entry_depths}
use Rattle.module_kinds.specs.ModuleKinds.{KindState, after, beneath, depths_behind, extended_depths, first, known_at, last, module_under, named, named_in, nested_outside, outside, views}
use Rattle.flat_kinds.specs.Declarations.{IsOnce, OfAllKnown, OfKnown}
use Rattle.flat_kinds.specs.Readings.{BringNone}
use Rattle.flat_kinds.proofs.Declarations.{added-known, found-known, read-same}
use Rattle.flat_kinds.proofs.Distinct.{HaveOwnNames, words-own}
use Rattle.given_depths.specs.Given.{AreEndsGiven, AreExportsGiven, AreModulesGiven, Gives, GivenDepths, IsGiven, IsGivenOutside, given_depth}
use Rattle.given_depths.proofs.Entries.{Entry, entry-found, given-alike}

module _ (given : GivenDepths) where
  -- ---- modules that are extended

  one-brought : (other : Outside) (depths : Depths) (m : Meaning) (name : Named) → IsGivenOutside given other → name_among (instantiable (exported other.view)) m ≡ Some name → IsGiven given (with_entry_depths depths (instantiable (exported other.view)) other.depths) m
  one-brought other depths m name gives is path = ap (λ found. coming_depth other.depths (depths m path) found path) is ∙ gives m name is path

  one-kept : (other : Outside) (depths : Depths) (m : Meaning) → IsGivenOutside given other → IsGiven given depths m → IsGiven given (with_entry_depths depths (instantiable (exported other.view)) other.depths) m
  one-kept other depths m gives before = by_found (name_among (instantiable (exported other.view)) m) refl
    where
      by_found : (found : Option Named) → name_among (instantiable (exported other.view)) m ≡ found → IsGiven given (with_entry_depths depths (instantiable (exported other.view)) other.depths) m
      by_found None is path = ap (λ f. coming_depth other.depths (depths m path) f path) is ∙ before path
      by_found (Some name) is path = one-brought other depths m name gives is path

  module _ (text : Text) (files : List ℕ → Outside) (words : List ℕ) (files_give : (name : List ℕ) → IsGivenOutside given (files name)) where
    named-gives : (modules : Modules Outside) (name : List ℕ) → OfAllKnown (IsGivenOutside given) modules → IsGivenOutside given (module_under files (module_meaning modules name) name)
    named-gives modules name all = found-known (IsGivenOutside given) modules name (λ (found : Option (Option Outside)). IsGivenOutside given (module_under files found name)) (files_give name) some all
      where
        some : (found : Option Outside) → OfKnown (IsGivenOutside given) found → IsGivenOutside given (module_under files (Some found) name)
        some None one = λ m other is. cc is
        some (Some known) one = one

    extended-kept : (modules : Scope Outside) (depths : Depths) (ls : List Lexeme) (m : Meaning) → OfAllKnown (IsGivenOutside given) modules.here → IsGiven given depths m → IsGiven given (extended_depths text files words modules depths ls) m
    extended-kept modules depths [] m all before = before
    extended-kept modules depths (l ∷ rest) m all before =
        let other : Outside = named_in text files words modules (spelled text.source l) in
        extended-kept modules (with_entry_depths depths (instantiable (exported other.view)) other.depths) rest m all
        (one-kept other depths m (named-gives modules.here (spelled text.source l) all) before)

    -- what one of them brings is so deep
    extended-brought : (modules : Scope Outside) (ls : List Lexeme) (m : Meaning) → OfAllKnown (IsGivenOutside given) modules.here → BringNone text files words modules ls m ⊎ ((depths : Depths) → IsGiven given (extended_depths text files words modules depths ls) m)
    extended-brought modules [] m all = inl tt
    extended-brought modules (l ∷ rest) m all =
        let other : Outside = named_in text files words modules (spelled text.source l) in
        by_found other (named-gives modules.here (spelled text.source l) all) (name_among (instantiable (exported other.view)) m) refl (extended-brought modules rest m all)
      where
        by_found : (other : Outside) → IsGivenOutside given other → (found : Option Named) → name_among (instantiable (exported other.view)) m ≡ found
            → BringNone text files words modules rest m ⊎ ((depths : Depths) → IsGiven given (extended_depths text files words modules depths rest) m)
            → ((name_among (instantiable (exported other.view)) m ≡ None) × BringNone text files words modules rest m) ⊎ ((depths : Depths) → IsGiven given (extended_depths text files words modules (with_entry_depths depths (instantiable (exported other.view)) other.depths) rest) m)
        by_found other gives found is (inr holds) = inr (λ depths. holds (with_entry_depths depths (instantiable (exported other.view)) other.depths))
        by_found other gives None is (inl none) = inl (is, none)
        by_found other gives (Some name) is (inl none) =
            inr (λ depths. extended-kept modules (with_entry_depths depths (instantiable (exported other.view)) other.depths) rest m all (one-brought other depths m name gives is))

    -- a nested module that begins
    pub begins-gives : (state : KindState) (dashes name : Lexeme) (extends : List Lexeme) → OfAllKnown (IsGivenOutside given) state.modules.here → Gives given text files words state (ModuleBegin dashes name extends)
    begins-gives state dashes name extends all m =
        by_brought
        (extended-brought (begun state.modules (spelled text.source name)) extends m (added-known (IsGivenOutside given) state.modules.here (spelled text.source name) None all tt))
      where
        by_brought : BringNone text files words (begun state.modules (spelled text.source name)) extends m ⊎ ((depths : Depths) → IsGiven given (extended_depths text files words (begun state.modules (spelled text.source name)) depths extends) m)
            → BringNone text files words (begun state.modules (spelled text.source name)) extends m ⊎ IsGiven given (depths_behind text files words state (ModuleBegin dashes name extends)) m
        by_brought (inl none) = inl none
        by_brought (inr holds) = inr (holds state.depths)

    -- an INSTANCE of a module without parameters
    pub brings-gives : (state : KindState) (local : Option Lexeme) (l : Lexeme) (at : Span) (rights : Trees) → OfAllKnown (IsGivenOutside given) state.modules.here
        → (named text files words state (spelled text.source l)).view ≡ view_of text (module_named text (views text files words) words state.read) l
        → (named text files words state (spelled text.source l)).view.parameters ≡ []
        → replaced_depth text (known_at text files words state (Instance local (Node (Form.Instance l) at rights))) (named text files words state) (beneath text files words state) (Node (Form.Instance l) at rights) ≡ 0
        → Gives given text files words state (Instance local (Node (Form.Instance l) at rights))
    brings-gives state local l at rights all view none unreplaced m = by_found (name_among brings m) refl
      where
        x : Tree
        x = Node (Form.Instance l) at rights

        other : Outside
        other = named text files words state (spelled text.source l)

        brings : Exports
        brings = instance_brings text (views text files words) words state.read x

        reached : List Named → Reached
        reached path = deeper (replaced_depth text (known_at text files words state (Instance local x)) (named text files words state) (beneath text files words state) x) (other.depths path)

        as_it_is : (r : Reached) → deeper (replaced_depth text (known_at text files words state (Instance local x)) (named text files words state) (beneath text files words state) x) r ≡ r
        as_it_is r =
            let same : max 0 r.replaced ≡ r.replaced = omega arith in
            ap (λ n. deeper n r) unreplaced ∙ ap (λ (n : ℕ). record { depth = r.depth; replaced = n }) same

        same : brings ≡ instantiable (exported other.view)
        same =
            ap (λ (v : ModuleView). brought_entries (unit_of text words l) v.parameters (instantiable (exported v))) (sym view)
            ∙ ap (λ ps. brought_entries (unit_of text words l) ps (instantiable (exported other.view))) none

        by_found : (found : Option Named) → name_among brings m ≡ found → (name_among brings m ≡ None) ⊎ IsGiven given (with_entry_depths state.depths brings reached) m
        by_found None is = inl is
        by_found (Some name) is =
            inr
            (λ path.
            ap (λ f. coming_depth reached (state.depths m path) f path) is ∙ as_it_is (other.depths (name ∷ path))
            ∙ named-gives state.modules.here (spelled text.source l) all m name (ap (λ entries. name_among entries m) (sym same) ∙ is) path)

  -- what a module extends is so deep behind it
  pub first-gives : (files : List ℕ → Outside) (source : List ℕ) (units : ModuleUnits) (m : Meaning) → ((name : List ℕ) → IsGivenOutside given (files name)) → BringNone (text_of source units) files (words_of units) (first_scope (text_of source units).file) units.extends m ⊎ IsGiven given (first files source units).depths m
  first-gives files source units m files_give =
      let text : Text = text_of source units in
      by_brought (extended-brought text files (words_of units) files_give (first_scope text.file) units.extends m (tt, tt))
    where
      by_brought : BringNone (text_of source units) files (words_of units) (first_scope (text_of source units).file) units.extends m ⊎ ((depths : Depths) → IsGiven given (extended_depths (text_of source units) files (words_of units) (first_scope (text_of source units).file) depths units.extends) m)
          → BringNone (text_of source units) files (words_of units) (first_scope (text_of source units).file) units.extends m ⊎ IsGiven given (first files source units).depths m
      by_brought (inl none) = inl none
      by_brought (inr holds) = inr (holds no_depths)

  -- ---- modules by what they export

  exports-give : (table : Exports) (depths : Depths) (m : Meaning) (name : Named) → HaveOwnNames table → name_among (instantiable table) m ≡ Some name → ((key : Named) (other : Meaning) → entry_of table key ≡ Some other → is_meant stands_behind other ≡ true → IsGiven given depths other) → (path : List Named) → reached_by depths (entry_of table name) path ≡ given_depth given m path
  exports-give table depths m name own is has path =
      let found : Entry table m name = entry-found table m name own is in
      ap (λ (one : Option Meaning). reached_by depths one path) found.there ∙ has name found.other found.there found.behind path ∙ sym (given-alike given m found.other path found.same)

  -- a nested module that can be named
  pub nested-gives : (state : KindState) (outer : Reading) (round : List Reading) → IsOnce state.read.place.here.exports → AreExportsGiven given state → IsGivenOutside given (nested_outside state (outer ∷ round))
  nested-gives state outer round once has m name is path =
      let table = state.read.place.here.exports in
      exports-give (exports_of table) state.depths m name (words-own table.words table.symbols once.0 once.1) is has path

  ended-gives : (state : KindState) (round : List Reading) → IsOnce state.read.place.here.exports → AreExportsGiven given state → IsGivenOutside given (nested_outside state round)
  ended-gives state [] once has = λ m name is. cc is
  ended-gives state (outer ∷ round) once has = nested-gives state outer round once has

  ended-modules : (known : Outside) (here : Modules Outside) (round : List (List ℕ × Modules Outside)) → IsGivenOutside given known → AreModulesGiven given (record { here = here; round = round }) → AreModulesGiven given (ended known here round)
  ended-modules known here [] one all = all
  ended-modules known here (nested ∷ round) one all = record { here = added-known (IsGivenOutside given) nested.1 nested.0 (Some known) all.round.0 one; round = all.round.1 }

  -- modules that can be named behind a unit
  pub modules-give : (text : Text) (files : List ℕ → Outside) (words : List ℕ) (state : KindState) (unit : UnitTree) → AreModulesGiven given state.modules → AreEndsGiven given state unit → AreModulesGiven given (after text files words state unit).modules
  modules-give text files words state (ModuleBegin dashes name extends) all ends = record { here = added-known (IsGivenOutside given) state.modules.here (spelled text.source name) None all.here tt; round = (all.here, all.round) }
  modules-give text files words state (ModuleEnd closing) all ends =
      ended-modules (nested_outside state state.read.place.round) state.modules.here state.modules.round (ended-gives state state.read.place.round ends.0 ends.1) (record { here = all.here; round = all.round })
  modules-give text files words state (Variables names) all ends = all
  modules-give text files words state (Constants declarations) all ends = all
  modules-give text files words state (OperatorDefinition local x) all ends = all
  modules-give text files words state (FunctionDefinition local x) all ends = all
  modules-give text files words state (ModuleDefinition local x) all ends = all
  modules-give text files words state (Instance local x) all ends = all
  modules-give text files words state (Assumption word name x) all ends = all
  modules-give text files words state (Theorem word name x) all ends = all
  modules-give text files words state (Line dashes) all ends = all

  -- a module of a file
  pub file-gives : (files : List ℕ → Outside) (source : List ℕ) (units : ModuleUnits) → IsOnce (last files source units).read.place.here.exports → AreExportsGiven given (last files source units) → IsGivenOutside given (outside files source units)
  file-gives files source units once has m name is path =
      let text : Text = text_of source units in
      let words : List ℕ = words_of units in
      let table = (last files source units).read.place.here.exports in
      let same = read-same text files words (first files source units) units.units in
      exports-give (exports_of table) (last files source units).depths m name (words-own table.words table.symbols once.0 once.1)
      (subst (λ (state : ReadState). name_among (instantiable (exports_of state.place.here.exports)) m ≡ Some name) (sym same) is) has path
