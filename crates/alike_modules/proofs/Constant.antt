-- The face of a module goes by the views of those that it names, and by which of these are constant.
use mathlib.Core.Path.{fun_ext}
use Rattle.std.proofs.Common.{◌≡◌, ℕ, Bool, true, false, List, [], ◌∷◌, ◌++◌, Option, Some, None, refl, sym, ap, ◌∙◌, map}
use Rattle.std.proofs.lemmas.List.{map-append}
use Rattle.std.specs.Prelude.{◌&&◌, if◌then◌else◌, is_some, option_map}
use Rattle.std.specs.Str.{bytes_eq}
use Rattle.tla_symbols.specs.declared.lexeme.Lexeme.{Lexeme}
use Rattle.tla_tree.specs.declared.form.Form.TheVariants as Form
use Rattle.tla_tree.specs.Syntax.{Tree, Trees, Node, Nil, Cons}
use Rattle.unit_grammar.specs.Units.{UnitTree, OperatorDefinition, FunctionDefinition, ModuleDefinition, Instance, Assumption, Theorem, ModuleBegin, ModuleEnd, ModuleUnits}
use Rattle.tla_model.specs.Entities.{Text}
use Rattle.tla_model.specs.Lexemes.{spelled}
use Rattle.tla_model.specs.Tables.{added, lookup}
use Rattle.module_scope.specs.Environments.{Environment, Scope, begun, ended, meaning, first as first_scope}
use Rattle.module_model.specs.Exports.{exports_of}
use Rattle.module_model.specs.Modules.{Reading, text_of}
use Rattle.module_model.specs.Resolution.{ReadState, outside_in, words_of, after as read_after, first as first_read}
use Rattle.tree_kinds.specs.Standing.{Outside}
use Rattle.module_kinds.specs.Constancy.{are_constant_trees, extends_constant, is_constant_form, is_constant_tree, is_constant_unit}
use Rattle.module_kinds.specs.ModuleKinds.{KindState, after, first, is_outermost, last, module_under, named, named_in, nested_outside, read_all, views}
use Rattle.flattened_units.specs.Units.{Reader, exported_leads}
use Rattle.known_modules.specs.Known.{face_of}

-- ---- trees

module _ (source : List ℕ) (one other : List ℕ → Outside) (same : (name : List ℕ) → (one name).is_constant ≡ (other name).is_constant) where
  form-same : (form : Form.the_data) → is_constant_form source one form ≡ is_constant_form source other form
  form-same (Form.Instance l) = same (spelled source l)
  form-same _ = refl

  mutual
    tree-same : (x : Tree) → is_constant_tree source one x ≡ is_constant_tree source other x
    tree-same (Node form s parts) = λ i. form-same form i && trees-same parts i

    trees-same : (xs : Trees) → are_constant_trees source one xs ≡ are_constant_trees source other xs
    trees-same Nil = refl
    trees-same (Cons x rest) = λ i. tree-same x i && trees-same rest i

  unit-same : (unit : UnitTree) → is_constant_unit source one unit ≡ is_constant_unit source other unit
  unit-same (OperatorDefinition local x) = trees-same (Cons x Nil)
  unit-same (FunctionDefinition local x) = trees-same (Cons x Nil)
  unit-same (ModuleDefinition local x) = trees-same (Cons x Nil)
  unit-same (Instance local x) = trees-same (Cons x Nil)
  unit-same (Assumption word name x) = trees-same (Cons x Nil)
  unit-same (Theorem word name x) = trees-same (Cons x Nil)
  unit-same _ = refl

  extends-same : (names : List Lexeme) → extends_constant source one names ≡ extends_constant source other names
  extends-same [] = refl
  extends-same (l ∷ names) = λ i. same (spelled source l) i && extends-same names i

-- ---- which of the modules that can be named are constant

abbrev constancy : Outside → Bool
constancy outside = outside.is_constant

abbrev constant_here : Environment Outside → Environment Bool
constant_here modules = map (λ entry. (entry.0, option_map constancy entry.1)) modules

abbrev constant_round : List (List ℕ × Environment Outside) → List (List ℕ × Environment Bool)
constant_round round = map (λ nested. (nested.0, constant_here nested.1)) round

abbrev constant_in : Scope Outside → Scope Bool
constant_in scope = record { here = constant_here scope.here; round = constant_round scope.round }

-- which files are constant
abbrev constant_files : (List ℕ → Outside) → List ℕ → Bool
constant_files files name = (files name).is_constant

-- a nested module that can be named, or else the file
abbrev constant_under : (List ℕ → Bool) → Option (Option Bool) → List ℕ → Bool
constant_under files None name = files name
constant_under files (Some None) name = true
constant_under files (Some (Some constant)) name = constant

lookup-constant : (modules : Environment Outside) (name : List ℕ) → lookup bytes_eq (constant_here modules) name ≡ option_map (option_map constancy) (lookup bytes_eq modules name)
lookup-constant [] name = refl
lookup-constant (entry ∷ modules) name = by (bytes_eq name entry.0) (lookup-constant modules name)
  where
    by : (b : Bool) → lookup bytes_eq (constant_here modules) name ≡ option_map (option_map constancy) (lookup bytes_eq modules name)
        → (if b then Some (option_map constancy entry.1) else lookup bytes_eq (constant_here modules) name) ≡ option_map (option_map constancy) (if b then Some entry.1 else lookup bytes_eq modules name)
    by true more = refl
    by false more = more

under-constant : (files : List ℕ → Outside) (found : Option (Option Outside)) (name : List ℕ) → (module_under files found name).is_constant ≡ constant_under (constant_files files) (option_map (option_map constancy) found) name
under-constant files None name = refl
under-constant files (Some None) name = refl
under-constant files (Some (Some outside)) name = refl

added-constant : (modules : Environment Outside) (name : List ℕ) (known : Option Outside) → constant_here (added bytes_eq modules name known) ≡ added bytes_eq (constant_here modules) name (option_map constancy known)
added-constant modules name known = by (lookup bytes_eq modules name) ∙ sym (ap (λ found. if is_some found then constant_here modules else constant_here modules ++ (name, option_map constancy known) ∷ []) (lookup-constant modules name))
  where
    by : (found : Option (Option Outside)) → constant_here (if is_some found then modules else modules ++ (name, known) ∷ [])
        ≡ (if is_some (option_map (option_map constancy) found) then constant_here modules else constant_here modules ++ (name, option_map constancy known) ∷ [])
    by None = map-append _ modules ((name, known) ∷ [])
    by (Some known) = refl

begun-constant : (scope : Scope Outside) (name : List ℕ) → constant_in (begun scope name) ≡ begun (constant_in scope) name
begun-constant scope name = let here = added-constant scope.here name None in λ i. record { here = here i; round = (name, constant_here scope.here) ∷ constant_round scope.round }

ended-constant : (outside : Outside) (here : Environment Outside) (round : List (List ℕ × Environment Outside)) → constant_in (ended outside here round) ≡ ended outside.is_constant (constant_here here) (constant_round round)
ended-constant outside here [] = refl
ended-constant outside here (nested ∷ round) = let behind = added-constant nested.1 nested.0 (Some outside) in λ i. record { here = behind i; round = constant_round round }

-- ---- states

-- states have read the same, the same modules that can be named are constant, and so are both or neither
record AreAlike (state other : KindState) : Type 0 where
  read : state.read ≡ other.read
  modules : constant_in state.modules ≡ constant_in other.modules
  constant : state.is_constant ≡ other.is_constant

nested-constant : (state other : KindState) (round rest : List Reading) → is_outermost round ≡ is_outermost rest → (nested_outside state round).is_constant ≡ (nested_outside other rest).is_constant
nested-constant state other [] [] e = refl
nested-constant state other [] (outer ∷ rest) e = e
nested-constant state other (outer ∷ round) [] e = e
nested-constant state other (outer ∷ round) (inner ∷ rest) e = refl

module _ (text : Text) (files others : List ℕ → Outside) (words : List ℕ) (views-same : views text files words ≡ views text others words) (constant-same : (name : List ℕ) → (files name).is_constant ≡ (others name).is_constant) where
  files-same : constant_files files ≡ constant_files others
  files-same = fun_ext constant-same

  -- the module of a name is constant in both or in neither
  named-constant : (modules more : Scope Outside) → constant_in modules ≡ constant_in more → (name : List ℕ) → (named_in text files words modules name).is_constant ≡ (named_in text others words more name).is_constant
  named-constant modules more alike name =
      under-constant files (meaning modules.here name) name
      ∙ (ap (λ found. constant_under (constant_files files) found name) (sym (lookup-constant modules.here name))
      ∙ ((λ i. constant_under (files-same i) (lookup bytes_eq (alike i).here name) name)
      ∙ (ap (λ found. constant_under (constant_files others) found name) (lookup-constant more.here name)
      ∙ sym (under-constant others (meaning more.here name) name))))

  begun-alike : (modules more : Scope Outside) → constant_in modules ≡ constant_in more → (name : List ℕ) → constant_in (begun modules name) ≡ constant_in (begun more name)
  begun-alike modules more alike name = begun-constant modules name ∙ (ap (λ scope. begun scope name) alike ∙ sym (begun-constant more name))

  ended-alike : (state other : KindState) → AreAlike state other
      → constant_in (ended (nested_outside state state.read.place.round) state.modules.here state.modules.round) ≡ constant_in (ended (nested_outside other other.read.place.round) other.modules.here other.modules.round)
  ended-alike state other alike =
      let nested = nested-constant state other state.read.place.round other.read.place.round (ap (λ (read : ReadState). is_outermost read.place.round) alike.read) in
      ended-constant (nested_outside state state.read.place.round) state.modules.here state.modules.round
      ∙ ((λ i. ended (nested i) (alike.modules i).here (alike.modules i).round)
      ∙ sym (ended-constant (nested_outside other other.read.place.round) other.modules.here other.modules.round))

  modules-alike : (state other : KindState) → AreAlike state other → (unit : UnitTree) → constant_in (after text files words state unit).modules ≡ constant_in (after text others words other unit).modules
  modules-alike state other alike (ModuleBegin dashes name extends) = begun-alike state.modules other.modules alike.modules (spelled text.source name)
  modules-alike state other alike (ModuleEnd closing) = ended-alike state other alike
  modules-alike state other alike unit = alike.modules

  constant-alike : (state other : KindState) → AreAlike state other → (unit : UnitTree) → (after text files words state unit).is_constant ≡ (after text others words other unit).is_constant
  constant-alike state other alike unit =
      let same = unit-same text.source (named text files words state) (named text others words other) (named-constant state.modules other.modules alike.modules) unit in
      λ i. if is_outermost (alike.read i).place.round then alike.constant i && same i else alike.constant i

  after-alike : (state other : KindState) → AreAlike state other → (unit : UnitTree) → AreAlike (after text files words state unit) (after text others words other unit)
  after-alike state other alike unit = record {
    read = λ i. read_after text (views-same i) words (alike.read i) unit;
    modules = modules-alike state other alike unit;
    constant = constant-alike state other alike unit;
  }

  all-alike : (units : List UnitTree) (state other : KindState) → AreAlike state other → AreAlike (read_all text files words state units) (read_all text others words other units)
  all-alike [] state other alike = alike
  all-alike (unit ∷ units) state other alike = all-alike units (after text files words state unit) (after text others words other unit) (after-alike state other alike unit)

-- ---- modules

module _ (files others : List ℕ → Outside) (source : List ℕ) (units : ModuleUnits) (views-alike : (name : List ℕ) → (files name).view ≡ (others name).view) (constant-same : (name : List ℕ) → (files name).is_constant ≡ (others name).is_constant) where
  abbrev text : Text
  text = text_of source units

  views-same : views text files (words_of units) ≡ views text others (words_of units)
  views-same = fun_ext views-alike

  first-alike : AreAlike (first files source units) (first others source units)
  first-alike = record {
    read = λ i. first_read (views-same i) source units;
    modules = refl;
    constant =
        extends-same source (named_in text files (words_of units) (first_scope text.file)) (named_in text others (words_of units) (first_scope text.file))
        (named-constant text files others (words_of units) views-same constant-same (first_scope text.file) (first_scope text.file) refl) units.extends;
  }

  last-alike : AreAlike (last files source units) (last others source units)
  last-alike = all-alike text files others (words_of units) views-same constant-same units.units (first files source units) (first others source units) first-alike

  -- the face of a module is the same
  pub face-alike : (final : Reader) → face_of files source units final ≡ face_of others source units final
  face-alike final = λ i. record {
    parameters = (outside_in (views-same i) source units).parameters;
    outer = 0;
    leads = exported_leads final.setting.leads (exports_of (last-alike.read i).place.here.exports);
    is_constant = last-alike.constant i;
  }
