-- What stands behind the units of a nested module as before: what was seen, bound names, and what is built in.
use Rattle.std.proofs.Common.{sym, ◌≡◌, inl, inr, ℕ, Bool, true, false, cond, List, [], ◌∷◌, Some, None, map, refl, ap, ◌∙◌, arith}
use Rattle.std.specs.Prelude.{◌⊎◌, ◌||◌, not}
use Rattle.std.specs.List.{AllByRecursion}
use Rattle.tla_symbols.specs.declared.lexeme.Lexeme.{Lexeme}
use Rattle.tla_tree.specs.declared.form.Form.TheVariants as Form
use Rattle.tla_tree.specs.Syntax.{Tree, Trees, Node}
use Rattle.unit_grammar.specs.Units.{UnitTree, Variables, Constants, OperatorDefinition, FunctionDefinition, ModuleDefinition, Instance, Assumption, Theorem, Line, ModuleBegin, ModuleEnd}
use Rattle.tla_model.specs.declared.entity.Entity.TheVariants as entity
use Rattle.tla_model.specs.declared.ids.UnitId.{UnitId}
use Rattle.tla_model.specs.declared.names.Binder.{Binder}
use Rattle.tla_model.specs.declared.names.Binding.TheVariants as as_binding
use Rattle.tla_model.specs.declared.names.Meaning.TheVariants.{BuiltIn, Declared}
use Rattle.tla_model.specs.Entities.{Defines, Nothing, Operator, Function, Module, Meaning, Text, defined, defined_as, defines, meant, same_meaning, within}
use Rattle.tla_model.specs.EntityKinds.{is_meant, stands_behind}
use Rattle.tla_model.specs.Lexemes.{spelled}
use Rattle.tla_model.specs.Scopes.{definition}
use Rattle.tla_model.specs.Tables.{Named}
use Rattle.module_scope.specs.Environments.{Scope, begun}
use Rattle.module_model.specs.Exports.{Exports, ModuleView, exported, instantiable}
use Rattle.module_model.specs.Instances.{brought_by, brought_entries, through}
use Rattle.module_model.specs.NamedModules.{unit_of, view_of}
use Rattle.module_model.specs.Resolution.{ReadState, instance_brings, module_named}
use Rattle.tree_kinds.specs.Standing.{Environment, Outside, is_bound, name_among, same_standing}
use Rattle.tree_kinds.proofs.Standings.{bound-apart}
use Rattle.module_kinds.specs.ModuleKinds.{KindState, named_in, standing_behind, views}
use Rattle.flat_trees.specs.Stands.{Unsaid}
use Rattle.flat_kinds.specs.Readings.{BringNone, Leaves, extended_entries, is_among}
use Rattle.flat_kinds.proofs.Leaving.{meaning-left}
use Rattle.flattened_trees.specs.Agreeing.{AreNew, IsFresh, is_seen, unsaid_stand}
use Rattle.flattened_meanings.proofs.Fresh.{first-unlike, seen-alike, mark, new-times, node-names, rest-none, times, tree-any}

-- ---- leaves

-- a name that is a leaf wherever nothing is said of it
abbrev pub IsLeafName : Meaning → Type 0
IsLeafName m = (m ≡ BuiltIn) ⊎ (is_bound m ≡ true)

pub leaf-or-unsaid : (m : Meaning) → IsLeafName m ⊎ (unsaid_stand m ≡ Unsaid)
leaf-or-unsaid BuiltIn = inl (inl refl)
leaf-or-unsaid (Declared (entity.Bound state) x) = inl (inr refl)
leaf-or-unsaid (Declared e x) = inr refl

behind-free : (m : Meaning) → is_meant stands_behind m ≡ true → is_bound m ≡ false
behind-free BuiltIn is = refl
behind-free (Declared (entity.Bound state) x) is = cc is
behind-free (Declared e x) is = refl

-- it stands as no definition and as no instance
pub leaf-apart : (m other : Meaning) → IsLeafName m → is_meant stands_behind other ≡ true → same_standing m other ≡ false
leaf-apart m BuiltIn (inl same) behind = cc behind
leaf-apart m (Declared e x) (inl same) behind = ap (λ n. same_standing n (Declared e x)) same
leaf-apart m other (inr bound) behind = bound-apart m other bound (behind-free other behind)

-- ---- entries

-- these are definitions and instances
abbrev pub AreBehind : Exports → Type 0
AreBehind entries = AllByRecursion (λ (entry : Named × Meaning). is_meant stands_behind entry.1 ≡ true) entries

pub leaf-unnamed : (entries : Exports) (m : Meaning) → IsLeafName m → AreBehind entries → name_among entries m ≡ None
leaf-unnamed [] m leaf all = refl
leaf-unnamed (entry ∷ rest) m leaf all =
    ap (λ b. cond b (Some entry.0) (name_among rest m)) (leaf-apart m entry.1 leaf all.0) ∙ leaf-unnamed rest m leaf all.1

pub instantiable-behind : (entries : Exports) → AreBehind (instantiable entries)
instantiable-behind [] = tt
instantiable-behind (entry ∷ rest) = by_kind (is_meant stands_behind entry.1) refl (instantiable-behind rest)
  where
    by_kind : (b : Bool) → is_meant stands_behind entry.1 ≡ b → AreBehind (instantiable rest) → AreBehind (cond b (entry ∷ instantiable rest) (instantiable rest))
    by_kind true is others = (is, others)
    by_kind false is others = others

through-kind : (unit : UnitId) (m : Meaning) → is_meant stands_behind (through unit m) ≡ is_meant stands_behind m
through-kind unit BuiltIn = refl
through-kind unit (Declared e callee) = refl

passed-behind : (unit : UnitId) (parameters entries : Exports) → AreBehind entries → AreBehind (brought_entries unit parameters entries)
passed-behind unit [] entries all = all
passed-behind unit (parameter ∷ parameters) [] all = tt
passed-behind unit (parameter ∷ parameters) (entry ∷ rest) all = (through-kind unit entry.1 ∙ all.0, passed-behind unit (parameter ∷ parameters) rest all.1)

brought-behind : (unit : UnitId) (view : ModuleView) → AreBehind (brought_by unit view)
brought-behind unit view = passed-behind unit view.parameters (instantiable (exported view)) (instantiable-behind (exported view))

-- ---- what forms define

leaf-none : (meanings : List Meaning) (m : Meaning) → IsLeafName m → AllByRecursion (λ (d : Meaning). is_meant stands_behind d ≡ true) meanings → is_among meanings m ≡ false
leaf-none [] m leaf all = refl
leaf-none (d ∷ rest) m leaf all = ap (λ b. b || is_among rest m) (leaf-apart m d leaf all.0) ∙ leaf-none rest m leaf all.1

module _ (text : Text) where
  pub defined-behind : (what : Defines) (parts : Trees) → AllByRecursion (λ (d : Meaning). is_meant stands_behind d ≡ true) (map (meant text) (defined_as what parts))
  defined-behind Nothing parts = tt
  defined-behind (Operator l) parts = (refl, tt)
  defined-behind (Function l) parts = (refl, tt)
  defined-behind (Module l) parts = (refl, tt)

  leaf-undefined : (x : Tree) (m : Meaning) → IsLeafName m → is_among (map (meant text) (definition x)) m ≡ false
  leaf-undefined (Node form s parts) m leaf = leaf-none (map (meant text) (defined form parts)) m leaf (defined-behind (defines form) parts)

  -- what was seen is none of the names that a tree defines, which are new
  none-among : (names : List Binder) (m : Meaning) → times text m names ≡ 0 → is_among (map (meant text) names) m ≡ false
  none-among [] m none = refl
  none-among (name ∷ rest) m none = ap (λ b. b || is_among (map (meant text) rest) m) (first-unlike text name rest m none) ∙ none-among rest m (rest-none text name rest m none)

  seen-undefined : (x : Tree) (seen : List Meaning) (m : Meaning) → IsFresh text seen x → is_seen seen m ≡ true → is_among (map (meant text) (definition x)) m ≡ false
  seen-undefined (Node form s parts) seen m fresh is =
      let once = new-times text seen (within (Node form s parts)) fresh m in
      let before : mark (is_seen seen m) ≡ 1 = ap mark is in
      let all = node-names text m form s parts in
      let any = tree-any text m (as_binding.Bound false) (Node form s parts) in
      none-among (defined form parts) m (omega (arith, once, before, all, any))

-- what was seen is none of these names that are new
pub names-other : (seen names : List Meaning) (m : Meaning) → AreNew seen names → is_seen seen m ≡ true → not (is_seen names m) ≡ true
names-other seen [] m new is = refl
names-other seen (name ∷ rest) m new is = by_same (same_meaning m name) refl (names-other (name ∷ seen) rest m new.1 (seen-by seen name m is))
  where
    seen-by : (before : List Meaning) (one other : Meaning) → is_seen before other ≡ true → is_seen (one ∷ before) other ≡ true
    seen-by before one other e = by_one (same_meaning other one)
      where
        by_one : (b : Bool) → cond b true (is_seen before other) ≡ true
        by_one true = refl
        by_one false = e

    by_same : (b : Bool) → same_meaning m name ≡ b → not (is_seen rest m) ≡ true → not (cond b true (is_seen rest m)) ≡ true
    by_same true same others = let never : false ≡ true = sym new.0 ∙ sym (seen-alike seen m name same) ∙ is in cc never
    by_same false same others = others

-- ---- units

module _ (text : Text) (outsides : List ℕ → Outside) (words : List ℕ) where
  pub brings-behind : (state : ReadState) (x : Tree) → AreBehind (instance_brings text (views text outsides words) words state x)
  brings-behind state (Node (Form.Instance l) s parts) = brought-behind (unit_of text words l) (view_of text (module_named text (views text outsides words) words state) l)
  brings-behind state (Node form s parts) = tt

  pub leaf-brought_none : (modules : Scope Outside) (ls : List Lexeme) (m : Meaning) → IsLeafName m → BringNone text outsides words modules ls m
  leaf-brought_none modules [] m leaf = tt
  leaf-brought_none modules (l ∷ rest) m leaf =
      (leaf-unnamed (extended_entries text outsides words modules l) m leaf (instantiable-behind (exported (named_in text outsides words modules (spelled text.source l)).view)), leaf-brought_none modules rest m leaf)

  -- each unit leaves what is a leaf
  pub leaf-left : (state : KindState) (unit : UnitTree) (m : Meaning) → IsLeafName m → Leaves text outsides words state unit m
  leaf-left state (OperatorDefinition local x) m leaf = leaf-undefined text x m leaf
  leaf-left state (FunctionDefinition local x) m leaf = leaf-undefined text x m leaf
  leaf-left state (ModuleDefinition local x) m leaf = leaf-undefined text x m leaf
  leaf-left state (Instance local x) m leaf = leaf-unnamed (instance_brings text (views text outsides words) words state.read x) m leaf (brings-behind state.read x)
  leaf-left state (ModuleBegin dashes name extends) m leaf = leaf-brought_none (begun state.modules (spelled text.source name)) extends m leaf
  leaf-left state (Variables names) m leaf = tt
  leaf-left state (Constants declarations) m leaf = tt
  leaf-left state (Assumption word name x) m leaf = tt
  leaf-left state (Theorem word name x) m leaf = tt
  leaf-left state (Line dashes) m leaf = tt
  leaf-left state (ModuleEnd closing) m leaf = tt

  -- what a unit leaves stands as before
  pub left-same : (state : KindState) (unit : UnitTree) (m : Meaning)
      → Leaves text outsides words state unit m ⊎ ((parameters : Environment) → standing_behind text outsides words state unit parameters m ≡ state.standing parameters m)
      → (parameters : Environment) → standing_behind text outsides words state unit parameters m ≡ state.standing parameters m
  left-same state unit m (inl leaves) = meaning-left text outsides words state unit m leaves
  left-same state unit m (inr same) = same

  -- names that stand behind a unit as before: those that were seen, and leaves
  abbrev pub StayBehind : KindState → UnitTree → List Meaning → Type 0
  StayBehind state unit seen =
      (m : Meaning) → (is_seen seen m ≡ true) ⊎ IsLeafName m → (parameters : Environment) → standing_behind text outsides words state unit parameters m ≡ state.standing parameters m

  -- behind a definition whose name is new
  pub definition-stays : (state : KindState) (unit : UnitTree) (x : Tree) (seen : List Meaning) → IsFresh text seen x → ((m : Meaning) → is_among (map (meant text) (definition x)) m ≡ false → Leaves text outsides words state unit m) → StayBehind state unit seen
  definition-stays state unit x seen fresh leaves m (inl is) = meaning-left text outsides words state unit m (leaves m (seen-undefined text x seen m fresh is))
  definition-stays state unit x seen fresh leaves m (inr leaf) = meaning-left text outsides words state unit m (leaf-left state unit m leaf)

  -- behind a unit of which that is given of what was seen
  pub given-stays : (state : KindState) (unit : UnitTree) (seen : List Meaning) → ((m : Meaning) → is_seen seen m ≡ true → Leaves text outsides words state unit m ⊎ ((parameters : Environment) → standing_behind text outsides words state unit parameters m ≡ state.standing parameters m)) → StayBehind state unit seen
  given-stays state unit seen given m (inl is) = left-same state unit m (given m is)
  given-stays state unit seen given m (inr leaf) = meaning-left text outsides words state unit m (leaf-left state unit m leaf)
