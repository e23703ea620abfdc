-- Where nested modules bring nothing, nothing is asked of what they bring.
use Rattle.std.proofs.Common.{◌≡◌, ◌-◌, ℕ, suc, List, [], ◌∷◌, Option, inl, refl, sym, ap, subst, ◌∙◌, length, arith}
use Rattle.tla_symbols.specs.declared.lexeme.Lexeme.{Lexeme}
use Rattle.tla_tree.specs.declared.form.Form.TheVariants as Form
use Rattle.tla_tree.specs.Syntax.{Tree, Node}
use Rattle.unit_grammar.specs.Units.{UnitTree, Variables, Constants, OperatorDefinition, FunctionDefinition, ModuleDefinition, Instance, Assumption, Theorem, Line, ModuleBegin, ModuleEnd}
use Rattle.tla_model.specs.Entities.{Meaning, Text}
use Rattle.tla_model.specs.Lexemes.{spelled}
use Rattle.module_scope.specs.Environments.{begun}
use Rattle.module_model.specs.Modules.{Reading}
use Rattle.kind_text.specs.FlatModule.{FlatModule}
use Rattle.tree_kinds.specs.Standing.{Outside}
use Rattle.module_kinds.specs.ModuleKinds.{KindState, after}
use Rattle.flat_kinds.specs.Readings.{BringNone}
use Rattle.flattened_trees.specs.Leads.{FlatFace, Setting}
use Rattle.flattened_trees.specs.Questions.{Question}
use Rattle.flattened_units.specs.Units.{AreUnitsMade, IsEnded, IsUnitMade, Reader}
use Rattle.module_meanings.specs.Premises.{IsBroughtGiven, seen_behind}
use Rattle.given_modules.specs.Nested.{AreQuiet, AreUnitsBringing, IsQuiet, depth_behind}

module _ (flat : FlatModule) (text : Text) (means : ℕ → Option Meaning) (implied : ℕ → List Meaning) (files : List ℕ → FlatFace) (outsides : List ℕ → Outside) (words : List ℕ) where
  -- so many modules are round a reader
  abbrev IsDeep : ℕ → Reader → Type 0
  IsDeep depth reader = length reader.round ≡ depth

  depth-after : (depth : ℕ) (state : KindState) (reader : Reader) (unit : UnitTree) (next : Reader) (asked : List Question) → IsUnitMade flat text means implied files outsides words state reader unit next asked → IsDeep depth reader → IsDeep (depth_behind depth unit) next
  depth-after depth state reader (OperatorDefinition local x) next asked made is = subst (IsDeep depth) (sym made.3) is
  depth-after depth state reader (FunctionDefinition local x) next asked made is = subst (IsDeep depth) (sym made.3) is
  depth-after depth state reader (ModuleDefinition local x) next asked made is = subst (IsDeep depth) (sym made.3) is
  depth-after depth state reader (Instance local x) next asked made is = by x made
    where
      by : (x : Tree) → IsUnitMade flat text means implied files outsides words state reader (Instance local x) next asked → IsDeep depth next
      by (Node (Form.Instance l) s rights) made = subst (IsDeep depth) (sym made.7) is
      by (Node Form.Let s rights) made = subst (IsDeep depth) (sym made.0) is
      by (Node _ s rights) made = subst (IsDeep depth) (sym made.0) is
  depth-after depth state reader (Assumption word name x) next asked made is = subst (IsDeep depth) (sym made.3) is
  depth-after depth state reader (Theorem word name x) next asked made is = subst (IsDeep depth) (sym made.3) is
  depth-after depth state reader (ModuleBegin dashes name extends) next asked made is = subst (IsDeep (suc depth)) (sym made.0.2.1) (ap suc is)
  depth-after depth state reader (ModuleEnd closing) next asked made is = by state.read.place.round reader.round made.0 is
    where
      by : (round : List Reading) (settings : List Setting) → IsEnded flat text means implied files outsides words state round reader settings next → length settings ≡ depth → length next.round ≡ depth - 1
      by [] settings made is = absurd made
      by (outer ∷ round) [] made is = absurd made
      by (outer ∷ round) (setting ∷ settings) made is = let same : length next.round ≡ length settings = ap (λ (r : Reader). length r.round) made.1 in omega (arith, same, is)
  depth-after depth state reader (Variables names) next asked made is = subst (IsDeep depth) (sym made.0) is
  depth-after depth state reader (Constants declarations) next asked made is = subst (IsDeep depth) (sym made.0) is
  depth-after depth state reader (Line dashes) next asked made is = subst (IsDeep depth) (sym made.0) is

  none-round : (settings : List Setting) → length settings ≡ 0 → settings ≡ []
  none-round [] none = refl
  none-round (setting ∷ settings) none = absurd (omega (arith, none))

  quiet-brought : (depth : ℕ) (state : KindState) (reader : Reader) (seen : List Meaning) (unit : UnitTree) → IsQuiet depth unit → IsDeep depth reader → IsBroughtGiven flat text means implied files outsides words state reader seen unit
  quiet-brought depth state reader seen (Instance local x) quiet deep = λ some. absurd (some (none-round reader.round (deep ∙ quiet)))
  quiet-brought depth state reader seen (ModuleBegin dashes name extends) quiet deep =
      λ m is. inl (subst (λ (ls : List Lexeme). BringNone text outsides words (begun state.modules (spelled text.source name)) ls m) (sym quiet) tt)
  quiet-brought depth state reader seen (OperatorDefinition local x) quiet deep = tt
  quiet-brought depth state reader seen (FunctionDefinition local x) quiet deep = tt
  quiet-brought depth state reader seen (ModuleDefinition local x) quiet deep = tt
  quiet-brought depth state reader seen (Assumption word name x) quiet deep = tt
  quiet-brought depth state reader seen (Theorem word name x) quiet deep = tt
  quiet-brought depth state reader seen (Variables names) quiet deep = tt
  quiet-brought depth state reader seen (Constants declarations) quiet deep = tt
  quiet-brought depth state reader seen (Line dashes) quiet deep = tt
  quiet-brought depth state reader seen (ModuleEnd closing) quiet deep = tt

  pub quiet-bringing : (units : List UnitTree) (depth : ℕ) (state : KindState) (reader : Reader) (seen : List Meaning) (next : Reader) (asked : List Question) (made : AreUnitsMade flat text means implied files outsides words state reader units next asked) → AreQuiet depth units → length reader.round ≡ depth
      → AreUnitsBringing flat text means implied files outsides words state reader seen units next asked made
  quiet-bringing [] depth state reader seen next asked made quiet deep = tt
  quiet-bringing (unit ∷ units) depth state reader seen next asked made quiet deep = (
    quiet-brought depth state reader seen unit quiet.0 deep,
    quiet-bringing units (depth_behind depth unit) (after text outsides words state unit) made.0 (seen_behind text outsides words state unit made.0 seen) next made.2 made.4 quiet.1 (depth-after depth state reader unit made.0 made.1 made.3 deep),
  )
