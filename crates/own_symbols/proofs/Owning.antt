-- Own symbols at the ends of nested modules are those that stand there.
use Rattle.std.proofs.Common.{◌≡◌, ℕ, List, [], ◌∷◌, ◌++◌, Option, refl, sym, subst, ap, ◌∙◌, length}
use Rattle.std.specs.Prelude.{drop}
use Rattle.tla_symbols.specs.declared.lexeme.Lexeme.{Lexeme}
use Rattle.tla_tree.specs.declared.form.Form.TheVariants as Form
use Rattle.tla_tree.specs.Syntax.{Tree, Node}
use Rattle.unit_grammar.specs.Units.{UnitTree, Variables, Constants, OperatorDefinition, FunctionDefinition, ModuleDefinition, Instance, Assumption, Theorem, Line, ModuleBegin, ModuleEnd}
use Rattle.tla_model.specs.Entities.{Meaning, Text}
use Rattle.module_model.specs.Modules.{Reading}
use Rattle.kind_text.specs.FlatModule.{FlatModule}
use Rattle.tree_kinds.specs.Standing.{Outside}
use Rattle.module_kinds.specs.ModuleKinds.{KindState, after, views}
use Rattle.flattened_trees.specs.Leads.{FlatFace, Setting}
use Rattle.flattened_trees.specs.Questions.{Question}
use Rattle.flattened_units.specs.Units.{AreUnitsMade, IsBegun, IsClaimMade, IsDefinitionMade, IsEnded, IsInstanceMade, IsUnitMade, Reader}
use Rattle.own_symbols.specs.Ahead.{AreAllOwned, Owned, before_begin, first_own, own_ahead, own_at}

drop-first : {A : Type 0} (xs ys : List A) → drop (length xs) (xs ++ ys) ≡ ys
drop-first [] ys = refl
drop-first (x ∷ xs) ys = drop-first xs ys

same-frame : (owns : List (List Meaning)) (one two : Setting) (round : List Setting) → one.frame ≡ two.frame → AreAllOwned owns one round → AreAllOwned owns two round
same-frame [] one two round same are = are
same-frame (own ∷ owns) one two [] same are = absurd are
same-frame (own ∷ owns) one two (outer ∷ round) same are = (are.0 ∙ ap (drop (length outer.frame)) same, are.1)

-- a reader has the symbols that the next one has, and stands in the same modules
stays : (owns : List (List Meaning)) (mid reader : Reader) → mid.setting.frame ≡ reader.setting.frame → mid.round ≡ reader.round → AreAllOwned owns mid.setting mid.round → AreAllOwned owns reader.setting reader.round
stays owns mid reader frame round are = subst (AreAllOwned owns reader.setting) round (same-frame owns mid.setting reader.setting mid.round frame are)

module _ (flat : FlatModule) (text : Text) (means : ℕ → Option Meaning) (implied : ℕ → List Meaning) (files : List ℕ → FlatFace) (outsides : List ℕ → Outside) (words : List ℕ) where
  -- what the units from here on own
  abbrev ahead : KindState → List UnitTree → Owned
  ahead state units = own_ahead text (views text outsides words) words state.read units

  same-reader : (owns : List (List Meaning)) (mid reader : Reader) → mid ≡ reader → AreAllOwned owns mid.setting mid.round → AreAllOwned owns reader.setting reader.round
  same-reader owns mid reader same = stays owns mid reader (ap (λ (r : Reader). r.setting.frame) same) (ap (λ (r : Reader). r.round) same)

  behind-definition : (owns : List (List Meaning)) (mid reader : Reader) (x : Tree) (asked : List Question) → IsDefinitionMade flat text means implied files outsides words reader x mid asked → AreAllOwned owns mid.setting mid.round → AreAllOwned owns reader.setting reader.round
  behind-definition owns mid reader x asked (lead, roots, is, next_is) = stays owns mid reader (ap (λ (r : Reader). r.setting.frame) next_is) (ap (λ (r : Reader). r.round) next_is)

  behind-instance : (owns : List (List Meaning)) (state : KindState) (mid reader : Reader) (x : Tree) (asked : List Question) → IsInstanceMade flat text means implied files outsides words state reader x mid asked → AreAllOwned owns mid.setting mid.round → AreAllOwned owns reader.setting reader.round
  behind-instance owns state mid reader (Node (Form.Instance l) s rights) asked (written, roots, j, a, b, are, instance, next_is, asks) =
      stays owns mid reader (ap (λ (r : Reader). r.setting.frame) next_is) (ap (λ (r : Reader). r.round) next_is)
  behind-instance owns state mid reader (Node form s parts) asked is = same-reader owns mid reader is.0

  behind-claim : (owns : List (List Meaning)) (mid reader : Reader) (word : Lexeme) (x : Tree) (more : ℕ → List Question) (asked : List Question) → IsClaimMade flat text means implied files outsides words reader word x more mid asked → AreAllOwned owns mid.setting mid.round → AreAllOwned owns reader.setting reader.round
  behind-claim owns mid reader word x more asked (i, a, made, next_is, asks) = same-reader owns mid reader next_is

  -- a nested module begins with the symbols of the first one that ends behind it
  pub begun-owned : (owns : List (List Meaning)) (state : KindState) (mid reader : Reader) (name : Lexeme) (extends : List Lexeme) (begins : IsBegun flat text means implied files outsides words state reader name extends mid)
      → AreAllOwned owns mid.setting mid.round → first_own owns ≡ begins.0
  begun-owned owns state mid reader name extends (own, leads, both) are = by owns (subst (λ (r : Reader). AreAllOwned owns r.setting r.round) both.1 are)
    where
      by : (owns : List (List Meaning)) → AreAllOwned owns (record { leads = leads; frame = reader.setting.frame ++ own; olds = [] }) (reader.setting ∷ reader.round) → first_own owns ≡ own
      by [] are = absurd (cc are)
      by (first ∷ owns) are = are.0 ∙ drop-first reader.setting.frame own

  behind-begin : (owned : Owned) (state : KindState) (mid reader : Reader) (name : Lexeme) (extends : List Lexeme) → IsBegun flat text means implied files outsides words state reader name extends mid
      → AreAllOwned owned.round mid.setting mid.round → AreAllOwned (before_begin owned).round reader.setting reader.round
  behind-begin owned state mid reader name extends (own, leads, both) are = by owned.round (subst (λ (r : Reader). AreAllOwned owned.round r.setting r.round) both.1 are)
    where
      by : (owns : List (List Meaning)) → AreAllOwned owns (record { leads = leads; frame = reader.setting.frame ++ own; olds = [] }) (reader.setting ∷ reader.round) → AreAllOwned (drop 1 owns) reader.setting reader.round
      by [] are = absurd (cc are)
      by (first ∷ owns) are = same-frame owns reader.setting reader.setting reader.round refl are.1

  behind-end : (owned : Owned) (state : KindState) (readings : List Reading) (mid reader : Reader) (round : List Setting) → IsEnded flat text means implied files outsides words state readings reader round mid
      → AreAllOwned owned.round mid.setting mid.round → AreAllOwned (own_at state.read readings ∷ owned.round) reader.setting round
  behind-end owned state [] mid reader round is are = absurd is
  behind-end owned state (outside ∷ readings) mid reader [] is are = absurd is
  behind-end owned state (outside ∷ readings) mid reader (outer ∷ round) (frame, next_is) are = (frame, subst (λ (r : Reader). AreAllOwned owned.round r.setting r.round) next_is are)

  -- what a unit comes to before it
  unit-owned : (unit : UnitTree) (units : List UnitTree) (state : KindState) (reader mid : Reader) (asked : List Question) → IsUnitMade flat text means implied files outsides words state reader unit mid asked
      → AreAllOwned (ahead (after text outsides words state unit) units).round mid.setting mid.round → AreAllOwned (ahead state (unit ∷ units)).round reader.setting reader.round
  unit-owned (OperatorDefinition local x) units state reader mid asked is = behind-definition _ mid reader x asked is
  unit-owned (FunctionDefinition local x) units state reader mid asked is = behind-definition _ mid reader x asked is
  unit-owned (ModuleDefinition local x) units state reader mid asked is = behind-definition _ mid reader x asked is
  unit-owned (Instance local x) units state reader mid asked is = behind-instance _ state mid reader x asked is
  unit-owned (Assumption word name x) units state reader mid asked is = behind-claim _ mid reader word x _ asked is
  unit-owned (Theorem word name x) units state reader mid asked is = behind-claim _ mid reader word x _ asked is
  unit-owned (ModuleBegin dashes name extends) units state reader mid asked is = behind-begin (ahead (after text outsides words state (ModuleBegin dashes name extends)) units) state mid reader name extends is.0
  unit-owned (ModuleEnd closing) units state reader mid asked is = behind-end (ahead (after text outsides words state (ModuleEnd closing)) units) state state.read.place.round mid reader reader.round is.0
  unit-owned (Variables names) units state reader mid asked is = same-reader _ mid reader is.0
  unit-owned (Constants declarations) units state reader mid asked is = same-reader _ mid reader is.0
  unit-owned (Line dashes) units state reader mid asked is = same-reader _ mid reader is.0

  pub units-owned : (units : List UnitTree) (state : KindState) (reader last : Reader) (asked : List Question) → AreUnitsMade flat text means implied files outsides words state reader units last asked → last.round ≡ [] → AreAllOwned (ahead state units).round reader.setting reader.round
  units-owned [] state reader last asked made ends = sym (ap (λ (r : Reader). r.round) made.0) ∙ ends
  units-owned (unit ∷ units) state reader last asked (mid, a, b, is, more, asks) ends = unit-owned unit units state reader mid a is (units-owned units (after text outsides words state unit) mid last b more ends)
