-- Faces are those of the modules that can be named, wherever a unit is read.
use Rattle.std.proofs.Common.{◌≡◌, ℕ, Bool, true, false, cond, List, [], ◌∷◌, ◌++◌, Option, Some, None, is_some, refl, sym, subst}
use Rattle.std.specs.Str.{bytes_eq}
use Rattle.tla_tree.specs.declared.form.Form.TheVariants as Form
use Rattle.tla_tree.specs.Syntax.{Tree, Node}
use Rattle.unit_grammar.specs.Units.{UnitTree, Variables, Constants, OperatorDefinition, FunctionDefinition, ModuleDefinition, Instance, Assumption, Theorem, Line, ModuleBegin, ModuleEnd}
use Rattle.tla_model.specs.Entities.{Meaning, Text}
use Rattle.tla_model.specs.Lexemes.{spelled}
use Rattle.tla_model.specs.Tables.{added}
use Rattle.module_scope.specs.Environments.{Environment, Scope, ended, meaning}
use Rattle.module_model.specs.Modules.{Reading}
use Rattle.kind_text.specs.FlatModule.{FlatModule}
use Rattle.tree_kinds.specs.Standing.{Outside}
use Rattle.module_kinds.specs.ModuleKinds.{KindState, after, module_under, named_in, nested_outside}
use Rattle.flattened_trees.specs.Leads.{FlatFace, Setting}
use Rattle.flattened_trees.specs.Questions.{Question}
use Rattle.flattened_units.specs.Units.{IsEnded, IsUnitMade, Reader, face_in, face_under}
use Rattle.accepted_modules.specs.Faces.{FacesReadAs, AreReadAs, AreRoundReadAs, ReadsAs, IsReadAs}

-- what a name means is known so
abbrev pub IsFoundAs : Option (Option FlatFace) → Option (Option Outside) → Type 0
IsFoundAs None None = Unit {0}
IsFoundAs (Some face) (Some outside) = IsReadAs face outside
IsFoundAs face outside = ⊥

pub found-as : (faces : Environment FlatFace) (modules : Environment Outside) (name : List ℕ) → AreReadAs faces modules → IsFoundAs (meaning faces name) (meaning modules name)
found-as [] [] name all = tt
found-as [] (named ∷ modules) name all = absurd all
found-as (face ∷ faces) [] name all = absurd all
found-as (face ∷ faces) (named ∷ modules) name all =
    subst (λ n. IsFoundAs (cond (bytes_eq name face.0) (Some face.1) (meaning faces name)) (cond (bytes_eq name n) (Some named.1) (meaning modules name))) all.0
    (by (bytes_eq name face.0) (found-as faces modules name all.2))
  where
    by : (b : Bool) → IsFoundAs (meaning faces name) (meaning modules name) → IsFoundAs (cond b (Some face.1) (meaning faces name)) (cond b (Some named.1) (meaning modules name))
    by true others = all.1
    by false others = others

both-behind : (faces : Environment FlatFace) (modules : Environment Outside) (name : List ℕ) (face : Option FlatFace) (outside : Option Outside) → AreReadAs faces modules → IsReadAs face outside → AreReadAs (faces ++ (name, face) ∷ []) (modules ++ (name, outside) ∷ [])
both-behind [] [] name face outside all one = (refl, one, tt)
both-behind [] (named ∷ modules) name face outside all one = absurd all
both-behind (first ∷ faces) [] name face outside all one = absurd all
both-behind (first ∷ faces) (named ∷ modules) name face outside all one = (all.0, all.1, both-behind faces modules name face outside all.2 one)

added-as : (faces : Environment FlatFace) (modules : Environment Outside) (name : List ℕ) (face : Option FlatFace) (outside : Option Outside) → AreReadAs faces modules → IsReadAs face outside → AreReadAs (added bytes_eq faces name face) (added bytes_eq modules name outside)
added-as faces modules name face outside all one = by (meaning faces name) (meaning modules name) (found-as faces modules name all)
  where
    by : (o : Option (Option FlatFace)) (p : Option (Option Outside)) → IsFoundAs o p → AreReadAs (cond (is_some o) faces (faces ++ (name, face) ∷ [])) (cond (is_some p) modules (modules ++ (name, outside) ∷ []))
    by None None found = both-behind faces modules name face outside all one
    by None (Some other) found = absurd found
    by (Some other) None found = absurd found
    by (Some a) (Some b) found = all

ended-as : (face : FlatFace) (outside : Outside) (faces : Scope FlatFace) (modules : Scope Outside) → ReadsAs face outside → FacesReadAs faces modules → FacesReadAs (ended face faces.here faces.round) (ended outside modules.here modules.round)
ended-as face outside faces modules one is = by faces.round modules.round is.round
  where
    by : (a : List (List ℕ × Environment FlatFace)) (b : List (List ℕ × Environment Outside)) → AreRoundReadAs a b → FacesReadAs (ended face faces.here a) (ended outside modules.here b)
    by [] [] round = record { here = is.here; round = tt }
    by [] (nested ∷ rest) round = absurd round
    by (first ∷ rest) [] round = absurd round
    by (first ∷ rest) (nested ∷ others) round = record {
      here = subst (λ name. AreReadAs (added bytes_eq first.1 first.0 (Some face)) (added bytes_eq nested.1 name (Some outside))) round.0 (added-as first.1 nested.1 first.0 (Some face) (Some outside) round.1 one);
      round = round.2;
    }

module _ (flat : FlatModule) (text : Text) (means : ℕ → Option Meaning) (implied : ℕ → List Meaning) (files : List ℕ → FlatFace) (outsides : List ℕ → Outside) (words : List ℕ) where
  -- the face of a name is that of its module
  pub named-face : (faces : Scope FlatFace) (modules : Scope Outside) (name : List ℕ) → FacesReadAs faces modules → ((name : List ℕ) → ReadsAs (files name) (outsides name)) → (meaning modules.here name ≡ Some None → ⊥) → ReadsAs (face_in flat text means implied files outsides words faces name) (named_in text outsides words modules name)
  named-face faces modules name is given apart = by (meaning faces.here name) (meaning modules.here name) apart (found-as faces.here modules.here name is.here)
    where
      by : (o : Option (Option FlatFace)) (p : Option (Option Outside)) → (p ≡ Some None → ⊥) → IsFoundAs o p → ReadsAs (face_under files o name) (module_under outsides p name)
      by None None apart found = given name
      by None (Some other) apart found = absurd found
      by (Some other) None apart found = absurd found
      by (Some None) (Some None) apart found = absurd (apart refl)
      by (Some None) (Some (Some outside)) apart found = absurd found
      by (Some (Some face)) (Some None) apart found = absurd found
      by (Some (Some face)) (Some (Some outside)) apart found = found

  -- behind a unit
  pub unit-faces : (state : KindState) (reader : Reader) (unit : UnitTree) (next : Reader) (asked : List Question) → FacesReadAs reader.faces state.modules → IsUnitMade flat text means implied files outsides words state reader unit next asked
      → FacesReadAs next.faces (after text outsides words state unit).modules
  unit-faces state reader (OperatorDefinition local x) next asked is made = subst (λ (r : Reader). FacesReadAs r.faces state.modules) (sym made.3) is
  unit-faces state reader (FunctionDefinition local x) next asked is made = subst (λ (r : Reader). FacesReadAs r.faces state.modules) (sym made.3) is
  unit-faces state reader (ModuleDefinition local x) next asked is made = subst (λ (r : Reader). FacesReadAs r.faces state.modules) (sym made.3) is
  unit-faces state reader (Instance local x) next asked is made = by x made
    where
      by : (x : Tree) → IsUnitMade flat text means implied files outsides words state reader (Instance local x) next asked → FacesReadAs next.faces state.modules
      by (Node (Form.Instance l) s rights) made = subst (λ (r : Reader). FacesReadAs r.faces state.modules) (sym made.7) is
      by (Node Form.Let s rights) made = subst (λ (r : Reader). FacesReadAs r.faces state.modules) (sym made.0) is
      by (Node _ s rights) made = subst (λ (r : Reader). FacesReadAs r.faces state.modules) (sym made.0) is
  unit-faces state reader (Assumption word name x) next asked is made = subst (λ (r : Reader). FacesReadAs r.faces state.modules) (sym made.3) is
  unit-faces state reader (Theorem word name x) next asked is made = subst (λ (r : Reader). FacesReadAs r.faces state.modules) (sym made.3) is
  unit-faces state reader (ModuleBegin dashes name extends) next asked is made =
      subst (λ (r : Reader). FacesReadAs r.faces (after text outsides words state (ModuleBegin dashes name extends)).modules) (sym made.0.2.1)
      (record { here = added-as reader.faces.here state.modules.here (spelled text.source name) None None is.here tt; round = (refl, is.here, is.round) })
  unit-faces state reader (ModuleEnd closing) next asked is made = by state.read.place.round reader.round made.0
    where
      by : (round : List Reading) (settings : List Setting) → IsEnded flat text means implied files outsides words state round reader settings next → FacesReadAs next.faces (ended (nested_outside state round) state.modules.here state.modules.round)
      by [] settings made = absurd made
      by (outer ∷ round) [] made = absurd made
      by (outer ∷ round) (setting ∷ settings) made =
          subst (λ (r : Reader). FacesReadAs r.faces (ended (nested_outside state (outer ∷ round)) state.modules.here state.modules.round)) (sym made.1)
          (ended-as _ (nested_outside state (outer ∷ round)) reader.faces state.modules (record { parameters = refl; constant = refl }) is)
  unit-faces state reader (Variables names) next asked is made = subst (λ (r : Reader). FacesReadAs r.faces state.modules) (sym made.0) is
  unit-faces state reader (Constants declarations) next asked is made = subst (λ (r : Reader). FacesReadAs r.faces state.modules) (sym made.0) is
  unit-faces state reader (Line dashes) next asked is made = subst (λ (r : Reader). FacesReadAs r.faces state.modules) (sym made.0) is
