-- A module that ends, which no other one is round.
use Rattle.std.proofs.Common.{◌≡◌, ℕ, suc, ◌<◌, ◌≤◌, Bool, List, [], ◌∷◌, ◌++◌, refl, sym, ap, ◌∙◌, subst, get_or, length, arith}
use Rattle.std.specs.List.{AllByRecursion}
use Rattle.tla_model.specs.Entities.{Meaning}
use Rattle.tla_model.specs.Tables.{Table}
use Rattle.module_model.specs.Exports.{exports_of}
use Rattle.tree_names.specs.declared.parameter.Parameter.{Parameter}
use Rattle.tree_names.specs.Parameters.{entries_in}
use Rattle.module_leads.specs.declared.faces.FaceNames.TheVariants as names
use Rattle.module_leads.specs.declared.faces.ModuleFace.{ModuleFace}
use Rattle.module_leads.specs.declared.layer.Layer.{Layer}
use Rattle.module_leads.specs.declared.leads.ModuleLeads.{ModuleLeads}
use Rattle.module_leads.specs.Faces.{faces_of, table_way}
use Rattle.module_leads.specs.Layers.{IsLayerWithin, way_by}
use Rattle.module_leads.specs.Leading.{AreWithin, IsSound, IsTaken, face_over, leading_in, leading_of, left, with_face}
use Rattle.module_leads.proofs.Numbered.{length-more}
use Rattle.module_leads.proofs.Placed.{ended, face-over, faced, table-ways}
use Rattle.module_leads.proofs.Within.{layer-more}

-- one that is there alone
pub one-alone : {A : Type 0} (xs : List A) (x : A) → 1 ≤ length xs → length xs < 2 → x ≡ get_or xs 0 x → xs ≡ x ∷ []
one-alone [] x some few is = absurd (omega arith)
one-alone (y ∷ []) x some few is = λ i. sym is i ∷ []
one-alone (y ∷ (z ∷ xs)) x some few is = absurd (omega arith)

-- the last of one alone is that one
pub last-alone : {A : Type 0} (before : List A) (last x : A) → before ++ last ∷ [] ≡ x ∷ [] → (before ≡ []) × (last ≡ x)
last-alone [] last x is = (refl, cc)
last-alone (y ∷ []) last x is = cc
last-alone (y ∷ (z ∷ before)) last x is = cc

-- what is said in it is kept with the table of what it exports
module _ (old new : ModuleLeads) (layer : Layer) (taken : IsTaken old new layer) (exports : Table Meaning) (parameters : List Parameter) (outer : ℕ) (is_constant : Bool) where
  abbrev pub kept : ModuleFace
  kept = record { parameters = parameters; outer = outer; is_constant = is_constant; names = names.Table (record { exports = exports; layer = layer }) }

  pub module-ended : (more : List ModuleFace) → more ≡ new.faces.items ++ kept ∷ [] → IsSound old
      → leading_of more new.round.items new.here ≡ left (with_face (leading_in old) (face_over (entries_in parameters) outer is_constant (exports_of exports) (leading_in old).leads))
  module-ended more longer sound =
      ended more old.round.items new.round.items old.here new.here (taken.round ∙ ap (λ layers. layers ++ new.here ∷ []) (sym taken.left))
      ∙ ap left (
      faced old.faces.items more kept (face_over (entries_in parameters) outer is_constant (exports_of exports) (leading_in old).leads) old.round.items old.here
      (longer ∙ ap (λ faces. faces.items ++ kept ∷ []) taken.faces)
      (face-over (faces_of old.faces.items) (way_by old.round.items old.here) kept (exports_of exports)
      (λ name. ap (λ here. table_way (record { exports = exports; layer = here }) name) taken.here ∙ table-ways exports old.here new.here old.round.items taken.round taken.silent name))
      sound)

  -- what is known stays sound
  pub sound-ended : (more : List ModuleFace) → more ≡ new.faces.items ++ kept ∷ [] → IsSound old → AreWithin more new.round.items new.here
  sound-ended more longer sound =
      let before = ap (λ faces. length faces.items) taken.faces in
      let long : length more ≡ suc (length old.faces.items) = ap length longer ∙ length-more new.faces.items kept ∙ ap suc before in
      let fewer : length old.faces.items ≤ length more = omega arith in
      let round = subst (AllByRecursion (IsLayerWithin (length old.faces.items))) taken.round sound.outer in
      record {
        outer = subst (AllByRecursion (IsLayerWithin (length more))) (sym taken.left) tt;
        inner = layer-more (length old.faces.items) (length more) new.here fewer round.0;
      }
