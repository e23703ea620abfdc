-- Where code walks, what is known round a tree is what the definitions have there.
use Rattle.std.proofs.Common.{◌≡◌, ℕ, Bool, true, false, cond, List, [], ◌∷◌, Option, Some, None, refl, sym, ap, subst, ◌∙◌}
use Rattle.std.specs.Prelude.{option_map}
use Rattle.std.specs.List.{AllByRecursion}
use Rattle.std.specs.Str.{bytes_eq}
use Rattle.unit_grammar.specs.Units.{UnitTree}
use Rattle.tla_model.specs.Tables.{Named}
use Rattle.module_scope.specs.Environments.{Environment, meaning}
use Rattle.kind_text.specs.FlatModule.{FlatModule}
use Rattle.flattened_trees.specs.Leads.{FlatFace}
use Rattle.flattened_trees.specs.Within.{IsLeadWithin}
use Rattle.flattened_units.specs.Units.{Reader, face_in, face_under}
use Rattle.tree_flattener.specs.Worlds.{IsLocalWithin, IsReady, DoLie, implied_of, means_of, setting_of, with_locals}
use Rattle.tree_flattener.specs.declared.written.Written.{Written}
use Rattle.module_leads.specs.Leading.{leading_in}
use Rattle.module_leads.specs.Ways.{face_at}
use Rattle.unit_flattener.specs.Numbers.{faces_in, faces_named, file_faces, number_of, number_under}
use Rattle.unit_flattener.specs.Walking.{IsWalking, Walk, files_in, over_in, world_at}
use Rattle.unit_flattener.specs.declared.flattener.UnitFlattener.{UnitFlattener}

-- ---- what modules that can be named are

module _ (faces : ℕ → FlatFace) (files : List ℕ → Option ℕ) where
  meaning-named : (modules : Environment ℕ) (name : List ℕ) → meaning (faces_named faces modules) name ≡ option_map (option_map faces) (meaning modules name)
  meaning-named [] name = refl
  meaning-named (entry ∷ modules) name = by (bytes_eq name entry.0) (meaning-named modules name)
    where
      by : (b : Bool) → meaning (faces_named faces modules) name ≡ option_map (option_map faces) (meaning modules name)
          → cond b (Some (option_map faces entry.1)) (meaning (faces_named faces modules) name) ≡ option_map (option_map faces) (cond b (Some entry.1) (meaning modules name))
      by true rest = refl
      by false rest = rest

  pub under-named : (modules : Environment ℕ) (name : List ℕ) → face_under (file_faces faces files) (meaning (faces_named faces modules) name) name ≡ faces_in faces files modules name
  under-named modules name = by (meaning modules name) (meaning-named modules name)
    where
      by : (o : Option (Option ℕ)) → meaning (faces_named faces modules) name ≡ option_map (option_map faces) o
          → face_under (file_faces faces files) (meaning (faces_named faces modules) name) name ≡ face_at faces (number_under (files name) o)
      by None same = rw same refl
      by (Some None) same = rw same refl
      by (Some (Some number)) same = rw same refl

-- ---- where code walks

module _ (written : Written) (walk : Walk) (before rest : List UnitTree) (code : UnitFlattener) (reader : Reader) (at : IsWalking written.text.now walk before rest code reader) where
  -- modules are to their instances what the definitions say
  pub faces-here : (flat : FlatModule) → (world_at written code).faces
      ≡ face_in flat written.text.now (means_of written) (implied_of written) walk.files walk.outsides (over_in walk).words reader.faces
  faces-here flat = λ i name. (
      sym (under-named (leading_in code.leads).faces (files_in code) code.modules.here name)
      ∙ ap (λ modules. face_under (file_faces (leading_in code.leads).faces (files_in code)) (meaning (faces_named (leading_in code.leads).faces modules) name) name) at.kept.here
      ∙ ap (λ f. face_under f (meaning (faces_named (leading_in code.leads).faces at.names.here) name) name) (sym at.files)
      ∙ ap (λ scope. face_under walk.files (meaning scope.here name) name) (sym at.faces)) i

  -- and so is the setting
  pub setting-here : setting_of (world_at written code) code.state code.frame [] ≡ reader.setting
  setting-here = λ i. record {
    leads = (ap (with_locals (world_at written code) (leading_in code.leads).leads) at.locals ∙ sym at.setting.lead) i;
    frame = (sym at.setting.framed) i;
    olds = (sym at.setting.olds) i;
  }

  -- everything is there
  pub ready-here : IsReady (world_at written code) code.state code.frame []
  ready-here = record {
    known = record {
      within = record {
        leads = at.within.leads;
        faces = λ name names. face-within (number_of (files_in code) code.modules.here name) names;
      };
      locals = subst (λ entries. AllByRecursion (λ entry. IsLocalWithin code.state.flat entry.local) entries) (sym at.locals) tt;
      lie = subst (DoLie written.text.now.source) (sym at.locals) tt;
    };
    framed = at.setting.there;
    repeated = tt;
  }
    where
      face-within : (number : Option ℕ) (names : List Named) → IsLeadWithin code.state.flat ((face_at (leading_in code.leads).faces number).leads names)
      face-within None names = record { path = tt; end = tt }
      face-within (Some number) names = at.within.faces number names
