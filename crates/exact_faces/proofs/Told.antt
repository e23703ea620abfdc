-- Faces that hold exactly what their exports reach are told by what stands at paths.
use Rattle.std.proofs.Common.{◌≡◌, Bool, true, cond, Option, Some, None, is_some, refl, sym, ap, subst, ◌∙◌, ◌∷◌, []}
use Rattle.std.specs.Prelude.{unwrap_or}
use Rattle.list_laws.proofs.Options.{some-there}
use Rattle.tla_model.specs.declared.ids.DeclId.{DeclId}
use Rattle.module_model.specs.Exports.{Exports, Instances, ModuleView, Path, behind_along, entries_along, entry_of, exported}
use Rattle.module_model.specs.Exports.{face_exports, face_instances, face_outside, found_behind, instantiable}
use Rattle.module_model.specs.Given.{AreReached, IsWhole}
use Rattle.module_model.specs.declared.face.Face.{Face}
use Rattle.face_views.specs.Same.{IsSameFace}
use Rattle.exact_faces.specs.Exact.{Behind, First, IsExact, IsNamed, IsReached}

-- what an instance that one of the entries names is, among those that hold each of them
pub named-there : (instances : Instances) (entries : Exports) (decl : DeclId) → AreReached instances entries → IsNamed entries decl → is_some (instances decl) ≡ true
named-there instances entries decl reached named =
    subst (λ d. is_some (instances d) ≡ true) named.is (reached named.name named.entity named.callee named.found named.leads)

-- what stands behind the name of an instance is what its module exports
pub found-named : (instances : Instances) (entries behind : Exports) (decl : DeclId) (named : IsNamed entries decl) → instances decl ≡ Some behind →
    found_behind instances (entry_of entries named.name) ≡ behind
found-named instances entries behind decl named is =
    ap (found_behind instances) named.found
    ∙ ap (λ (b : Bool). cond b (unwrap_or (instances named.callee.decl) []) []) named.leads
    ∙ ap (λ d. unwrap_or (instances d) []) named.is
    ∙ ap (λ (found : Option Exports). unwrap_or found []) is

-- both have the instance, and at each path behind it stands the same
record IsAlike (one other : Instances) (decl : DeclId) : Type 0 where
  here : Exports
  there : Exports
  first : one decl ≡ Some here
  second : other decl ≡ Some there
  along : (path : Path) → behind_along one here path ≡ behind_along other there path

module _ (one other : Instances) (exports : Exports)
    (plain : (decl : DeclId) (entries : Exports) → one decl ≡ Some entries → instantiable entries ≡ entries)
    (other_plain : (decl : DeclId) (entries : Exports) → other decl ≡ Some entries → instantiable entries ≡ entries)
    (roots : AreReached one exports) (other_roots : AreReached other exports)
    (behind : (decl : DeclId) (entries : Exports) → one decl ≡ Some entries → AreReached one entries)
    (other_behind : (decl : DeclId) (entries : Exports) → other decl ≡ Some entries → AreReached other entries)
    (same : (path : Path) → entries_along one exports path ≡ entries_along other exports path) where
  -- an instance is alike where both name it among entries behind which the same stands
  alike-named : (entries : Exports) (decl : DeclId) → AreReached one entries → AreReached other entries → (named : IsNamed entries decl) →
      ((path : Path) → behind_along one (found_behind one (entry_of entries named.name)) path ≡ behind_along other (found_behind other (entry_of entries named.name)) path) → IsAlike one other decl
  alike-named entries decl reached other_reached named paths =
      let here = some-there (one decl) (named-there one entries decl reached named) in
      let there = some-there (other decl) (named-there other entries decl other_reached named) in
      record {
        here = here.0;
        there = there.0;
        first = here.1;
        second = there.1;
        along = λ path.
            ap (λ (z : Exports). behind_along one z path) (sym (found-named one entries here.0 decl named here.1))
            ∙ paths path
            ∙ ap (λ (z : Exports). behind_along other z path) (found-named other entries there.0 decl named there.1);
      }

  -- and what it exports is the same
  alike-same : (decl : DeclId) (alike : IsAlike one other decl) → alike.here ≡ alike.there
  alike-same decl alike = sym (plain decl alike.here alike.first) ∙ alike.along [] ∙ other_plain decl alike.there alike.second

  alike-next : (from decl : DeclId) (entries : Exports) → one from ≡ Some entries → IsNamed entries decl → IsAlike one other from → IsAlike one other decl
  alike-next from decl entries is named alike =
      let mine : entries ≡ alike.here = some-same entries alike.here (sym is ∙ alike.first) in
      let others : other from ≡ Some entries = alike.second ∙ ap Some (sym (mine ∙ alike-same from alike)) in
      alike-named entries decl (behind from entries is) (other_behind from entries others) named
      (λ path.
      ap (λ (z : Exports). behind_along one z (named.name ∷ path)) mine
      ∙ alike.along (named.name ∷ path)
      ∙ ap (λ (z : Exports). behind_along other z (named.name ∷ path)) (sym (mine ∙ alike-same from alike)))
    where
      some-same : (a b : Exports) → Some a ≡ Some b → a ≡ b
      some-same a b e = cc

  all-alike : (decl : DeclId) → IsReached one exports decl → IsAlike one other decl
  all-alike decl (First named) = alike-named exports decl roots other_roots named (λ path. same (named.name ∷ path))
  all-alike decl (Behind {from = from} entries reached is named) = alike-next from decl entries is named (all-alike from reached)

  -- so an instance of the one is one of the other
  pub all-told : (decl : DeclId) (entries : Exports) → one decl ≡ Some entries → IsReached one exports decl → other decl ≡ Some entries
  all-told decl entries is reached =
      let alike = all-alike decl reached in
      alike.second ∙ ap Some (sym (alike-same decl alike)) ∙ sym alike.first ∙ is

-- what each tells of the other is the same
either-told : (one other : Option Exports) → ((entries : Exports) → one ≡ Some entries → other ≡ Some entries) → ((entries : Exports) → other ≡ Some entries → one ≡ Some entries) → one ≡ other
either-told (Some entries) other forth back = sym (forth entries refl)
either-told None (Some entries) forth back = back entries refl
either-told None None forth back = refl

pub faces-told : (one other : Face) → IsExact one → IsExact other → IsWhole one → IsWhole other → one.«module» ≡ other.«module» → face_outside one ≡ face_outside other → IsSameFace one other
faces-told one other exact other_exact whole other_whole named same =
    let exports : face_exports one ≡ face_exports other = ap exported same in
    let mine : Instances = face_instances one in
    let others : Instances = face_instances other in
    let roots : AreReached others (face_exports one) = subst (AreReached others) (sym exports) other_whole.exports in
    let along : (path : Path) → entries_along mine (face_exports one) path ≡ entries_along others (face_exports one) path =
    λ path. ap (λ (view : ModuleView). view.entries path) same ∙ ap (λ (z : Exports). entries_along others z path) (sym exports) in
    record {
      named = named;
      exports = exports;
      instances = λ decl. either-told (mine decl) (others decl)
          (λ entries is.
          all-told mine others (face_exports one) exact.behind other_exact.behind whole.exports roots whole.behind other_whole.behind along decl entries is (exact.reached decl entries is))
          (λ entries is.
          all-told others mine (face_exports one) other_exact.behind exact.behind roots whole.exports other_whole.behind whole.behind (λ path. sym (along path)) decl entries is
          (subst (λ z. IsReached others z decl) (sym exports) (other_exact.reached decl entries is)));
    }
