-- The entry by which a meaning comes from a module, and the depth that is given of what means the same.
use Rattle.std.proofs.Common.{◌≡◌, Bool, true, false, cond, List, [], ◌∷◌, Some, refl, sym, ap, ◌∙◌, subst}
use Rattle.std.specs.List.{AllByRecursion}
use Rattle.std.proofs.lemmas.Bool.{and_parts}
use Rattle.tla_model.specs.declared.names.Meaning.TheVariants.{BuiltIn, Declared}
use Rattle.tla_model.specs.Entities.{Meaning, same_decl, same_meaning, same_units}
use Rattle.tla_model.specs.EntityKinds.{is_meant, stands_behind}
use Rattle.tla_model.specs.Tables.{Named, same_named}
use Rattle.tla_model.specs.Same.{decl-equal, units-equal}
use Rattle.module_model.specs.Exports.{Exports, entry_of, instantiable}
use Rattle.tree_kinds.specs.Standing.{is_bound, name_among, same_standing}
use Rattle.tree_kinds.proofs.Standings.{standing-bound, standing-means}
use Rattle.flat_trees.proofs.Meanings.{named-equal, named-itself}
use Rattle.flat_kinds.proofs.Distinct.{HaveOwnNames}
use Rattle.given_depths.specs.Given.{GivenDepths, declared_depth, given_depth, no_reach}

-- the entry under a name by which a meaning comes
pub record Entry (entries : Exports) (meaning : Meaning) (name : Named) : Type 0 where
  pub other : Meaning
  pub there : entry_of entries name ≡ Some other
  pub same : same_standing meaning other ≡ true
  pub behind : is_meant stands_behind other ≡ true
  pub own : (key : Named) → AllByRecursion (λ (one : Named × Meaning). key ≡ one.0 → ⊥) entries → key ≡ name → ⊥

pub entry-found : (entries : Exports) (meaning : Meaning) (name : Named) → HaveOwnNames entries → name_among (instantiable entries) meaning ≡ Some name → Entry entries meaning name
entry-found [] meaning name own is = cc is
entry-found (entry ∷ rest) meaning name own is = by_kind (is_meant stands_behind entry.1) refl (entry-found rest meaning name own.1) is
  where
    later : Entry rest meaning name → Entry (entry ∷ rest) meaning name
    later found = record {
      other = found.other;
      there = by_name (same_named name entry.0) refl;
      same = found.same;
      behind = found.behind;
      own = λ key all. found.own key all.1;
    }
      where
        by_name : (b : Bool) → same_named name entry.0 ≡ b → cond b (Some entry.1) (entry_of rest name) ≡ Some found.other
        by_name false is = found.there
        by_name true is = absurd (found.own entry.0 own.0 (sym (named-equal name entry.0 is)))

    by_same : (b : Bool) → same_standing meaning entry.1 ≡ b → is_meant stands_behind entry.1 ≡ true → (name_among (instantiable rest) meaning ≡ Some name → Entry rest meaning name) → cond b (Some entry.0) (name_among (instantiable rest) meaning) ≡ Some name → Entry (entry ∷ rest) meaning name
    by_same true same behind others is =
        let named : entry.0 ≡ name = cc is in
        record {
          other = entry.1;
          there = ap (λ b. cond b (Some entry.1) (entry_of rest name)) (subst (λ n. same_named n entry.0 ≡ true) named (named-itself entry.0));
          same = same;
          behind = behind;
          own = λ key all equal. all.0 (equal ∙ sym named);
        }
    by_same false same behind others is = later (others is)

    by_kind : (b : Bool) → is_meant stands_behind entry.1 ≡ b → (name_among (instantiable rest) meaning ≡ Some name → Entry rest meaning name) → name_among (cond b (entry ∷ instantiable rest) (instantiable rest)) meaning ≡ Some name → Entry (entry ∷ rest) meaning name
    by_kind true behind others is = by_same (same_standing meaning entry.1) refl behind others is
    by_kind false behind others is = later (others is)

module _ (given : GivenDepths) where
  declared-alike : (a b : Meaning) (path : List Named) → same_meaning a b ≡ true → declared_depth given a path ≡ declared_depth given b path
  declared-alike BuiltIn BuiltIn path same = refl
  declared-alike BuiltIn (Declared f y) path same = absurd (cc same)
  declared-alike (Declared e x) BuiltIn path same = absurd (cc same)
  declared-alike (Declared e x) (Declared f y) path same =
      let parts = and_parts (same_decl x.decl y.decl) (same_units x.via y.via) same in
      ap (λ d. given d x.via path) (decl-equal x.decl y.decl parts.0) ∙ ap (λ via. given y.decl via path) (units-equal x.via y.via parts.1)

  -- of what means the same the same depth is given
  pub given-alike : (a b : Meaning) (path : List Named) → same_standing a b ≡ true → given_depth given a path ≡ given_depth given b path
  given-alike a b path same =
      ap (λ t. cond t no_reach (declared_depth given a path)) (standing-bound a b same)
      ∙ ap (λ r. cond (is_bound b) no_reach r) (declared-alike a b path (standing-means a b same))
