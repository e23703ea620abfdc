-- What stands for a name by what it means, among entries and where names lead.
use Rattle.std.proofs.Common.{◌≡◌, Bool, true, false, cond, List, [], ◌∷◌, inl, inr, Some, None, refl, sym, ap, ◌∙◌}
use Rattle.std.specs.Prelude.{◌||◌}
use Rattle.std.proofs.lemmas.Bool.{and_parts}
use Rattle.tla_model.specs.declared.ids.Callee.{Callee}
use Rattle.tla_model.specs.declared.names.Meaning.TheVariants.{Declared}
use Rattle.tla_model.specs.Tables.{Named}
use Rattle.tla_model.specs.Entities.{Entity, Meaning, same_decl, same_meaning, same_units}
use Rattle.tla_model.specs.Same.{decl-equal}
use Rattle.module_model.specs.Exports.{Exports}
use Rattle.tree_kinds.specs.Standing.{name_among, same_standing}
use Rattle.tree_kinds.proofs.Standings.{standing-itself, standing-means}
use Rattle.flat_kinds.specs.Readings.{is_among}
use Rattle.flattened_trees.specs.Leads.{Lead, Leads, with_lead, with_leads}
use Rattle.accepted_modules.proofs.Tables.{IsThere}

-- ---- entries that mean the same

-- the name among entries is that of one that means the same
pub among-there : (entries : Exports) (m : Meaning) (name : Named) → name_among entries m ≡ Some name → (n : Meaning) × IsThere entries name n × (same_meaning m n ≡ true)
among-there [] m name at = absurd (cc)
among-there (entry ∷ rest) m name at = by (same_standing m entry.1) refl (among-there rest m name) at
  where
    by : (b : Bool) → same_standing m entry.1 ≡ b → (name_among rest m ≡ Some name → (n : Meaning) × IsThere rest name n × (same_meaning m n ≡ true)) → cond b (Some entry.0) (name_among rest m) ≡ Some name
        → (n : Meaning) × IsThere (entry ∷ rest) name n × (same_meaning m n ≡ true)
    by true is others at = (entry.1, inl (cc at, refl), standing-means m entry.1 is)
    by false is others at = let later = others at in (later.0, inr later.1, later.2)

pub same-declared : (e f : Entity) (a b : Callee) → same_meaning (Declared e a) (Declared f b) ≡ true → a.decl ≡ b.decl
same-declared e f a b same = decl-equal a.decl b.decl (and_parts (same_decl a.decl b.decl) (same_units a.via b.via) same).0

-- an entry is named among its own
pub named-there : (entries : Exports) (name : Named) (m : Meaning) → IsThere entries name m → name_among entries m ≡ None → ⊥
named-there [] name m there none = absurd there
named-there (entry ∷ rest) name m (inl same) none =
    let found : same_standing m entry.1 ≡ true = ap (same_standing m) same.1 ∙ standing-itself m in
    let e : cond true (Some entry.0) (name_among rest m) ≡ None = ap (λ b. cond b (Some entry.0) (name_among rest m)) (sym found) ∙ none in
    cc e
named-there (entry ∷ rest) name m (inr there) none = by (same_standing m entry.1) none (named-there rest name m there)
  where
    by : (b : Bool) → cond b (Some entry.0) (name_among rest m) ≡ None → (name_among rest m ≡ None → ⊥) → ⊥
    by true none later = cc none
    by false none later = later none

-- a name leads as before where none of these means the same
pub leads-left : (leads : Leads) (defined : List Meaning) (lead : List Named → Lead) (m : Meaning) (names : List Named) → is_among defined m ≡ false → with_leads leads defined lead m names ≡ leads m names
leads-left leads [] lead m names apart = refl
leads-left leads (other ∷ rest) lead m names apart = by (same_standing m other) refl apart (leads-left (with_lead leads other lead) rest lead m names)
  where
    by : (b : Bool) → same_standing m other ≡ b → (b || is_among rest m) ≡ false → (is_among rest m ≡ false → with_leads (with_lead leads other lead) rest lead m names ≡ with_lead leads other lead m names)
        → with_leads (with_lead leads other lead) rest lead m names ≡ leads m names
    by true is apart later = absurd (cc apart)
    by false is apart later = later apart ∙ ap (λ b. cond b (lead names) (leads m names)) is
