-- What stands behind names.
use Rattle.std.proofs.Common.{◌≡◌, [], ◌∷◌, ◌⊎◌, inl, inr, Option, Some, None, refl, sym, ap, ◌∙◌}
use Rattle.tla_model.specs.declared.entity.Entity.TheVariants as entity
use Rattle.tla_model.specs.declared.names.Meaning.TheVariants.{BuiltIn, Declared}
use Rattle.tla_model.specs.Tables.{Named}
use Rattle.tla_model.specs.Entities.{Meaning}
use Rattle.module_model.specs.Exports.{Behind, Known, at_path, behind_meaning, entry_of, onward}
use Rattle.flattened_trees.specs.Readable.{IsInstanceOf, orders_of}
use Rattle.readable_laws.specs.Accepted.{AreBehindInstances, IsBehindInstances}

-- where a name stands behind this, it is an instance
pub record Leads (m : Meaning) (held : Behind) : Type 0 where
  pub instance : (name : Named) (next : Meaning) → entry_of (held []) name ≡ Some next → IsInstanceOf m (orders_of m)
  pub further : IsBehindInstances held

pub next-leads : (m : Meaning) (held : Behind) (name : Named) (next : Meaning) → Leads m held → entry_of (held []) name ≡ Some next → Leads next (onward held name)
next-leads m held name next leads at = record {
  instance = λ further meaning there. by further meaning there (leads.further [] name next at);
  further = λ path other meaning there. leads.further (name ∷ path) other meaning there;
}
  where
    by : (further : Named) (meaning : Meaning) → entry_of (held (name ∷ [])) further ≡ Some meaning → IsInstanceOf next (orders_of next) ⊎ (held (name ∷ []) ≡ []) → IsInstanceOf next (orders_of next)
    by further meaning there (inl is) = is
    by further meaning there (inr none) = let gone : None ≡ Some meaning = sym (ap (λ entries. entry_of entries further) none) ∙ there in absurd (cc gone)

module _ (known : Known) (all : AreBehindInstances known) where
  known-leads : (o : Option Behind) → ((held : Behind) → o ≡ Some held → IsBehindInstances held) → IsBehindInstances (at_path o)
  known-leads None each path name meaning there = absurd (cc)
  known-leads (Some held) each path name meaning there = each held refl path name meaning there

  none-leads : IsBehindInstances (λ path. [])
  none-leads path name meaning there = absurd (cc)

  pub first-leads : (m : Meaning) → Leads m (behind_meaning known (Some m))
  first-leads BuiltIn = record { instance = λ name next there. absurd (cc); further = none-leads }
  first-leads (Declared (entity.Instance is) callee) = record { instance = λ name next there. refl; further = known-leads (known callee.decl) (all callee.decl) }
  first-leads (Declared _ callee) = record { instance = λ name next there. absurd (cc); further = none-leads }
