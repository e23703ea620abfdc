-- What is there stays there, and where names lead is there.
use Rattle.std.proofs.Common.{◌≡◌, ℕ, zero, suc, ◌<◌, ◌≤◌, List, [], ◌∷◌, Bool, true, false, Some, None, sym, ap, subst, ◌∙◌, length, arith}
use Rattle.std.specs.Prelude.{Option, if◌then◌else◌, slice_get}
use Rattle.std.specs.List.{AllByRecursion}
use Rattle.std.proofs.lemmas.Option.{slice_get_within}
use Rattle.list_laws.proofs.Lists.{all-weaker, item-at}
use Rattle.tla_model.specs.Tables.{Named}
use Rattle.tla_model.specs.Entities.{Meaning}
use Rattle.tree_kinds.specs.Standing.{same_standing}
use Rattle.kind_text.specs.FlatModule.{Extends, FlatModule, Keeps, UsesDefinition, UsesInstance}
use Rattle.flattened_trees.specs.declared.End.TheVariants as end
use Rattle.flattened_trees.specs.Leads.{Lead, Leads, with_lead}
use Rattle.flattened_trees.specs.NodeForms.{lead_of}
use Rattle.tree_flattener.specs.declared.locals.Entry.{Entry}
use Rattle.tree_flattener.specs.declared.locals.Local.TheVariants as local
use Rattle.tree_flattener.specs.declared.state.Flattening.{Flattening}
use Rattle.flattened_trees.specs.Within.{IsEndWithin, IsLeadWithin}
use Rattle.tree_flattener.specs.Worlds.{AreWithin, DoLie, IsKnown, IsLocalWithin, World, declared_at, lead_by, with_locals}

-- a list that has more is as long at least
pub longer : {A : Type 0} (xs ys : List A) → Keeps xs ys → length xs ≤ length ys
longer {A} xs ys keeps = by_all (length xs) (item-at xs)
  where
    by_all : (n : ℕ) → ((i : ℕ) → i < n → (x : A) × (slice_get xs i ≡ Some x)) → n ≤ length ys
    by_all zero read = omega arith
    by_all (suc n) read =
        let last = read n (omega arith) in
        let within = slice_get_within ys n last.0 (keeps n last.0 last.1) in
        omega (arith, within)

module _ (flat more : FlatModule) (extends : Extends flat more) where
  pub below-on : (i : ℕ) → i < length flat.nodes → i < length more.nodes
  below-on i here = let l = longer flat.nodes more.nodes extends.nodes in omega (arith, l, here)

  pub all-below-on : (is : List ℕ) → AllByRecursion (λ i. i < length flat.nodes) is → AllByRecursion (λ i. i < length more.nodes) is
  all-below-on is all = all-weaker (λ i. i < length flat.nodes) (λ i. i < length more.nodes) below-on is all

  pub instance-on : (j : ℕ) → UsesInstance flat (length flat.nodes) j → UsesInstance more (length more.nodes) j
  instance-on j u = (u.0, extends.instances j u.0 u.1, all-weaker (λ r. r.root < length flat.nodes) (λ r. r.root < length more.nodes) (λ r. below-on r.root) u.0.replacements u.2)

  pub definition-on : (d : ℕ) → UsesDefinition flat (length flat.nodes) d → UsesDefinition more (length more.nodes) d
  definition-on d u = (u.0, extends.definitions d u.0 u.1, below-on u.0.root u.2)

  end-on : (e : end.the_data) → IsEndWithin flat e → IsEndWithin more e
  end-on end.Nowhere within = tt
  end-on (end.Leaf kind) within = tt
  end-on (end.Place place order) within = tt
  end-on (end.Definition d) within = definition-on d within

  pub lead-on : (lead : Lead) → IsLeadWithin flat lead → IsLeadWithin more lead
  lead-on lead within = record { path = all-weaker (UsesInstance flat (length flat.nodes)) (UsesInstance more (length more.nodes)) instance-on lead.path within.path; end = end-on lead.end within.end }

  pub local-on : (l : local.the_data) → IsLocalWithin flat l → IsLocalWithin more l
  local-on local.Nothing within = tt
  local-on (local.Place place order) within = tt
  local-on (local.Definition d) within = definition-on d within
  local-on (local.Instance j l) within = instance-on j within

  pub within-on : (w : World) → AreWithin w flat → AreWithin w more
  within-on w within =
      record {
        leads = λ meaning names. lead-on (w.leads meaning names) (within.leads meaning names);
        faces = λ bytes names. lead-on ((w.faces bytes).leads names) (within.faces bytes names);
      }

-- ---- names in scope

module _ (w : World) (flat : FlatModule) (within : AreWithin w flat) where
  -- where a name of a scope leads is there
  pub local-within : (l : local.the_data) → IsLocalWithin flat l → (names : List Named) → IsLeadWithin flat (lead_by w l names)
  local-within local.Nothing here names = record { path = tt; end = tt }
  local-within (local.Place place order) here [] = record { path = tt; end = tt }
  local-within (local.Place place order) here (name ∷ names) = record { path = tt; end = tt }
  local-within (local.Definition d) here [] = record { path = tt; end = here }
  local-within (local.Definition d) here (name ∷ names) = record { path = tt; end = tt }
  local-within (local.Instance j l) here [] = record { path = tt; end = tt }
  local-within (local.Instance j l) here (name ∷ names) =
      let behind = within.faces _ (name ∷ names) in record { path = (here, behind.path); end = behind.end }

  leads-within : (entries : List Entry) (leads : Leads) → AllByRecursion (λ entry. IsLocalWithin flat entry.local) entries → ((meaning : Meaning) (names : List Named) → IsLeadWithin flat (leads meaning names))
      → (meaning : Meaning) (names : List Named) → IsLeadWithin flat (with_locals w leads entries meaning names)
  leads-within [] leads all known = known
  leads-within (entry ∷ entries) leads all known = leads-within entries (with_lead leads (declared_at w.text entry.place) (lead_by w entry.local)) all.1 next
    where
      by_test : (b : Bool) (meaning : Meaning) (names : List Named) → IsLeadWithin flat (if b then lead_by w entry.local names else leads meaning names)
      by_test true meaning names = local-within entry.local all.0 names
      by_test false meaning names = known meaning names

      next : (meaning : Meaning) (names : List Named) → IsLeadWithin flat (with_lead leads (declared_at w.text entry.place) (lead_by w entry.local) meaning names)
      next meaning names = by_test (same_standing meaning (declared_at w.text entry.place)) meaning names

-- where a name leads that may mean nothing is there
pub named-within : (w : World) (state : Flattening) → IsKnown w state → (meaning : Option Meaning) (names : List Named) → IsLeadWithin state.flat (lead_of (with_locals w w.leads state.locals.items) meaning names)
named-within w state known None names = record { path = tt; end = tt }
named-within w state known (Some meaning) names = leads-within w state.flat known.within state.locals.items w.leads known.locals known.within.leads meaning names

-- all that is known is there in what has more, with these names in scope
pub known-on : (w : World) (old new : Flattening) → Extends old.flat new.flat → new.locals.items ≡ old.locals.items → IsKnown w old → IsKnown w new
known-on w old new extends same known =
    record {
      within = within-on old.flat new.flat extends w known.within;
      locals = subst (AllByRecursion (λ entry. IsLocalWithin new.flat entry.local)) (sym same)
          (all-weaker (λ entry. IsLocalWithin old.flat entry.local) (λ entry. IsLocalWithin new.flat entry.local) (λ entry. local-on old.flat new.flat extends entry.local) old.locals.items known.locals);
      lie = subst (DoLie w.text.source) (sym same) known.lie;
    }

-- the same of a lead that was looked up
pub named-there : (w : World) (state : Flattening) → IsKnown w state → (locals : List Entry) → locals ≡ state.locals.items → (meaning : Option Meaning) (names : List Named) (lead : Lead)
    → lead ≡ lead_of (with_locals w w.leads locals) meaning names → IsLeadWithin state.flat lead
named-there w state known locals same meaning names lead is =
    subst (IsLeadWithin state.flat) (sym (is ∙ ap (λ z. lead_of (with_locals w w.leads z) meaning names) same)) (named-within w state known meaning names)
