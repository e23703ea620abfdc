-- What is known of instances by where they lead, as more is noted.
use Rattle.std.proofs.Common.{◌≡◌, ◌⊎◌, ⊎_elim, inl, inr, Bool, true, false, cond, List, [], ◌∷◌, ◌++◌, Option, Some, None, is_some, refl, ap, sym, ◌∙◌}
use Rattle.std.specs.Option.{option_or}
use mathlib.Core.Path.{fun_ext}
use Rattle.tla_model.specs.declared.ids.DeclId.{DeclId}
use Rattle.tla_model.specs.Entities.{same_decl}
use Rattle.tla_model.specs.Tables.{added, lookup}
use Rattle.tla_model.proofs.Stretching.{found-first, found-next}
use Rattle.tla_model.specs.Same.{decl-equal, decl-itself}
use Rattle.module_model.specs.Exports.{Known, and_known, known_as, none_known}
use Rattle.module_model.proofs.PartTables.{first-assoc, first-none}
use Rattle.tree_tasks.specs.declared.held.Held.{Held}
use Rattle.instance_leads.specs.declared.ended.Ended.{Ended}
use Rattle.instance_leads.specs.Found.{AreIn}
use Rattle.instance_leads.specs.Keys.{joined_leads}
use Rattle.instance_leads.specs.Leading.{Leads, behind_at, behind_found, known_in}

-- ---- the first of what is found

first-three : {A : Type 0} (found : Option A) (b : Bool) (x : A) (rest : Option A) → option_or (option_or found (cond b (Some x) None)) rest ≡ option_or found (cond b (Some x) rest)
first-three None true x rest = refl
first-three None false x rest = refl
first-three (Some y) b x rest = refl

-- ---- one more

found-added : (leads : Leads) (decl : DeclId) (held : Held) (other : DeclId) → lookup same_decl (added same_decl leads decl held) other ≡ option_or (lookup same_decl leads other) (cond (same_decl other decl) (Some held) None)
found-added leads decl held other = by (lookup same_decl leads decl) refl
  where
    there : (x : Held) → lookup same_decl leads decl ≡ Some x → (found : Option Held) → lookup same_decl leads other ≡ found → (b : Bool) → same_decl other decl ≡ b → found ≡ option_or found (cond b (Some held) None)
    there x at (Some y) is b same = refl
    there x at None is false same = refl
    there x at None is true same = let e : lookup same_decl leads other ≡ Some x = ap (lookup same_decl leads) (decl-equal other decl same) ∙ at in let no = sym is ∙ e in cc

    new : (found : Option Held) → lookup same_decl leads other ≡ found → lookup same_decl (leads ++ (decl, held) ∷ []) other ≡ option_or found (cond (same_decl other decl) (Some held) None)
    new (Some y) is = found-first same_decl leads ((decl, held) ∷ []) other y is
    new None is = found-next same_decl leads ((decl, held) ∷ []) other is

    by : (found : Option Held) → lookup same_decl leads decl ≡ found → lookup same_decl (cond (is_some found) leads (leads ++ (decl, held) ∷ [])) other ≡ option_or (lookup same_decl leads other) (cond (same_decl other decl) (Some held) None)
    by (Some x) at = there x at (lookup same_decl leads other) refl (same_decl other decl) refl
    by None at = new (lookup same_decl leads other) refl ∙ ap (λ z. option_or z (cond (same_decl other decl) (Some held) None)) refl

-- where something leads was noted before, or it is what is noted now
pub added-cases : (leads : Leads) (decl : DeclId) (held : Held) (other : DeclId) (found : Held) → lookup same_decl (added same_decl leads decl held) other ≡ Some found → (lookup same_decl leads other ≡ Some found) ⊎ ((other ≡ decl) × (held ≡ found))
added-cases leads decl held other found at = by (lookup same_decl leads other) refl (same_decl other decl) refl (sym (found-added leads decl held other) ∙ at)
  where
    by : (before : Option Held) → lookup same_decl leads other ≡ before → (b : Bool) → same_decl other decl ≡ b → option_or before (cond b (Some held) None) ≡ Some found → (lookup same_decl leads other ≡ Some found) ⊎ ((other ≡ decl) × (held ≡ found))
    by (Some x) is b same first = inl (is ∙ first)
    by None is true same first = inr (decl-equal other decl same, cc first)
    by None is false same first = let no = first in cc

-- ---- all of others

pub found-joined : (leads more : Leads) (decl : DeclId) → lookup same_decl (joined_leads leads more) decl ≡ option_or (lookup same_decl leads decl) (lookup same_decl more decl)
found-joined leads [] decl = sym (first-none (lookup same_decl leads decl))
found-joined leads (entry ∷ rest) decl =
    found-joined (added same_decl leads entry.0 entry.1) rest decl
    ∙ ap (λ z. option_or z (lookup same_decl rest decl)) (found-added leads entry.0 entry.1 decl)
    ∙ first-three (lookup same_decl leads decl) (same_decl decl entry.0) entry.1 (lookup same_decl rest decl)

pub joined-first : (leads more : Leads) (decl : DeclId) (held : Held) → lookup same_decl leads decl ≡ Some held → lookup same_decl (joined_leads leads more) decl ≡ Some held
joined-first leads more decl held at = found-joined leads more decl ∙ ap (λ z. option_or z (lookup same_decl more decl)) at

pub joined-cases : (leads more : Leads) (decl : DeclId) (held : Held) → lookup same_decl (joined_leads leads more) decl ≡ Some held → (lookup same_decl leads decl ≡ Some held) ⊎ (lookup same_decl more decl ≡ Some held)
joined-cases leads more decl held at = by (lookup same_decl leads decl) refl (sym (found-joined leads more decl) ∙ at)
  where
    by : (before : Option Held) → lookup same_decl leads decl ≡ before → option_or before (lookup same_decl more decl) ≡ Some held → (lookup same_decl leads decl ≡ Some held) ⊎ (lookup same_decl more decl ≡ Some held)
    by (Some x) is first = inl (is ∙ first)
    by None is first = inr first

-- ---- what is known

first-behind : (nested : List Ended) (a b : Option Held) → behind_found nested (option_or a b) ≡ option_or (behind_found nested a) (behind_found nested b)
first-behind nested None b = refl
first-behind nested (Some x) b = refl

pub known-joined : (nested : List Ended) (leads more : Leads) → known_in nested (joined_leads leads more) ≡ and_known (known_in nested leads) (known_in nested more)
known-joined nested leads more = fun_ext (λ decl. ap (behind_found nested) (found-joined leads more decl) ∙ first-behind nested (lookup same_decl leads decl) (lookup same_decl more decl))

pub known-added : (nested : List Ended) (leads : Leads) (decl : DeclId) (held : Held) → known_in nested (added same_decl leads decl held) ≡ and_known (known_in nested leads) (known_as decl (behind_at nested held))
known-added nested leads decl held = fun_ext (λ other.
    ap (behind_found nested) (found-added leads decl held other)
    ∙ first-behind nested (lookup same_decl leads other) (cond (same_decl other decl) (Some held) None)
    ∙ ap (option_or (known_in nested leads other)) (by (same_decl other decl)))
  where
    by : (b : Bool) → behind_found nested (cond b (Some held) None) ≡ cond b (Some (behind_at nested held)) None
    by true = refl
    by false = refl

pub and-assoc : (a b c : Known) → and_known (and_known a b) c ≡ and_known a (and_known b c)
and-assoc a b c = fun_ext (λ decl. first-assoc (a decl) (b decl) (c decl))

pub and-none : (a : Known) → and_known a none_known ≡ a
and-none a = fun_ext (λ decl. first-none (a decl))

-- ---- what is kept of what is known

pub added-first : (leads : Leads) (decl : DeclId) (held : Held) (other : DeclId) (found : Held) → lookup same_decl leads other ≡ Some found → lookup same_decl (added same_decl leads decl held) other ≡ Some found
added-first leads decl held other found at = found-added leads decl held other ∙ ap (λ z. option_or z (cond (same_decl other decl) (Some held) None)) at

added-is : (leads : Leads) (decl : DeclId) (held : Held) → is_some (lookup same_decl (added same_decl leads decl held) decl) ≡ true
added-is leads decl held = ap is_some (found-added leads decl held decl ∙ ap (λ b. option_or (lookup same_decl leads decl) (cond b (Some held) None)) (decl-itself decl)) ∙ by (lookup same_decl leads decl)
  where
    by : (found : Option Held) → is_some (option_or found (Some held)) ≡ true
    by None = refl
    by (Some x) = refl

module _ (known kept new : Leads) (put decl : DeclId) (held : Held) (same : put ≡ decl) (from : lookup same_decl known decl ≡ Some held) (is : new ≡ added same_decl kept put held) where
  pub keep-known : AreIn known kept → AreIn known new
  keep-known before other found at = ⊎_elim (λ (old : lookup same_decl kept other ≡ Some found). before other found old)
      (λ (now : (other ≡ put) × (held ≡ found)). ap (lookup same_decl known) (now.0 ∙ same) ∙ from ∙ ap Some now.1) (added-cases kept put held other found (ap (λ z. lookup same_decl z other) (sym is) ∙ at))

  pub keep-kept : AreIn new kept
  keep-kept other found at = ap (λ z. lookup same_decl z other) is ∙ added-first kept put held other found at

  pub keep-there : is_some (lookup same_decl new decl) ≡ true
  keep-there = (λ i. is_some (lookup same_decl (is i) (sym same i))) ∙ added-is kept put held
