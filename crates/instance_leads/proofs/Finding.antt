-- What module names mean, by the numbers of nested modules.
use Rattle.std.proofs.Common.{◌≡◌, ℕ, Bool, true, false, cond, List, [], ◌∷◌, Option, Some, refl, ap, sym, ◌∙◌}
use Rattle.std.specs.Option.{option_map}
use Rattle.std.specs.Str.{bytes_eq}
use Rattle.module_scope.specs.Environments.{Environment, meaning}
use Rattle.module_model.specs.Exports.{ModuleView}
use Rattle.module_model.specs.NamedModules.{module_at, module_under}
use Rattle.instance_leads.specs.declared.ended.Ended.{Ended}
use Rattle.instance_leads.specs.Leading.{view_of, views}

-- what the module of a name is, by its number
pub meaning-shown : (nested : List Ended) (modules : Environment ℕ) (name : List ℕ) → meaning (views nested modules) name ≡ option_map (view_of nested) (meaning modules name)
meaning-shown nested [] name = refl
meaning-shown nested (entry ∷ rest) name = by (bytes_eq name entry.0) (meaning-shown nested rest name)
  where
    by : (b : Bool) → meaning (views nested rest) name ≡ option_map (view_of nested) (meaning rest name)
        → cond b (Some (view_of nested entry.1)) (meaning (views nested rest) name) ≡ option_map (view_of nested) (cond b (Some entry.1) (meaning rest name))
    by true same = refl
    by false same = same

pub named-shown : (files : List ℕ → ModuleView) (nested : List Ended) (modules : Environment ℕ) (name : List ℕ) (found : Option (Option ℕ)) → found ≡ meaning modules name → module_under files (option_map (view_of nested) found) name ≡ module_at files (views nested modules) name
named-shown files nested modules name found is = ap (λ z. module_under files (option_map (view_of nested) z) name) is ∙ ap (λ z. module_under files z name) (sym (meaning-shown nested modules name))
