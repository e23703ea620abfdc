-- The parameters of a module, one after another.
use Rattle.std.proofs.Common.{◌≡◌, ℕ, ◌+◌, ◌<◌, ◌≤◌, List, [], ◌∷◌, Bool, zero, suc, refl, ap, subst, length, drop, get_or, map, arith}
use Rattle.list_laws.proofs.Lists.{drop-from}
use Rattle.tla_symbols.specs.declared.lexeme.Lexeme.{Lexeme}
use Rattle.tla_model.specs.Entities.{Meaning}
use Rattle.kind_table.specs.declared.flat.Replacement.{Replacement}
use Rattle.tree_names.specs.declared.parameter.Parameter.{Parameter}
use Rattle.tree_names.specs.Parameters.{entry_in}
use Rattle.flattened_trees.specs.Leads.{Setting}
use Rattle.flattened_trees.specs.Flattened as flattened
use Rattle.tree_flattener.specs.declared.state.Flattening.{Flattening}
use Rattle.tree_flattener.specs.Replacing.{Replaces, ReplacesAll, ReplacesSome}
use Rattle.tree_flattener.specs.Worlds.{World, setting_of}
use Rattle.tree_flattener.proofs.Replacements.{replaces-end, replaces-on}
use Rattle.tree_flattener.proofs.Stepping.{same-setting}

pub parameters-on : (w : World) (s t u : Flattening) (frame : ℕ) (constant : Bool) (rights : List flattened.Right) (l : Lexeme) (items : List Parameter) (i : ℕ) (parameter : Parameter) (symbols left next : List Meaning) (before mid after : List Replacement)
    → i < length items → parameter ≡ get_or items i parameter → frame < length s.frames.items
    → ReplacesSome (setting_of w s frame []) constant rights l s t (map entry_in items) (map entry_in (drop i items)) symbols left before mid
    → Replaces (setting_of w t frame []) constant rights l t u (entry_in parameter) left next mid after
    → ReplacesSome (setting_of w s frame []) constant rights l s u (map entry_in items) (map entry_in (drop (i + 1) items)) symbols next before after
parameters-on w s t u frame constant rights l items i parameter symbols left next before mid after there is framed so_far one =
    let setting = setting_of w s frame [] in
    replaces-on setting constant rights l s t u (map entry_in items) (map entry_in (drop (i + 1) items)) (entry_in parameter) symbols left next before mid after
    (subst (λ z. ReplacesSome setting constant rights l s t (map entry_in items) z symbols left before mid) (ap (map entry_in) (drop-from items i parameter there is)) so_far)
    (subst (λ z. Replaces z constant rights l t u (entry_in parameter) left next mid after) (same-setting w s t frame [] so_far.steps.frames so_far.locals framed) one)

drop-past : (items : List Parameter) (i : ℕ) → length items ≤ i → drop i items ≡ []
drop-past [] zero past = refl
drop-past [] (suc i) past = refl
drop-past (x ∷ items) zero past = absurd (omega (arith, past))
drop-past (x ∷ items) (suc i) past = drop-past items i (omega (arith, past))

pub parameters-done : (setting : Setting) (constant : Bool) (rights : List flattened.Right) (l : Lexeme) (s t : Flattening) (items : List Parameter) (i : ℕ) (symbols left : List Meaning) (before after : List Replacement) → length items ≤ i
    → ReplacesSome setting constant rights l s t (map entry_in items) (map entry_in (drop i items)) symbols left before after
    → ReplacesAll setting constant rights l s t (map entry_in items) symbols before after
parameters-done setting constant rights l s t items i symbols left before after past so_far =
    replaces-end setting constant rights l s t (map entry_in items) symbols left before after
    (subst (λ z. ReplacesSome setting constant rights l s t (map entry_in items) (map entry_in z) symbols left before after) (drop-past items i past) so_far)
