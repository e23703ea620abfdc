-- Parts that bind no names for their form.
use Rattle.std.proofs.Common.{◌≡◌, ℕ, Bool, true, false, List, [], ◌++◌, refl, if◌then◌else◌}
use Rattle.tla_symbols.specs.declared.lexeme.Lexeme.{Lexeme}
use Rattle.tla_tree.specs.declared.form.Form.TheVariants as Form
use Rattle.tla_tree.specs.Syntax.{Trees, Node, Nil, Cons}
use Rattle.tla_model.specs.declared.names.Binder.{Binder}
use Rattle.tla_model.specs.Entities.{Binding, all_placed, binding_of, bound_as, is_group, placed}
use Rattle.tla_model.specs.Scopes.{all_grouped, binders}

-- no part of these is a name or a group of names
abbrev pub AreNameless : Trees → Type 0
AreNameless Nil = Unit {0}
AreNameless (Cons (Node form s parts) rest) = (placed form ≡ []) × (is_group form ≡ false) × AreNameless rest

none-placed : (parts : Trees) → AreNameless parts → all_placed parts ≡ []
none-placed Nil nameless = refl
none-placed (Cons (Node form s parts) rest) nameless = rw (nameless.0) (none-placed rest nameless.2)

none-grouped : (parts : Trees) → AreNameless parts → all_grouped parts ≡ []
none-grouped Nil nameless = refl
none-grouped (Cons (Node form s parts) rest) nameless = rw (nameless.1) (none-grouped rest nameless.2)

no-binders : (b : Bool) (binding : Binding) (names more : List (Lexeme × ℕ)) → names ≡ [] → more ≡ [] → ◌≡◌ {A = List Binder} (if b then [] else bound_as binding (names ++ more)) []
no-binders true binding names more e f = refl
no-binders false binding names more e f = rw (e, f) refl

-- a form binds none
pub unbound : (form : Form.the_data) (parts : Trees) → AreNameless parts → binders form parts ≡ []
unbound form parts nameless = no-binders (is_group form) (binding_of form) (all_placed parts) (all_grouped parts) (none-placed parts nameless) (none-grouped parts nameless)
