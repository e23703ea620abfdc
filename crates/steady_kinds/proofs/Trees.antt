-- What a tree gives depends on what stands for the names that can be used there alone, where the modules that it names are steady.
use Rattle.std.proofs.Common.{◌≡◌, ℕ, Bool, true, false, cond, List, [], ◌∷◌, ◌⊎◌, inl, inr, Option, Some, None, refl, sym, ap, subst, ◌∙◌, map}
use Rattle.std.specs.List.{AllByRecursion}
use Rattle.tla_symbols.specs.declared.lexeme.Lexeme.{Lexeme}
use Rattle.tla_symbols.specs.declared.level.Rule.{Rule}
use Rattle.tla_symbols.specs.declared.level.Rule.TheVariants.{Plain, Boolean}
use Rattle.tla_symbols.specs.declared.place.Fix.TheVariants.{Prefix, Infix, Postfix}
use Rattle.tla_tree.specs.declared.form.Form.TheVariants as Form
use Rattle.tla_tree.specs.Forms.{helps}
use Rattle.tla_tree.specs.Syntax.{Tree, Trees, Node, Nil, Cons}
use Rattle.tla_model.specs.declared.names.Binder.{Binder}
use Rattle.tla_model.specs.declared.names.Binding.TheVariants as as_binding
use Rattle.tla_model.specs.Contexts.{Context, bind, bind_all, meaning_of, reserve_all, usable}
use Rattle.tla_model.specs.Entities.{Meaning, Text, defined, entity_of, meant, name_of}
use Rattle.tla_model.specs.Lexemes.{spelled}
use Rattle.tla_model.specs.Scopes.{behind, binders, definition, inside, prefixed, reserved, scope, itself as as_spelled}
use Rattle.tla_model.specs.Tables.{Named, find, put}
use Rattle.module_model.specs.Exports.{Exports, Known}
use Rattle.model_laws.proofs.Settling.{put-gives}
use Rattle.kind_text.specs.ExpandedKind.{Expanded, Operands, Ruled}
use Rattle.kind_text.specs.Expansion.{bounded, guard}
use Rattle.kind_text.specs.Substitution.{Item, expression, expressions, judged, operator}
use Rattle.level_text.specs.FormRules.{form_rule, rule_operands, symbol_rule}
use Rattle.tree_kinds.specs.Expanding.{Outer, Helper, Whole, Part, Replaced, Written, and_operands, at_names, bare_rule, behind_instance, changed, defined_value, expand, guard_of, inner, items, module_of, operands, outer_operands, part_of, places_at, put_into, replaced_by, replacements, right_sides, ruled_text, stands_outside, steps, symbol_name, symbol_text, through, updated, with_replaced, written_for}
use Rattle.tree_kinds.specs.Standing.{Environment, Outside, Steps, Value, applied_to, item_of, operator_places, same_standing, single, value_in, value_of, with_items, with_value, with_values}
use Rattle.tree_kinds.proofs.Standings.{standing-equal}
use Rattle.steady_kinds.specs.Steady.{AreAlike, BindAll, BindsAll, BindsSo, IsSteady}

-- ---- environments, name by name

value-same : (a b : Environment) (d m : Meaning) (v : Value) → a m ≡ b m → with_value a d v m ≡ with_value b d v m
value-same a b d m v same = ap (λ (x : Value). cond (same_standing m d) v x) same

pub values-same : (a b : Environment) (ms : List Meaning) (v w : Value) (m : Meaning) → v ≡ w → a m ≡ b m → with_values a ms v m ≡ with_values b ms w m
values-same a b [] v w m e same = same
values-same a b (d ∷ ms) v w m e same =
    values-same (with_value a d v) (with_value b d w) ms v w m e (value-same a b d m v same ∙ ap (λ (x : Value). with_value b d x m) e)

items-same-at : (a b : Environment) (ms : List Meaning) (xs : List Item) (m : Meaning) → a m ≡ b m → with_items a ms xs m ≡ with_items b ms xs m
items-same-at a b [] xs m same = same
items-same-at a b (d ∷ ms) [] m same = same
items-same-at a b (d ∷ ms) (x ∷ xs) m same = items-same-at (with_value a d (value_of x)) (with_value b d (value_of x)) ms xs m (value-same a b d m (value_of x) same)

replaced-same-at : (a b : Environment) (rs : List Replaced) (m : Meaning) → a m ≡ b m → with_replaced a rs m ≡ with_replaced b rs m
replaced-same-at a b [] m same = same
replaced-same-at a b (r ∷ rs) m same = value-same (with_replaced a rs) (with_replaced b rs) r.parameter m (value_of r.item) (replaced-same-at a b rs m same)

-- ---- names

abbrev pub IsOneOf : Text → List Binder → Meaning → Type 0
IsOneOf text [] m = ⊥
IsOneOf text (b ∷ bs) m = (m ≡ meant text b) ⊎ IsOneOf text bs m

-- a name that is defined stands for what it gives, whatever stood there
pub values-new : (text : Text) (a b : Environment) (bs : List Binder) (v w : Value) (m : Meaning) → v ≡ w → IsOneOf text bs m → with_values a (map (meant text) bs) v m ≡ with_values b (map (meant text) bs) w m
values-new text a b [] v w m e one = absurd one
values-new text a b (d ∷ bs) v w m e (inl is) =
    values-same (with_value a (meant text d) v) (with_value b (meant text d) w) (map (meant text) bs) v w m e
    (ap (λ t. cond t v (a m)) (standing-equal m (meant text d) is) ∙ e ∙ sym (ap (λ t. cond t w (b m)) (standing-equal m (meant text d) is)))
values-new text a b (d ∷ bs) v w m e (inr one) = values-new text (with_value a (meant text d) v) (with_value b (meant text d) w) bs v w m e one

usable-is : (o : Option (Option Meaning)) (m : Meaning) → usable o ≡ Some m → o ≡ Some (Some m)
usable-is None m e = cc
usable-is (Some found) m e = ap Some e

module _ (text : Text) where
  bind-gives : (context : Context) (b : Binder) (name : Named) (m : Meaning) → meaning_of (bind text context b) name ≡ Some m → (meaning_of context name ≡ Some m) ⊎ (m ≡ meant text b)
  bind-gives context b name m e = by (put-gives context (name_of text.source b.name) (Some (meant text b)) name (Some m) (usable-is (find (bind text context b) name) m e))
    where
      by : (find context name ≡ Some (Some m)) ⊎ (Some (meant text b) ≡ Some m) → (meaning_of context name ≡ Some m) ⊎ (m ≡ meant text b)
      by (inl before) = inl (ap usable before)
      by (inr same) = inr (cc same)

  pub bind-all-gives : (bs : List Binder) (context : Context) (name : Named) (m : Meaning) → meaning_of (bind_all text context bs) name ≡ Some m → (meaning_of context name ≡ Some m) ⊎ IsOneOf text bs m
  bind-all-gives [] context name m e = inl e
  bind-all-gives (b ∷ bs) context name m e = by (bind-all-gives bs (bind text context b) name m e)
    where
      first : (meaning_of context name ≡ Some m) ⊎ (m ≡ meant text b) → (meaning_of context name ≡ Some m) ⊎ IsOneOf text (b ∷ bs) m
      first (inl before) = inl before
      first (inr same) = inr (inl same)

      by : (meaning_of (bind text context b) name ≡ Some m) ⊎ IsOneOf text bs m → (meaning_of context name ≡ Some m) ⊎ IsOneOf text (b ∷ bs) m
      by (inl here) = first (bind-gives context b name m here)
      by (inr one) = inr (inr one)

  reserve-all-gives : (bs : List Binder) (context : Context) (name : Named) (m : Meaning) → meaning_of (reserve_all text context bs) name ≡ Some m → meaning_of context name ≡ Some m
  reserve-all-gives [] context name m e = e
  reserve-all-gives (b ∷ bs) context name m e =
      by (put-gives context (name_of text.source b.name) None name (Some m) (usable-is (find (put context (name_of text.source b.name) None) name) m (reserve-all-gives bs (put context (name_of text.source b.name) None) name m e)))
    where
      by : (find context name ≡ Some (Some m)) ⊎ (None ≡ Some m) → meaning_of context name ≡ Some m
      by (inl before) = ap usable before
      by (inr never) = cc never

  module _ (P : Meaning → Type 0) where
    one-such : (bs : List Binder) (m : Meaning) → AllByRecursion (λ (b : Binder). P (meant text b)) bs → IsOneOf text bs m → P m
    one-such [] m all one = absurd one
    one-such (b ∷ bs) m all (inl is) = subst P (sym is) all.0
    one-such (b ∷ bs) m all (inr one) = one-such bs m all.1 one

    -- ---- scopes

    pub reserved-alike : (c : Context) (a b : Environment) (form : Form.the_data) (parts : Trees) → AreAlike P c a b → AreAlike P (reserved text c form parts) a b
    reserved-alike c a b form parts is = record { agree = is.agree; used = λ n m e. is.used n m (reserve-all-gives (defined form parts) c n m e) }

    inside-alike : (c : Context) (a b : Environment) (form : Form.the_data) (parts : Trees) → AreAlike P c a b → BindsSo P text form parts → AreAlike P (inside text c form parts) a b
    inside-alike c a b (Form.FunctionDefinition l) parts is binds =
        record { agree = is.agree; used = λ n m e. by n m (bind-gives c (record { name = l; entity = entity_of (as_binding.Bound false) 0 }) n m e) }
      where
        by : (n : Named) (m : Meaning) → (meaning_of c n ≡ Some m) ⊎ (m ≡ meant text (record { name = l; entity = entity_of (as_binding.Bound false) 0 })) → a m ≡ b m
        by n m (inl before) = is.used n m before
        by n m (inr same) = is.agree m (subst P (sym same) binds.1)
    inside-alike c a b form parts is binds = reserved-alike c a b form parts is

    pub scope-alike : (c : Context) (a b : Environment) (form : Form.the_data) (parts : Trees) → AreAlike P c a b → BindsSo P text form parts → AreAlike P (scope text c form parts) a b
    scope-alike c a b form parts is binds = record { agree = is.agree; used = λ n m e. by n m (bind-all-gives (binders form parts) (inside text c form parts) n m e) }
      where
        by : (n : Named) (m : Meaning) → (meaning_of (inside text c form parts) n ≡ Some m) ⊎ IsOneOf text (binders form parts) m → a m ≡ b m
        by n m (inl before) = (inside-alike c a b form parts is binds).used n m before
        by n m (inr one) = is.agree m (one-such (binders form parts) m binds.0 one)

    pub items-alike : (c : Context) (a b : Environment) (ms : List Meaning) (xs : List Item) → AreAlike P c a b → AreAlike P c (with_items a ms xs) (with_items b ms xs)
    items-alike c a b ms xs is = record { agree = λ m p. items-same-at a b ms xs m (is.agree m p); used = λ n m e. items-same-at a b ms xs m (is.used n m e) }

    pub behind-alike : (c : Context) (a b : Environment) (x : Tree) (v w : Value) → v ≡ w → AreAlike P c a b → AreAlike P (behind text c x) (with_values a (map (meant text) (definition x)) v) (with_values b (map (meant text) (definition x)) w)
    behind-alike c a b (Node form s parts) v w same is = record {
      agree = λ m p. values-same a b (map (meant text) (defined form parts)) v w m same (is.agree m p);
      used = λ n m e. by n m (bind-all-gives (defined form parts) c n m e);
    }
      where
        by : (n : Named) (m : Meaning) → (meaning_of c n ≡ Some m) ⊎ IsOneOf text (defined form parts) m → with_values a (map (meant text) (defined form parts)) v m ≡ with_values b (map (meant text) (defined form parts)) w m
        by n m (inl before) = values-same a b (map (meant text) (defined form parts)) v w m same (is.used n m before)
        by n m (inr one) = values-new text a b (defined form parts) v w m same one

-- ---- trees

module _ (text : Text) (known : Known) (named : List ℕ → Outside) (P : Meaning → Type 0) (steady : (title : List ℕ) → IsSteady P (named title)) where
  names-same : (c : Context) (a b : Environment) (o q : Operands) (e : o ≡ q) (is : AreAlike P c a b) (path : Steps) → at_names (record { context = c; standing = a; old = o }) path ≡ at_names (record { context = c; standing = b; old = q }) path
  names-same c a b o q e is [] = refl
  names-same c a b o q e is (step ∷ path) = by (meaning_of c step.name) refl
    where
      by : (found : Option Meaning) → meaning_of c step.name ≡ found → value_in a found step.arguments path ≡ value_in b found step.arguments path
      by None at = refl
      by (Some m) at = λ i. is.used step.name m at i step.arguments path

  symbol-same : (c : Context) (a b : Environment) (o q : Operands) (e : o ≡ q) (is : AreAlike P c a b) (rule : Option Rule) (name : Option Named) (arguments : List Item) → symbol_text (record { context = c; standing = a; old = o }) rule name arguments ≡ symbol_text (record { context = c; standing = b; old = q }) rule name arguments
  symbol-same c a b o q e is (Some rule) name arguments = refl
  symbol-same c a b o q e is None None arguments = refl
  symbol-same c a b o q e is None (Some name) arguments = names-same c a b o q e is (single name arguments)

  replaced-one : (c : Context) (a b : Environment) (o q : Operands) (e : o ≡ q) (is : AreAlike P c a b) (l : Lexeme) (parameter : Named × Meaning) (right : Option Written) → replaced_by (record { context = c; standing = a; old = o }) l parameter right ≡ replaced_by (record { context = c; standing = b; old = q }) l parameter right
  replaced-one c a b o q e is l parameter (Some right) = refl
  replaced-one c a b o q e is l parameter None = λ i.
      record { parameter = parameter.1; item = item_of (operator_places (Some parameter.1)) (λ more. names-same c a b o q e is (single parameter.0 more) i); at = l.span }

  replaced-all : (c : Context) (a b : Environment) (o q : Operands) (e : o ≡ q) (is : AreAlike P c a b) (l : Lexeme) (parameters : Exports) (rights : List Written) → map (λ (p : Named × Meaning). replaced_by (record { context = c; standing = a; old = o }) l p (written_for rights p.0)) parameters ≡ map (λ (p : Named × Meaning). replaced_by (record { context = c; standing = b; old = q }) l p (written_for rights p.0)) parameters
  replaced-all c a b o q e is l [] rights = refl
  replaced-all c a b o q e is l (p ∷ ps) rights = λ i. replaced-one c a b o q e is l p (written_for rights p.0) i ∷ replaced-all c a b o q e is l ps rights i

  -- what is put into a module
  pub put-same : (c : Context) (a b : Environment) (o q : Operands) (e : o ≡ q) (is : AreAlike P c a b) (l : Lexeme) (rs : List Replaced) (path : Steps) → put_into text known named (record { context = c; standing = a; old = o }) l rs path ≡ put_into text known named (record { context = c; standing = b; old = q }) l rs path
  put-same c a b o q e is l rs path = steady (spelled text.source l) (with_replaced a rs) (with_replaced b rs) (λ m p. replaced-same-at a b rs m (is.agree m p)) path

  pub replacements-same : (c : Context) (a b : Environment) (o q : Operands) (e : o ≡ q) (is : AreAlike P c a b) (l : Lexeme) (rights others : List Written) → rights ≡ others → replacements text known named (record { context = c; standing = a; old = o }) l rights ≡ replacements text known named (record { context = c; standing = b; old = q }) l others
  replacements-same c a b o q e is l rights others same =
      replaced-all c a b o q e is l (module_of text known named l).view.parameters rights ∙ ap (λ ws. replacements text known named (record { context = c; standing = b; old = q }) l ws) same

  mutual
    pub expand-same : (c : Context) (a b : Environment) (o q : Operands) (e : o ≡ q) (is : AreAlike P c a b) (x : Tree) → BindsAll P text x → expand text known named (record { context = c; standing = a; old = o }) x ≡ expand text known named (record { context = c; standing = b; old = q }) x
    expand-same c a b o q e is (Node Form.Identifier s parts) binds = λ i.
        item_of (places_at text known named c (Node Form.Identifier s parts))
        (λ more. (ap (λ st. at_names (record { context = c; standing = a; old = o }) (applied_to st more)) (steps-same c a b o q e is parts binds.1) ∙ names-same c a b o q e is (applied_to (steps text known named (record { context = c; standing = b; old = q }) parts) more)) i)
    expand-same c a b o q e is (Node (Form.Number l) s parts) binds = refl
    expand-same c a b o q e is (Node (Form.Text l) s parts) binds = refl
    expand-same c a b o q e is (Node (Form.At l) s parts) binds = ap (λ t. expression (Ruled Boolean t)) e
    expand-same c a b o q e is (Node (Form.Symbol l) s parts) binds = λ i. operator (λ ts. symbol-same c a b o q e is (bare_rule l.kind) (symbol_name as_spelled l.kind) (expressions ts) i)
    expand-same c a b o q e is (Node (Form.Prefix l) s parts) binds =
        ap (λ xs. expression (symbol_text (record { context = c; standing = a; old = o }) (symbol_rule Prefix l.kind) (symbol_name prefixed l.kind) xs)) (items-same c a b o q e is parts binds.1)
        ∙ ap expression (symbol-same c a b o q e is (symbol_rule Prefix l.kind) (symbol_name prefixed l.kind) (items text known named (record { context = c; standing = b; old = q }) parts))
    expand-same c a b o q e is (Node (Form.Infix l) s parts) binds =
        ap (λ xs. expression (symbol_text (record { context = c; standing = a; old = o }) (symbol_rule Infix l.kind) (symbol_name as_spelled l.kind) xs)) (items-same c a b o q e is parts binds.1)
        ∙ ap expression (symbol-same c a b o q e is (symbol_rule Infix l.kind) (symbol_name as_spelled l.kind) (items text known named (record { context = c; standing = b; old = q }) parts))
    expand-same c a b o q e is (Node (Form.Postfix l) s parts) binds =
        ap (λ xs. expression (symbol_text (record { context = c; standing = a; old = o }) (symbol_rule Postfix l.kind) (symbol_name as_spelled l.kind) xs)) (items-same c a b o q e is parts binds.1)
        ∙ ap expression (symbol-same c a b o q e is (symbol_rule Postfix l.kind) (symbol_name as_spelled l.kind) (items text known named (record { context = c; standing = b; old = q }) parts))
    expand-same c a b o q e is (Node Form.Parentheses s parts) binds = inner-same c a b o q e is parts binds.1
    expand-same c a b o q e is (Node Form.Let s parts) binds = inner-same c a b o q e is parts binds.1
    expand-same c a b o q e is (Node Form.Except s parts) binds = ap (λ t. expression (Ruled Plain t)) (changed-same c a b o q e is parts binds.1)
    expand-same c a b o q e is (Node (Form.BoundedQuantifier l) s parts) binds = λ i.
        expression
        (bounded
        (Operands.Cons (inner-same (scope text c (Form.BoundedQuantifier l) parts) a b o q e (scope-alike text P c a b (Form.BoundedQuantifier l) parts is binds.0) parts binds.1 i).text
        (outer-same (reserved text c (Form.BoundedQuantifier l) parts) a b o q e (reserved-alike text P c a b (Form.BoundedQuantifier l) parts is) parts binds.1 i)))
    expand-same c a b o q e is (Node form s parts) binds =
        ap (λ t. expression (ruled_text (form_rule form) (rule_operands form t)))
        (operands-same (reserved text c form parts) (scope text c form parts) a b o q e o q e (reserved-alike text P c a b form parts is) (scope-alike text P c a b form parts is binds.0) parts binds.1)

    pub inner-same : (c : Context) (a b : Environment) (o q : Operands) (e : o ≡ q) (is : AreAlike P c a b) (parts : Trees) → BindAll P text parts → inner text known named (record { context = c; standing = a; old = o }) parts ≡ inner text known named (record { context = c; standing = b; old = q }) parts
    inner-same c a b o q e is Nil binds = refl
    inner-same c a b o q e is (Cons (Node form s parts) rest) binds =
        by (helps form)
        (inner-same (behind text c (Node form s parts)) (with_values a (map (meant text) (definition (Node form s parts))) (defined_value text known named (record { context = c; standing = a; old = o }) (Node form s parts)))
        (with_values b (map (meant text) (definition (Node form s parts))) (defined_value text known named (record { context = c; standing = b; old = q }) (Node form s parts))) o q e
        (behind-alike text P c a b (Node form s parts) (defined_value text known named (record { context = c; standing = a; old = o }) (Node form s parts)) (defined_value text known named (record { context = c; standing = b; old = q }) (Node form s parts)) (defined-same c a b o q e is (Node form s parts) binds.0) is) rest binds.1)
        (expand-same c a b o q e is (Node form s parts) binds.0)
      where
        by : {x y u v : Item} (h : Bool) → x ≡ y → u ≡ v → ◌≡◌ {A = Item} (elim h [ true ↦ x | false ↦ u ]) (elim h [ true ↦ y | false ↦ v ])
        by true one two = one
        by false one two = two

    pub defined-same : (c : Context) (a b : Environment) (o q : Operands) (e : o ≡ q) (is : AreAlike P c a b) (x : Tree) → BindsAll P text x → defined_value text known named (record { context = c; standing = a; old = o }) x ≡ defined_value text known named (record { context = c; standing = b; old = q }) x
    defined-same c a b o q e is (Node (Form.FunctionDefinition l) s parts) binds = λ i arguments path.
        Ruled Plain (operands-same (reserved text c (Form.FunctionDefinition l) parts) (scope text c (Form.FunctionDefinition l) parts) a b o q e o q e (reserved-alike text P c a b (Form.FunctionDefinition l) parts is) (scope-alike text P c a b (Form.FunctionDefinition l) parts is binds.0) parts binds.1 i)
    defined-same c a b o q e is (Node (Form.ModuleDefinition l) s parts) binds = λ i arguments path.
        through-same (scope text c (Form.ModuleDefinition l) parts) (with_items a (map (meant text) (binders (Form.ModuleDefinition l) parts)) arguments) (with_items b (map (meant text) (binders (Form.ModuleDefinition l) parts)) arguments) o q e
        (items-alike text P (scope text c (Form.ModuleDefinition l) parts) a b (map (meant text) (binders (Form.ModuleDefinition l) parts)) arguments (scope-alike text P c a b (Form.ModuleDefinition l) parts is binds.0)) parts binds.1 path i
    defined-same c a b o q e is (Node form s parts) binds = λ i arguments path.
        (inner-same (scope text c form parts) (with_items a (map (meant text) (binders form parts)) arguments) (with_items b (map (meant text) (binders form parts)) arguments) o q e
        (items-alike text P (scope text c form parts) a b (map (meant text) (binders form parts)) arguments (scope-alike text P c a b form parts is binds.0)) parts binds.1 i).text

    pub through-same : (c : Context) (a b : Environment) (o q : Operands) (e : o ≡ q) (is : AreAlike P c a b) (parts : Trees) → BindAll P text parts → (path : Steps) → through text known named (record { context = c; standing = a; old = o }) parts path ≡ through text known named (record { context = c; standing = b; old = q }) parts path
    through-same c a b o q e is Nil binds path = refl
    through-same c a b o q e is (Cons (Node (Form.Instance l) s parts) rest) binds path =
        let these = right_sides text known named (record { context = c; standing = a; old = o }) parts in
        let those = right_sides text known named (record { context = c; standing = b; old = q }) parts in
        ap (λ rs. behind_instance text known named (record { context = c; standing = a; old = o }) l rs path) (replacements-same c a b o q e is l these those (rights-same c a b o q e is parts binds.0.1))
        ∙ ap (λ t. guard (map (guard_of (module_of text known named l).is_constant) (replacements text known named (record { context = c; standing = b; old = q }) l those)) t) (put-same c a b o q e is l (replacements text known named (record { context = c; standing = b; old = q }) l those) path)
    through-same c a b o q e is (Cons (Node _ s parts) rest) binds path = through-same c a b o q e is rest binds.1 path

    pub rights-same : (c : Context) (a b : Environment) (o q : Operands) (e : o ≡ q) (is : AreAlike P c a b) (parts : Trees) → BindAll P text parts → right_sides text known named (record { context = c; standing = a; old = o }) parts ≡ right_sides text known named (record { context = c; standing = b; old = q }) parts
    rights-same c a b o q e is Nil binds = refl
    rights-same c a b o q e is (Cons (Node (Form.Replacement l) s (Cons (Node form at parts) others)) rest) binds = λ i.
        record { name = name_of text.source l; item = expand-same c a b o q e is (Node form at parts) binds.0.1.0 i; at = at } ∷ rights-same c a b o q e is rest binds.1 i
    rights-same c a b o q e is (Cons (Node (Form.Replacement l) s Nil) rest) binds = rights-same c a b o q e is rest binds.1
    rights-same c a b o q e is (Cons (Node _ s parts) rest) binds = rights-same c a b o q e is rest binds.1

    items-same : (c : Context) (a b : Environment) (o q : Operands) (e : o ≡ q) (is : AreAlike P c a b) (parts : Trees) → BindAll P text parts → items text known named (record { context = c; standing = a; old = o }) parts ≡ items text known named (record { context = c; standing = b; old = q }) parts
    items-same c a b o q e is Nil binds = refl
    items-same c a b o q e is (Cons x rest) binds = λ i. expand-same c a b o q e is x binds.0 i ∷ items-same c a b o q e is rest binds.1 i

    steps-same : (c : Context) (a b : Environment) (o q : Operands) (e : o ≡ q) (is : AreAlike P c a b) (parts : Trees) → BindAll P text parts → steps text known named (record { context = c; standing = a; old = o }) parts ≡ steps text known named (record { context = c; standing = b; old = q }) parts
    steps-same c a b o q e is Nil binds = refl
    steps-same c a b o q e is (Cons (Node (Form.Segment l) s arguments) rest) binds = λ i.
        record { name = name_of text.source l; arguments = items-same c a b o q e is arguments binds.0.1 i } ∷ steps-same c a b o q e is rest binds.1 i
    steps-same c a b o q e is (Cons (Node _ s arguments) rest) binds = steps-same c a b o q e is rest binds.1

    operands-same : (c d : Context) (a b : Environment) (o q : Operands) (e : o ≡ q) (p r : Operands) (f : p ≡ r) → AreAlike P c a b → AreAlike P d a b → (parts : Trees) → BindAll P text parts
        → operands text known named (record { context = c; standing = a; old = o }) (record { context = d; standing = a; old = p }) parts ≡ operands text known named (record { context = c; standing = b; old = q }) (record { context = d; standing = b; old = r }) parts
    operands-same c d a b o q e p r f is in_it Nil binds = refl
    operands-same c d a b o q e p r f is in_it (Cons (Node form s parts) rest) binds = λ i.
        and_operands
        (by (part_of form) (operands-same c c a b o q e o q e is is parts binds.0.1) (operands-same d d a b p r f p r f in_it in_it parts binds.0.1)
        (λ j. Operands.Cons (judged (places_at text known named d (Node form s parts)) (expand-same d a b p r f in_it (Node form s parts) binds.0 j)) Operands.Nil) i)
        (operands-same c d a b o q e p r f is in_it rest binds.1 i)
      where
        by : {x y u v w z : Operands} (k : Part) → x ≡ y → u ≡ v → w ≡ z → ◌≡◌ {A = Operands} (elim k [ Outer ↦ x | Helper ↦ u | Whole ↦ w ]) (elim k [ Outer ↦ y | Helper ↦ v | Whole ↦ z ])
        by Outer one two three = one
        by Helper one two three = two
        by Whole one two three = three

    outer-same : (c : Context) (a b : Environment) (o q : Operands) (e : o ≡ q) (is : AreAlike P c a b) (parts : Trees) → BindAll P text parts → outer_operands text known named (record { context = c; standing = a; old = o }) parts ≡ outer_operands text known named (record { context = c; standing = b; old = q }) parts
    outer-same c a b o q e is Nil binds = refl
    outer-same c a b o q e is (Cons (Node form s parts) rest) binds = λ i.
        and_operands (by (stands_outside form) (operands-same c c a b o q e o q e is is parts binds.0.1) i) (outer-same c a b o q e is rest binds.1 i)
      where
        by : {x y : Operands} (h : Bool) → x ≡ y → ◌≡◌ {A = Operands} (elim h [ true ↦ x | false ↦ Operands.Nil ]) (elim h [ true ↦ y | false ↦ Operands.Nil ])
        by true one = one
        by false one = refl

    changed-same : (c : Context) (a b : Environment) (o q : Operands) (e : o ≡ q) (is : AreAlike P c a b) (parts : Trees) → BindAll P text parts → changed text known named (record { context = c; standing = a; old = o }) parts ≡ changed text known named (record { context = c; standing = b; old = q }) parts
    changed-same c a b o q e is Nil binds = refl
    changed-same c a b o q e is (Cons function updates) binds = λ i.
        Operands.Cons (expand-same c a b o q e is function binds.0 i).text
        (updated-same c a b o q e is (expand text known named (record { context = c; standing = a; old = o }) function).text (expand text known named (record { context = c; standing = b; old = q }) function).text (ap (λ (x : Item). x.text) (expand-same c a b o q e is function binds.0)) updates binds.1 i)

    updated-same : (c : Context) (a b : Environment) (o q : Operands) (e : o ≡ q) (is : AreAlike P c a b) (t u : Expanded) (g : t ≡ u) (parts : Trees) → BindAll P text parts → updated text known named (record { context = c; standing = a; old = o }) t parts ≡ updated text known named (record { context = c; standing = b; old = q }) u parts
    updated-same c a b o q e is t u g Nil binds = refl
    updated-same c a b o q e is t u g (Cons (Node form s parts) rest) binds = λ i.
        and_operands
        (operands-same c c a b o q e (Operands.Cons t (outer_operands text known named (record { context = c; standing = a; old = o }) parts)) (Operands.Cons u (outer_operands text known named (record { context = c; standing = b; old = q }) parts))
        (λ j. Operands.Cons (g j) (outer-same c a b o q e is parts binds.0.1 j)) is is parts binds.0.1 i)
        (updated-same c a b o q e is t u g rest binds.1 i)
