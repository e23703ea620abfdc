-- Nodes that are built of trees are as deep as these.
use Rattle.std.proofs.Common.{◌≡◌, ℕ, ◌+◌, ◌≤◌, max, cond, Bool, true, false, List, [], ◌∷◌, Option, Some, None, map, refl, sym, ap, ◌∙◌, subst, arith}
use Rattle.std.specs.Prelude.{◌||◌, ◌&&◌, is_some, slice_get}
use Rattle.std.specs.Option.{option_or}
use Rattle.std.proofs.Math.Nat.{max-zero, zero-max}
use Rattle.std.proofs.lemmas.Bool.{or_left, or_right}
use Rattle.tla_symbols.specs.declared.level.Rule.{Rule}
use Rattle.tla_symbols.specs.declared.level.Rule.TheVariants.{Plain}
use Rattle.tla_symbols.specs.declared.lexeme.LexKind.TheVariants as LexKind
use Rattle.tla_symbols.specs.declared.op.Op.TheVariants as Op
use Rattle.tla_symbols.specs.declared.place.Fix.TheVariants.{Prefix, Infix, Postfix}
use Rattle.tla_symbols.specs.Symbols.{rule_of}
use Rattle.tla_tree.specs.declared.form.Form.TheVariants as Form
use Rattle.tla_tree.specs.Syntax.{Tree, Trees, Node, Nil, Cons}
use Rattle.tla_model.specs.Tables.{Named, Symbol}
use Rattle.tla_model.specs.Entities.{Meaning, Text, name_of}
use Rattle.tla_model.specs.Contexts.{meaning_of}
use Rattle.tla_model.specs.Scopes.{is_free, prefixed, itself as as_spelled}
use Rattle.module_model.specs.Exports.{Known}
use Rattle.kind_text.specs.ExpandedKind.{Operands}
use Rattle.kind_text.specs.FlatModule.{FlatModule, Form as NodeForm}
use Rattle.kind_text.specs.Substitution.{Item, texts}
use Rattle.level_text.specs.Depth.{depth as depth_at, depth_of, form_depth, greatest, replaced_depth, replaced_on}
use Rattle.level_text.specs.FormRules.{form_rule, rule_operands, symbol_rule}
use Rattle.tree_kinds.specs.Standing.{Outside, Reached, Step, Steps, single}
use Rattle.tree_kinds.specs.Expanding.{Around, bare_rule, before_scope, changed, in_scope, items, operands, places_at, steps, symbol_name, symbol_places}
use Rattle.tree_kinds.specs.Making.{IsOperation}
use Rattle.tree_kinds.specs.TreeDepths.{Beneath, counted, depth, name_depth, path_names, reached_at, reached_by, symbol_depth, use_depth}
use Rattle.flat_trees.specs.Stands.{Stand, Unsaid, Leaf, Place, Defined, Through, Brought}
use Rattle.flat_trees.specs.Names.{Ending, IsBare, IsBareSymbol, IsBuilt, IsMeaning, IsNamed, IsPath, IsSymbolOn, IsUse, Leads}
use Rattle.flat_depths.proofs.Agreeing.{max-assoc}
use Rattle.flat_depths.specs.Depths.{HasDepths, HaveDepths}
use Rattle.flat_depths.specs.Parts.{Counts, HasParts, IsDefinable}

-- ---- symbols

-- a symbol that has a rule at this place is none that modules define
abbrev clashes : Op.the_data → Bool
clashes op = (is_free op && (is_some (rule_of op Infix) || is_some (rule_of op Prefix) || is_some (rule_of op Postfix))) || (is_free (prefixed op) && is_some (rule_of op Prefix))

table : (op : Op.the_data) → clashes op ≡ false
table Op.Not = refl
table op = refl

first-is-none : (free i p q g : Bool) → ((free && (i || p || q)) || (g && p)) ≡ false → (i || p || q) ≡ true → free ≡ false
first-is-none false i p q g e some = refl
first-is-none true true p q g e some = e
first-is-none true false true q g e some = e
first-is-none true false false true g e some = e
first-is-none true false false false g e some = sym some

prefix-is-none : (free i p q g : Bool) → ((free && (i || p || q)) || (g && p)) ≡ false → p ≡ true → g ≡ false
prefix-is-none free i p q false e some = refl
prefix-is-none true true p q true e some = e
prefix-is-none true false true q true e some = e
prefix-is-none true false false q true e some = sym some
prefix-is-none false i true q true e some = e
prefix-is-none false i false q true e some = sym some

some-bare : (a b c : Option Rule) (r : Rule) → option_or a (option_or b c) ≡ Some r → (is_some a || is_some b || is_some c) ≡ true
some-bare (Some x) b c r e = refl
some-bare None (Some x) c r e = refl
some-bare None None (Some x) r e = refl
some-bare None None None r e = cc

-- a symbol that is built in has no depth
free-none : (beneath : Beneath) (which : Op.the_data → Op.the_data) (op : Op.the_data) → is_free (which op) ≡ false → symbol_depth beneath which (LexKind.Sym op) ≡ 0
free-none beneath which op e = ap (λ b. cond b (name_depth beneath (Symbol (which op))) 0) e

pub prefix-none : (beneath : Beneath) (kind : LexKind.the_data) (r : Rule) → symbol_rule Prefix kind ≡ Some r → symbol_depth beneath prefixed kind ≡ 0
prefix-none beneath (LexKind.Sym op) r e =
    free-none beneath prefixed op (prefix-is-none (is_free op) (is_some (rule_of op Infix)) (is_some (rule_of op Prefix)) (is_some (rule_of op Postfix)) (is_free (prefixed op)) (table op) (ap is_some e))
prefix-none beneath kind r e = refl

spelled-none : (beneath : Beneath) (op : Op.the_data) → (is_some (rule_of op Infix) || is_some (rule_of op Prefix) || is_some (rule_of op Postfix)) ≡ true → symbol_depth beneath as_spelled (LexKind.Sym op) ≡ 0
spelled-none beneath op some =
    free-none beneath as_spelled op (first-is-none (is_free op) (is_some (rule_of op Infix)) (is_some (rule_of op Prefix)) (is_some (rule_of op Postfix)) (is_free (prefixed op)) (table op) some)

pub infix-none : (beneath : Beneath) (kind : LexKind.the_data) (r : Rule) → symbol_rule Infix kind ≡ Some r → symbol_depth beneath as_spelled kind ≡ 0
infix-none beneath (LexKind.Sym op) r e = spelled-none beneath op (or_left (is_some (rule_of op Infix) || is_some (rule_of op Prefix)) (is_some (rule_of op Postfix)) (or_left (is_some (rule_of op Infix)) (is_some (rule_of op Prefix)) (ap is_some e)))
infix-none beneath kind r e = refl

pub postfix-none : (beneath : Beneath) (kind : LexKind.the_data) (r : Rule) → symbol_rule Postfix kind ≡ Some r → symbol_depth beneath as_spelled kind ≡ 0
postfix-none beneath (LexKind.Sym op) r e = spelled-none beneath op (or_right (is_some (rule_of op Infix) || is_some (rule_of op Prefix)) (is_some (rule_of op Postfix)) (ap is_some e))
postfix-none beneath kind r e = refl

pub bare-none : (beneath : Beneath) (kind : LexKind.the_data) (r : Rule) → bare_rule kind ≡ Some r → symbol_depth beneath as_spelled kind ≡ 0
bare-none beneath (LexKind.Sym op) r e = spelled-none beneath op (some-bare (rule_of op Infix) (rule_of op Prefix) (rule_of op Postfix) r e)
bare-none beneath kind r e = refl

-- the names of steps
abbrev pub names : Steps → List Named
names path = map (λ (step : Step). step.name) path

names-same : (text : Text) (known : Known) (named : List ℕ → Outside) (around : Around) (parts : Trees) → names (steps text known named around parts) ≡ path_names text.source parts
names-same text known named around Nil = refl
names-same text known named around (Cons (Node (Form.Segment l) s arguments) rest) = ap (λ xs. name_of text.source l ∷ xs) (names-same text known named around rest)
names-same text known named around (Cons (Node form s arguments) rest) = names-same text known named around rest

-- ---- names

pub plain : (r : Reached) (n most : ℕ) → r ≡ record { depth = 0; replaced = 0 } → n ≤ most → most ≡ max (use_depth r n) most
plain r n most e l =
    let a = ap (λ (x : Reached). x.depth) e in
    let b = ap (λ (x : Reached). x.replaced) e in
    omega (arith, a, b, l)

pub used : (r : Reached) (d replaced n most : ℕ) → r ≡ record { depth = d; replaced = max 0 replaced } → max most (d + max replaced n) ≡ max (use_depth r n) most
used r d replaced n most e =
    let a = ap (λ (x : Reached). x.depth) e in
    let b = ap (λ (x : Reached). x.replaced) e in
    omega (arith, a, b)

pub top : {n m : ℕ} → n ≡ m → n ≡ max 0 m
top {m} e = e ∙ sym (zero-max m)

module _ (flat : FlatModule) where
  -- what a path leads to is as deep as the definition, behind the replacements on it
  leads-deep : (ends : Ending) (d : ℕ) (only : (found : ℕ) (orders : List ℕ) (made arguments : List Item) → ends found orders made arguments → found ≡ d) (stand : Stand) (n : ℕ) (depths : List Named → Reached) (arguments : List Item) (path : Steps) (instances : List ℕ) (made : List Item) → HasDepths flat n stand depths → Leads ends stand arguments path instances made → depths (names path) ≡ record { depth = depth_of (depth_at flat) (slice_get flat.definitions d); replaced = max n (replaced_on flat (depth_at flat) instances) }
  leads-deep ends d only Unsaid n depths arguments path instances made has leads = absurd leads
  leads-deep ends d only (Leaf kind) n depths arguments path instances made has leads = absurd leads
  leads-deep ends d only (Place place order) n depths arguments path instances made has leads = absurd leads
  leads-deep ends d only (Defined found orders) n depths arguments [] [] made has leads =
      has
      ∙ ap (λ k. record { depth = depth_of (depth_at flat) (slice_get flat.definitions k); replaced = n }) (only found orders made arguments leads)
      ∙ ap (λ k. record { depth = depth_of (depth_at flat) (slice_get flat.definitions d); replaced = k }) (sym (max-zero n))
  leads-deep ends d only (Defined found orders) n depths arguments [] (i ∷ instances) made has leads = absurd leads
  leads-deep ends d only (Defined found orders) n depths arguments (step ∷ path) instances made has leads = absurd leads
  leads-deep ends d only (Through j orders inner) n depths arguments [] instances made has leads = absurd leads
  leads-deep ends d only (Through j orders inner) n depths arguments (step ∷ path) [] made has leads = absurd leads
  leads-deep ends d only (Through j orders inner) n depths arguments (step ∷ path) (i ∷ instances) made has (same, fits, leads) =
      leads-deep ends d only (inner step.name) _ (λ more. depths (step.name ∷ more)) step.arguments path instances _ (has.1 step.name) leads
      ∙ ap (λ k. record { depth = depth_of (depth_at flat) (slice_get flat.definitions d); replaced = k })
      (max-assoc n (replaced_depth (depth_at flat) (slice_get flat.instances j)) (replaced_on flat (depth_at flat) instances)
      ∙ ap (λ k. max n (max (replaced_depth (depth_at flat) (slice_get flat.instances k)) (replaced_on flat (depth_at flat) instances))) (sym same))
  leads-deep ends d only (Brought j inner) n depths arguments path [] made has leads = absurd leads
  leads-deep ends d only (Brought j inner) n depths arguments path (i ∷ instances) made has (same, leads) =
      leads-deep ends d only inner _ depths arguments path instances made has leads
      ∙ ap (λ k. record { depth = depth_of (depth_at flat) (slice_get flat.definitions d); replaced = k })
      (max-assoc n (replaced_depth (depth_at flat) (slice_get flat.instances j)) (replaced_on flat (depth_at flat) instances)
      ∙ ap (λ k. max n (max (replaced_depth (depth_at flat) (slice_get flat.instances k)) (replaced_on flat (depth_at flat) instances))) (sym same))

  -- a node that is made of a name, as deep as its use
  module _ (is : List ℕ) (n : ℕ) where
    named-deep : (form : NodeForm) (places : Option ℕ) (stand : Stand) (depths : List Named → Reached) (arguments : List Item) (path : Steps) (made : List Item) → HasDepths flat 0 stand depths → IsNamed places stand arguments path form made → Counts flat form is n → form_depth flat (depth_at flat) form is ≡ max (use_depth (depths (names path)) n) (greatest (depth_at flat) is)
    named-deep (NodeForm.Leaf kind) places stand depths arguments path made has (none, e, empty, end) counts =
        plain (depths (names path)) n (greatest (depth_at flat) is) (ap (λ p. depths (names p)) end ∙ subst (λ one. HasDepths flat 0 one depths) e has) counts
    named-deep (NodeForm.Parameter place) places stand depths arguments path made has (order, placed, e, empty, end) counts =
        plain (depths (names path)) n (greatest (depth_at flat) is) (ap (λ p. depths (names p)) end ∙ subst (λ one. HasDepths flat 0 one depths) e has) counts
    named-deep (NodeForm.Call place) places stand depths arguments path made has (none, e, some, like, end) counts =
        plain (depths (names path)) n (greatest (depth_at flat) is) (ap (λ p. depths (names p)) end ∙ subst (λ one. HasDepths flat 0 one depths) e has) counts
    named-deep (NodeForm.Operation rule) places stand depths arguments path made has named counts = absurd named
    named-deep NodeForm.Bounded places stand depths arguments path made has named counts = absurd named
    named-deep NodeForm.Old places stand depths arguments path made has named counts = absurd named
    named-deep NodeForm.Let places stand depths arguments path made has named counts = absurd named
    named-deep (NodeForm.Use instances d) places stand depths arguments path made has (none, leads) counts =
        ap (λ k. max (greatest (depth_at flat) is) (depth_of (depth_at flat) (slice_get flat.definitions d) + max (replaced_on flat (depth_at flat) instances) k)) counts
        ∙ used (depths (names path)) (depth_of (depth_at flat) (slice_get flat.definitions d)) (replaced_on flat (depth_at flat) instances) n (greatest (depth_at flat) is)
        (leads-deep (IsUse d) d (λ found orders xs ys end. end.0) stand 0 depths arguments path instances made has leads)
    named-deep (NodeForm.Name instances d) places stand depths arguments path made has (count, many, leads) counts =
        ap (λ k. max (greatest (depth_at flat) is) (depth_of (depth_at flat) (slice_get flat.definitions d) + max (replaced_on flat (depth_at flat) instances) k)) counts
        ∙ used (depths (names path)) (depth_of (depth_at flat) (slice_get flat.definitions d)) (replaced_on flat (depth_at flat) instances) n (greatest (depth_at flat) is)
        (leads-deep (IsBare d count) d (λ found orders xs ys end. end.0) stand 0 depths arguments path instances made has leads)
    named-deep (NodeForm.Symbol rule) places stand depths arguments path made has named counts = absurd named
    named-deep (NodeForm.Lambda d) places stand depths arguments path made has named counts = absurd named

  module _ (stands : Meaning → Stand) (beneath : Beneath) (have : HaveDepths flat stands beneath.depths) (form : NodeForm) (is : List ℕ) (made : List Item) where
    pub path-deep : (places : Option ℕ) (path : Steps) (n : ℕ) → IsPath stands beneath.context places path form made → Counts flat form is n → form_depth flat (depth_at flat) form is ≡ max (use_depth (reached_at beneath (names path)) n) (greatest (depth_at flat) is)
    path-deep places [] n built counts = absurd built
    path-deep places (step ∷ path) n built counts = by_meaning (meaning_of beneath.context step.name) built
      where
        by_meaning : (found : Option Meaning) → IsMeaning stands beneath.context places found step.arguments path form made → form_depth flat (depth_at flat) form is ≡ max (use_depth (reached_by beneath.depths found (names path)) n) (greatest (depth_at flat) is)
        by_meaning None built = absurd built
        by_meaning (Some meaning) built = named-deep is n form places (stands meaning) (beneath.depths meaning) step.arguments path made (have meaning) built counts

    operation : (o : Option Rule) (us : Operands) → IsOperation o us form made → form_depth flat (depth_at flat) form is ≡ greatest (depth_at flat) is
    operation None us built = absurd built
    operation (Some rule) us built = ap (λ g. form_depth flat (depth_at flat) g is) built.0

    -- a symbol that is defined is as deep as its name
    defined-symbol : (which : Op.the_data → Op.the_data) (op : Op.the_data) (places : Option ℕ) (xs : List Item) → IsPath stands beneath.context places (single (Symbol (which op)) xs) form made → Counts flat form is 0 → is_free (which op) ≡ true → form_depth flat (depth_at flat) form is ≡ max (symbol_depth beneath which (LexKind.Sym op)) (greatest (depth_at flat) is)
    defined-symbol which op places xs built counts free =
        path-deep places (single (Symbol (which op)) xs) 0 built counts
        ∙ ap (λ b. max (cond b (name_depth beneath (Symbol (which op))) 0) (greatest (depth_at flat) is)) (sym free)

    symbol-on : (rule : Option Rule) (which : Op.the_data → Op.the_data) (kind : LexKind.the_data) (xs : List Item) → ((r : Rule) → rule ≡ Some r → symbol_depth beneath which kind ≡ 0) → IsSymbolOn stands beneath.context rule (symbol_name which kind) xs form made → Counts flat form is 0 → IsDefinable rule which kind → form_depth flat (depth_at flat) form is ≡ max (symbol_depth beneath which kind) (greatest (depth_at flat) is)
    symbol-on (Some rule) which kind xs none built counts free =
        operation (Some rule) (texts xs) built ∙ sym (zero-max (greatest (depth_at flat) is)) ∙ ap (λ n. max n (greatest (depth_at flat) is)) (sym (none rule refl))
    symbol-on None which (LexKind.Sym op) xs none built counts free = defined-symbol which op None xs built counts free
    symbol-on None which kind xs none built counts free = absurd built

    bare-symbol : (rule : Option Rule) (kind : LexKind.the_data) (places : Option ℕ) → ((r : Rule) → rule ≡ Some r → symbol_depth beneath as_spelled kind ≡ 0) → IsBareSymbol stands beneath.context rule (symbol_name as_spelled kind) places form made → Counts flat form is 0 → IsDefinable rule as_spelled kind → form_depth flat (depth_at flat) form is ≡ max (symbol_depth beneath as_spelled kind) (greatest (depth_at flat) is)
    bare-symbol (Some rule) kind places none built counts free =
        ap (λ g. form_depth flat (depth_at flat) g is) built ∙ sym (zero-max (greatest (depth_at flat) is)) ∙ ap (λ n. max n (greatest (depth_at flat) is)) (sym (none rule refl))
    bare-symbol None (LexKind.Sym op) (Some places) none built counts free = defined-symbol as_spelled op (Some places) [] built counts free
    bare-symbol None (LexKind.Sym op) None none built counts free = absurd built
    bare-symbol None kind places none built counts free = absurd built

    module _ (text : Text) (known : Known) (named : List ℕ → Outside) (around : Around) (same : around.context ≡ beneath.context) where
      pub node-deep : (x : Tree) → IsBuilt text known named stands around x form made → HasParts flat text known named beneath x form is → form_depth flat (depth_at flat) form is ≡ depth text known named beneath x
      node-deep (Node Form.Identifier sp parts) built (all, counts) =
          path-deep (places_at text known named around.context (Node Form.Identifier sp parts)) (steps text known named around parts) (counted text known named beneath parts)
          (subst (λ context. IsPath stands context (places_at text known named around.context (Node Form.Identifier sp parts)) (steps text known named around parts) form made) same built) counts
          ∙ ap (λ ns. max (use_depth (reached_at beneath ns) (counted text known named beneath parts)) (greatest (depth_at flat) is)) (names-same text known named around parts)
          ∙ ap (max (use_depth (reached_at beneath (path_names text.source parts)) (counted text known named beneath parts))) all
      node-deep (Node (Form.Number l) sp parts) built all = ap (λ g. form_depth flat (depth_at flat) g is) built ∙ top all
      node-deep (Node (Form.Text l) sp parts) built all = ap (λ g. form_depth flat (depth_at flat) g is) built ∙ top all
      node-deep (Node (Form.At l) sp parts) built all = ap (λ g. form_depth flat (depth_at flat) g is) built.0 ∙ top all
      node-deep (Node (Form.Symbol l) sp parts) built (all, counts, free) =
          bare-symbol (bare_rule l.kind) l.kind (symbol_places around.context l.kind) (bare-none beneath l.kind)
          (subst (λ context. IsBareSymbol stands context (bare_rule l.kind) (symbol_name as_spelled l.kind) (symbol_places around.context l.kind) form made) same built) counts free
          ∙ ap (max (symbol_depth beneath as_spelled l.kind)) all
      node-deep (Node (Form.Prefix l) sp parts) built (all, counts, free) =
          symbol-on (symbol_rule Prefix l.kind) prefixed l.kind (items text known named around parts) (prefix-none beneath l.kind)
          (subst (λ context. IsSymbolOn stands context (symbol_rule Prefix l.kind) (symbol_name prefixed l.kind) (items text known named around parts) form made) same built) counts free
          ∙ ap (max (symbol_depth beneath prefixed l.kind)) all
      node-deep (Node (Form.Infix l) sp parts) built (all, counts, free) =
          symbol-on (symbol_rule Infix l.kind) as_spelled l.kind (items text known named around parts) (infix-none beneath l.kind)
          (subst (λ context. IsSymbolOn stands context (symbol_rule Infix l.kind) (symbol_name as_spelled l.kind) (items text known named around parts) form made) same built) counts free
          ∙ ap (max (symbol_depth beneath as_spelled l.kind)) all
      node-deep (Node (Form.Postfix l) sp parts) built (all, counts, free) =
          symbol-on (symbol_rule Postfix l.kind) as_spelled l.kind (items text known named around parts) (postfix-none beneath l.kind)
          (subst (λ context. IsSymbolOn stands context (symbol_rule Postfix l.kind) (symbol_name as_spelled l.kind) (items text known named around parts) form made) same built) counts free
          ∙ ap (max (symbol_depth beneath as_spelled l.kind)) all
      node-deep (Node Form.Parentheses sp parts) (first, rest, is_let, more, like) all = ap (λ g. form_depth flat (depth_at flat) g is) is_let ∙ top all
      node-deep (Node Form.Let sp parts) (first, rest, is_let, more, like) all = ap (λ g. form_depth flat (depth_at flat) g is) is_let ∙ all
      node-deep (Node Form.Except sp parts) built all = operation (Some Plain) (changed text known named around parts) built ∙ top all
      node-deep (Node (Form.BoundedQuantifier l) sp parts) built all = ap (λ g. form_depth flat (depth_at flat) g is) built.0 ∙ top all
      node-deep (Node written sp parts) built all =
          operation (form_rule written) (rule_operands written (operands text known named (before_scope text known named around written parts) (in_scope text known named around written parts) parts)) built ∙ top all
