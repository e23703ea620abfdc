-- What an entry stands for, from the entries before it, and what it may cost.
use Rattle.std.proofs.Common.{◌≡◌, ℕ, zero, suc, ◌<◌, List, [], ◌∷◌, ◌++◌, Option, Some, None, refl, ap, ◌∙◌, map, length, arith}
use Rattle.std.specs.Prelude.{slice_get}
use Rattle.std.specs.List.{AllByRecursion}
use Rattle.order_rec.specs.Earlier.{before}
use Rattle.order_rec.proofs.Order.{along-step, along-same, along-holds, before-lt}
use Rattle.kind_text.proofs.Zips.{zip-append}
use Rattle.kind_text.specs.ExpandedKind.{Expanded, Operands, Given, kind, kinds, ruled}
use Rattle.kind_text.specs.Substitution.{Item, Same, Alike, expression, expressions, operator}
use Rattle.kind_text.specs.FlatModule.{Definition, FlatModule}
use Rattle.kind_text.specs.Expansion.{body, text, text_of}
use Rattle.kind_text.proofs.Likeness.{text-same}
use Rattle.kind_table.specs.declared.argument.Arg.{Arg}
use Rattle.kind_table.specs.declared.argument.Arg.TheVariants.{Value, Stays, BuiltIn, Operator}
use Rattle.kind_table.specs.Table.{IsArg, IsTable, arg_item, meaning, meanings, value_of, value_at}
use Rattle.kind_table.specs.Weights.{heaviest, arg_weight, weight}

map-before : {A : Type 0} (d : A) (f : ℕ → A) (i : ℕ) (ns : List ℕ) → AllByRecursion (λ n. n < i) ns → map (before d f i) ns ≡ map f ns
map-before d f i [] h = refl
map-before d f i (n ∷ ns) h = ap (λ x. x ∷ map (before d f i) ns) (before-lt d f i n h.0) ∙ ap (λ xs. f n ∷ xs) (map-before d f i ns h.1)

heaviest-before : (f : ℕ → ℕ) (i : ℕ) (ns : List ℕ) → AllByRecursion (λ n. n < i) ns → heaviest (before 0 f i) ns ≡ heaviest f ns
heaviest-before f i [] h = refl
heaviest-before f i (n ∷ ns) h = let a = before-lt 0 f i n h.0 in let b = heaviest-before f i ns h.1 in cc

-- what an entry stands for
pub meaning-step : (flat : FlatModule) (table : List Arg) (i : ℕ) (arg : Arg) → IsTable table → slice_get table i ≡ Some arg → meaning flat table i ≡ arg_item flat (meaning flat table) (Some arg)
meaning-step flat table i arg h e =
    along-step (expression (Given None)) (λ j f. arg_item flat f (slice_get table j)) i
    ∙ ap (arg_item flat (before (expression (Given None)) (meaning flat table) i)) e
    ∙ by_arg arg (h.each i arg e)
  where
    by_arg : (a : Arg) → IsArg i a → arg_item flat (before (expression (Given None)) (meaning flat table) i) (Some a) ≡ arg_item flat (meaning flat table) (Some a)
    by_arg (Value k) u = refl
    by_arg (Stays r) u = refl
    by_arg (BuiltIn r) u = refl
    by_arg (Operator d ns) u = ap (λ x. operator (λ ts. text_of flat d (x ++ expressions ts))) (map-before (expression (Given None)) (meaning flat table) i ns.items u)

-- what its call may cost
pub weight-step : (flat : FlatModule) (table : List Arg) (i : ℕ) (arg : Arg) → IsTable table → slice_get table i ≡ Some arg → weight flat table i ≡ arg_weight flat (weight flat table) (Some arg)
weight-step flat table i arg h e =
    along-step 0 (λ j f. arg_weight flat f (slice_get table j)) i
    ∙ ap (arg_weight flat (before 0 (weight flat table) i)) e
    ∙ by_arg arg (h.each i arg e)
  where
    by_arg : (a : Arg) → IsArg i a → arg_weight flat (before 0 (weight flat table) i) (Some a) ≡ arg_weight flat (weight flat table) (Some a)
    by_arg (Value k) u = refl
    by_arg (Stays r) u = refl
    by_arg (BuiltIn r) u = refl
    by_arg (Operator d ns) u = let same = heaviest-before (weight flat table) i ns.items u in cc

-- a longer table has the same entries
pub slice_get-more : {A : Type 0} (xs ys : List A) (i : ℕ) → i < length xs → slice_get (xs ++ ys) i ≡ slice_get xs i
slice_get-more [] ys i h = absurd (omega arith)
slice_get-more (x ∷ xs) ys zero h = refl
slice_get-more (x ∷ xs) ys (suc i) h = slice_get-more xs ys i (omega arith)

pub meaning-more : (flat : FlatModule) (table more : List Arg) (i : ℕ) → i < length table → meaning flat (table ++ more) i ≡ meaning flat table i
meaning-more flat table more i h =
    along-same (expression (Given None)) _ _ (length table) (λ j l f. ap (arg_item flat f) (slice_get-more table more j l)) i h

pub weight-more : (flat : FlatModule) (table more : List Arg) (i : ℕ) → i < length table → weight flat (table ++ more) i ≡ weight flat table i
weight-more flat table more i h =
    along-same 0 _ _ (length table) (λ j l f. ap (arg_weight flat f) (slice_get-more table more j l)) i h

-- ---- only kinds count

pub same-expression : (t u : Expanded) → kind t ≡ kind u → Same (expression t) (expression u)
same-expression t u e = record { text = e; call = λ ts us h. refl }

pub same-operator : (f g : Operands → Expanded) → ((ts us : Operands) → kinds ts ≡ kinds us → kind (f ts) ≡ kind (g us)) → Same (operator f) (operator g)
same-operator f g h = record { text = refl; call = h }

pub alike-expressions : (ts us : Operands) → kinds ts ≡ kinds us → Alike (expressions ts) (expressions us)
alike-expressions Operands.Nil Operands.Nil e = tt
alike-expressions Operands.Nil (Operands.Cons u us) e = cc
alike-expressions (Operands.Cons t ts) Operands.Nil e = cc
alike-expressions (Operands.Cons t ts) (Operands.Cons u us) e =
    let first : kind t ≡ kind u = cc in let rest : kinds ts ≡ kinds us = cc in
    (same-expression t u first, alike-expressions ts us rest)

-- a definition's kind on frames of the same kinds
pub same-body : (flat : FlatModule) (o : Option Definition) (p q : ℕ → List Item) → ((n : ℕ) → Alike (p n) (q n)) → kind (body (text flat) o p) ≡ kind (body (text flat) o q)
same-body flat None p q h = refl
same-body flat (Some d) p q h = (text-same flat d.root (p d.outer) (q d.outer) (h d.outer)).text

reflexive : (f : ℕ → Item) → ((j : ℕ) → Same (f j) (f j)) → (ns : List ℕ) → Alike (map f ns) (map f ns)
reflexive f h [] = tt
reflexive f h (n ∷ ns) = (h n, reflexive f h ns)

pub same-meaning : (flat : FlatModule) (table : List Arg) (i : ℕ) → Same (meaning flat table i) (meaning flat table i)
same-meaning flat table i = along-holds (λ x. Same x x) (expression (Given None)) (λ j f. arg_item flat f (slice_get table j)) (same-expression _ _ refl) (λ j f h. by_arg f h (slice_get table j)) i
  where
    by_arg : (f : ℕ → Item) → ((j : ℕ) → Same (f j) (f j)) → (o : Option Arg) → Same (arg_item flat f o) (arg_item flat f o)
    by_arg f h None = same-expression _ _ refl
    by_arg f h (Some (Value k)) = same-expression _ _ refl
    by_arg f h (Some (Stays r)) = record { text = refl; call = λ ts us e. ap (ruled r) e }
    by_arg f h (Some (BuiltIn r)) = same-operator _ _ (λ ts us e. ap (ruled r) e)
    by_arg f h (Some (Operator d ns)) = same-operator _ _ (λ ts us e.
        same-body flat (slice_get flat.definitions d) _ _ (λ n. zip-append Same _ _ _ _ (reflexive f h ns.items) (alike-expressions ts us e)))

pub alike-meanings : (flat : FlatModule) (table : List Arg) (ns : List ℕ) → Alike (meanings flat table ns) (meanings flat table ns)
alike-meanings flat table ns = reflexive (meaning flat table) (same-meaning flat table) ns

-- the kind of an entry
pub kind-meaning : (flat : FlatModule) (table : List Arg) (i : ℕ) → kind (meaning flat table i).text ≡ value_at table i
kind-meaning flat table i = ap (λ (x : Item). kind x.text) (along-step (expression (Given None)) (λ j f. arg_item flat f (slice_get table j)) i) ∙ by_arg (slice_get table i)
  where
    by_arg : (o : Option Arg) → kind (arg_item flat (before (expression (Given None)) (meaning flat table) i) o).text ≡ value_of o
    by_arg None = refl
    by_arg (Some (Value k)) = refl
    by_arg (Some (Stays r)) = refl
    by_arg (Some (BuiltIn r)) = refl
    by_arg (Some (Operator d ns)) = refl
