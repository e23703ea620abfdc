-- A table that grows keeps what its entries mean and cost.
use Rattle.std.proofs.Common.{◌≡◌, ℕ, ◌<◌, ◌≤◌, max, List, [], ◌∷◌, ◌++◌, Option, Some, refl, sym, ap, ◌∙◌, map, length, arith, length-append, append_assoc}
use Rattle.std.specs.Prelude.{slice_get}
use Rattle.std.proofs.lemmas.List.{append-nil}
use Rattle.std.proofs.lemmas.Option.{slice_get_within}
use Rattle.tla_symbols.specs.declared.level.Kind.{Kind}
use Rattle.kind_text.specs.ExpandedKind.{Given, kinds}
use Rattle.kind_text.specs.Substitution.{expression, expressions, leaves, texts}
use Rattle.kind_text.specs.FlatModule.{FlatModule}
use Rattle.kind_table.specs.declared.argument.Arg.{Arg}
use Rattle.kind_table.specs.declared.argument.Arg.TheVariants.{Value}
use Rattle.kind_table.specs.Table.{AddsValues, AllWithin, Grows, IsTable, meaning, meanings, value_at}
use Rattle.kind_table.specs.Weights.{heaviest, load, weight}
use Rattle.kind_table.proofs.Unfolding.{kind-meaning, meaning-more, meaning-step, weight-more, weight-step}

pub grows_not : (table : List Arg) → IsTable table → Grows table table
grows_not table h = record { more = []; extends = sym (append-nil table); table = h }

pub grows_on : {a b c : List Arg} → Grows a b → Grows b c → Grows a c
grows_on {a} {b} {c} g h =
    record { more = g.more ++ h.more; extends = h.extends ∙ ap (λ x. x ++ h.more) g.extends ∙ append_assoc a g.more h.more; table = h.table }

pub longer : {a b : List Arg} → Grows a b → length a ≤ length b
longer {a} {b} g = omega (arith, ap length g.extends, length-append a g.more)

pub within_on : {a b : List Arg} → Grows a b → (ns : List ℕ) → AllWithin a ns → AllWithin b ns
within_on g [] h = tt
within_on g (n ∷ ns) h = let l = longer g in (omega (arith, l, h.0), within_on g ns h.1)

module _ (flat : FlatModule) where
  pub meaning_on : {a b : List Arg} → Grows a b → (i : ℕ) → i < length a → meaning flat b i ≡ meaning flat a i
  meaning_on {a} {b} g i h = ap (λ x. meaning flat x i) g.extends ∙ meaning-more flat a g.more i h

  pub meanings_on : {a b : List Arg} → Grows a b → (ns : List ℕ) → AllWithin a ns → meanings flat b ns ≡ meanings flat a ns
  meanings_on g [] h = refl
  meanings_on {a} {b} g (n ∷ ns) h =
      ap (λ x. x ∷ meanings flat b ns) (meaning_on g n h.0) ∙ ap (λ xs. meaning flat a n ∷ xs) (meanings_on g ns h.1)

  pub weight_on : {a b : List Arg} → Grows a b → (i : ℕ) → i < length a → weight flat b i ≡ weight flat a i
  weight_on {a} {b} g i h = ap (λ x. weight flat x i) g.extends ∙ weight-more flat a g.more i h

  pub load_on : {a b : List Arg} → Grows a b → (ns : List ℕ) → AllWithin a ns → load flat b ns ≡ load flat a ns
  load_on g [] h = refl
  load_on {a} {b} g (n ∷ ns) h = let e = weight_on g n h.0 in let es = load_on g ns h.1 in cc

  pub meanings-push : (table : List Arg) (ns : List ℕ) (n : ℕ) → meanings flat table (ns ++ n ∷ []) ≡ meanings flat table ns ++ meaning flat table n ∷ []
  meanings-push table [] n = refl
  meanings-push table (m ∷ ns) n = ap (λ xs. meaning flat table m ∷ xs) (meanings-push table ns n)

  -- the kinds of entries
  pub kinds-meanings : (table : List Arg) (ns : List ℕ) → kinds (texts (meanings flat table ns)) ≡ map (value_at table) ns
  kinds-meanings table [] = refl
  kinds-meanings table (n ∷ ns) =
      ap (λ x. x ∷ kinds (texts (meanings flat table ns))) (kind-meaning flat table n) ∙ ap (λ xs. value_at table n ∷ xs) (kinds-meanings table ns)

pub heaviest-push : (f : ℕ → ℕ) (ns : List ℕ) (n : ℕ) → heaviest f (ns ++ n ∷ []) ≡ max (heaviest f ns) (f n)
heaviest-push f [] n = omega arith
heaviest-push f (m ∷ ns) n = let h = heaviest-push f ns n in omega arith

pub within-push : (table : List Arg) (ns : List ℕ) (n : ℕ) → AllWithin table ns → n < length table → AllWithin table (ns ++ n ∷ [])
within-push table [] n h l = (l, tt)
within-push table (m ∷ ns) n h l = (h.0, within-push table ns n h.1 l)

pub kinds-leaves : (ks : List (Option Kind)) → kinds (leaves ks) ≡ ks
kinds-leaves [] = refl
kinds-leaves (k ∷ ks) = ap (λ xs. k ∷ xs) (kinds-leaves ks)

expressions-push : (ks : List (Option Kind)) (k : Option Kind) → expressions (leaves (ks ++ k ∷ [])) ≡ expressions (leaves ks) ++ expression (Given k) ∷ []
expressions-push [] k = refl
expressions-push (l ∷ ks) k = ap (λ xs. expression (Given l) ∷ xs) (expressions-push ks k)

-- ---- expressions that come behind a frame

pub adds_none : (table : List Arg) (frame : List ℕ) → IsTable table → AllWithin table frame → AddsValues table table frame frame []
adds_none table frame h w =
    record { grows = grows_not table h; within = w; meant = λ flat. sym (append-nil (meanings flat table frame)); light = λ flat. refl }

pub adds_more : {a b c : List Arg} {f g : List ℕ} {ks : List (Option Kind)} (n : ℕ) (k : Option Kind) → AddsValues a b f g ks → Grows b c → slice_get c n ≡ Some (Value k) → AddsValues a c f (g ++ n ∷ []) (ks ++ k ∷ [])
adds_more {a} {b} {c} {f} {g} {ks} n k h w e =
    record {
      grows = grows_on h.grows w;
      within = within-push c g n (within_on w g h.within) (slice_get_within c n (Value k) e);
      meant = λ flat. meanings-push flat c g n ∙ ap (λ x. x ++ meaning flat c n ∷ []) (meanings_on flat w g h.within ∙ h.meant flat)
          ∙ ap (λ x. (meanings flat a f ++ expressions (leaves ks)) ++ x ∷ []) (meaning-step flat c n (Value k) w.table e)
          ∙ append_assoc (meanings flat a f) (expressions (leaves ks)) (expression (Given k) ∷ [])
          ∙ ap (λ x. meanings flat a f ++ x) (sym (expressions-push ks k));
      light = λ flat. same_load flat;
    }
  where
    same_load : (flat : FlatModule) → load flat c (g ++ n ∷ []) ≡ load flat a f
    same_load flat =
        let v : weight flat c n ≡ 0 = weight-step flat c n (Value k) w.table e in
        let p = heaviest-push (weight flat c) g n in let q = load_on flat w g h.within in let l = h.light flat in omega (arith, p, q, v, l)
