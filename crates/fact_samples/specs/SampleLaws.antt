-- Small texts: names one behind the other, and what of the needs is seen.
use Rattle.std.proofs.Common.{◌≡◌, ℕ, zero, suc, ◌+◌, ◌*◌, ◌%◌, ◌<◌, ◌≤◌, true, List, [], ◌∷◌, refl, sym, ap, ◌∙◌, take, drop, length, get_or, arith}
use Rattle.std.specs.Prelude.{◌&&◌, fold}
use Rattle.std.proofs.lemmas.Bool.{eqb-true, eq-eqb}
use Rattle.std.proofs.lemmas.List.{map-append, take_more}
use Rattle.std.proofs.lemmas.List.Sums.{fold-append}
use Rattle.fact_store.specs.declared.given.Input.{Input}
use Rattle.fact_values.specs.Names.{name_eq}
use Rattle.fact_values.specs.States.{State, no_text, cyclic, broken, fact, same_state, same_given}
use Rattle.fact_store.specs.Given.{input_state, states}
use Rattle.list_laws.proofs.Tests.{and-left, and-right}
use Rattle.fact_samples.specs.declared.SampleFact.{SampleFact}
use Rattle.fact_samples.specs.Sample.{names, seen, below, same}

names_drop : (bytes : List ℕ) (at : ℕ) → at + 2 ≤ length bytes → names (drop at bytes) ≡ take 2 (drop at bytes) ∷ names (drop (suc (suc at)) bytes)
names_drop [] at l = absurd (omega arith)
names_drop (a ∷ []) zero l = absurd (omega arith)
names_drop (a ∷ []) (suc at) l = absurd (omega arith)
names_drop (a ∷ b ∷ rest) zero l = refl
names_drop (a ∷ b ∷ rest) (suc at) l = names_drop (b ∷ rest) at (omega arith)

pub names-drop : (bytes : List ℕ) (at : ℕ) → at + 2 ≤ length bytes → names (drop at bytes) ≡ take 2 (drop at bytes) ∷ names (drop (at + 2) bytes)
names-drop bytes at l = let e : suc (suc at) ≡ at + 2 = omega arith in names_drop bytes at l ∙ ap (λ (n : ℕ). take 2 (drop at bytes) ∷ names (drop n bytes)) e

pub names-short : (bytes : List ℕ) → length bytes < 2 → names bytes ≡ []
names-short [] l = refl
names-short (a ∷ []) l = refl
names-short (a ∷ b ∷ rest) l = absurd (omega arith)

pub below-more : (given : List (List ℕ × Input SampleFact)) (i : ℕ) (d : List ℕ × Input SampleFact) → i < length given → below (states (take (i + 1) given)) ≡ (below (states (take i given)) * 31 + seen (input_state (get_or given i d).1)) % 65536
below-more given i d l =
    ap (λ xs. below (states xs)) (take_more given i d l)
    ∙ ap below (map-append (λ (g : List ℕ × Input SampleFact). (g.0, input_state g.1)) (take i given) (get_or given i d ∷ []))
    ∙ fold-append (λ (n : ℕ) (g : List ℕ × State SampleFact). (n * 31 + seen g.1) % 65536) 0 (states (take i given)) (states (get_or given i d ∷ []))

pub same_refl_lem : (a : SampleFact) → same a a ≡ true
same_refl_lem a = eq-eqb a.face a.face refl

pub same_sym_lem : (a b : SampleFact) → same a b ≡ true → same b a ≡ true
same_sym_lem a b e = eq-eqb b.face a.face (sym (eqb-true a.face b.face e))

pub same_trans_lem : (a b c : SampleFact) → same a b ≡ true → same b c ≡ true → same a c ≡ true
same_trans_lem a b c p q = eq-eqb a.face c.face (eqb-true a.face b.face p ∙ eqb-true b.face c.face q)

-- states that are alike are seen alike
seen_same : (a b : State SampleFact) → same_state same a b ≡ true → seen a ≡ seen b
seen_same no_text no_text e = refl
seen_same cyclic cyclic e = refl
seen_same broken broken e = refl
seen_same (fact a) (fact b) e = ap (λ n. 3 + n) (eqb-true a.face b.face e)
seen_same no_text cyclic e = cc
seen_same no_text broken e = cc
seen_same no_text (fact b) e = cc
seen_same cyclic no_text e = cc
seen_same cyclic broken e = cc
seen_same cyclic (fact b) e = cc
seen_same broken no_text e = cc
seen_same broken cyclic e = cc
seen_same broken (fact b) e = cc
seen_same (fact a) no_text e = cc
seen_same (fact a) cyclic e = cc
seen_same (fact a) broken e = cc

pub below_same : (n : ℕ) (xs ys : List (List ℕ × State SampleFact)) → same_given same xs ys ≡ true → fold (λ (n : ℕ) (g : List ℕ × State SampleFact). (n * 31 + seen g.1) % 65536) n xs ≡ fold (λ (n : ℕ) (g : List ℕ × State SampleFact). (n * 31 + seen g.1) % 65536) n ys
below_same n [] [] e = refl
below_same n [] (y ∷ ys) e = cc
below_same n (x ∷ xs) [] e = cc
below_same n (x ∷ xs) (y ∷ ys) e =
    let s = seen_same x.1 y.1 (and-right (name_eq x.0 y.0) _ (and-left (name_eq x.0 y.0 && same_state same x.1 y.1) _ e)) in
    ap (λ k. fold (λ (n : ℕ) (g : List ℕ × State SampleFact). (n * 31 + seen g.1) % 65536) ((n * 31 + k) % 65536) xs) s
    ∙ below_same ((n * 31 + seen y.1) % 65536) xs ys (and-right (name_eq x.0 y.0 && same_state same x.1 y.1) _ e)
