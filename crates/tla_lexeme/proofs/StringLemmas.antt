-- The longest lexeme at a quote.
use Rattle.std.proofs.Common.{◌≡◌, ℕ, zero, suc, ◌+◌, ◌≤◌, Bool, true, false, ◌&&◌, eqb, cond, List, [], ◌∷◌, length, take, drop, slice_index, Option, Some, None, refl, sym, ap, ◌∙◌, subst, arith}
use Rattle.std.proofs.lemmas.Bool.{both_ways, false_from_ne_true}
use Rattle.tla_symbols.specs.declared.lexeme.LexKind.TheVariants.{Str}
use Rattle.tla_lexeme.specs.declared.class.Class.TheVariants.{Dash, EqualSign, InLine, Escaped}
use Rattle.tla_lexeme.specs.declared.string.Step.{Step}
use Rattle.tla_lexeme.specs.declared.string.Step.TheVariants.{Closes, Goes, Escapes, Breaks}
use Rattle.tla_lexeme.specs.LexemeSets.{is_in, is_empty, closes_string, kind_of}
use Rattle.tla_lexeme.specs.Lexing.{lexeme_at}
use Rattle.tla_lexeme.specs.Lengths.{string_step, string_end}
use Rattle.tla_lexeme.proofs.LongestLemmas.{longest_some, longest_none}
use Rattle.tla_lexeme.proofs.TableLemmas.{quote-none}
use Rattle.tla_lexeme.proofs.KindLemmas.{from_suc, kind-open, open-string, open-nothing, name-first, number-none, run-first, fraction-first, based-first, long-first}

-- what follows a byte of a string, by what the byte does
abbrev after_step : Step → List ℕ → Bool
after_step Closes cs = is_empty cs
after_step Goes cs = closes_string false cs
after_step Escapes cs = closes_string true cs
after_step Breaks cs = false

closes-step : (escaped : Bool) (c : ℕ) (cs : List ℕ) → closes_string escaped (c ∷ cs) ≡ after_step (string_step escaped c) cs
closes-step true c cs = by (is_in Escaped c)
  where
    by : (b : Bool) → (b && closes_string false cs) ≡ after_step (cond b Goes Breaks) cs
    by true = refl
    by false = refl
closes-step false c cs = by (eqb c 34) (eqb c 92) (is_in InLine c)
  where
    by : (q s l : Bool) → cond q (is_empty cs) (cond s (closes_string true cs) (l && closes_string false cs)) ≡ after_step (cond q Closes (cond s Escapes (cond l Goes Breaks))) cs
    by true s l = refl
    by false true l = refl
    by false false true = refl
    by false false false = refl

abbrev end_step : Step → ℕ → List ℕ → Option ℕ
end_step Closes at cs = Some (at + 1)
end_step Goes at cs = string_end (at + 1) false cs
end_step Escapes at cs = string_end (at + 1) true cs
end_step Breaks at cs = None

end-step : (at : ℕ) (escaped : Bool) (c : ℕ) (cs : List ℕ) → string_end at escaped (c ∷ cs) ≡ end_step (string_step escaped c) at cs
end-step at escaped c cs = by (string_step escaped c)
  where
    by : (s : Step) → (elim s [ Closes ↦ Some (at + 1) | Goes ↦ string_end (at + 1) false cs | Escapes ↦ string_end (at + 1) true cs | Breaks ↦ None ]) ≡ end_step s at cs
    by Closes = refl
    by Goes = refl
    by Escapes = refl
    by Breaks = refl

some_at : (a b : ℕ) → a ≡ b → (let o : Option ℕ = Some a in o) ≡ Some b
some_at a b e = ap (λ i. let o : Option ℕ = Some i in o) e

-- a prefix that closes the string ends where the string ends
closed-end : (at m : ℕ) (escaped : Bool) (cs : List ℕ) → m ≤ length cs → closes_string escaped (take m cs) ≡ true → string_end at escaped cs ≡ Some (at + m)
closed-end at zero escaped cs l h = absurd (both_ways false refl (sym (nil escaped) ∙ h))
  where
    nil : (e : Bool) → closes_string e [] ≡ false
    nil true = refl
    nil false = refl
closed-end at (suc m) escaped [] l h = absurd (omega arith)
closed-end at (suc m) escaped (c ∷ cs) l h =
    end-step at escaped c cs ∙ by_step (string_step escaped c) m cs (omega arith) (sym (closes-step escaped c (take m cs)) ∙ h) (λ h1. closed-end (at + 1) m false cs (omega arith) h1) (λ h1. closed-end (at + 1) m true cs (omega arith) h1)
  where
    by_step : (s : Step) (m : ℕ) (cs : List ℕ) → m ≤ length cs → after_step s (take m cs) ≡ true → (closes_string false (take m cs) ≡ true → string_end (at + 1) false cs ≡ Some (at + 1 + m)) → (closes_string true (take m cs) ≡ true → string_end (at + 1) true cs ≡ Some (at + 1 + m)) → end_step s at cs ≡ Some (at + suc m)
    by_step Closes zero cs l h f t = refl
    by_step Closes (suc m) [] l h f t = absurd (omega arith)
    by_step Closes (suc m) (c ∷ cs) l h f t = absurd (both_ways false refl h)
    by_step Goes m cs l h f t = f h ∙ some_at (at + 1 + m) (at + suc m) (omega arith)
    by_step Escapes m cs l h f t = t h ∙ some_at (at + 1 + m) (at + suc m) (omega arith)
    by_step Breaks m cs l h f t = absurd (both_ways false refl h)

-- where the string ends, a prefix closes it
end-closed : (at n : ℕ) (escaped : Bool) (cs : List ℕ) → string_end at escaped cs ≡ Some n → (m : ℕ) × (n ≡ at + m) × (m ≤ length cs) × (closes_string escaped (take m cs) ≡ true)
end-closed at n escaped [] h = absurd (none_some n h)
  where
    none_some : (n : ℕ) → (let o : Option ℕ = None in o) ≡ Some n → ⊥
    none_some n e = cc
end-closed at n escaped (c ∷ cs) h =
    let step = by_step (string_step escaped c) (sym (end-step at escaped c cs) ∙ h) (λ h1. end-closed (at + 1) n false cs h1) (λ h1. end-closed (at + 1) n true cs h1) in
    (suc step.0, omega (arith, step.1), omega (arith, step.2), closes-step escaped c (take step.0 cs) ∙ step.3)
  where
    none_some : (n : ℕ) → (let o : Option ℕ = None in o) ≡ Some n → ⊥
    none_some n e = cc

    some_same : (a b : ℕ) → (let o : Option ℕ = Some a in o) ≡ Some b → a ≡ b
    some_same a b e = cc

    by_step : (s : Step) → end_step s at cs ≡ Some n → (string_end (at + 1) false cs ≡ Some n → (m : ℕ) × (n ≡ at + 1 + m) × (m ≤ length cs) × (closes_string false (take m cs) ≡ true)) → (string_end (at + 1) true cs ≡ Some n → (m : ℕ) × (n ≡ at + 1 + m) × (m ≤ length cs) × (closes_string true (take m cs) ≡ true)) → (m : ℕ) × (n ≡ at + 1 + m) × (m ≤ length cs) × (after_step s (take m cs) ≡ true)
    by_step Closes h f t = (0, omega (arith, some_same (at + 1) n h), omega arith, refl)
    by_step Goes h f t = f h
    by_step Escapes h f t = t h
    by_step Breaks h f t = absurd (none_some n h)

-- ---- the lexeme

quoted-nothing : (w : List ℕ) → closes_string false w ≡ false → kind_of (34 ∷ w) ≡ None
quoted-nothing w h =
    kind-open (34 ∷ w) (quote-none (34 ∷ w) refl) ∙ open-nothing (34 ∷ w) (name-first 34 w refl) (number-none (34 ∷ w) (run-first 34 w refl) (fraction-first 34 w refl refl) (based-first 34 w refl)) h (long-first Dash 34 w refl) (long-first EqualSign 34 w refl)

quoted-string : (w : List ℕ) → closes_string false w ≡ true → kind_of (34 ∷ w) ≡ Some Str
quoted-string w h =
    kind-open (34 ∷ w) (quote-none (34 ∷ w) refl) ∙ open-string (34 ∷ w) (name-first 34 w refl) (number-none (34 ∷ w) (run-first 34 w refl) (fraction-first 34 w refl refl) (based-first 34 w refl)) h

-- a prefix that closes the string has its length
only-end : (cs : List ℕ) (end : Option ℕ) (k : ℕ) → string_end 1 false cs ≡ end → k ≤ length cs → (end ≡ Some (1 + k) → ⊥) → closes_string false (take k cs) ≡ false
only-end cs end k e l not_there = false_from_ne_true (closes_string false (take k cs)) (λ yes. not_there (sym e ∙ closed-end 1 k false cs l yes))

none_some : (n : ℕ) → (let o : Option ℕ = None in o) ≡ Some n → ⊥
none_some n h = cc

pub some_same : (a b : ℕ) → (let o : Option ℕ = Some a in o) ≡ Some b → a ≡ b
some_same a b e = cc

string_none : (cs : List ℕ) → string_end 1 false cs ≡ None → lexeme_at (34 ∷ cs) ≡ None
string_none cs e =
    longest_none kind_of (length (34 ∷ cs)) (34 ∷ cs) (from_suc (λ m. m ≤ length (34 ∷ cs) → kind_of (take m (34 ∷ cs)) ≡ None) 0 (λ k lt le. quoted-nothing (take k cs) (only-end cs None k e (omega arith) (none_some (1 + k)))))

string_some : (cs : List ℕ) (n : ℕ) → string_end 1 false cs ≡ Some n → lexeme_at (34 ∷ cs) ≡ Some (record { len = n; kind = Str })
string_some cs n e =
    let closed = end-closed 1 n false cs e in
    let size : n ≡ suc closed.0 = omega (arith, closed.1) in
    longest_some kind_of (length (34 ∷ cs)) n (34 ∷ cs) Str (omega (arith, size)) (omega (arith, closed.2, size)) (ap (λ i. kind_of (take i (34 ∷ cs))) size ∙ quoted-string (take closed.0 cs) closed.3)
    (from_suc (λ m. m ≤ length (34 ∷ cs) → kind_of (take m (34 ∷ cs)) ≡ None) n (λ k lt le. quoted-nothing (take k cs) (only-end cs (Some n) k e (omega arith) (λ same. absurd (omega (arith, some_same n (1 + k) same, lt))))))

pub string-none_is : (text : List ℕ) → slice_index text 0 ≡ 34 → string_end 1 false (drop 1 text) ≡ None → lexeme_at text ≡ None
string-none_is [] q e = absurd (omega (arith, q))
string-none_is (c ∷ cs) q e = subst (λ b. lexeme_at (b ∷ cs) ≡ None) (sym q) (string_none cs e)

pub string-some_is : (text : List ℕ) (n : ℕ) → slice_index text 0 ≡ 34 → string_end 1 false (drop 1 text) ≡ Some n → lexeme_at text ≡ Some (record { len = n; kind = Str })
string-some_is [] n q e = absurd (omega (arith, q))
string-some_is (c ∷ cs) n q e = subst (λ b. lexeme_at (b ∷ cs) ≡ Some (record { len = n; kind = Str })) (sym q) (string_some cs n e)
