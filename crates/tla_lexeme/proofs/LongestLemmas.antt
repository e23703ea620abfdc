-- The longest prefix that is of a kind.
use Rattle.std.proofs.Common.{◌≡◌, ℕ, zero, suc, ◌-◌, ◌<◌, ◌≤◌, List, Option, Some, None, take, refl, sym, ap, ◌∙◌, ⊎_elim, arith}
use Rattle.std.proofs.lemmas.Bool.{cases_lt}
use Rattle.tla_symbols.specs.declared.lexeme.LexKind.{LexKind}
use Rattle.tla_lexeme.specs.declared.begin.Member.{Member}
use Rattle.tla_lexeme.specs.Lexing.{longest_of, member_or}

pub longest_some : (kind : List ℕ → Option LexKind) (most n : ℕ) (text : List ℕ) (k : LexKind) → 0 < n → n ≤ most → kind (take n text) ≡ Some k → ((m : ℕ) → n < m → m ≤ most → kind (take m text) ≡ None) → longest_of kind most text ≡ Some (record { len = n; kind = k })
longest_some kind zero n text k pos le is none = absurd (omega arith)
longest_some kind (suc most) n text k pos le is none =
    ⊎_elim
    (λ (lt : n < suc most). ap (λ o. member_or o (suc most) (longest_of kind most text)) (none (suc most) lt (omega arith)) ∙ longest_some kind most n text k pos (omega arith) is (λ m l h. none m l (omega arith)))
    (λ (ge : suc most ≤ n).
    let same : n ≡ suc most = omega arith in
    ap (λ o. member_or o (suc most) (longest_of kind most text)) (ap (λ i. kind (take i text)) (sym same) ∙ is) ∙ ap (λ i. let o : Option Member = Some (record { len = i; kind = k }) in o) (sym same))
    (cases_lt n (suc most))

pub longest_none : (kind : List ℕ → Option LexKind) (most : ℕ) (text : List ℕ) → ((m : ℕ) → 0 < m → m ≤ most → kind (take m text) ≡ None) → longest_of kind most text ≡ None
longest_none kind zero text none = refl
longest_none kind (suc most) text none =
    ap (λ o. member_or o (suc most) (longest_of kind most text)) (none (suc most) (omega arith) (omega arith)) ∙ longest_none kind most text (λ m l h. none m l (omega arith))

pub longest_same : (kind other : List ℕ → Option LexKind) (most : ℕ) (text : List ℕ) → ((m : ℕ) → 0 < m → m ≤ most → kind (take m text) ≡ other (take m text)) → longest_of kind most text ≡ longest_of other most text
longest_same kind other zero text same = refl
longest_same kind other (suc most) text same =
    ap (λ o. member_or o (suc most) (longest_of kind most text)) (same (suc most) (omega arith) (omega arith)) ∙ ap (λ o. member_or (other (take (suc most) text)) (suc most) o) (longest_same kind other most text (λ m l h. same m l (omega arith)))

pub longest_down : (kind : List ℕ → Option LexKind) (most less : ℕ) (text : List ℕ) → less ≤ most → ((m : ℕ) → less < m → m ≤ most → kind (take m text) ≡ None) → longest_of kind most text ≡ longest_of kind less text
longest_down kind zero less text le none = ap (λ n. longest_of kind n text) (let e : 0 ≡ less = omega arith in e)
longest_down kind (suc most) less text le none =
    ⊎_elim
    (λ (lt : less < suc most). ap (λ o. member_or o (suc most) (longest_of kind most text)) (none (suc most) lt (omega arith)) ∙ longest_down kind most less text (omega arith) (λ m l h. none m l (omega arith)))
    (λ (ge : suc most ≤ less). ap (λ n. longest_of kind n text) (let e : suc most ≡ less = omega arith in e))
    (cases_lt less (suc most))

pub longest_miss : (kind : List ℕ → Option LexKind) (n : ℕ) (text : List ℕ) → 0 < n → kind (take n text) ≡ None → longest_of kind (n - 1) text ≡ longest_of kind n text
longest_miss kind zero text pos h = absurd (omega arith)
longest_miss kind (suc n) text pos h = ap (λ i. longest_of kind i text) (let e : suc n - 1 ≡ n = omega arith in e) ∙ sym (ap (λ o. member_or o (suc n) (longest_of kind n text)) h)
