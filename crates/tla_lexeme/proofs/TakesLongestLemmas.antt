-- The longest prefix is the longest.
use Rattle.std.proofs.Common.{◌≡◌, ℕ, zero, suc, ◌<◌, ◌≤◌, List, Option, Some, None, length, take, refl, ap, ◌∙◌, ⊎_elim, arith}
use Rattle.std.proofs.lemmas.Bool.{cases_lt}
use Rattle.tla_symbols.specs.declared.lexeme.LexKind.{LexKind}
use Rattle.tla_lexeme.specs.declared.begin.Member.{Member}
use Rattle.tla_lexeme.specs.LexemeSets.{kind_of}
use Rattle.tla_lexeme.specs.Lexing.{longest_of, member_or, lexeme_at}
use Rattle.tla_lexeme.specs.Longest.{NoneLonger, IsLongestOf}

one_more : (kind : List ℕ → Option LexKind) (most len : ℕ) (text : List ℕ) → NoneLonger kind most text len → kind (take (suc most) text) ≡ None → NoneLonger kind (suc most) text len
one_more kind most len text none top n lt le =
    ⊎_elim (λ (less : n < suc most). none n lt (omega arith)) (λ (same : suc most ≤ n). ap (λ i. kind (take i text)) (let e : n ≡ suc most = omega arith in e) ∙ top) (cases_lt n (suc most))

shorter : (kind : List ℕ → Option LexKind) (most : ℕ) (text : List ℕ) (found : Option Member) → IsLongestOf kind most text found → kind (take (suc most) text) ≡ None → IsLongestOf kind (suc most) text found
shorter kind most text None h top = one_more kind most 0 text h top
shorter kind most text (Some m) h top = (h.0, omega (arith, h.1), h.2, one_more kind most m.len text h.3 top)

whole : (kind : List ℕ → Option LexKind) (most : ℕ) (text : List ℕ) (k : LexKind) → kind (take (suc most) text) ≡ Some k → IsLongestOf kind (suc most) text (Some (record { len = suc most; kind = k }))
whole kind most text k h = (omega arith, omega arith, h, λ n lt le. absurd (omega arith))

is_longest : (kind : List ℕ → Option LexKind) (most : ℕ) (text : List ℕ) → IsLongestOf kind most text (longest_of kind most text)
is_longest kind zero text = λ n lt le. absurd (omega arith)
is_longest kind (suc most) text = by_kind (kind (take (suc most) text)) refl (is_longest kind most text)
  where
    by_kind : (o : Option LexKind) → kind (take (suc most) text) ≡ o → IsLongestOf kind most text (longest_of kind most text) → IsLongestOf kind (suc most) text (member_or o (suc most) (longest_of kind most text))
    by_kind None e h = shorter kind most text (longest_of kind most text) h e
    by_kind (Some k) e h = whole kind most text k e

pub takes_longest : (text : List ℕ) → IsLongestOf kind_of (length text) text (lexeme_at text)
takes_longest text = is_longest kind_of (length text) text
