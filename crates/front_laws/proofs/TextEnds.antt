-- The lexemes of a text end once.
use Rattle.std.proofs.Common.{◌≡◌, ℕ, ◌+◌, List, [], ◌∷◌, Bool, true, false, ◌⊎◌, Option, Some, None, inl, inr, refl, sym, ap, subst, ⊎_elim, take, drop, codes, if◌then◌else◌}
use Rattle.std.specs.Prelude.{◌==◌}
use Rattle.std.specs.Option.{option_map, option_or}
use Rattle.std.proofs.lemmas.Bool.{cases_Bool}
use Rattle.tla_spelling.specs.Spellings.{word_of, op_of, mark_of}
use Rattle.tla_symbols.specs.declared.op.Op.{Op}
use Rattle.tla_symbols.specs.declared.lexeme.LexKind.{LexKind}
use Rattle.tla_symbols.specs.declared.lexeme.Word.{Word}
use Rattle.tla_symbols.specs.declared.lexeme.Mark.{Mark}
use Rattle.tla_symbols.specs.declared.lexeme.Lexeme.{Lexeme}
use Rattle.tla_lexeme.specs.declared.class.Class.{Class}
use Rattle.tla_lexeme.specs.LexemeSets.{kind_of, table_kind, open_kind, is_name, is_number, is_string, is_long_run}
use Rattle.tla_lexeme.specs.Lexing.{begins, char_len, comment_len, lexemes_after}
use Rattle.tla_lexeme.specs.Longest.{IsClear, IsEnd, Lexes, NoneBegins, ReadsLongest}
use Rattle.tla_lexeme.specs.ModulePart.{header_of, is_equals, is_module_word, module_part, part_from, up_to_close}
use Rattle.unit_grammar.specs.FirstBad.{EndsOnce, IsLast}

-- ---- the lexeme sets hold no lexeme that ends a list

is_last : LexKind → Bool
is_last LexKind.Close = true
is_last LexKind.End = true
is_last LexKind.Bad = true
is_last _ = false

member-if : (b : Bool) (kind k : LexKind) (more : Option LexKind) → is_last kind ≡ false → (more ≡ Some k → is_last k ≡ false) → (if b then Some kind else more) ≡ Some k → is_last k ≡ false
member-if true kind k more this other e = let same : kind ≡ k = cc in subst (λ q. is_last q ≡ false) same this
member-if false kind k more this other e = other e

member-or : (o other : Option LexKind) (k : LexKind) → (o ≡ Some k → is_last k ≡ false) → (other ≡ Some k → is_last k ≡ false) → option_or o other ≡ Some k → is_last k ≡ false
member-or None other k one two e = two e
member-or (Some q) other k one two e = one e

member-map : {A : Type 0} (f : A → LexKind) (o : Option A) (k : LexKind) → ((x : A) → is_last (f x) ≡ false) → option_map f o ≡ Some k → is_last k ≡ false
member-map f None k none e = absurd (cc)
member-map f (Some x) k none e = let same : f x ≡ k = cc in subst (λ q. is_last q ≡ false) same (none x)

member-open : (s : List ℕ) (k : LexKind) → open_kind s ≡ Some k → is_last k ≡ false
unfolding is_last
member-open s k e =
    member-if (is_name s) LexKind.Name k _ refl
    (λ e₁.
    member-if (is_number s) LexKind.Number k _ refl
    (λ e₂. member-if (is_string s) LexKind.Str k _ refl (λ e₃. member-if (is_long_run Class.Dash s) LexKind.Dashes k _ refl (λ e₄. member-if (is_long_run Class.EqualSign s) LexKind.Equals k None refl (λ e₅. absurd (cc)) e₄) e₃) e₂)
    e₁)
    e

member-kind : (s : List ℕ) (k : LexKind) → kind_of s ≡ Some k → is_last k ≡ false
unfolding is_last
member-kind s k e =
    member-or (table_kind s) (open_kind s) k
    (λ e₁.
    member-or (option_map (λ (w : Word). LexKind.Word w) (word_of s)) _ k (λ e₂. member-map (λ (w : Word). LexKind.Word w) (word_of s) k (λ x. refl) e₂)
    (λ e₂.
    member-or (option_map (λ (op : Op). LexKind.Sym op) (op_of s)) _ k (λ e₃. member-map (λ (op : Op). LexKind.Sym op) (op_of s) k (λ x. refl) e₃)
    (λ e₃. member-map (λ (mark : Mark). LexKind.Mark mark) (mark_of s) k (λ x. refl) e₃)
    e₂)
    e₁)
    (λ e₁. member-open s k e₁)
    e

member-no_last : (s : List ℕ) (t : Lexeme) → kind_of s ≡ Some t.kind → IsLast t → ⊥
unfolding is_last
member-no_last s t e h =
    let other : is_last t.kind ≡ false = member-kind s t.kind e in
    let same : is_last t.kind ≡ true =
    ⊎_elim
    (λ (k : t.kind ≡ LexKind.Close). ap is_last k)
    (λ (cut : (t.kind ≡ LexKind.End) ⊎ (t.kind ≡ LexKind.Bad)). ⊎_elim (λ (k : t.kind ≡ LexKind.End). ap is_last k) (λ (k : t.kind ≡ LexKind.Bad). ap is_last k) cut)
    h in
    cc

-- ---- lexemes from an offset on

ends-cons : (l : Lexeme) (ls : List Lexeme) → (IsLast l → ⊥) → EndsOnce ls → EndsOnce (l ∷ ls)
ends-cons l [] goes h = absurd h
ends-cons l (m ∷ ls) goes h = (goes, h)

end-last : (text : List ℕ) (t : Lexeme) (len : ℕ) → IsEnd text t.kind len → IsLast t
end-last text t len h =
    ⊎_elim
    (λ (e : (text ≡ []) × (t.kind ≡ LexKind.End) × (len ≡ 0)). inr (inl e.1))
    (λ (more : ((begins text (codes "(*") ≡ true) × (comment_len text ≡ None) × (t.kind ≡ LexKind.Bad) × (len ≡ 2)) ⊎ (IsClear text × NoneBegins text × (t.kind ≡ LexKind.Bad) × (len ≡ char_len text))).
    ⊎_elim
    (λ (e : (begins text (codes "(*") ≡ true) × (comment_len text ≡ None) × (t.kind ≡ LexKind.Bad) × (len ≡ 2)). inr (inr e.2))
    (λ (e : IsClear text × NoneBegins text × (t.kind ≡ LexKind.Bad) × (len ≡ char_len text)). inr (inr e.2))
    more)
    h

lexes-end : (text : List ℕ) (at : ℕ) (ls : List Lexeme) → Lexes text at ls → EndsOnce ls
lexes-end text at [] h = h
lexes-end text at (l ∷ []) h = end-last (drop l.span.start text) l h.len h.is
lexes-end text at (l ∷ m ∷ ls) h = (member-no_last (take h.0.len (drop l.span.start text)) l h.0.is.is, lexes-end text l.span.end (m ∷ ls) h.1)

-- ---- up to the closing run

ends-kept : (l : Lexeme) (ls rest : List Lexeme) → EndsOnce (l ∷ ls) → (ls ≡ [] → rest ≡ []) → (EndsOnce ls → EndsOnce rest) → EndsOnce (l ∷ rest)
ends-kept l [] rest h none more = let nil : rest ≡ [] = none refl in subst (λ r. EndsOnce (l ∷ r)) (sym nil) h
ends-kept l (m ∷ ls) rest h none more = ends-cons l rest h.0 (more h.1)

none-kept : (words runs : ℕ) (ls : List Lexeme) → ls ≡ [] → up_to_close words runs ls ≡ []
none-kept words runs ls e = ap (λ r. up_to_close words runs r) e

close-ends : (words runs : ℕ) (ls : List Lexeme) → EndsOnce ls → EndsOnce (up_to_close words runs ls)
close-ends words runs [] h = h
close-ends words runs (l ∷ ls) h =
    ⊎_elim
    (λ (run : is_equals l.kind ≡ true).
    ⊎_elim
    (λ (closes : (runs + 1 == words) ≡ true). rw (run, closes) (inl refl))
    (λ (goes : (runs + 1 == words) ≡ false).
    rw (run, goes) (ends-kept l ls (up_to_close words (runs + 1) ls) h (none-kept words (runs + 1) ls) (close-ends words (runs + 1) ls)))
    (cases_Bool (runs + 1 == words)))
    (λ (other : is_equals l.kind ≡ false).
    rw other (ends-kept l ls (up_to_close (if is_module_word l.kind then words + 1 else words) runs ls) h (none-kept (if is_module_word l.kind then words + 1 else words) runs ls) (close-ends (if is_module_word l.kind then words + 1 else words) runs ls)))
    (cases_Bool (is_equals l.kind))

part-ends : (text : List ℕ) (found : Option ℕ) (lexemes : List Lexeme) → ((at : ℕ) → ReadsLongest text at) → option_map (λ at. part_from text at) found ≡ Some lexemes → EndsOnce lexemes
part-ends text None lexemes law e = absurd (cc)
part-ends text (Some at) lexemes law e =
    let same : part_from text at ≡ lexemes = cc in
    subst (λ r. EndsOnce r) same (close-ends 0 0 (lexemes_after text at 0 (drop at text)) (lexes-end text at (lexemes_after text at 0 (drop at text)) (law at)))

pub text-ends : ((text : List ℕ) (at : ℕ) → ReadsLongest text at) → (text : List ℕ) (lexemes : List Lexeme) → module_part text ≡ Some lexemes → EndsOnce lexemes
text-ends law text lexemes e = part-ends text (header_of text) lexemes (λ at. law text at) e
