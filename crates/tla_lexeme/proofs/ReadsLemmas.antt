-- A text is read by the longest lexemes.
use Rattle.std.proofs.Common.{◌≡◌, ℕ, zero, suc, ◌+◌, ◌-◌, ◌<◌, ◌≤◌, inl, inr, true, List, [], ◌∷◌, Option, Some, None, codes, length, drop, refl, sym, ap, ◌∙◌, subst, arith, add-zero}
use Rattle.std.proofs.lemmas.Bool.{cond_both}
use Rattle.std.proofs.lemmas.List.{drop-drop}
use Rattle.tla_symbols.specs.declared.lexeme.LexKind.{LexKind}
use Rattle.tla_symbols.specs.declared.lexeme.LexKind.TheVariants.{Bad, End}
use Rattle.tla_symbols.specs.declared.lexeme.Lexeme.{Lexeme}
use Rattle.tla_lexeme.specs.declared.begin.Member.{Member}
use Rattle.tla_lexeme.specs.declared.begin.Begin.{Begin}
use Rattle.tla_lexeme.specs.declared.begin.Begin.TheVariants.{Gap, Longest, Nothing, TextEnd}
use Rattle.tla_lexeme.specs.declared.class.Class.TheVariants.{Blank, InLine}
use Rattle.tla_lexeme.specs.LexemeSets.{is_in, kind_of}
use Rattle.tla_lexeme.specs.Lexing.{lexeme_at, begins, line_len, comment_len, char_len, gap_or_fault, longest_or_fault, what_begins, lexeme_of, lexemes_after}
use Rattle.tla_lexeme.specs.Longest.{IsLongestOf, IsGap, IsClear, IsTaken, IsEnd, IsNext, Lexes, ReadsLongest}
use Rattle.tla_lexeme.proofs.SetLemmas.{prefix-le}
use Rattle.tla_lexeme.proofs.StepLemmas.{lexemes-begin, go_on, line-some, low_comment}
use Rattle.tla_lexeme.proofs.TakesLongestLemmas.{takes_longest}

-- ---- what begins, in the terms of the relation

abbrev IsWhat : List ℕ → Begin → Type 0
IsWhat text (Gap len) = IsGap text len × (0 < len) × (len ≤ length text)
IsWhat text (Longest m) = IsTaken text m.kind m.len
IsWhat text (Nothing len) = IsEnd text Bad len
IsWhat text TextEnd = ⊥

what_is : (c : ℕ) (cs : List ℕ) → IsWhat (c ∷ cs) (what_begins (c ∷ cs))
what_is c cs =
    cond_both (is_in Blank c) (Gap 1) _ (IsWhat (c ∷ cs)) (λ blank. (inl (refl, blank), omega arith, omega arith))
    (λ no_blank. cond_both (begins (c ∷ cs) (codes "\\*")) (Gap (line_len (c ∷ cs))) _ (IsWhat (c ∷ cs)) (λ line. (inr (inl (line, refl)), line-some c cs line, prefix-le (is_in InLine) (c ∷ cs)))
    (λ no_line. cond_both (begins (c ∷ cs) (codes "(*")) (gap_or_fault (comment_len (c ∷ cs))) _ (IsWhat (c ∷ cs)) (λ block. by_comment block (comment_len (c ∷ cs)) refl)
    (λ no_block. by_lexeme (record { no_blank = no_blank; no_line = no_line; no_block = no_block }) (lexeme_at (c ∷ cs)) (takes_longest (c ∷ cs)))))
  where
    by_comment : begins (c ∷ cs) (codes "(*") ≡ true → (o : Option ℕ) → comment_len (c ∷ cs) ≡ o → IsWhat (c ∷ cs) (gap_or_fault o)
    by_comment block None e = inr (inl (block, e, refl, refl))
    by_comment block (Some n) e = let low = low_comment c cs n e in (inr (inr (block, e)), low.some, low.fits)

    by_lexeme : IsClear (c ∷ cs) → (o : Option Member) → IsLongestOf kind_of (length (c ∷ cs)) (c ∷ cs) o → IsWhat (c ∷ cs) (longest_or_fault o (char_len (c ∷ cs)))
    by_lexeme clear None none = inr (inr (clear, none, refl, refl))
    by_lexeme clear (Some m) is = record { clear = clear; some = is.0; fits = is.1; is = is.2; none_longer = is.3 }

-- ---- lexemes one before the other

next_behind : (text : List ℕ) (at len : ℕ) (l : Lexeme) (P : List ℕ → LexKind → ℕ → Type 0) → IsGap (drop at text) len → IsNext text (at + len) l P → IsNext text at l P
next_behind text at len l P gap h = record { gaps = len ∷ h.gaps; len = h.len; passed = (gap, h.passed); end = h.end; place = h.place; is = h.is }

gap_before : (text : List ℕ) (at len : ℕ) (ls : List Lexeme) → IsGap (drop at text) len → Lexes text (at + len) ls → Lexes text at ls
gap_before text at len [] gap h = h
gap_before text at len (l ∷ []) gap h = next_behind text at len l IsEnd gap h
gap_before text at len (l ∷ m ∷ ls) gap h = (next_behind text at len l IsTaken gap h.0, h.1)

next_here : (text : List ℕ) (at len : ℕ) (kind : LexKind) (P : List ℕ → LexKind → ℕ → Type 0) → P (drop at text) kind len → IsNext text at (lexeme_of text at kind len) P
next_here text at len kind P h = record { gaps = []; len = len; passed = refl; end = refl; place = refl; is = h }

taken_before : (text : List ℕ) (at len : ℕ) (kind : LexKind) (ls : List Lexeme) → IsTaken (drop at text) kind len → Lexes text (at + len) ls → Lexes text at (lexeme_of text at kind len ∷ ls)
taken_before text at len kind [] taken h = absurd h
taken_before text at len kind (l ∷ ls) taken h = (next_here text at len kind IsTaken taken, h)

shifted : (text : List ℕ) (a b : ℕ) (ls : List Lexeme) → a ≡ b → Lexes text a ls → Lexes text b ls
shifted text a b ls e h = subst (λ n. Lexes text n ls) e h

drop-next : (text : List ℕ) (at c : ℕ) (cs : List ℕ) → drop at text ≡ c ∷ cs → drop (at + 1) text ≡ cs
drop-next text at c cs e = sym (drop-drop 1 at text) ∙ ap (drop 1) e

reads_by : (text : List ℕ) (at c : ℕ) (cs : List ℕ) (b : Begin) → drop at text ≡ c ∷ cs → IsWhat (c ∷ cs) b → ((skip : ℕ) → skip ≤ length cs → Lexes text (at + 1 + skip) (lexemes_after text (at + 1) skip cs)) → Lexes text at (go_on text at cs b)
reads_by text at c cs (Gap len) e is more = gap_before text at len _ (subst (λ r. IsGap r len) (sym e) is.0) (shifted text (at + 1 + (len - 1)) (at + len) _ (omega (arith, is.1)) (more (len - 1) (omega (arith, is.1, is.2))))
reads_by text at c cs (Longest m) e is more = taken_before text at m.len m.kind _ (subst (λ r. IsTaken r m.kind m.len) (sym e) is) (shifted text (at + 1 + (m.len - 1)) (at + m.len) _ (omega (arith, is.some)) (more (m.len - 1) (omega (arith, is.some, is.fits))))
reads_by text at c cs (Nothing len) e is more = next_here text at len Bad IsEnd (subst (λ r. IsEnd r Bad len) (sym e) is)
reads_by text at c cs TextEnd e is more = absurd is

reads : (xs : List ℕ) (text : List ℕ) (at skip : ℕ) → drop at text ≡ xs → skip ≤ length xs → Lexes text (at + skip) (lexemes_after text at skip xs)
reads [] text at skip e l =
    shifted text at (at + skip) (lexeme_of text at End 0 ∷ []) (omega arith) (next_here text at 0 End IsEnd (inl (e, refl, refl)))
reads (c ∷ cs) text at (suc skip) e l = shifted text (at + 1 + skip) (at + suc skip) _ (omega arith) (reads cs text (at + 1) skip (drop-next text at c cs e) (omega arith))
reads (c ∷ cs) text at zero e l =
    shifted text at (at + 0) _ (sym (add-zero at)) (subst (λ ls. Lexes text at ls) (sym (lexemes-begin text at c cs (what_begins (c ∷ cs)) refl)) (reads_by text at c cs (what_begins (c ∷ cs)) e (what_is c cs) (λ skip le. reads cs text (at + 1) skip (drop-next text at c cs e) le)))

pub reads_longest : (text : List ℕ) (at : ℕ) → ReadsLongest text at
reads_longest text at = shifted text (at + 0) at (lexemes_after text at 0 (drop at text)) (add-zero at) (reads (drop at text) text at 0 refl (omega arith))
