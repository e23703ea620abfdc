-- What the longest lexeme at a place is, by the lexeme sets alone.
use Rattle.std.specs.Prelude.{◌≡◌, ℕ, ◌+◌, ◌<◌, ◌≤◌, ◌⊎◌, true, false, List, [], ◌∷◌, Option, Some, None, codes, length, take, drop, slice_index}
use Rattle.tla_symbols.specs.declared.lexeme.LexKind.{LexKind}
use Rattle.tla_symbols.specs.declared.lexeme.LexKind.TheVariants.{Bad, End}
use Rattle.tla_symbols.specs.declared.lexeme.Lexeme.{Lexeme}
use Rattle.tla_text.specs.Places.{place_at}
use Rattle.tla_text.specs.declared.Measure.TheVariants.{Alignment}
use Rattle.tla_lexeme.specs.declared.class.Class.TheVariants.{Blank}
use Rattle.tla_lexeme.specs.declared.begin.Member.{Member}
use Rattle.tla_lexeme.specs.LexemeSets.{is_in, kind_of}
use Rattle.tla_lexeme.specs.Lexing.{lexemes_after, begins, line_len, comment_len, char_len}

-- no longer prefix of a text, of at most so many bytes, is a lexeme
abbrev pub NoneLonger : (List ℕ → Option LexKind) → ℕ → List ℕ → ℕ → Type 0
NoneLonger kind most text len = (n : ℕ) → len < n → n ≤ most → kind (take n text) ≡ None

-- a member of the sets, and no longer one: or none, and no prefix is one
abbrev pub IsLongestOf : (List ℕ → Option LexKind) → ℕ → List ℕ → Option Member → Type 0
IsLongestOf kind most text None = NoneLonger kind most text 0
IsLongestOf kind most text (Some m) = (0 < m.len) × (m.len ≤ most) × (kind (take m.len text) ≡ Some m.kind) × NoneLonger kind most text m.len

-- ---- a text as it is read

-- a blank, a comment to the line's end, or a comment that nests, of so many bytes
abbrev pub IsGap : List ℕ → ℕ → Type 0
IsGap text len =
    ((len ≡ 1) × (is_in Blank (slice_index text 0) ≡ true)) ⊎ ((begins text (codes "\\*") ≡ true) × (len ≡ line_len text)) ⊎ ((begins text (codes "(*") ≡ true) × (comment_len text ≡ Some len))

-- blanks and comments of these lengths, from an offset to another
abbrev pub Passes : List ℕ → ℕ → List ℕ → ℕ → Type 0
Passes text at [] to = to ≡ at
Passes text at (len ∷ lens) to = IsGap (drop at text) len × Passes text (at + len) lens to

-- neither a blank nor a comment begins a text
pub record IsClear (text : List ℕ) : Type 0 where
  pub no_blank : is_in Blank (slice_index text 0) ≡ false
  pub no_line : begins text (codes "\\*") ≡ false
  pub no_block : begins text (codes "(*") ≡ false

-- so many bytes of a text are of this kind, and of no longer prefix is there one
pub record IsTaken (text : List ℕ) (kind : LexKind) (len : ℕ) : Type 0 where
  pub clear : IsClear text
  pub some : 0 < len
  pub fits : len ≤ length text
  pub is : kind_of (take len text) ≡ Some kind
  pub none_longer : NoneLonger kind_of (length text) text len

-- no prefix of a text is a lexeme
abbrev pub NoneBegins : List ℕ → Type 0
NoneBegins text = NoneLonger kind_of (length text) text 0

-- What ends the lexemes: `End` at the text's end, or `Bad` where a comment does not end, or else at a character at which no lexeme begins.
abbrev pub IsEnd : List ℕ → LexKind → ℕ → Type 0
IsEnd text kind len =
    ((text ≡ []) × (kind ≡ End) × (len ≡ 0)) ⊎ ((begins text (codes "(*") ≡ true) × (comment_len text ≡ None) × (kind ≡ Bad) × (len ≡ 2)) ⊎ (IsClear text × NoneBegins text × (kind ≡ Bad) × (len ≡ char_len text))

-- a lexeme behind blanks and comments from an offset on, at which P holds of what stands there, of its kind and of its length
pub record IsNext (text : List ℕ) (at : ℕ) (l : Lexeme) (P : List ℕ → LexKind → ℕ → Type 0) : Type 0 where
  pub gaps : List ℕ
  pub len : ℕ
  pub passed : Passes text at gaps l.span.start
  pub end : l.span.end ≡ l.span.start + len
  pub place : place_at Alignment text l.span.start ≡ record { line = l.line; column = l.col }
  pub is : P (drop l.span.start text) l.kind len

-- From an offset on a text has these lexemes: each but the last is the longest at its place, behind blanks and comments.
abbrev pub Lexes : List ℕ → ℕ → List Lexeme → Type 0
Lexes text at [] = ⊥
Lexes text at (l ∷ []) = IsNext text at l IsEnd
Lexes text at (l ∷ m ∷ ls) = IsNext text at l IsTaken × Lexes text l.span.end (m ∷ ls)

-- the lexemes of a text from an offset on are read so
abbrev pub ReadsLongest : List ℕ → ℕ → Type 0
ReadsLongest text at = Lexes text at (lexemes_after text at 0 (drop at text))
