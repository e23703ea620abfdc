-- The lexemes of a text, from a place on.
use Rattle.std.specs.Prelude.{ℕ, zero, suc, ◌+◌, ◌-◌, List, [], ◌∷◌, Bool, nat_eq, nat_le, Option, Some, None, if◌then◌else◌, codes, length, take}
use Rattle.std.specs.List.{starts_with, prefix_len}
use Rattle.std.specs.Str.{continuation_len}
use Rattle.tla_symbols.specs.declared.lexeme.LexKind.{LexKind}
use Rattle.tla_symbols.specs.declared.lexeme.LexKind.TheVariants.{End, Bad}
use Rattle.tla_symbols.specs.declared.lexeme.Lexeme.{Lexeme}
use Rattle.tla_text.specs.declared.Measure.TheVariants.{Alignment}
use Rattle.tla_text.specs.Places.{place_at}
use Rattle.tla_lexeme.specs.declared.begin.Member.{Member}
use Rattle.tla_lexeme.specs.declared.begin.Begin.{Begin}
use Rattle.tla_lexeme.specs.declared.begin.Begin.TheVariants.{Gap, Longest, Nothing, TextEnd}
use Rattle.tla_lexeme.specs.declared.class.Class.TheVariants.{InLine, Blank}
use Rattle.tla_lexeme.specs.LexemeSets.{is_in, kind_of}

-- ---- the longest member

-- a member of so many bytes, if these are one, and else another
abbrev pub member_or : Option LexKind → ℕ → Option Member → Option Member
member_or (Some kind) len shorter = Some (record { len = len; kind = kind })
member_or None len shorter = shorter

-- the longest prefix of a text, of at most so many bytes, that is a spelling of a kind
abbrev pub longest_of : (List ℕ → Option LexKind) → ℕ → List ℕ → Option Member
longest_of kind zero text = None
longest_of kind (suc n) text = member_or (kind (take (suc n) text)) (suc n) (longest_of kind n text)

-- the longest member of the lexeme sets that begins a text
abbrev pub lexeme_at : List ℕ → Option Member
lexeme_at text = longest_of kind_of (length text) text

-- ---- blanks and comments

-- the text begins with these bytes
abbrev pub begins : List ℕ → List ℕ → Bool
begins text prefix = starts_with nat_eq text prefix

-- how many bytes of a text stand in its first line, before the line end
abbrev pub line_len : List ℕ → ℕ
line_len text = prefix_len (is_in InLine) text

-- Where the comment ends that surrounds these bytes with so many `(*`. They stand at an offset, and the
-- first of them, so many, were seen with those before. Only `(*` and `*)` are seen, left to right.
abbrev pub comment_end : ℕ → ℕ → ℕ → List ℕ → Option ℕ
comment_end at depth skip [] = None
comment_end at depth (suc skip) (c ∷ cs) = comment_end (at + 1) depth skip cs
comment_end at depth zero (c ∷ cs) =
    if begins (c ∷ cs) (codes "(*") then comment_end (at + 1) (depth + 1) 1 cs else (
    if begins (c ∷ cs) (codes "*)") then (if nat_le depth 1 then Some (at + 2) else comment_end (at + 1) (depth - 1) 1 cs) else
    comment_end (at + 1) depth 0 cs)

-- how many bytes the comment has that begins a text, if it ends
abbrev pub comment_len : List ℕ → Option ℕ
comment_len text = comment_end 0 0 0 text

-- how many bytes the first character of a text has
abbrev pub char_len : List ℕ → ℕ
char_len [] = 0
char_len (b ∷ bs) = 1 + continuation_len b

-- ---- what begins at a place

-- a comment of so many bytes, or for one that does not end its `(*` at fault
abbrev pub gap_or_fault : Option ℕ → Begin
gap_or_fault (Some len) = Gap len
gap_or_fault None = Nothing 2

-- the longest lexeme, or where none begins a character of so many bytes at fault
abbrev pub longest_or_fault : Option Member → ℕ → Begin
longest_or_fault (Some member) len = Longest member
longest_or_fault None len = Nothing len

-- what begins a text: a blank, a comment to the line's end, a comment that nests, or else the longest lexeme
abbrev pub what_begins : List ℕ → Begin
what_begins [] = TextEnd
what_begins (c ∷ cs) =
    if is_in Blank c then Gap 1 else (
    if begins (c ∷ cs) (codes "\\*") then Gap (line_len (c ∷ cs)) else (
    if begins (c ∷ cs) (codes "(*") then gap_or_fault (comment_len (c ∷ cs)) else
    longest_or_fault (lexeme_at (c ∷ cs)) (char_len (c ∷ cs))))

-- ---- all lexemes

-- a lexeme of so many bytes at an offset
abbrev pub lexeme_of : List ℕ → ℕ → LexKind → ℕ → Lexeme
lexeme_of text at kind len =
    record { kind = kind; span = record { start = at; end = at + len }; line = (place_at Alignment text at).line; col = (place_at Alignment text at).column }

-- The lexemes of a text from an offset on, where these bytes stand there and the first of them, so many,
-- belong to what stands before. The last is `End`, or `Bad` where no lexeme begins.
abbrev pub lexemes_after : List ℕ → ℕ → ℕ → List ℕ → List Lexeme
lexemes_after text at skip [] = lexeme_of text at End 0 ∷ []
lexemes_after text at (suc skip) (c ∷ cs) = lexemes_after text (at + 1) skip cs
lexemes_after text at zero (c ∷ cs) =
    elim (what_begins (c ∷ cs)) [
      | Gap len ↦ lexemes_after text (at + 1) (len - 1) cs
      | Longest m ↦ lexeme_of text at m.kind m.len ∷ lexemes_after text (at + 1) (m.len - 1) cs
      | Nothing len ↦ lexeme_of text at Bad len ∷ []
      | TextEnd ↦ lexeme_of text at End 0 ∷ []
    ]
