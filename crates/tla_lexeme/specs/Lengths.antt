-- How long the longest member of a set is that begins a text: 0 where none does.
use Rattle.std.specs.Prelude.{◌≡◌, ℕ, ◌+◌, ◌<◌, List, [], ◌∷◌, Bool, true, false, not, ◌&&◌, ◌||◌, ◌==◌, nat_le, nat_lt, min, Option, Some, None, if◌then◌else◌, codes, take, drop, slice_index}
use Rattle.std.specs.List.{list_any, prefix_len}
use Rattle.std.specs.Str.{IsCharBoundary}
use Rattle.tla_symbols.specs.declared.lexeme.LexKind.TheVariants.{Name, Number, Dashes, Equals}
use Rattle.tla_symbols.specs.declared.lexeme.Lexeme.{Lexeme}
use Rattle.tla_lexeme.specs.declared.begin.Begin.{Begin}
use Rattle.tla_lexeme.specs.declared.begin.Begin.TheVariants.{Gap}
use Rattle.tla_lexeme.specs.declared.begin.Member.{Member}
use Rattle.tla_lexeme.specs.declared.class.Class.{Class}
use Rattle.tla_lexeme.specs.declared.class.Class.TheVariants.{Letter, WordChar, Digit, Dash, EqualSign, InLine, Blank, Escaped}
use Rattle.tla_lexeme.specs.declared.string.Step.{Step}
use Rattle.tla_lexeme.specs.declared.string.Step.TheVariants.{Closes, Goes, Escapes, Breaks}
use Rattle.tla_lexeme.specs.LexemeSets.{is_in, base_of}
use Rattle.tla_lexeme.specs.Lexing.{begins, lexemes_after}

-- some byte of a run is a letter, so that it may be a name
abbrev pub has_letter : List ℕ → Bool
has_letter run = list_any (is_in Letter) run

-- how many letters, digits and `_`, where none is a letter
abbrev pub bare_len : List ℕ → ℕ
bare_len text = if has_letter (take (prefix_len (is_in WordChar) text) text) then 0 else prefix_len (is_in WordChar) text

-- `WF_` or `SF_` begins the text: a word that ends there, whatever follows
abbrev pub begins_fair : List ℕ → Bool
begins_fair text = begins text (codes "WF_") || begins text (codes "SF_")

-- a name or a reserved word
abbrev pub named_len : List ℕ → ℕ
named_len text = if begins_fair text then 3 else prefix_len (is_in WordChar) text

-- a point and digits
abbrev pub fraction_len : List ℕ → ℕ
fraction_len [] = 0
fraction_len (c ∷ cs) = if c == 46 && nat_lt 0 (prefix_len (is_in Digit) cs) then 1 + prefix_len (is_in Digit) cs else 0

-- one more where there are some
abbrev pub with_one : ℕ → ℕ
with_one len = if nat_lt 0 len then 1 + len else 0

-- the letter of a base and at least one digit of that base; 0 where the letter names none
abbrev pub base_len : Option Class → List ℕ → ℕ
base_len None digits = 0
base_len (Some class) digits = with_one (prefix_len (is_in class) digits)

-- the same, by the letter that stands first
abbrev pub after_backslash_len : List ℕ → ℕ
after_backslash_len [] = 0
after_backslash_len (b ∷ ds) = base_len (base_of b) ds

-- a number with a base, at a backslash
abbrev pub based_len : List ℕ → ℕ
based_len [] = 0
based_len (c ∷ cs) = with_one (after_backslash_len cs)

-- a run of one sign, if it has at least four
abbrev pub long_run_len : Class → List ℕ → ℕ
long_run_len class text = if nat_le 4 (prefix_len (is_in class) text) then prefix_len (is_in class) text else 0

-- a number or a run, at a sign
abbrev pub open_sign : List ℕ → Member
open_sign text =
    if slice_index text 0 == 46 then record { len = fraction_len text; kind = Number } else (
    if slice_index text 0 == 92 then record { len = based_len text; kind = Number } else (
    if slice_index text 0 == 45 then record { len = long_run_len Dash text; kind = Dashes } else (
    if slice_index text 0 == 61 then record { len = long_run_len EqualSign text; kind = Equals } else
    record { len = 0; kind = Name })))

-- whether a byte stands in symbols and marks as their first byte alone
abbrev pub stands_first : ℕ → Bool
stands_first byte = byte == 40 || byte == 91 || byte == 123 || byte == 125 || byte == 44 || byte == 39

-- whether a byte may stand in a symbol or a mark that begins with another
abbrev pub goes_on : ℕ → ℕ → Bool
goes_on first byte =
    if first == 92 then byte == 47 || is_in Letter byte else
    (byte == 95 || byte == 88 || (not (is_in WordChar byte) && not (is_in Blank byte) && not (stands_first byte)))

-- how many bytes a symbol or a mark has at most behind the one that begins it
abbrev pub most_further : ℕ → ℕ
most_further first =
    if first == 92 then 10 else (
    if first == 40 || first == 45 then 3 else (
    if first == 60 || first == 62 || first == 58 || first == 46 || first == 124 then 2 else (
    if first == 41 || first == 123 || first == 125 || first == 44 || first == 39 then 0 else 1)))

-- a symbol or a mark: at most so many bytes
abbrev pub most_len : List ℕ → ℕ
most_len [] = 0
most_len (c ∷ cs) = 1 + min (prefix_len (goes_on c) cs) (most_further c)

-- what a byte does in a string
abbrev pub string_step : Bool → ℕ → Step
string_step true c = if is_in Escaped c then Goes else Breaks
string_step false c = if c == 34 then Closes else (if c == 92 then Escapes else (if is_in InLine c then Goes else Breaks))

-- where a string ends, in bytes at an offset behind its quote or behind a backslash in it
abbrev pub string_end : ℕ → Bool → List ℕ → Option ℕ
string_end at escaped [] = None
string_end at escaped (c ∷ cs) =
    elim (string_step escaped c) [
      | Closes ↦ Some (at + 1)
      | Goes ↦ string_end (at + 1) false cs
      | Escapes ↦ string_end (at + 1) true cs
      | Breaks ↦ None
    ]

-- ---- between lexemes

-- a blank or a comment, which is passed over
abbrev pub is_gap : Begin → Bool
is_gap (Gap len) = true
is_gap _ = false

-- the lexemes behind one that ends at an offset
abbrev pub lexemes_behind : List ℕ → Bool → ℕ → List Lexeme
lexemes_behind text is_last end = if is_last then [] else lexemes_after text end 0 (drop end text)

-- What is known behind a lexeme: more of the text is read, a character begins there, and so many bytes are bare.
pub record IsBehind (text : List ℕ) (at end bare : ℕ) : Type 0 where
  pub further : at < end
  pub cut : IsCharBoundary text end
  pub bare_is : 0 < bare → bare ≡ bare_len (drop end text)
