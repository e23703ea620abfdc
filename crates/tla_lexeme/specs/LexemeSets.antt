-- The lexeme sets: which spellings are lexemes, and of which kind. A text is its bytes here. All that
-- begins, ends or tells apart lexemes is ASCII, and in UTF-8 a byte below 128 is a character.
use Rattle.std.specs.Prelude.{ℕ, List, [], ◌∷◌, Bool, true, false, not, ◌&&◌, ◌||◌, ◌==◌, nat_eq, nat_le, nat_lt, Option, Some, None, if◌then◌else◌, codes, is_none, length}
use Rattle.std.specs.List.{list_all, list_any, starts_with}
use Rattle.std.specs.Char.{is_ascii_alphabetic, is_ascii_alphanumeric, is_ascii_digit, is_ascii_hexdigit}
use Rattle.std.specs.Option.{option_map, option_or}
use Rattle.tla_spelling.specs.Spellings.{word_of, op_of, mark_of}
use Rattle.tla_symbols.specs.declared.lexeme.LexKind.{LexKind}
use Rattle.tla_symbols.specs.declared.lexeme.LexKind.TheVariants.{Name, Word, Number, Str, Sym, Mark, Dashes, Equals}
use Rattle.tla_lexeme.specs.declared.class.Class.{Class}
use Rattle.tla_lexeme.specs.declared.class.Class.TheVariants.{Letter, WordChar, Digit, Binary, Octal, Hexadecimal, Dash, EqualSign, InLine, Blank, Escaped, Space}

-- ---- characters

-- whether a byte is of a class
abbrev pub is_in : Class → ℕ → Bool
is_in Letter c = is_ascii_alphabetic c
is_in WordChar c = is_ascii_alphanumeric c || c == 95
is_in Digit c = is_ascii_digit c
is_in Binary c = c == 48 || c == 49
is_in Octal c = nat_le 48 c && nat_le c 55
is_in Hexadecimal c = is_ascii_hexdigit c
is_in Dash c = c == 45
is_in EqualSign c = c == 61
is_in InLine c = not (c == 10 || c == 13)
is_in Blank c = c == 32 || c == 9 || c == 12 || c == 10 || c == 13
is_in Space c = c == 32 || c == 9
is_in Escaped c = c == 34 || c == 92 || c == 116 || c == 110 || c == 102 || c == 114

-- one or more bytes of a class
abbrev pub is_run : Class → List ℕ → Bool
is_run class [] = false
is_run class (c ∷ cs) = is_in class c && list_all (is_in class) cs

-- ---- reserved words, symbols and marks

-- the kind of a reserved word, a symbol or a mark
abbrev pub table_kind : List ℕ → Option LexKind
table_kind spelling = option_or (option_map Word (word_of spelling)) (option_or (option_map Sym (op_of spelling)) (option_map Mark (mark_of spelling)))

-- ---- names

-- these bytes, and others after them
abbrev pub goes_beyond : List ℕ → List ℕ → Bool
goes_beyond prefix spelling = starts_with nat_eq spelling prefix && nat_lt (length prefix) (length spelling)

-- `WF_` or `SF_`, and others after them
abbrev pub is_fair : List ℕ → Bool
is_fair spelling = goes_beyond (codes "WF_") spelling || goes_beyond (codes "SF_") spelling

-- letters, digits and `_` with at least one letter, but not `WF_` or `SF_` and others after them
abbrev pub is_name : List ℕ → Bool
is_name spelling = list_all (is_in WordChar) spelling && list_any (is_in Letter) spelling && not (is_fair spelling)

-- an identifier: a name that is no reserved word
unfoldable pub is_identifier : List ℕ → Bool
is_identifier spelling = is_name spelling && is_none (table_kind spelling)

-- ---- numbers

-- digits, a point and digits, where the first run may be empty
abbrev pub is_fraction : List ℕ → Bool
is_fraction [] = false
is_fraction (c ∷ cs) = if c == 46 then is_run Digit cs else (is_in Digit c && is_fraction cs)

-- the digits of the base that a letter names
abbrev pub base_of : ℕ → Option Class
base_of letter =
    if letter == 98 || letter == 66 then Some Binary else (
    if letter == 111 || letter == 79 then Some Octal else (
    if letter == 104 || letter == 72 then Some Hexadecimal else None))

-- one or more digits of a base, if there is a base
abbrev pub is_run_of : Option Class → List ℕ → Bool
is_run_of None digits = false
is_run_of (Some class) digits = is_run class digits

-- what follows a backslash: the letter of a base, and digits of that base
abbrev pub is_after_backslash : List ℕ → Bool
is_after_backslash [] = false
is_after_backslash (b ∷ ds) = is_run_of (base_of b) ds

-- a number with a base, from its backslash on
abbrev pub is_based : List ℕ → Bool
is_based [] = false
is_based (c ∷ cs) = c == 92 && is_after_backslash cs

-- digits, a fraction, or a number with a base
abbrev pub is_number : List ℕ → Bool
is_number spelling = is_run Digit spelling || is_fraction spelling || is_based spelling

-- ---- strings

-- nothing stands behind the quote that closes a string
abbrev pub is_empty : List ℕ → Bool
is_empty [] = true
is_empty (c ∷ cs) = false

-- What follows the quote that opens a string, or what follows a backslash in it: a backslash begins one
-- of `\"` `\\` `\t` `\n` `\f` `\r` and stands nowhere else, and no line end stands in a string.
abbrev pub closes_string : Bool → List ℕ → Bool
closes_string escaped [] = false
closes_string true (c ∷ cs) = is_in Escaped c && closes_string false cs
closes_string false (c ∷ cs) = if c == 34 then is_empty cs else (if c == 92 then closes_string true cs else (is_in InLine c && closes_string false cs))

-- from the quote that opens a string to the one that closes it
abbrev pub is_string : List ℕ → Bool
is_string [] = false
is_string (c ∷ cs) = c == 34 && closes_string false cs

-- ---- runs

-- four or more of one sign
abbrev pub is_long_run : Class → List ℕ → Bool
is_long_run class spelling = nat_le 4 (length spelling) && list_all (is_in class) spelling

-- ---- all sets

-- the kind of a spelling that no table lists: a name, a number, a string, or a run
abbrev pub open_kind : List ℕ → Option LexKind
open_kind spelling =
    if is_name spelling then Some Name else (
    if is_number spelling then Some Number else (
    if is_string spelling then Some Str else (
    if is_long_run Dash spelling then Some Dashes else (
    if is_long_run EqualSign spelling then Some Equals else None))))

-- the kind of a spelling, if it is a lexeme
abbrev pub kind_of : List ℕ → Option LexKind
kind_of spelling = option_or (table_kind spelling) (open_kind spelling)
