-- The module part of a text: its lexemes from the header to the run that closes the module.
use Rattle.std.specs.Prelude.{ℕ, ◌+◌, List, [], ◌∷◌, ◌≡◌, Bool, true, false, not, ◌&&◌, ◌==◌, nat_le, Option, Some, None, if◌then◌else◌, codes, drop, slice_index}
use Rattle.std.specs.List.{prefix_len}
use Rattle.std.specs.Option.{option_map}
use Rattle.tla_symbols.specs.declared.lexeme.LexKind.{LexKind}
use Rattle.tla_symbols.specs.declared.lexeme.LexKind.TheVariants.{Word, Equals, Close}
use Rattle.tla_symbols.specs.declared.lexeme.Word.TheVariants.{Module}
use Rattle.tla_symbols.specs.declared.lexeme.Lexeme.{Lexeme}
use Rattle.tla_lexeme.specs.declared.class.Class.TheVariants.{WordChar, Dash, Space}
use Rattle.tla_lexeme.specs.declared.LexError.{LexError}
use Rattle.tla_lexeme.specs.declared.LexError.TheVariants.{NoHeader, Memory}
use Rattle.tla_lexeme.specs.LexemeSets.{is_in}
use Rattle.tla_lexeme.specs.Lexing.{begins, lexemes_after}

-- ---- the header

-- the word `MODULE`, with no letter, digit or `_` after it
abbrev pub begins_with_module : List ℕ → Bool
begins_with_module text = begins text (codes "MODULE") && not (is_in WordChar (slice_index text 6))

-- what follows the first bytes of a text that pass a test
abbrev pub behind : (ℕ → Bool) → List ℕ → List ℕ
behind test text = drop (prefix_len test text) text

-- four or more dashes, as many as there are, any number of spaces and tabs, and the word
abbrev pub begins_with_header : List ℕ → Bool
begins_with_header text = nat_le 4 (prefix_len (is_in Dash) text) && begins_with_module (behind (is_in Space) (behind (is_in Dash) text))

-- Where the first header begins, in bytes that stand at an offset. What stands before it is not looked at.
-- It begins a run of dashes: a place within a run begins one only where the place before it does.
abbrev pub header_from : ℕ → List ℕ → Option ℕ
header_from at [] = None
header_from at (c ∷ cs) = if begins_with_header (c ∷ cs) then Some at else header_from (at + 1) cs

-- where the module's header begins, if the text has one
abbrev pub header_of : List ℕ → Option ℕ
header_of text = header_from 0 text

-- ---- the closing run

-- the word MODULE, which asks for one run of `=` more
abbrev pub is_module_word : LexKind → Bool
is_module_word (Word Module) = true
is_module_word _ = false

-- a run of `=`, which may close a module
abbrev pub is_equals : LexKind → Bool
is_equals Equals = true
is_equals _ = false

-- the lexeme that closes a module
abbrev pub closed : Lexeme → Lexeme
closed l = record { kind = Close; span = l.span; line = l.line; col = l.col }

-- Lexemes up to the first run of `=` at which as many such runs as words `MODULE` have been read, after so many words and runs.
abbrev pub up_to_close : ℕ → ℕ → List Lexeme → List Lexeme
up_to_close words runs [] = []
up_to_close words runs (l ∷ ls) =
    if is_equals l.kind then (if runs + 1 == words then closed l ∷ [] else l ∷ up_to_close words (runs + 1) ls) else
    l ∷ up_to_close (if is_module_word l.kind then words + 1 else words) runs ls

-- ---- the whole

-- the lexemes from an offset on, up to the closing run
abbrev pub part_from : List ℕ → ℕ → List Lexeme
part_from text at = up_to_close 0 0 (lexemes_after text at 0 (drop at text))

-- the lexemes of the module part, if the text has a header
abbrev pub module_part : List ℕ → Option (List Lexeme)
module_part text = option_map (part_from text) (header_of text)

-- what a refusal says: of want of memory nothing
abbrev pub IsLexError : List ℕ → LexError → Type 0
IsLexError text NoHeader = module_part text ≡ None
IsLexError text Memory = Unit {0}
