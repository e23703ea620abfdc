-- The meaning of the stand-in that tests use: no notes, null to every question, a notice for each document
-- that is opened, and changes of which each makes a text that is too long.
use Rattle.std.specs.Prelude.{ℕ, ◌+◌, ◌^◌, List, [], ◌∷◌, replicate, Option, Some, None, option_map}
use Rattle.lsp_wire.specs.declared.types.Reply.TheVariants.{Null}
use Rattle.lsp_answers.specs.States.{State, Meaning}

-- no texts, and a folder that does not tell
abbrev pub silent_state : Option (List ℕ) → State
silent_state due =
    record {
      root = None;
      texts = [];
      opened = [];
      due = option_map (λ uri. record { name = uri; uri = uri }) due;
      folder = None;
    }

-- a text of so many bytes
unfoldable pub zeros : ℕ → List ℕ
zeros n = replicate n 0

-- one byte more than a text may have
abbrev pub too_many : ℕ
too_many = 2 ^ 25 + 1

-- what calls mean to the stand-in
abbrev pub silent_meaning : Meaning
silent_meaning =
    record {
      after_root = λ s root. s;
      root_modules = λ s root. [];
      after_read = λ s name. s;
      after_open = λ s uri text. record s { due = Some (record { name = uri; uri = uri }) };
      after_change = λ s uri changes. s;
      changed_texts = λ s uri changes. zeros too_many ∷ [];
      after_close = λ s uri. s;
      after_files = λ s events. s;
      notes_of = λ s name. [];
      reply_to = λ s call. Null;
    }
