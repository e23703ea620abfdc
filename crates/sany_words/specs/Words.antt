-- What the words of the command line ask for, by what `clap` makes of them.
use Rattle.std.specs.Prelude.{ℕ, List, [], ◌∷◌, Bool, true, false, not, ◌&&◌, nat_le, Option, Some, None, if◌then◌else◌, codes}
use Rattle.std.specs.List.{list_all}
use Rattle.std.specs.Option.{option_map_or}
use Rattle.std.specs.Char.{is_digit}
use Rattle.std.specs.Str.{bytes_eq}
use Rattle.std.specs.Str.Parse.{digits_value}
use Rattle.clap.specs.Words.{App, Row, Rule, Kinds, fault_of, first_of, matches_of, new_app, new_rule, with_rule}
use Rattle.clap.specs.Simple.{on_top}
use Rattle.clap.specs.declared.builder.action.ArgAction.TheVariants.{SetTrue}
use Rattle.sany_words.specs.declared.request.Request.{Request}

-- ---- the command

-- a command that reads all words, without flags of its own
abbrev pub bare : App
bare = on_top (λ s. record s { no_binary_name = true; disable_help_flag = true; disable_version_flag = true }) (new_app (codes "sany"))

-- COMMAND, which is required
abbrev pub name_rule : Rule
name_rule = record (new_rule (codes "COMMAND")) { required = true }

-- ARG
abbrev pub argument_rule : Rule
argument_rule = new_rule (codes "ARG")

-- the flag --facts
abbrev pub facts_rule : Rule
facts_rule = record (new_rule (codes "facts")) { long = Some (codes "facts"); action = Some SetTrue }

-- the command whose words are read
abbrev pub command : App
command = with_rule (with_rule (with_rule bare name_rule) argument_rule) facts_rule

-- ---- numbers

-- a text begins with a digit other than 0
abbrev pub begins_count : List ℕ → Bool
begins_count [] = false
begins_count (c ∷ cs) = nat_le 49 c && nat_le c 57

-- from 1 to 1,024, in digits without leading zero
abbrev pub is_count : List ℕ → Bool
is_count text = begins_count text && (list_all (λ c. is_digit c 10) text && nat_le (digits_value 10 text) 1024)

-- the number of modules that a text asks for
abbrev pub count_in : List ℕ → Option ℕ
count_in text = if is_count text then Some (digits_value 10 text) else None

-- ---- requests

-- to make so many modules
abbrev pub generate_if : Option ℕ → Option Request
generate_if (Some count) = Some (Request.Generate count)
generate_if None = None

-- what a command with an argument asks for; facts are shown by a check alone
abbrev pub request_with : List ℕ → List ℕ → Bool → Option Request
request_with command argument facts =
    if bytes_eq command (codes "check") then Some (Request.Check argument facts)
    else (if not facts && bytes_eq command (codes "gen") then generate_if (count_in argument) else None)

-- what a command without an argument asks for
abbrev pub request_without : List ℕ → Bool → Option Request
request_without command facts = if not facts && bytes_eq command (codes "serve") then Some Request.Serve else None

-- what a command asks for
abbrev pub request_by : Option (List ℕ) → Option (List ℕ) → Bool → Option Request
request_by (Some command) (Some argument) facts = request_with command argument facts
request_by (Some command) None facts = request_without command facts
request_by None argument facts = None

-- a flag is set
abbrev pub is_set : Option (List ℕ) → Bool
is_set value = option_map_or (λ text. bytes_eq text (codes "true")) value false

-- what the matches ask for
abbrev pub request_in : List Row → Option Request
request_in rows = request_by (first_of (codes "COMMAND") rows) (first_of (codes "ARG") rows) (is_set (first_of (codes "facts") rows))

-- what the words ask for where the command refuses them by one of these faults
abbrev pub request_unless : Kinds → List Row → Option Request
request_unless [] rows = request_in rows
request_unless (kind ∷ kinds) rows = None

-- what the words ask for: nothing where the command refuses them
abbrev pub request_of : List (List ℕ) → Option Request
request_of words = request_unless (fault_of command words) (matches_of command words)
