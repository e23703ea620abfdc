-- What the words ask for, by how their parse ends.
use Rattle.std.proofs.Common.{◌≡◌, ℕ, List, [], ◌∷◌, Bool, true, false, None, Option, refl, sym, ap, ◌∙◌, subst, inl, inr}
use Rattle.std.specs.Prelude.{◌&&◌, codes}
use Rattle.clap.specs.Words.{App, HasKind, HasMatchesOf, IsAmong, Kinds, Row, fault_of, found_of, first_value, is_simple_and_free, kind_of, matches_of, rows_of}
use Rattle.clap.proofs.WalkLemmas.{first_value-rows}
use Rattle.clap.specs.declared.parser.matches.Found.{Found}
use Rattle.clap.specs.declared.parser.matches.ArgMatches.{ArgMatches}
use Rattle.clap.specs.declared.error.Error.{Error}
use Rattle.clap.specs.declared.error.kind.ErrorKind.TheVariants as kind
use Rattle.sany_words.specs.Words.{command, is_set, request_by, request_in, request_of, request_unless}

-- the command is one whose matches are known
is-simple : is_simple_and_free command ≡ true
is-simple = refl

-- where the command takes the words its matches say it
pub taken : (a : App) (m : ArgMatches) (words : List (List ℕ)) → a ≡ command → (is_simple_and_free a ≡ true → fault_of a words ≡ []) → HasMatchesOf a words m → request_in (rows_of (found_of m)) ≡ request_of words
taken a m words is faults matches =
    let simple : is_simple_and_free a ≡ true = subst (λ b. is_simple_and_free b ≡ true) (sym is) is-simple in
    let none : fault_of command words ≡ [] = subst (λ b. fault_of b words ≡ []) is (faults simple) in
    let same : rows_of (found_of m) ≡ matches_of command words = subst (λ b. rows_of (found_of m) ≡ matches_of b words) is (matches (both-first _ _ simple)).0 in
    ap request_in same ∙ ap (λ kinds. request_unless kinds (matches_of command words)) (sym none)
  where
    both-first : (x y : Bool) → (x && y) ≡ true → x ≡ true
    both-first true y e = refl
    both-first false y e = cc

among : (kinds : Kinds) (rows : List Row) (k : kind.the_data) → IsAmong k kinds → None ≡ request_unless kinds rows
among [] rows k h = absurd h
among (x ∷ xs) rows k h = refl

-- and where it refuses them nothing is asked for
pub refused : (a : App) (e : Error) (words : List (List ℕ)) → a ≡ command → (is_simple_and_free a ≡ true → HasKind (fault_of a words) e) → (kind_of e ≡ kind.OutOfMemory → ⊥) → None ≡ request_of words
refused a e words is faults other = by (subst (λ b. HasKind (fault_of b words) e) is (faults (subst (λ b. is_simple_and_free b ≡ true) (sym is) is-simple)))
  where
    by : HasKind (fault_of command words) e → None ≡ request_of words
    by (inl memory) = absurd (other memory)
    by (inr h) = among (fault_of command words) (matches_of command words) (kind_of e) h

-- ---- matches

-- what the flag, COMMAND and ARG are says what is asked for
pub asked : (f : Found) (facts name argument : Option (List ℕ)) (set : Bool) → facts ≡ first_value f (codes "facts") → name ≡ first_value f (codes "COMMAND") → argument ≡ first_value f (codes "ARG") → set ≡ is_set facts → request_by name argument set ≡ request_in (rows_of f)
asked f facts name argument set is named with' shown = rw (sym (first_value-rows f (codes "facts")), sym is, sym shown, sym (first_value-rows f (codes "COMMAND")), sym named, sym (first_value-rows f (codes "ARG")), sym with') refl
