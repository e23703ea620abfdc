-- What is kept of findings, one after another.
use Rattle.std.proofs.Common.{◌≡◌, ℕ, Bool, true, false, cond, List, [], ◌∷◌, ◌++◌, Option, Some, None, refl, sym, ap, ◌∙◌, ◌+◌, ◌<◌, get_or, length, take, append_assoc}
use Rattle.std.specs.Prelude.{nat_eq}
use Rattle.std.proofs.lemmas.List.{append-nil, take_more}
use Rattle.tla_model.specs.declared.names.Finding.TheVariants.{Means, Unknown, Taken, Clashes, InstanceClashes, NotReplaceable, ReplacedTwice, Unreplaced, Implied}
use Rattle.tla_model.specs.Entities.{Meaning}
use Rattle.tla_model.specs.Scopes.{Finding}
use Rattle.readable_laws.specs.Uses.{implied_at, implied_by, means_by}
use Rattle.written_names.specs.Names.{means_there}

-- what is kept behind findings, by what was kept before
abbrev pub kept : Option Meaning → List Finding → ℕ → Option Meaning
kept so_far [] start = so_far
kept so_far (finding ∷ rest) start = kept (means_there so_far finding start) rest start

-- the first counts
known-stays : (meaning : Meaning) (found : List Finding) (start : ℕ) → kept (Some meaning) found start ≡ Some meaning
known-stays meaning [] start = refl
known-stays meaning (Means l other ∷ found) start = known-stays meaning found start
known-stays meaning (Unknown l ∷ found) start = known-stays meaning found start
known-stays meaning (Taken l ∷ found) start = known-stays meaning found start
known-stays meaning (Clashes l ∷ found) start = known-stays meaning found start
known-stays meaning (InstanceClashes l ∷ found) start = known-stays meaning found start
known-stays meaning (NotReplaceable l ∷ found) start = known-stays meaning found start
known-stays meaning (ReplacedTwice l ∷ found) start = known-stays meaning found start
known-stays meaning (Unreplaced l ∷ found) start = known-stays meaning found start
known-stays meaning (Implied l parameter other ∷ found) start = known-stays meaning found start

pub kept-is : (found : List Finding) (start : ℕ) → kept None found start ≡ means_by found start
kept-is [] start = refl
kept-is (Means l meaning ∷ found) start = by (nat_eq start l.span.start) (kept-is found start)
  where
    by : (b : Bool) → kept None found start ≡ means_by found start → kept (cond b (Some meaning) None) found start ≡ cond b (Some meaning) (means_by found start)
    by true h = known-stays meaning found start
    by false h = h
kept-is (Unknown l ∷ found) start = kept-is found start
kept-is (Taken l ∷ found) start = kept-is found start
kept-is (Clashes l ∷ found) start = kept-is found start
kept-is (InstanceClashes l ∷ found) start = kept-is found start
kept-is (NotReplaceable l ∷ found) start = kept-is found start
kept-is (ReplacedTwice l ∷ found) start = kept-is found start
kept-is (Unreplaced l ∷ found) start = kept-is found start
kept-is (Implied l parameter other ∷ found) start = kept-is found start

kept-more : (so_far : Option Meaning) (found : List Finding) (finding : Finding) (start : ℕ) → kept so_far (found ++ finding ∷ []) start ≡ means_there (kept so_far found start) finding start
kept-more so_far [] finding start = refl
kept-more so_far (first ∷ found) finding start = kept-more (means_there so_far first start) found finding start

implied-more : (found : List Finding) (finding : Finding) (start : ℕ) → implied_by (found ++ finding ∷ []) start ≡ implied_by found start ++ implied_at start finding
implied-more [] finding start = append-nil (implied_at start finding)
implied-more (first ∷ found) finding start = ap (λ z. implied_at start first ++ z) (implied-more found finding start) ∙ sym (append_assoc (implied_at start first) (implied_by found start) (implied_at start finding))

-- one finding more
pub means-more : (means next : ℕ → Option Meaning) (found : List Finding) (k : ℕ) (d : Finding) → k < length found → ((start : ℕ) → means start ≡ kept None (take k found) start)
    → ((start : ℕ) → next start ≡ means_there (means start) (get_or found k d) start) → (start : ℕ) → next start ≡ kept None (take (k + 1) found) start
means-more means next found k d l h e start =
    e start ∙ ap (λ o. means_there o (get_or found k d) start) (h start) ∙ sym (kept-more None (take k found) (get_or found k d) start)
    ∙ ap (λ fs. kept None fs start) (sym (take_more found k d l))

pub stands-more : (implied next : ℕ → List Meaning) (found : List Finding) (k : ℕ) (d : Finding) → k < length found → ((start : ℕ) → implied start ≡ implied_by (take k found) start)
    → ((start : ℕ) → next start ≡ implied start ++ implied_at start (get_or found k d)) → (start : ℕ) → next start ≡ implied_by (take (k + 1) found) start
stands-more implied next found k d l h e start =
    e start ∙ ap (λ ms. ms ++ implied_at start (get_or found k d)) (h start) ∙ sym (implied-more (take k found) (get_or found k d) start)
    ∙ ap (λ fs. implied_by fs start) (sym (take_more found k d l))
