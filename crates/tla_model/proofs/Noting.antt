-- Places of words of a kind, and what stands there.
use Rattle.std.proofs.Common.{◌≡◌, ℕ, ◌+◌, ◌<◌, take, drop, get_or, length, List, [], ◌∷◌, ◌++◌, Some, Bool, true, false, cond, refl, ap, sym, ◌∙◌}
use Rattle.std.specs.Prelude.{slice_get, String, string_bytes}
use Rattle.std.specs.Arc.{arc_value}
use Rattle.std.specs.declared.alloc.Global.{Global}
use Rattle.std.specs.declared.sync.Arc.{Arc}
use Rattle.std.proofs.lemmas.List.{append_assoc}
use Rattle.std.proofs.lemmas.List.Elements.{filter-append}
use Rattle.list_laws.proofs.Lists.{at-map, drop-from}
use Rattle.tla_model.specs.Entities.{Entity, Meaning}
use Rattle.tla_model.specs.EntityKinds.{is_meant, words_meant}
use Rattle.tla_model.specs.Stretches.{all_words, one_of, words_at, words_of}
use Rattle.tla_model.proofs.Stretching.{Row, take-at}

abbrev Words : Type 0
Words = List (List ℕ × Meaning)

-- what stands at places in two rows
at-append : (words : Words) (a b : List ℕ) → words_at words (a ++ b) ≡ words_at words a ++ words_at words b
at-append words [] b = refl
at-append words (place ∷ a) b = ap (λ z. one_of (slice_get words place) ++ z) (at-append words a b) ∙ sym (append_assoc (one_of (slice_get words place)) (words_at words a) (words_at words b))

-- what stands at a place that is noted, or not
at-one : (words : Words) (is_one : Bool) (i : ℕ) (word : List ℕ × Meaning) → slice_get words i ≡ Some word → words_at words (cond is_one (i ∷ []) []) ≡ cond is_one (word ∷ []) []
at-one words true i word at = ap (λ found. one_of found ++ []) at
at-one words false i word at = refl

-- one more word is looked at
pub noted-next : (which : Entity → Bool) (rows : List Row) (places next : List ℕ) (is_one : Bool) (i : ℕ) (word : String Global) (meaning : Meaning) →
    words_at (words_of rows) places ≡ words_meant which (take i (words_of rows)) → slice_get rows i ≡ Some (word, meaning) → is_one ≡ is_meant which meaning → next ≡ places ++ cond is_one (i ∷ []) [] →
    words_at (words_of rows) next ≡ words_meant which (take (i + 1) (words_of rows))
noted-next which rows places next is_one i word meaning so at is more =
    let words = words_of rows in
    let entry : List ℕ × Meaning = (string_bytes word, meaning) in
    let there : slice_get words i ≡ Some entry = at-map (λ (row : Row). (string_bytes row.0, row.1)) rows i (word, meaning) at in
    ap (words_at words) more ∙ at-append words places (cond is_one (i ∷ []) [])
    ∙ (λ j. so j ++ at-one words is_one i entry there j)
    ∙ ap (λ (b : Bool). words_meant which (take i words) ++ cond b (entry ∷ []) []) is
    ∙ sym (filter-append (λ (word : List ℕ × Meaning). is_meant which word.1) (take i words) (entry ∷ []))
    ∙ ap (words_meant which) (sym (take-at words i entry there))

-- one more place is gone to
pub placed-next : (words now next all : Words) (places : List ℕ) (i place : ℕ) → now ++ words_at words (drop i places) ≡ all → i < length places → place ≡ get_or places i place →
    next ≡ now ++ one_of (slice_get words place) → next ++ words_at words (drop (i + 1) places) ≡ all
placed-next words now next all places i place so lt is more =
    ap (λ z. z ++ words_at words (drop (i + 1) places)) more
    ∙ append_assoc now (one_of (slice_get words place)) (words_at words (drop (i + 1) places))
    ∙ ap (λ z. now ++ words_at words z) (sym (drop-from places i place lt is))
    ∙ so

-- one more stretch is asked
pub meant-next : {Z : Type 0} (which : Entity → Bool) (stretches : List (Arc Words Z)) (i : ℕ) (stretch : Arc Words Z) (now next all : Words) →
    now ++ words_meant which (all_words (drop i stretches)) ≡ all → i < length stretches → stretch ≡ get_or stretches i stretch → next ≡ now ++ words_meant which (arc_value stretch) →
    next ++ words_meant which (all_words (drop (i + 1) stretches)) ≡ all
meant-next which stretches i stretch now next all so lt is more =
    let rest = all_words (drop (i + 1) stretches) in
    ap (λ z. z ++ words_meant which rest) more
    ∙ append_assoc now (words_meant which (arc_value stretch)) (words_meant which rest)
    ∙ ap (λ z. now ++ z) (sym (filter-append (λ (word : List ℕ × Meaning). is_meant which word.1) (arc_value stretch) rest))
    ∙ ap (λ z. now ++ words_meant which (all_words z)) (sym (drop-from stretches i stretch lt is))
    ∙ so
