-- Bytes have one front.
use Rattle.std.proofs.Common.{◌≡◌, ℕ, zero, suc, ◌+◌, ◌<◌, ◌≤◌, ◌⊎◌, Bool, true, false, List, [], ◌∷◌, ◌++◌, length, take, drop, Option, Some, None, refl, sym, ap, ◌∙◌, subst, ⊎_elim, append_assoc, arith}
use Rattle.std.proofs.lemmas.Bool.{cases_Bool, cases_lt, both_ways}
use Rattle.std.proofs.lemmas.List.{take-append-drop}
use Rattle.std.proofs.lemmas.Slice.Eq.{bytes_eq-Decides}
use Rattle.std.specs.Str.{bytes_eq, is_utf8}
use Rattle.tla_symbols.specs.declared.lexeme.Lexeme.{Lexeme}
use Rattle.tla_lexeme.specs.Longest.{ReadsLongest}
use Rattle.tla_lexeme.specs.ModulePart.{module_part}
use Rattle.tla_model.specs.Lexemes.{spelled}
use Rattle.unit_grammar.specs.Units.{ModuleUnits}
use Rattle.unit_grammar.specs.Derivation.{DerivesModule}
use Rattle.unit_grammar.specs.FirstBad.{IsDerivable, Begins, IsFirstBad, EndsOnce}
use Rattle.unit_grammar.specs.Heights.{module_height}
use Rattle.front_laws.specs.Fronts.{Front, Tree, Fault, fault_at, fault_of, greatest, readable_len, syntax_code, MOST_TEXT, IsFrontOfLexemes, bad, high, misnamed, whole, IsFront, not_utf8, too_large, no_header, read}
use Rattle.unit_heights.specs.TooHigh.{MOST_HEIGHT, IsFirstHigh}
use Rattle.unit_heights.specs.FirstHigh.{BeginsFurther}
use Rattle.unit_heights.proofs.HighUnits.{some-high, high-module, one-high}
use Rattle.front_laws.proofs.TextEnds.{text-ends}
use Rattle.front_laws.proofs.TextGrows.{text-further}

-- what the grammar says of lists of lexemes
abbrev OneModule : Type 0
OneModule = (found other : ModuleUnits) (lexemes : List Lexeme) → DerivesModule found lexemes → DerivesModule other lexemes → found ≡ other

abbrev DerivableOrBad : Type 0
DerivableOrBad = (lexemes : List Lexeme) → EndsOnce lexemes → IsDerivable lexemes ⊎ ((index : ℕ) × (index < length lexemes) × IsFirstBad lexemes index)

-- ---- there is one

some-at : (index : ℕ) (ls : List Lexeme) → index < length ls → (l : Lexeme) × (rest : List Lexeme) × (drop index ls ≡ l ∷ rest)
some-at index [] lt = absurd (omega (arith, lt))
some-at zero (l ∷ ls) lt = (l, ls, refl)
some-at (suc index) (l ∷ ls) lt = some-at index ls (omega (arith, lt))

some-module : (name text : List ℕ) (lexemes : List Lexeme) (found : ModuleUnits) → DerivesModule found lexemes → (front : Front) × IsFrontOfLexemes name text lexemes front
some-module name text lexemes found d =
    ⊎_elim
    (λ (tall : MOST_HEIGHT < module_height found). let first : (t : Lexeme) × IsFirstHigh found lexemes t = some-high d tall in (Fault (fault_of 105 first.0), high d first.1))
    (λ (low : module_height found ≤ MOST_HEIGHT).
    ⊎_elim
    (λ (same : bytes_eq (spelled text found.name) name ≡ true). (Tree found, whole d low ((bytes_eq-Decides (spelled text found.name) name).0 same)))
    (λ (other : bytes_eq (spelled text found.name) name ≡ false). (Fault (fault_of 103 found.name), misnamed d low (λ e. both_ways (bytes_eq (spelled text found.name) name) other ((bytes_eq-Decides (spelled text found.name) name).1 e))))
    (cases_Bool (bytes_eq (spelled text found.name) name)))
    (cases_lt MOST_HEIGHT (module_height found))

some-bad : (name text : List ℕ) (lexemes : List Lexeme) (index : ℕ) → index < length lexemes → IsFirstBad lexemes index → (front : Front) × IsFrontOfLexemes name text lexemes front
some-bad name text lexemes index lt first =
    let at : (l : Lexeme) × (rest : List Lexeme) × (drop index lexemes ≡ l ∷ rest) = some-at index lexemes lt in
    (Fault (fault_of (syntax_code at.0.kind) at.0), bad first at.2)

some-of-lexemes : DerivableOrBad → (name text : List ℕ) (lexemes : List Lexeme) → EndsOnce lexemes → (front : Front) × IsFrontOfLexemes name text lexemes front
some-of-lexemes law name text lexemes ends =
    ⊎_elim
    (λ (d : IsDerivable lexemes). some-module name text lexemes d.0 d.1)
    (λ (f : (index : ℕ) × (index < length lexemes) × IsFirstBad lexemes index). some-bad name text lexemes f.0 f.1 f.2)
    (law lexemes ends)

pub greatest-le : (p : ℕ → Bool) (n : ℕ) → greatest p n ≤ n
greatest-le p zero = omega arith
greatest-le p (suc n) =
    ⊎_elim
    (λ (yes : p (suc n) ≡ true). rw yes (omega arith))
    (λ (no : p (suc n) ≡ false). rw no (omega (arith, greatest-le p n)))
    (cases_Bool (p (suc n)))

some-text : DerivableOrBad → ((text : List ℕ) (at : ℕ) → ReadsLongest text at) → (name bytes : List ℕ) → readable_len bytes ≡ length bytes → length bytes ≤ MOST_TEXT → (part : Option (List Lexeme)) → module_part bytes ≡ part → (front : Front) × IsFront name bytes front
some-text law reads name bytes text small None part = (Fault (fault_at 102 0), no_header text small part)
some-text law reads name bytes text small (Some lexemes) part =
    let of : (front : Front) × IsFrontOfLexemes name bytes lexemes front = some-of-lexemes law name bytes lexemes (text-ends reads bytes lexemes part) in
    (of.0, read text small part of.1)

pub some-front : DerivableOrBad → ((text : List ℕ) (at : ℕ) → ReadsLongest text at) → (name bytes : List ℕ) → (front : Front) × IsFront name bytes front
some-front law reads name bytes =
    ⊎_elim
    (λ (short : readable_len bytes < length bytes). (Fault (fault_at 101 (readable_len bytes)), not_utf8 short))
    (λ (le : length bytes ≤ readable_len bytes).
    let text : readable_len bytes ≡ length bytes = omega (arith, le, greatest-le (λ n. is_utf8 (take n bytes)) (length bytes)) in
    ⊎_elim
    (λ (large : MOST_TEXT < length bytes). (Fault (fault_at 104 0), too_large text large))
    (λ (small : length bytes ≤ MOST_TEXT). some-text law reads name bytes text small (module_part bytes) refl)
    (cases_lt MOST_TEXT (length bytes)))
    (cases_lt (readable_len bytes) (length bytes))

-- ---- and no other

-- the first lexemes are those of more of the first
take-fewer : (i j : ℕ) (ls : List Lexeme) → i ≤ j → take i (take j ls) ≡ take i ls
take-fewer zero j ls le = refl
take-fewer (suc i) zero ls le = absurd (omega (arith, le))
take-fewer (suc i) (suc j) [] le = refl
take-fewer (suc i) (suc j) (l ∷ ls) le = ap (λ r. l ∷ r) (take-fewer i j ls (omega (arith, le)))

begins-fewer : (i j : ℕ) (ls : List Lexeme) → i ≤ j → Begins (take j ls) → Begins (take i ls)
begins-fewer i j ls le b =
    let split : take i ls ++ drop i (take j ls) ≡ take j ls = ap (λ r. r ++ drop i (take j ls)) (sym (take-fewer i j ls le)) ∙ take-append-drop i (take j ls) in
    let whole : take j ls ++ b.0 ≡ take i ls ++ (drop i (take j ls) ++ b.0) = ap (λ r. r ++ b.0) (sym split) ∙ append_assoc (take i ls) (drop i (take j ls)) b.0 in
    (drop i (take j ls) ++ b.0, subst IsDerivable whole b.1)

none-before : (lexemes : List Lexeme) (i j : ℕ) → IsFirstBad lexemes i → IsFirstBad lexemes j → i < j → ⊥
none-before lexemes i j f g lt = f.ends (begins-fewer (i + 1) j lexemes (omega (arith, lt)) g.begins)

one-bad : (lexemes : List Lexeme) (i j : ℕ) → IsFirstBad lexemes i → IsFirstBad lexemes j → i ≡ j
one-bad lexemes i j f g =
    ⊎_elim
    (λ (lt : i < j). absurd (none-before lexemes i j f g lt))
    (λ (le : j ≤ i).
    ⊎_elim
    (λ (lt : j < i). absurd (none-before lexemes j i g f lt))
    (λ (ge : i ≤ j). omega (arith, le, ge))
    (cases_lt j i))
    (cases_lt i j)

same-bad : (lexemes : List Lexeme) (i j : ℕ) (l m : Lexeme) (ls ms : List Lexeme) → IsFirstBad lexemes i → IsFirstBad lexemes j → drop i lexemes ≡ l ∷ ls → drop j lexemes ≡ m ∷ ms → l ≡ m
same-bad lexemes i j l m ls ms f g e h =
    let same : l ∷ ls ≡ m ∷ ms = sym e ∙ (ap (λ n. drop n lexemes) (one-bad lexemes i j f g) ∙ h) in
    cc

same-high : OneModule → (lexemes : List Lexeme) (found other : ModuleUnits) (t u : Lexeme) → BeginsFurther 0 lexemes → DerivesModule found lexemes → DerivesModule other lexemes → IsFirstHigh found lexemes t → IsFirstHigh other lexemes u → t ≡ u
same-high law lexemes found other t u further d e h k = one-high found lexemes t u further h (subst (λ f. IsFirstHigh f lexemes u) (sym (law found other lexemes d e)) k)

never-high : OneModule → (lexemes : List Lexeme) (found other : ModuleUnits) (t : Lexeme) → DerivesModule found lexemes → DerivesModule other lexemes → IsFirstHigh found lexemes t → module_height other ≤ MOST_HEIGHT → ⊥
never-high law lexemes found other t d e h low =
    let same : module_height found ≡ module_height other = ap (λ (f : ModuleUnits). module_height f) (law found other lexemes d e) in
    absurd (omega (arith, high-module h, same, low))

same-lexemes : OneModule → (name text : List ℕ) (lexemes : List Lexeme) → BeginsFurther 0 lexemes → {front other : Front} → IsFrontOfLexemes name text lexemes front → IsFrontOfLexemes name text lexemes other → front ≡ other
same-lexemes law name text lexemes further (bad {index = i} {l = l} {rest = ls} f e) (bad {index = j} {l = m} {rest = ms} g h) = ap (λ (t : Lexeme). Fault (fault_of (syntax_code t.kind) t)) (same-bad lexemes i j l m ls ms f g e h)
same-lexemes law name text lexemes further (bad f e) (high {found = other} d h) = absurd (f.refused (other, d))
same-lexemes law name text lexemes further (bad f e) (misnamed {found = other} d low n) = absurd (f.refused (other, d))
same-lexemes law name text lexemes further (bad f e) (whole {found = other} d low n) = absurd (f.refused (other, d))
same-lexemes law name text lexemes further (high {found = found} d h) (bad f e) = absurd (f.refused (found, d))
same-lexemes law name text lexemes further (high {found = found} {t = t} d h) (high {found = other} {t = u} e k) = ap (λ (l : Lexeme). Fault (fault_of 105 l)) (same-high law lexemes found other t u further d e h k)
same-lexemes law name text lexemes further (high {found = found} {t = t} d h) (misnamed {found = other} e low n) = absurd (never-high law lexemes found other t d e h low)
same-lexemes law name text lexemes further (high {found = found} {t = t} d h) (whole {found = other} e low n) = absurd (never-high law lexemes found other t d e h low)
same-lexemes law name text lexemes further (misnamed {found = found} d low n) (bad f e) = absurd (f.refused (found, d))
same-lexemes law name text lexemes further (misnamed {found = found} d low n) (high {found = other} {t = u} e k) = absurd (never-high law lexemes other found u e d k low)
same-lexemes law name text lexemes further (misnamed {found = found} d low n) (misnamed {found = other} e low' m) = ap (λ (f : ModuleUnits). Fault (fault_of 103 f.name)) (law found other lexemes d e)
same-lexemes law name text lexemes further (misnamed {found = found} d low n) (whole {found = other} e low' m) = absurd (n (ap (λ (f : ModuleUnits). spelled text f.name) (law found other lexemes d e) ∙ m))
same-lexemes law name text lexemes further (whole {found = found} d low n) (bad f e) = absurd (f.refused (found, d))
same-lexemes law name text lexemes further (whole {found = found} d low n) (high {found = other} {t = u} e k) = absurd (never-high law lexemes other found u e d k low)
same-lexemes law name text lexemes further (whole {found = found} d low n) (misnamed {found = other} e low' m) = absurd (m (ap (λ (f : ModuleUnits). spelled text f.name) (sym (law found other lexemes d e)) ∙ n))
same-lexemes law name text lexemes further (whole {found = found} d low n) (whole {found = other} e low' m) = ap (λ (f : ModuleUnits). Tree f) (law found other lexemes d e)

some-same : (o : Option (List Lexeme)) (ls ms : List Lexeme) → o ≡ Some ls → o ≡ Some ms → ls ≡ ms
some-same o ls ms e h = cc

none-some : (o : Option (List Lexeme)) (ls : List Lexeme) → o ≡ None → o ≡ Some ls → ⊥
none-some o ls e h = absurd (cc)

pub same-front : OneModule → ((text : List ℕ) (at : ℕ) → ReadsLongest text at) → (name bytes : List ℕ) {front other : Front} → IsFront name bytes front → IsFront name bytes other → front ≡ other
same-front law reads name bytes (not_utf8 a) (not_utf8 b) = refl
same-front law reads name bytes (not_utf8 a) (too_large b c) = absurd (omega (arith, a, b))
same-front law reads name bytes (not_utf8 a) (no_header b c d) = absurd (omega (arith, a, b))
same-front law reads name bytes (not_utf8 a) (read b c d e) = absurd (omega (arith, a, b))
same-front law reads name bytes (too_large a b) (not_utf8 c) = absurd (omega (arith, a, c))
same-front law reads name bytes (too_large a b) (too_large c d) = refl
same-front law reads name bytes (too_large a b) (no_header c d e) = absurd (omega (arith, b, d))
same-front law reads name bytes (too_large a b) (read c d e f) = absurd (omega (arith, b, d))
same-front law reads name bytes (no_header a b c) (not_utf8 d) = absurd (omega (arith, a, d))
same-front law reads name bytes (no_header a b c) (too_large d e) = absurd (omega (arith, b, e))
same-front law reads name bytes (no_header a b c) (no_header d e f) = refl
same-front law reads name bytes (no_header a b c) (read {lexemes = ms} d e f g) = absurd (none-some (module_part bytes) ms c f)
same-front law reads name bytes (read a b c d) (not_utf8 e) = absurd (omega (arith, a, e))
same-front law reads name bytes (read a b c d) (too_large e f) = absurd (omega (arith, b, f))
same-front law reads name bytes (read {lexemes = ls} a b c d) (no_header e f g) = absurd (none-some (module_part bytes) ls g c)
same-front law reads name bytes (read {lexemes = ls} {front = front} a b c d) (read {lexemes = ms} {front = other} e f g h) =
    let same : ms ≡ ls = some-same (module_part bytes) ms ls g c in
    same-lexemes law name bytes ls (text-further reads bytes ls c) d (subst (λ l. IsFrontOfLexemes name bytes l other) same h)
