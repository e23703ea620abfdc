-- Names, what is listed, and pairs of modules that are known.
use Rattle.std.proofs.Common.{◌≡◌, ℕ, ◌+◌, ◌<◌, Bool, true, false, List, [], ◌∷◌, ◌++◌, Option, Some, refl, sym, ap, ◌∙◌, get_or, if◌then◌else◌, length, map, subst, true≢false}
use Rattle.std.specs.Prelude.{◌&&◌, ◌||◌, nat_eq, slice_get}
use Rattle.std.proofs.lemmas.Bool.{and_parts}
use Rattle.std.proofs.lemmas.Bool.Decides.{Decides-eqb}
use Rattle.std.specs.List.{AllByRecursion, list_any}
use Rattle.std.proofs.lemmas.Option.{slice_get_read}
use denote.Enum.Bare.{same_true, true_same}
use Rattle.face_views.specs.Exact.{Tells}
use Rattle.face_views.proofs.Comparing.{AreSameBefore, same-next}
use Rattle.tla_symbols.specs.declared.op.Op.{Op}
use Rattle.tla_symbols.specs.contracts.op.Op as op
use Rattle.tla_model.specs.Tables.{Named, Word, Symbol, same_symbol}
use Rattle.list_laws.proofs.Lists.{all-both, at-map}
use Rattle.module_leads.specs.Alike.{AddsPair, AreAlike, AreAmong, AreKnown, ArePairAlike, known_face}
use Rattle.module_leads.specs.Faces.{faces_of}

-- ---- names

-- symbols are the same names exactly where they are the same
pub symbols-told : (b : Bool) (one other : Op) (first second : Named) → first ≡ Symbol one → second ≡ Symbol other → b ≡ same_symbol one other → Tells b (first ≡ second)
symbols-told b one other first second here there is = by b is
  where
    symbol_in : Op → Named → Op
    symbol_in o (Word bytes) = o
    symbol_in o (Symbol op) = op

    by : (b : Bool) → b ≡ same_symbol one other → Tells b (first ≡ second)
    by true is = here ∙ ap Symbol (same_true op.the_type tt one other (sym is)) ∙ sym there
    by false is = λ same. true≢false (sym (is ∙ true_same op.the_type one other (ap (symbol_in one) (sym here ∙ same ∙ there))))

pub some-same : {A : Type 0} {x y : A} → Some x ≡ Some y → x ≡ y
some-same is = cc

pub same-at : {A : Type 0} (i : ℕ) (xs ys : List A) (x y : A) → slice_get xs i ≡ Some x → slice_get ys i ≡ Some y → xs ≡ ys → x ≡ y
same-at i xs ys x y here there same = some-same (sym here ∙ ap (λ zs. slice_get zs i) same ∙ there)

-- what is listed, as what is seen of it
module _ {A B : Type 0} (f : A → B) (xs ys : List A) (i : ℕ) (x y : A) (here : i < length xs) (there : i < length ys) (first : x ≡ get_or xs i x) (second : y ≡ get_or ys i y) where
  seen-here : slice_get (map f xs) i ≡ Some (f x)
  seen-here = at-map f xs i x (slice_get_read xs (length xs) i x refl here first)

  seen-there : slice_get (map f ys) i ≡ Some (f y)
  seen-there = at-map f ys i y (slice_get_read ys (length ys) i y refl there second)

  pub seen-next : f x ≡ f y → AreSameBefore i (map f xs) (map f ys) → AreSameBefore (i + 1) (map f xs) (map f ys)
  seen-next = same-next i (map f xs) (map f ys) (f x) (f y) seen-here seen-there

  pub seen-at : map f xs ≡ map f ys → f x ≡ f y
  seen-at = same-at i (map f xs) (map f ys) (f x) (f y) seen-here seen-there

-- ---- pairs

-- a test finds what this holds of
pub any-among : {A Q : Type 0} (P : A → Type 0) (test : A → Bool) → ((x : A) → test x ≡ true → P x → Q) → (xs : List A) → list_any test xs ≡ true → AllByRecursion P xs → Q
any-among P test holds [] any all = absurd (true≢false (sym any))
any-among {Q = Q} P test holds (x ∷ xs) any all = by (test x) refl any (λ rest. any-among P test holds xs rest all.1)
  where
    by : (b : Bool) → test x ≡ b → (b || list_any test xs) ≡ true → (list_any test xs ≡ true → Q) → Q
    by true e any rest = holds x e all.0
    by false e any rest = rest any

pub all-inserted : {A : Type 0} (P : A → Type 0) (b : Bool) (xs : List A) (x : A) → AllByRecursion P xs → P x → AllByRecursion P (if b then xs else xs ++ x ∷ [])
all-inserted P true xs x all holds = all
all-inserted P false xs x all holds = all-both P xs (x ∷ []) all (holds, tt)

same-pair : (one other : ℕ) (pair : ℕ × ℕ) → (nat_eq one pair.0 && nat_eq other pair.1) ≡ true → pair ≡ (one, other)
same-pair one other pair is =
    let both = and_parts (nat_eq one pair.0) (nat_eq other pair.1) is in
    λ i. (sym ((Decides-eqb one pair.0).0 both.0) i, sym ((Decides-eqb other pair.1).0 both.1) i)

pub pair-among : (pairs : List (ℕ × ℕ)) (one other : ℕ) (a b : Option ℕ) → a ≡ Some one → b ≡ Some other → list_any (λ (pair : ℕ × ℕ). nat_eq one pair.0 && nat_eq other pair.1) pairs ≡ true → AreAmong pairs a b
pair-among pairs one other a b first second any flat numbers listed all told =
    any-among (ArePairAlike flat numbers listed) (λ (pair : ℕ × ℕ). nat_eq one pair.0 && nat_eq other pair.1)
    (λ pair e holds. subst (λ z. AreAlike flat (known_face listed z).leads (known_face listed b).leads) (sym first)
    (subst (λ z. AreAlike flat (known_face listed (Some one)).leads (known_face listed z).leads) (sym second) (subst (ArePairAlike flat numbers listed) (same-pair one other pair e) holds told))) pairs any all

pub pair-added : (old new : List (ℕ × ℕ)) (one other : ℕ) (a b : Option ℕ) → a ≡ Some one → b ≡ Some other
    → new ≡ (if list_any (λ (pair : ℕ × ℕ). nat_eq one pair.0 && nat_eq other pair.1) old then old else old ++ (one, other) ∷ []) → AddsPair old new a b
pair-added old new one other a b first second is flat numbers listed all alike =
    subst (AreKnown flat numbers listed) (sym is)
    (all-inserted (ArePairAlike flat numbers listed) (list_any (λ (pair : ℕ × ℕ). nat_eq one pair.0 && nat_eq other pair.1) old) old (one, other) all
    (λ told. subst (λ z. AreAlike flat (faces_of listed one).leads (known_face listed z).leads) second (subst (λ z. AreAlike flat (known_face listed z).leads (known_face listed b).leads) first (alike told))))
