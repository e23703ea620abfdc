-- Tables of parts, as what is reached.
use Rattle.std.proofs.Common.{◌≡◌, ℕ, zero, suc, ◌+◌, Bool, true, false, List, [], ◌∷◌, ◌++◌, Option, Some, None, add-one, drop, refl, ap, subst, sym, ◌∙◌, cond}
use Rattle.std.specs.Prelude.{is_some, nat_eq, slice_get, string_bytes, String}
use Rattle.std.specs.Arc.{arc_value}
use Rattle.std.proofs.lemmas.Bool.{eqb-true}
use Rattle.std.specs.List.{AllByRecursion, IsDistinct}
use Rattle.std.specs.Map.{keys_of, lookup}
use Rattle.std.specs.Borrow.{Bor}
use Rattle.std.specs.Option.{option_copied, option_map, option_or}
use Rattle.std.specs.Str.{bytes_eq}
use Rattle.std.specs.String.{string_eq}
use Rattle.std.specs.declared.alloc.Global.{Global}
use Rattle.std.specs.declared.sync.Arc.{Arc}
use Rattle.indexmap.specs.IndexMap.{IndexMap, insert_entry}
use Rattle.indexmap.proofs.CallerLemmas.{insert_entry-new}
use Rattle.list_laws.proofs.Lists.{drop-at}
use Rattle.list_laws.proofs.Options.{none-there}
use Rattle.list_laws.proofs.Texts.{same-text, text-itself}
use Rattle.tla_model.specs.declared.ids.DeclId.{DeclId}
use Rattle.tla_model.specs.Entities.{Meaning}
use Rattle.tla_model.specs.Tables as tables
use Rattle.module_model.specs.Parts.{AreJoined, AreUnited, ByText, InText, IsSet, by_text, in_part, in_text, reached, table_shown}

-- by the places of names
pub lookup-place : {Z : Type 0} → (rows : List (ℕ × Arc (tables.Table Meaning) Z)) (place : ℕ) → option_map (λ (x : Arc (tables.Table Meaning) Z). arc_value x) (lookup (λ (key : ℕ). nat_eq place key) rows) ≡ tables.lookup nat_eq (in_text rows) place
lookup-place [] place = refl
lookup-place (row ∷ rows) place = by (nat_eq place row.0) (lookup-place rows place)
  where
    by : (b : Bool) → option_map (λ (x : Arc (tables.Table Meaning) _). arc_value x) (lookup (λ (key : ℕ). nat_eq place key) rows) ≡ tables.lookup nat_eq (in_text rows) place
        → option_map (λ (x : Arc (tables.Table Meaning) _). arc_value x) (cond b (Some row.1) (lookup (λ (key : ℕ). nat_eq place key) rows)) ≡ cond b (Some (arc_value row.1)) (tables.lookup nat_eq (in_text rows) place)
    by true rest = refl
    by false rest = rest

-- by the titles of texts
pub lookup-text : {Z : Type 0} → (rows : List (String Global × Arc InText Z)) (title : List ℕ) → option_map (λ (x : Arc InText Z). arc_value x) (lookup (λ (key : String Global). bytes_eq title (string_bytes key)) rows) ≡ tables.lookup bytes_eq (by_text rows) title
lookup-text [] title = refl
lookup-text (row ∷ rows) title = by (bytes_eq title (string_bytes row.0)) (lookup-text rows title)
  where
    by : (b : Bool) → option_map (λ (x : Arc InText _). arc_value x) (lookup (λ (key : String Global). bytes_eq title (string_bytes key)) rows) ≡ tables.lookup bytes_eq (by_text rows) title
        → option_map (λ (x : Arc InText _). arc_value x) (cond b (Some row.1) (lookup (λ (key : String Global). bytes_eq title (string_bytes key)) rows)) ≡ cond b (Some (arc_value row.1)) (tables.lookup bytes_eq (by_text rows) title)
    by true rest = refl
    by false rest = rest

pub shown-copied : {Z : Type 0} → (found : Option (Bor (Arc (tables.Table Meaning) Z))) → table_shown found ≡ option_map (λ (x : Arc (tables.Table Meaning) Z). arc_value x) (option_copied found)
shown-copied None = refl
shown-copied (Some table) = refl

pub copied-text : {Z : Type 0} → (found : Option (Bor (Arc InText Z))) (part : Bor (Arc InText Z)) → found ≡ Some part → option_map (λ (x : Arc InText Z). arc_value x) (option_copied found) ≡ Some (arc_value part.now)
copied-text found part is = ap (λ f. option_map (λ (x : Arc InText _). arc_value x) (option_copied f)) is

pub no-text : {Z : Type 0} → (found : Option (Bor (Arc InText Z))) → found ≡ None → option_map (λ (x : Arc InText Z). arc_value x) (option_copied found) ≡ None
no-text found is = ap (λ f. option_map (λ (x : Arc InText _). arc_value x) (option_copied f)) is

-- ---- what is found in several

pub first-none : {A : Type 0} (found : Option A) → option_or found None ≡ found
first-none None = refl
first-none (Some x) = refl

pub first-assoc : {A : Type 0} (a b c : Option A) → option_or (option_or a b) c ≡ option_or a (option_or b c)
first-assoc None b c = refl
first-assoc (Some x) b c = refl

lookup-both : (a b : InText) (place : ℕ) → tables.lookup nat_eq (a ++ b) place ≡ option_or (tables.lookup nat_eq a place) (tables.lookup nat_eq b place)
lookup-both [] b place = refl
lookup-both (row ∷ a) b place = by (nat_eq place row.0) (lookup-both a b place)
  where
    by : (same : Bool) → tables.lookup nat_eq (a ++ b) place ≡ option_or (tables.lookup nat_eq a place) (tables.lookup nat_eq b place) →
        cond same (Some row.1) (tables.lookup nat_eq (a ++ b) place) ≡ option_or (cond same (Some row.1) (tables.lookup nat_eq a place)) (tables.lookup nat_eq b place)
    by true rest = refl
    by false rest = rest

-- of what is there already, nothing more is found
there-first : (rows : InText) (place : ℕ) (table : tables.Table Meaning) → is_some (tables.lookup nat_eq rows place) ≡ true → AreUnited rows rows ((place, table) ∷ [])
there-first rows place table there other = by (nat_eq other place) refl
  where
    found : (o : Option (tables.Table Meaning)) → is_some o ≡ true → o ≡ option_or o (Some table)
    found None none = cc
    found (Some x) some = refl

    by : (same : Bool) → nat_eq other place ≡ same → tables.lookup nat_eq rows other ≡ option_or (tables.lookup nat_eq rows other) (cond same (Some table) None)
    by true is = found (tables.lookup nat_eq rows other) (ap (λ (p : ℕ). is_some (tables.lookup nat_eq rows p)) (eqb-true other place is) ∙ there)
    by false is = sym (first-none (tables.lookup nat_eq rows other))

-- one more instance, unless it is there
pub added-united : (rows : InText) (place : ℕ) (table : tables.Table Meaning) → AreUnited (tables.added nat_eq rows place table) rows ((place, table) ∷ [])
added-united rows place table other = by (is_some (tables.lookup nat_eq rows place)) refl
  where
    by : (there : Bool) → is_some (tables.lookup nat_eq rows place) ≡ there →
        tables.lookup nat_eq (cond there rows (rows ++ (place, table) ∷ [])) other ≡ option_or (tables.lookup nat_eq rows other) (tables.lookup nat_eq ((place, table) ∷ []) other)
    by true is = there-first rows place table is other
    by false is = lookup-both rows ((place, table) ∷ []) other

-- ---- instances one by one

-- some of the other's instances were put, and these are to come
abbrev pub IsUniting : InText → InText → InText → InText → Type 0
IsUniting now old rest all = (place : ℕ) → option_or (tables.lookup nat_eq now place) (tables.lookup nat_eq rest place) ≡ option_or (tables.lookup nat_eq old place) (tables.lookup nat_eq all place)

first-row : (place : ℕ) (table : tables.Table Meaning) (rest : InText) (other : ℕ) →
    option_or (tables.lookup nat_eq ((place, table) ∷ []) other) (tables.lookup nat_eq rest other) ≡ tables.lookup nat_eq ((place, table) ∷ rest) other
first-row place table rest other = by (nat_eq other place)
  where
    by : (same : Bool) → option_or (cond same (Some table) None) (tables.lookup nat_eq rest other) ≡ cond same (Some table) (tables.lookup nat_eq rest other)
    by true = refl
    by false = refl

pub unite-next : {Z : Type 0} (rows : List (ℕ × Arc (tables.Table Meaning) Z)) (i place : ℕ) (exports : Arc (tables.Table Meaning) Z) (now new old all : InText) →
    slice_get rows i ≡ Some (place, exports) → new ≡ tables.added nat_eq now place (arc_value exports) → IsUniting now old (in_text (drop i rows)) all → IsUniting new old (in_text (drop (i + 1) rows)) all
unite-next rows i place exports now new old all at is so other =
    let rest = in_text (drop (i + 1) rows) in
    let one : InText = (place, arc_value exports) ∷ [] in
    let late = tables.lookup nat_eq rest other in
    ap (λ z. option_or (tables.lookup nat_eq z other) late) is
    ∙ ap (λ found. option_or found late) (added-united now place (arc_value exports) other)
    ∙ first-assoc (tables.lookup nat_eq now other) (tables.lookup nat_eq one other) late
    ∙ ap (option_or (tables.lookup nat_eq now other)) (first-row place (arc_value exports) rest other)
    ∙ ap (λ z. option_or (tables.lookup nat_eq now other) (tables.lookup nat_eq (in_text z) other)) (sym (drop-at rows i (place, exports) at))
    ∙ so other

pub unite-all : (new old rest all : InText) → rest ≡ [] → IsUniting new old rest all → AreUnited new old all
unite-all new old rest all done so place =
    sym (first-none (tables.lookup nat_eq new place)) ∙ ap (λ z. option_or (tables.lookup nat_eq new place) (tables.lookup nat_eq z place)) (sym done) ∙ so place

-- all of these are there
pub there-next : {Z : Type 0} (rows : List (ℕ × Arc (tables.Table Meaning) Z)) (i place : ℕ) (exports : Arc (tables.Table Meaning) Z) (own all : InText) →
    slice_get rows i ≡ Some (place, exports) → is_some (tables.lookup nat_eq own place) ≡ true → IsUniting own own (in_text (drop i rows)) all → IsUniting own own (in_text (drop (i + 1) rows)) all
there-next rows i place exports own all at there so =
    unite-next rows i place exports own own own all at (ap (λ (b : Bool). cond b own (own ++ (place, arc_value exports) ∷ [])) (sym there)) so

-- what two are united with, one after the other
pub united-both : (part mid first second : InText) → AreUnited mid [] first → AreUnited part mid second → AreUnited part first second
united-both part mid first second one two place = two place ∙ ap (λ found. option_or found (tables.lookup nat_eq second place)) (one place)

-- ---- texts

-- the part of a text is put
pub set-text : {Z : Type 0} (rows : List (String Global × Arc InText Z)) (key : String Global) (part : Arc InText Z) → IsSet (by_text (insert_entry string_eq rows key part)) (by_text rows) (string_bytes key) (arc_value part)
set-text [] key part other = refl
set-text {Z} (row ∷ rows) key part other = by (bytes_eq (string_bytes key) (string_bytes row.0)) refl (set-text rows key part other)
  where
    here : List ℕ
    here = string_bytes row.0

    late : Option InText
    late = tables.lookup bytes_eq (by_text rows) other

    twice : (same : Bool) → cond same (Some (arc_value part)) late ≡ cond same (Some (arc_value part)) (cond same (Some (arc_value row.1)) late)
    twice true = refl
    twice false = refl

    apart : (same mine : Bool) (next : Option InText) → (mine ≡ true → same ≡ false) → next ≡ cond same (Some (arc_value part)) late →
        cond mine (Some (arc_value row.1)) next ≡ cond same (Some (arc_value part)) (cond mine (Some (arc_value row.1)) late)
    apart same true next other_key is = ap (λ (b : Bool). cond b (Some (arc_value part)) (Some (arc_value row.1))) (sym (other_key refl))
    apart same false next other_key is = is

    by : (same : Bool) → bytes_eq (string_bytes key) here ≡ same →
        tables.lookup bytes_eq (by_text (insert_entry string_eq rows key part)) other ≡ cond (bytes_eq other (string_bytes key)) (Some (arc_value part)) late →
        tables.lookup bytes_eq (by_text (cond same ((row.0, part) ∷ rows) (row ∷ insert_entry string_eq rows key part))) other
        ≡ cond (bytes_eq other (string_bytes key)) (Some (arc_value part)) (cond (bytes_eq other here) (Some (arc_value row.1)) late)
    by true is rest =
        twice (bytes_eq other here)
        ∙ ap (λ (k : List ℕ). cond (bytes_eq other k) (Some (arc_value part)) (cond (bytes_eq other here) (Some (arc_value row.1)) late)) (sym (same-text (string_bytes key) here is))
    by false is rest =
        apart (bytes_eq other (string_bytes key)) (bytes_eq other here) (tables.lookup bytes_eq (by_text (insert_entry string_eq rows key part)) other)
        (λ mine. apart-keys (bytes_eq other (string_bytes key)) refl mine) rest
      where
        apart-keys : (b : Bool) → bytes_eq other (string_bytes key) ≡ b → bytes_eq other here ≡ true → bytes_eq other (string_bytes key) ≡ false
        apart-keys false e mine = e
        apart-keys true e mine =
            let both : bytes_eq (string_bytes key) here ≡ true = text-itself (string_bytes key) here (sym (same-text other (string_bytes key) e) ∙ same-text other here mine) in
            let wrong : true ≡ false = sym both ∙ is in cc

-- a part that is there is as if it were put
pub set-itself : (rows : ByText) (title : List ℕ) (part : InText) → tables.lookup bytes_eq rows title ≡ Some part → IsSet rows rows title part
set-itself rows title part is other = by (bytes_eq other title) refl
  where
    by : (same : Bool) → bytes_eq other title ≡ same → tables.lookup bytes_eq rows other ≡ cond same (Some part) (tables.lookup bytes_eq rows other)
    by true e = ap (tables.lookup bytes_eq rows) (same-text other title e) ∙ is
    by false e = refl

-- where a part is put that has what was there and what is added, it is added
pub set-joined : (new old : ByText) (title : List ℕ) (after part : InText) (there : Option InText) → tables.lookup bytes_eq old title ≡ there → IsSet new old title after →
    ((place : ℕ) → tables.lookup nat_eq after place ≡ option_or (in_part there place) (tables.lookup nat_eq part place)) → AreJoined new old ((title, part) ∷ [])
set-joined new old title after part there is set has decl = by (bytes_eq decl.«module» title) refl
  where
    by : (same : Bool) → bytes_eq decl.«module» title ≡ same → reached new decl ≡ option_or (reached old decl) (in_part (cond same (Some part) None) decl.place)
    by true e =
        ap (λ found. in_part found decl.place) (set decl.«module» ∙ ap (λ (b : Bool). cond b (Some after) (tables.lookup bytes_eq old decl.«module»)) e)
        ∙ has decl.place
        ∙ ap (λ found. option_or (in_part found decl.place) (tables.lookup nat_eq part decl.place)) (sym is ∙ ap (tables.lookup bytes_eq old) (sym (same-text decl.«module» title e)))
    by false e =
        ap (λ found. in_part found decl.place) (set decl.«module» ∙ ap (λ (b : Bool). cond b (Some after) (tables.lookup bytes_eq old decl.«module»)) e)
        ∙ sym (first-none (reached old decl))

-- ---- parts one by one

-- some of the other's parts were added, and these are to come
abbrev pub IsJoining : ByText → ByText → ByText → ByText → Type 0
IsJoining now old rest all = (decl : DeclId) → option_or (reached now decl) (reached rest decl) ≡ option_or (reached old decl) (reached all decl)

-- a title that none of the texts has
absent : {Z : Type 0} (rows : List (String Global × Arc InText Z)) (title : String Global) → AllByRecursion (λ other. string_eq title other ≡ false) (keys_of rows) → tables.lookup bytes_eq (by_text rows) (string_bytes title) ≡ None
absent [] title none = refl
absent (row ∷ rows) title none = ap (λ (b : Bool). cond b (Some (arc_value row.1)) (tables.lookup bytes_eq (by_text rows) (string_bytes title))) none.0 ∙ absent rows title none.1

first-text : (title : List ℕ) (part : InText) (rest : ByText) → tables.lookup bytes_eq rest title ≡ None → (decl : DeclId) →
    option_or (reached ((title, part) ∷ []) decl) (reached rest decl) ≡ reached ((title, part) ∷ rest) decl
first-text title part rest none decl = by (bytes_eq decl.«module» title) refl
  where
    by : (same : Bool) → bytes_eq decl.«module» title ≡ same →
        option_or (in_part (cond same (Some part) None) decl.place) (reached rest decl) ≡ in_part (cond same (Some part) (tables.lookup bytes_eq rest decl.«module»)) decl.place
    by true e =
        ap (λ found. option_or (tables.lookup nat_eq part decl.place) (in_part found decl.place)) (ap (tables.lookup bytes_eq rest) (same-text decl.«module» title e) ∙ none)
        ∙ first-none (tables.lookup nat_eq part decl.place)
    by false e = refl

distinct-from : {Z : Type 0} (rows : List (String Global × Arc InText Z)) (i : ℕ) (row : String Global × Arc InText Z) → IsDistinct string_eq (keys_of rows) → slice_get rows i ≡ Some row →
    AllByRecursion (λ other. string_eq row.0 other ≡ false) (keys_of (drop (suc i) rows))
unfolding IsDistinct
distinct-from [] i row distinct at = cc
distinct-from (first ∷ rows) zero row distinct at =
    let same : first ≡ row = cc in
    subst (λ (z : String Global × Arc InText _). AllByRecursion (λ other. string_eq z.0 other ≡ false) (keys_of rows)) same distinct.0
distinct-from (first ∷ rows) (suc i) row distinct at = distinct-from rows i row distinct.1 at

pub join-next : {Z : Type 0} (rows : List (String Global × Arc InText Z)) (i : ℕ) (title : String Global) (part : Arc InText Z) (now new old all : ByText) → IsDistinct string_eq (keys_of rows) →
    slice_get rows i ≡ Some (title, part) → AreJoined new now ((string_bytes title, arc_value part) ∷ []) → IsJoining now old (by_text (drop i rows)) all → IsJoining new old (by_text (drop (i + 1) rows)) all
join-next rows i title part now new old all distinct at joined so decl =
    let rest = by_text (drop (i + 1) rows) in
    let one : ByText = (string_bytes title, arc_value part) ∷ [] in
    let none : tables.lookup bytes_eq rest (string_bytes title) ≡ None = absent (drop (i + 1) rows) title (rw add-one (distinct-from rows i (title, part) distinct at)) in
    ap (λ found. option_or found (reached rest decl)) (joined decl)
    ∙ first-assoc (reached now decl) (reached one decl) (reached rest decl)
    ∙ ap (option_or (reached now decl)) (first-text (string_bytes title) (arc_value part) rest none decl)
    ∙ ap (λ z. option_or (reached now decl) (reached (by_text z) decl)) (sym (drop-at rows i (title, part) at))
    ∙ so decl

pub join-all : (new old rest all : ByText) → rest ≡ [] → IsJoining new old rest all → AreJoined new old all
join-all new old rest all done so decl = sym (first-none (reached new decl)) ∙ ap (λ z. option_or (reached new decl) (reached z decl)) (sym done) ∙ so decl

-- ---- tables in code

pub some-mapped : {A B : Type 0} (f : A → B) (found : Option A) → is_some (option_map f found) ≡ is_some found
some-mapped f None = refl
some-mapped f (Some x) = refl

pub some-there : {Z : Type 0} (rows : List (ℕ × Arc (tables.Table Meaning) Z)) (own : InText) (place : ℕ) → in_text rows ≡ own → is_some (tables.lookup nat_eq own place) ≡ is_some (lookup (λ (key : ℕ). nat_eq place key) rows)
some-there rows own place is =
    ap (λ z. is_some (tables.lookup nat_eq z place)) (sym is) ∙ ap is_some (sym (lookup-place rows place)) ∙ some-mapped (λ (x : Arc (tables.Table Meaning) _). arc_value x) (lookup (λ (key : ℕ). nat_eq place key) rows)

-- an instance that is there stays
pub put-there : {Z : Type 0} (rows : List (ℕ × Arc (tables.Table Meaning) Z)) (own : InText) (place : ℕ) (table : tables.Table Meaning) → in_text rows ≡ own →
    is_some (lookup (λ (key : ℕ). nat_eq place key) rows) ≡ true → own ≡ tables.added nat_eq own place table
put-there rows own place table is there = ap (λ (b : Bool). cond b own (own ++ (place, table) ∷ [])) (sym (some-there rows own place is ∙ there))

in_text-append : {Z : Type 0} (a b : List (ℕ × Arc (tables.Table Meaning) Z)) → in_text (a ++ b) ≡ in_text a ++ in_text b
in_text-append [] b = refl
in_text-append (row ∷ a) b = ap (λ z. (row.0, arc_value row.1) ∷ z) (in_text-append a b)

-- one that is not goes last
pub put-new : {Z S : Type 0} (table : IndexMap ℕ (Arc (tables.Table Meaning) Z) S) (rows : List (ℕ × Arc (tables.Table Meaning) Z)) (own : InText) (place : ℕ) (exports : Arc (tables.Table Meaning) Z) → in_text table.entries ≡ own →
    is_some (lookup (λ (key : ℕ). nat_eq place key) table.entries) ≡ false → rows ≡ insert_entry nat_eq table.entries place exports → in_text rows ≡ tables.added nat_eq own place (arc_value exports)
put-new table rows own place exports is none put =
    ap in_text (put ∙ insert_entry-new nat_eq table place exports (none-there (lookup (λ (key : ℕ). nat_eq place key) table.entries) none))
    ∙ in_text-append table.entries ((place, exports) ∷ [])
    ∙ ap (λ z. z ++ (place, arc_value exports) ∷ []) is
    ∙ ap (λ (b : Bool). cond b own (own ++ (place, arc_value exports) ∷ [])) (sym (some-there table.entries own place is ∙ none))

-- the part of a text is put in place of one that is there
pub set-new : {Z : Type 0} (before rows : List (String Global × Arc InText Z)) (own : ByText) (key : String Global) (title : List ℕ) (part : Arc InText Z) → by_text before ≡ own → string_bytes key ≡ title →
    rows ≡ insert_entry string_eq before key part → IsSet (by_text rows) own title (arc_value part)
set-new before rows own key title part is named put other =
    ap (λ z. tables.lookup bytes_eq (by_text z) other) put ∙ set-text before key part other
    ∙ (λ i. cond (bytes_eq other (named i)) (Some (arc_value part)) (tables.lookup bytes_eq (is i) other))

-- nothing is there of the text
pub join-none : (new old : ByText) (title : List ℕ) (part : InText) → tables.lookup bytes_eq old title ≡ None → IsSet new old title part → AreJoined new old ((title, part) ∷ [])
join-none new old title part none set = set-joined new old title part part None none set (λ place. refl)

-- something is, and it has all
pub join-some : (new old : ByText) (title : List ℕ) (first after part : InText) → tables.lookup bytes_eq old title ≡ Some first → AreUnited after first part → IsSet new old title after → AreJoined new old ((title, part) ∷ [])
join-some new old title first after part some united set = set-joined new old title after part (Some first) some set united

-- what is found in code
pub found-text : {Z : Type 0} (rows : List (String Global × Arc InText Z)) (own : ByText) (title : List ℕ) (found : Option (Bor (Arc InText Z))) → by_text rows ≡ own →
    option_copied found ≡ lookup (λ (key : String Global). bytes_eq title (string_bytes key)) rows → tables.lookup bytes_eq own title ≡ option_map (λ (x : Arc InText Z). arc_value x) (option_copied found)
found-text rows own title found is got =
    ap (λ z. tables.lookup bytes_eq z title) (sym is) ∙ sym (lookup-text rows title) ∙ ap (option_map (λ (x : Arc InText _). arc_value x)) (sym got)
