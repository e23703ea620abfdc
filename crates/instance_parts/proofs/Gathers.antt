-- Steps by which instances are gathered.
use Rattle.std.proofs.Common.{◌≡◌, ◌<◌, ℕ, zero, suc, arith, length, Bool, true, false, cond, List, [], ◌∷◌, ◌++◌, Option, Some, None, is_some, nat_eq, slice_set, refl, ap, sym, subst, ◌∙◌, true≢false}
use Rattle.std.specs.Prelude.{⊤, slice_get}
use Rattle.std.specs.Option.{option_or}
use Rattle.std.specs.Str.{bytes_eq}
use Rattle.std.proofs.lemmas.Bool.{eq-eqb, eqb-true}
use Rattle.tla_model.specs.declared.ids.DeclId.{DeclId}
use Rattle.tla_model.specs.Entities.{Meaning, same_decl}
use Rattle.tla_model.specs.Tables.{Table, added, lookup}
use Rattle.module_model.specs.declared.face.Face.{Face}
use Rattle.module_model.specs.Exports.{Exports, Instances, exports_of, standing}
use Rattle.module_model.specs.Given.{AreFaces, imported}
use Rattle.module_model.specs.Imports.{Imports}
use Rattle.module_model.specs.Parts.{AreJoined, ByText, InText, in_part, reached}
use Rattle.tree_tasks.specs.declared.held.Held.{Held}
use Rattle.tree_tasks.specs.declared.held.Held.TheVariants.{Nowhere, Imported, Reached, Nested}
use Rattle.instance_leads.specs.declared.ended.Ended.{Ended}
use Rattle.instance_scope.specs.declared.scope.Scope.{Scope}
use Rattle.list_laws.proofs.Texts.{same-text, text-itself}
use Rattle.instance_parts.specs.Gathering.{AreGathered, AreTaken, HaveGrown, IsClosed, IsForeign, IsOwn, IsTold, exported_at, told_by}
use Rattle.instance_leads.specs.Keys.{decl_of}
use Rattle.instance_leads.specs.Leading.{IsOfImport}
use Rattle.instance_scope.specs.Scoped.{IsBroughtBy, IsSound}

abbrev Found : Type 0
Found = Option (Table Meaning)

-- what was told stays told, what was seen stays seen
pub told-on : (before after : Instances) → ((decl : DeclId) (entries : Exports) → before decl ≡ Some entries → after decl ≡ Some entries) → (face : Face) → IsTold before face → IsTold after face
told-on before after more face all decl entries is = more decl entries (all decl entries is)

pub closed-on : (before after : Instances) (some more : List Bool) → HaveGrown before after some more → (held : Held) → IsClosed before some held → IsClosed after more held
closed-on before after some more grown Nowhere closed = tt
closed-on before after some more grown (Imported face) closed = told-on before after grown.told face.now closed
closed-on before after some more grown (Reached face exports) closed = told-on before after grown.told face.now closed
closed-on before after some more grown (Nested number) closed = grown.seen number closed

-- the same test cannot pass and fail
pub both : {P : Type 0} → (b : Bool) → b ≡ true → b ≡ false → P
both b passes fails = absurd (true≢false (sym passes ∙ fails))

-- ---- tables by numbers

lookup-kept : {V : Type 0} (entries : List (ℕ × V)) (key : ℕ) (value : V) (other : ℕ) (found : V) → lookup nat_eq entries other ≡ Some found → lookup nat_eq (added nat_eq entries key value) other ≡ Some found
lookup-kept entries key value other found is = by (is_some (lookup nat_eq entries key))
  where
    by : (b : Bool) → lookup nat_eq (cond b entries (entries ++ (key, value) ∷ [])) other ≡ Some found
    by true = is
    by false = behind entries is
      where
        behind : (xs : List (ℕ × _)) → lookup nat_eq xs other ≡ Some found → lookup nat_eq (xs ++ (key, value) ∷ []) other ≡ Some found
        behind [] none = cc
        behind (x ∷ xs) there = at (nat_eq other x.0) there (behind xs)
          where
            at : (b : Bool) → cond b (Some x.1) (lookup nat_eq xs other) ≡ Some found → (lookup nat_eq xs other ≡ Some found → lookup nat_eq (xs ++ (key, value) ∷ []) other ≡ Some found) → cond b (Some x.1) (lookup nat_eq (xs ++ (key, value) ∷ []) other) ≡ Some found
            at true e rest = e
            at false e rest = rest e

behind-all : {V : Type 0} (xs : List (ℕ × V)) (key : ℕ) (value : V) (other : ℕ) → lookup nat_eq xs other ≡ None → lookup nat_eq (xs ++ (key, value) ∷ []) other ≡ cond (nat_eq other key) (Some value) None
behind-all [] key value other none = refl
behind-all (x ∷ xs) key value other none = at (nat_eq other x.0) none (behind-all xs key value other)
  where
    at : (b : Bool) → cond b (Some x.1) (lookup nat_eq xs other) ≡ None → (lookup nat_eq xs other ≡ None → lookup nat_eq (xs ++ (key, value) ∷ []) other ≡ cond (nat_eq other key) (Some value) None) → cond b (Some x.1) (lookup nat_eq (xs ++ (key, value) ∷ []) other) ≡ cond (nat_eq other key) (Some value) None
    at true e rest = cc
    at false e rest = rest e

lookup-put : {V : Type 0} (entries : List (ℕ × V)) (key : ℕ) (value : V) → lookup nat_eq entries key ≡ None → lookup nat_eq (added nat_eq entries key value) key ≡ Some value
lookup-put entries key value none =
    ap (λ found. lookup nat_eq (cond (is_some found) entries (entries ++ (key, value) ∷ [])) key) none
    ∙ behind-all entries key value key none ∙ ap (λ b. cond b (Some value) None) (eq-eqb key key refl)

lookup-other : {V : Type 0} (entries : List (ℕ × V)) (key : ℕ) (value : V) (other : ℕ) → nat_eq other key ≡ false → lookup nat_eq (added nat_eq entries key value) other ≡ lookup nat_eq entries other
lookup-other entries key value other apart = by (is_some (lookup nat_eq entries key))
  where
    by : (b : Bool) → lookup nat_eq (cond b entries (entries ++ (key, value) ∷ [])) other ≡ lookup nat_eq entries other
    by true = refl
    by false = behind entries
      where
        behind : (xs : List (ℕ × _)) → lookup nat_eq (xs ++ (key, value) ∷ []) other ≡ lookup nat_eq xs other
        behind [] = ap (λ b. cond b (Some value) None) apart
        behind (x ∷ xs) = ap (λ rest. cond (nat_eq other x.0) (Some x.1) rest) (behind xs)

some-same : (a b : Held) → Some a ≡ Some b → a ≡ b
some-same a b e = cc

some-equal : (a b : Exports) → Some a ≡ Some b → a ≡ b
some-equal a b e = cc

set-more : (seen : List Bool) (number other : ℕ) → slice_get seen other ≡ Some true → slice_get (slice_set seen number true) other ≡ Some true
set-more [] number other is = cc
set-more (x ∷ seen) zero zero is = refl
set-more (x ∷ seen) zero (suc other) is = is
set-more (x ∷ seen) (suc number) zero is = is
set-more (x ∷ seen) (suc number) (suc other) is = set-more seen number other is

pub set-at : (seen : List Bool) (number : ℕ) → number < length seen → slice_get (slice_set seen number true) number ≡ Some true
set-at [] number within = absurd (omega (arith, within))
set-at (x ∷ seen) zero within = refl
set-at (x ∷ seen) (suc number) within = set-at seen number (omega (arith, within))

pub set-apart : (seen : List Bool) (number other : ℕ) → number < other → slice_get (slice_set seen number true) other ≡ slice_get seen other
set-apart [] number other apart = refl
set-apart (x ∷ seen) zero zero apart = absurd (omega (arith, apart))
set-apart (x ∷ seen) zero (suc other) apart = refl
set-apart (x ∷ seen) (suc number) zero apart = absurd (omega (arith, apart))
set-apart (x ∷ seen) (suc number) (suc other) apart = set-apart seen number other (omega (arith, apart))

pub set-length : (seen : List Bool) (number : ℕ) → length (slice_set seen number true) ≡ length seen
set-length [] number = refl
set-length (x ∷ seen) zero = refl
set-length (x ∷ seen) (suc number) = ap suc (set-length seen number)

module _ (title : List ℕ) (mine : InText) where
  -- the part of the text holds instances of the text alone
  own-only : (decl : DeclId) → bytes_eq decl.«module» title ≡ false → reached ((title, mine) ∷ []) decl ≡ None
  own-only decl other = ap (λ b. in_part (cond b (Some mine) None) decl.place) other

  own-at : (decl : DeclId) → bytes_eq decl.«module» title ≡ true → reached ((title, mine) ∷ []) decl ≡ lookup nat_eq mine decl.place
  own-at decl same = ap (λ b. in_part (cond b (Some mine) None) decl.place) same

module _ (scope : Scope) (sound : IsSound scope) (mine : InText) (parts : ByText) (seen : List Bool) (gathered : AreGathered scope mine parts seen) where
  abbrev title : List ℕ
  title = scope.title.now

  abbrev told : Instances
  told = told_by title mine parts

  abbrev own : DeclId → Found
  own decl = reached ((title, mine) ∷ []) decl

  -- what parts tell
  parts-tell : (decl : DeclId) (table : Table Meaning) → reached parts decl ≡ Some table → told decl ≡ Some (exports_of table)
  parts-tell decl table is = ap (λ found. standing (option_or found (own decl))) is

  parts-foreign : (decl : DeclId) (table : Table Meaning) → reached parts decl ≡ Some table → bytes_eq decl.«module» title ≡ false
  parts-foreign decl table is = gathered.apart decl (exports_of table) (ap standing is)

  -- instances of the text are in no parts
  none-own : (decl : DeclId) → bytes_eq decl.«module» title ≡ true → reached parts decl ≡ None
  none-own decl mine = by (reached parts decl) refl
    where
      by : (found : Found) → reached parts decl ≡ found → found ≡ None
      by None is = refl
      by (Some table) is = both (bytes_eq decl.«module» title) mine (parts-foreign decl table is)

  -- ---- all instances of an import

  module _ (face : Face) (of : IsOfImport scope.imported.now face) (all : ByText) (joined : AreJoined all parts face.parts) where
    abbrev more : Instances
    more = told_by title mine all

    face-foreign : (decl : DeclId) (table : Table Meaning) → reached face.parts decl ≡ Some table → bytes_eq decl.«module» title ≡ false
    face-foreign decl table is = sound.faces.foreign of.name face of.is decl (exports_of table) (ap standing is)

    -- by what the parts held, and by what the face tells
    more-by : (decl : DeclId) (one two : Found) → reached parts decl ≡ one → reached face.parts decl ≡ two → more decl ≡ standing (option_or (option_or one two) (own decl))
    more-by decl one two is at = ap (λ found. standing (option_or found (own decl))) (joined decl ∙ (λ i. option_or (is i) (at i)))

    join-told : (decl : DeclId) (entries : Exports) → told decl ≡ Some entries → more decl ≡ Some entries
    join-told decl entries is = by (reached parts decl) (reached face.parts decl) refl refl
      where
        by : (one two : Found) → reached parts decl ≡ one → reached face.parts decl ≡ two → more decl ≡ Some entries
        by (Some table) two here there = more-by decl (Some table) two here there ∙ sym (parts-tell decl table here) ∙ is
        by None None here there = more-by decl None None here there ∙ ap (λ found. standing (option_or found (own decl))) (sym here) ∙ is
        by None (Some table) here there =
            let none : told decl ≡ None = (λ i. standing (option_or (here i) (own-only title mine decl (face-foreign decl table there) i))) in
            absurd (differ entries (sym is ∙ none))
          where
            differ : (x : Exports) → Some x ≡ None → ⊥
            differ x e = cc

    pub join-all : IsTold more face
    join-all decl entries is = by (reached parts decl) (reached face.parts decl) refl refl
      where
        by : (one two : Found) → reached parts decl ≡ one → reached face.parts decl ≡ two → more decl ≡ Some entries
        by one None here there = absurd (differ entries (sym is ∙ ap standing there))
          where
            differ : (x : Exports) → Some x ≡ None → ⊥
            differ x e = cc
        by None (Some table) here there = more-by decl None (Some table) here there ∙ sym (ap standing there) ∙ is
        by (Some table) (Some other) here there =
            let foreign : IsForeign scope told decl (exports_of table) = gathered.foreign decl (exports_of table) (parts-foreign decl table here) (parts-tell decl table here) in
            more-by decl (Some table) (Some other) here there ∙ ap Some (sound.faces.agree foreign.name of.name foreign.face face foreign.import of.is decl (exports_of table) entries foreign.stands is)

    pub join-grown : HaveGrown told more seen seen
    join-grown = record { told = join-told; seen = λ number is. is }

    own-before : (decl : DeclId) (entries : Exports) → bytes_eq decl.«module» title ≡ true → more decl ≡ Some entries → told decl ≡ Some entries
    own-before decl entries mine is = by (reached face.parts decl) refl
      where
        by : (two : Found) → reached face.parts decl ≡ two → told decl ≡ Some entries
        by None there = ap (λ found. standing (option_or found (own decl))) (none-own decl mine) ∙ sym (more-by decl None None (none-own decl mine) there) ∙ is
        by (Some table) there = both (bytes_eq decl.«module» title) mine (face-foreign decl table there)

    pub join-gathered : AreGathered scope mine all seen
    join-gathered = record {
      own = λ decl entries mine is. let before : IsOwn scope told seen decl entries = gathered.own decl entries mine (own-before decl entries mine is) in
          record { held = before.held; known = before.known; same = before.same; closed = closed-on told more seen seen join-grown before.held before.closed };
      foreign = λ decl entries other is. foreign decl entries other is (reached parts decl) (reached face.parts decl) refl refl;
      apart = λ decl entries is. apart decl entries is (reached parts decl) (reached face.parts decl) refl refl;
    }
      where
        foreign : (decl : DeclId) (entries : Exports) → bytes_eq decl.«module» title ≡ false → more decl ≡ Some entries → (one two : Found) → reached parts decl ≡ one → reached face.parts decl ≡ two → IsForeign scope more decl entries
        foreign decl entries other is (Some table) two here there =
            let before : IsForeign scope told decl entries = gathered.foreign decl entries other (parts-tell decl table here ∙ sym (more-by decl (Some table) two here there) ∙ is) in
            record { name = before.name; face = before.face; import = before.import; stands = before.stands; all = told-on told more join-told before.face before.all }
        foreign decl entries other is None (Some table) here there =
            record { name = of.name; face = face; import = of.is; stands = ap standing there ∙ sym (more-by decl None (Some table) here there) ∙ is; all = join-all }
        foreign decl entries other is None None here there =
            absurd (differ entries (sym is ∙ more-by decl None None here there ∙ ap standing (own-only title mine decl other)))
          where
            differ : (x : Exports) → Some x ≡ None → ⊥
            differ x e = cc

        apart : (decl : DeclId) (entries : Exports) → standing (reached all decl) ≡ Some entries → (one two : Found) → reached parts decl ≡ one → reached face.parts decl ≡ two → bytes_eq decl.«module» title ≡ false
        apart decl entries is (Some table) two here there = parts-foreign decl table here
        apart decl entries is None (Some table) here there = face-foreign decl table there
        apart decl entries is None None here there = absurd (differ entries (sym is ∙ ap standing (joined decl ∙ (λ i. option_or (here i) (there i)))))
          where
            differ : (x : Exports) → Some x ≡ None → ⊥
            differ x e = cc

  -- ---- an instance of the text

  module _ (place : ℕ) (table : Table Meaning) (held : Held) (known : lookup same_decl scope.known (decl_of title place) ≡ Some held) (closed : IsClosed told seen held) (same : exports_of table ≡ exported_at scope.nested.items held) where
    abbrev with_own : InText
    with_own = added nat_eq mine place table

    abbrev put : Instances
    put = told_by title with_own parts

    -- a place that is there keeps what is there
    kept-at : (other : ℕ) (found : Table Meaning) → lookup nat_eq mine other ≡ Some found → lookup nat_eq with_own other ≡ Some found
    kept-at other found is = lookup-kept mine place table other found is

    put-told : (decl : DeclId) (entries : Exports) → told decl ≡ Some entries → put decl ≡ Some entries
    put-told decl entries is = by (reached parts decl) refl
      where
        by : (one : Found) → reached parts decl ≡ one → put decl ≡ Some entries
        by (Some found) here = ap (λ z. standing (option_or z (reached ((title, with_own) ∷ []) decl))) here ∙ sym (parts-tell decl found here) ∙ is
        by None here = in-text (bytes_eq decl.«module» title) refl (own decl) refl
          where
            in-text : (b : Bool) → bytes_eq decl.«module» title ≡ b → (two : Found) → own decl ≡ two → put decl ≡ Some entries
            in-text b e None there = absurd (differ entries (sym is ∙ (λ i. standing (option_or (here i) (there i)))))
              where
                differ : (x : Exports) → Some x ≡ None → ⊥
                differ x e = cc
            in-text true e (Some found) there =
                (λ i. standing (option_or (here i) ((own-at title with_own decl e ∙ kept-at decl.place found (sym (own-at title mine decl e) ∙ there)) i)))
                ∙ sym (λ i. standing (option_or (here i) (there i))) ∙ is
            in-text false e (Some found) there = absurd (differ found (sym there ∙ own-only title mine decl e))
              where
                differ : (x : Table Meaning) → Some x ≡ None → ⊥
                differ x e = cc

    -- what is told of the instance that is put
    pub put-is : put (decl_of title place) ≡ Some (exported_at scope.nested.items held)
    put-is = by (lookup nat_eq mine place) refl
      where
        here : reached parts (decl_of title place) ≡ None
        here = none-own (decl_of title place) (text-itself title title refl)

        at : own (decl_of title place) ≡ lookup nat_eq mine place
        at = own-at title mine (decl_of title place) (text-itself title title refl)

        by : (found : Found) → lookup nat_eq mine place ≡ found → put (decl_of title place) ≡ Some (exported_at scope.nested.items held)
        by None is =
            (λ i. standing (option_or (here i) ((own-at title with_own (decl_of title place) (text-itself title title refl) ∙ lookup-put mine place table is) i))) ∙ ap Some same
        by (Some found) is =
            let before : told (decl_of title place) ≡ Some (exports_of found) = (λ i. standing (option_or (here i) ((at ∙ is) i))) in
            let one : IsOwn scope told seen (decl_of title place) (exports_of found) = gathered.own (decl_of title place) (exports_of found) (text-itself title title refl) before in
            put-told (decl_of title place) (exports_of found) before ∙ ap Some (one.same ∙ ap (exported_at scope.nested.items) (some-same one.held held (sym one.known ∙ known)))

    pub put-grown : HaveGrown told put seen seen
    put-grown = record { told = put-told; seen = λ number is. is }

    pub put-gathered : AreGathered scope with_own parts seen
    put-gathered = record {
      own = λ decl entries mine is. own-put decl entries mine is (nat_eq decl.place place) refl;
      foreign = λ decl entries other is.
          let before : IsForeign scope told decl entries = gathered.foreign decl entries other (ap (λ z. standing (option_or (reached parts decl) z)) (own-only title mine decl other ∙ sym (own-only title with_own decl other)) ∙ is) in
          record { name = before.name; face = before.face; import = before.import; stands = before.stands; all = told-on told put put-told before.face before.all };
      apart = gathered.apart;
    }
      where
        own-put : (decl : DeclId) (entries : Exports) → bytes_eq decl.«module» title ≡ true → put decl ≡ Some entries → (b : Bool) → nat_eq decl.place place ≡ b → IsOwn scope put seen decl entries
        own-put decl entries mine is true e =
            let that : decl ≡ decl_of title place = (λ i. record { «module» = same-text decl.«module» title mine i; place = eqb-true decl.place place e i }) in
            record { held = held; known = ap (lookup same_decl scope.known) that ∙ known; same = some-equal entries (exported_at scope.nested.items held) (sym is ∙ ap put that ∙ put-is); closed = closed-on told put seen seen put-grown held closed }
        own-put decl entries of is false e =
            let before : told decl ≡ Some entries = (ap (λ z. standing (option_or (reached parts decl) z)) (own-at title mine decl of ∙ sym (lookup-other mine place table decl.place e) ∙ sym (own-at title with_own decl of))) ∙ is in
            let one : IsOwn scope told seen decl entries = gathered.own decl entries of before in
            record { held = one.held; known = one.known; same = one.same; closed = closed-on told put seen seen put-grown one.held one.closed }

-- ---- a nested module that is seen

module _ (scope : Scope) (mine : InText) (parts : ByText) (seen : List Bool) (number : ℕ) (within : number < length seen) where
  pub mark-more : (other : ℕ) → slice_get seen other ≡ Some true → slice_get (slice_set seen number true) other ≡ Some true
  mark-more other is = set-more seen number other is

  pub mark-grown : HaveGrown (told_by scope.title.now mine parts) (told_by scope.title.now mine parts) seen (slice_set seen number true)
  mark-grown = record { told = λ decl entries is. is; seen = mark-more }

  pub mark-gathered : AreGathered scope mine parts seen → AreGathered scope mine parts (slice_set seen number true)
  mark-gathered gathered = record {
    own = λ decl entries of is. let one : IsOwn scope (told_by scope.title.now mine parts) seen decl entries = gathered.own decl entries of is in
        record { held = one.held; known = one.known; same = one.same; closed = closed-on _ _ seen (slice_set seen number true) mark-grown one.held one.closed };
    foreign = gathered.foreign;
    apart = gathered.apart;
  }

-- an instance of another text is told of where all is told that stands behind its place
pub brought-told : (imports : Imports) (nested : List Ended) (told : Instances) (seen : List Bool) (decl : DeclId) (held : Held) → IsBroughtBy imports decl held → IsClosed told seen held → told decl ≡ Some (exported_at nested held)
brought-told imports nested told seen decl held brought closed =
    subst (λ h. IsClosed told seen h → told decl ≡ Some (exported_at nested h)) (sym brought.is) (λ all. all decl (exports_of brought.table.now) brought.stands) closed

-- ---- imports all whose instances are told

noted-cases : {V : Type 0} (noted : List (List ℕ × V)) (key name : List ℕ) (value : V) (P : Type 0) → is_some (lookup bytes_eq (noted ++ (key, value) ∷ []) name) ≡ true → (is_some (lookup bytes_eq noted name) ≡ true → P) → (name ≡ key → P) → P
noted-cases [] key name value P there before now = by (bytes_eq name key) refl there
  where
    by : (b : Bool) → bytes_eq name key ≡ b → is_some (cond b (Some value) None) ≡ true → P
    by true same there = now (same-text name key same)
    by false same there = absurd (true≢false (sym there))
noted-cases (one ∷ noted) key name value P there before now = by (bytes_eq name one.0) there before (noted-cases noted key name value P)
  where
    by : (b : Bool) → is_some (cond b (Some one.1) (lookup bytes_eq (noted ++ (key, value) ∷ []) name)) ≡ true → (is_some (cond b (Some one.1) (lookup bytes_eq noted name)) ≡ true → P) →
        (is_some (lookup bytes_eq (noted ++ (key, value) ∷ []) name) ≡ true → (is_some (lookup bytes_eq noted name) ≡ true → P) → (name ≡ key → P) → P) → P
    by true there before rest = before refl
    by false there before rest = rest there before now

face-equal : (a b : Face) → Some a ≡ Some b → a ≡ b
face-equal a b e = cc

pub taken-on : (imports : Imports) (noted : List (List ℕ × ⊤)) (before after : Instances) (first later : List Bool) → HaveGrown before after first later → AreTaken imports noted before → AreTaken imports noted after
taken-on imports noted before after first later grown taken = λ name face there is. told-on before after grown.told face (taken name face there is)

-- what is told of an import whose module is noted
pub taken-is : (imports : Imports) (name : List ℕ) (noted : List (List ℕ × ⊤)) (said : Instances) (face : Face) → AreFaces imports name → IsOfImport imports face → AreTaken imports noted said → is_some (lookup bytes_eq noted face.«module») ≡ true → IsTold said face
taken-is imports name noted said face faces of taken there = taken of.name face (ap (λ key. is_some (lookup bytes_eq noted key)) (sym (faces.named of.name face of.is)) ∙ there) of.is

-- one import more is noted
pub taken-more : (imports : Imports) (name : List ℕ) (noted new : List (List ℕ × ⊤)) (before after : Instances) (first later : List Bool) (face : Face) → AreFaces imports name → IsOfImport imports face → HaveGrown before after first later → IsTold after face → AreTaken imports noted before →
    new ≡ noted ++ (face.«module», tt) ∷ [] → AreTaken imports new after
taken-more imports name noted new before after first later face faces of grown all taken is = λ key other there at.
    noted-cases noted face.«module» key tt (IsTold after other) (ap (λ z. is_some (lookup bytes_eq z key)) (sym is) ∙ there)
    (λ old. told-on before after grown.told other (taken key other old at))
    (λ same. subst (IsTold after) (face-equal face other (sym of.is ∙ ap (imported imports) (sym (same ∙ faces.named of.name face of.is)) ∙ at)) all)
