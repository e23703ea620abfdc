-- Modules that are extended come through instances that let their symbols stand.
use Rattle.std.proofs.Common.{◌≡◌, inl, inr, ℕ, zero, suc, ◌+◌, Bool, true, false, cond, List, [], ◌∷◌, ◌++◌, Option, Some, None, map, refl, sym, ap, ◌∙◌, subst, length, arith}
use Rattle.std.specs.Prelude.{◌⊎◌, ◌&&◌, slice_get}
use Rattle.std.specs.List.{AllByRecursion}
use Rattle.std.proofs.lemmas.List.{length-append, length-map}
use Rattle.std.proofs.lemmas.Bool.{and_parts}
use Rattle.std.proofs.lemmas.Bool.Decides.{Decides-eqb}
use Rattle.tla_model.specs.declared.ids.Callee.{Callee}
use Rattle.tla_symbols.specs.declared.lexeme.Lexeme.{Lexeme}
use Rattle.tla_model.specs.declared.entity.Entity.TheVariants as entity
use Rattle.tla_model.specs.declared.names.Meaning.TheVariants.{BuiltIn, Declared}
use Rattle.tla_model.specs.Contexts.{Context, meaning_of}
use Rattle.tla_model.specs.Entities.{Entity, Meaning, Text, same_meaning}
use Rattle.tla_model.specs.Lexemes.{spelled}
use Rattle.tla_model.specs.Tables.{Named}
use Rattle.module_scope.specs.Environments.{Environment, Scope, meaning as module_meaning}
use Rattle.tla_model.specs.EntityKinds.{is_meant, stands_behind}
use Rattle.module_model.specs.Exports.{Exports, Known, ModuleView, behind_meaning, exported, exports_by, instantiable}
use Rattle.module_model.specs.Modules.{Reading, brings, clashes, exports_under, extended, extends_all, joined, with_entry}
use Rattle.kind_text.specs.FlatModule.{FlatModule, IsOrdered, Replacement}
use Rattle.tree_kinds.specs.Standing.{Outside, name_among, operator_places}
use Rattle.module_kinds.specs.ModuleKinds.{named_in, views}
use Rattle.flat_trees.specs.Stands.{Stand, Unsaid, Leaf, Place, Defined, Through, Brought}
use Rattle.flat_trees.specs.Layouts.{Layout, coming_stand, order_of, with_brought}
use Rattle.flat_trees.specs.Instances.{StaysIn, symbols_of}
use Rattle.flat_trees.proofs.Instances.{parameter-stays}
use Rattle.tla_model.specs.Same.{same-alike}
use Rattle.tree_kinds.proofs.Standings.{standing-unlike}
use Rattle.flat_kinds.specs.Readings.{Extension, IsExtension, extended_entries}
use Rattle.flat_kinds.specs.Symbols.{same_declared, same_symbol, symbols_at}
use Rattle.flattened_trees.specs.Agreeing.{TakesAs, TakesBehind, is_seen, unsaid_stand}
use Rattle.flattened_trees.specs.Leads.{FlatFace, Leads, Setting}
use Rattle.flattened_trees.specs.NodeForms.{name_node}
use Rattle.flattened_meanings.proofs.Instances.{staying-many, staying-stays}
use Rattle.flattened_units.specs.Units.{AreExtended, AreShared, IsExtension as IsExtensionMade, face_in, with_brought as with_brought_leads, meanings_of}
use Rattle.module_meanings.specs.Following.{AreAlike, AreExtendedSo, LeadsBy}
use Rattle.module_meanings.specs.Faces.{IsExtendedBy, IsPlaced, LeadsAs}
use Rattle.module_meanings.specs.Premises.{AllCome, extended_meanings}
use Rattle.module_meanings.proofs.Contexts.{IsEntry, entry-seen, joined-means, seen-left, seen-right, unseen-parts}
use Rattle.module_meanings.proofs.Leads.{brought-lead, lead-place, leads-as}
use Rattle.module_meanings.proofs.Units.{comes-takes}

-- ---- replacements by their places

front-at : (xs ys : List Replacement) (i : ℕ) (r : Replacement) → slice_get xs i ≡ Some r → slice_get (xs ++ ys) i ≡ Some r
front-at [] ys i r e = cc e
front-at (x ∷ xs) ys zero r e = e
front-at (x ∷ xs) ys (suc i) r e = front-at xs ys i r e

behind-at : (xs ys : List Replacement) (i : ℕ) → slice_get (xs ++ ys) (length xs + i) ≡ slice_get ys i
behind-at [] ys i = let e : 0 + i ≡ i = omega arith in ap (slice_get ys) e
behind-at (x ∷ xs) ys i = let e : suc (length xs) + i ≡ suc (length xs + i) = omega arith in ap (slice_get (x ∷ (xs ++ ys))) e ∙ behind-at xs ys i

-- ---- the same symbol

pub declared-equal : (e f : Entity) → same_declared e f ≡ true → e ≡ f
declared-equal (entity.Constant m) (entity.Constant n) same = ap entity.Constant ((Decides-eqb m n).0 same)
declared-equal entity.Variable entity.Variable same = refl
declared-equal e f same = cc same

pub symbol-alike : (a b c : Meaning) → same_symbol a b ≡ true → same_symbol a c ≡ same_symbol b c
symbol-alike BuiltIn b c same = cc same
symbol-alike (Declared e x) BuiltIn c same = cc same
symbol-alike (Declared e x) (Declared f y) BuiltIn same = refl
symbol-alike (Declared e x) (Declared f y) (Declared g z) same =
    let parts = and_parts (same_declared e f) (same_meaning (Declared e x) (Declared f y)) same in
    ap (λ h. same_declared h g && same_meaning (Declared e x) (Declared g z)) (declared-equal e f parts.0)
    ∙ ap (λ (b : Bool). same_declared f g && b) (same-alike (Declared e x) (Declared f y) (Declared g z) parts.1)

pub symbols-alike : (base : Meaning → Stand) (symbols : List Meaning) (place : ℕ) → AreAlike base → AreAlike (symbols_at base symbols place)
symbols-alike base [] place alike a b same = alike a b same
symbols-alike base (s ∷ rest) place alike a b same =
    ap (λ (t : Bool). cond t (Place place (order_of s)) (symbols_at base rest (suc place) a)) (symbol-alike a b s same)
    ∙ ap (λ (stand : Stand). cond (same_symbol b s) (Place place (order_of s)) stand) (symbols-alike base rest (suc place) alike a b same)

pub unsaid-alike : AreAlike unsaid_stand
unsaid-alike BuiltIn b same = cc same
unsaid-alike (Declared e x) BuiltIn same = cc same
unsaid-alike (Declared (entity.Constant m) x) (Declared (entity.Constant n) y) same = refl
unsaid-alike (Declared entity.Variable x) (Declared entity.Variable y) same = refl
unsaid-alike (Declared e x) (Declared f y) same =
    let parts = and_parts (same_declared e f) (same_meaning (Declared e x) (Declared f y)) same in
    ap (λ h. unsaid_stand (Declared h x)) (declared-equal e f parts.0) ∙ other f x y
  where
    other : (g : Entity) (a b : Callee) → unsaid_stand (Declared g a) ≡ unsaid_stand (Declared g b)
    other (entity.Bound state) a b = refl
    other g a b = refl

-- a symbol has a place, and its name leads there
abbrev IsPlacedAs : Leads → Leads → Meaning → Type 0
IsPlacedAs leads symbols meaning = IsPlaced symbols meaning × (leads meaning [] ≡ symbols meaning [])

-- ---- symbols that stay

module _ (flat : FlatModule) (ordered : IsOrdered flat) where
  front-stays : (staying made : List Replacement) (base here : Stand) → StaysIn flat staying base here → StaysIn flat (staying ++ made) base here
  front-stays staying made Unsaid here stays = tt
  front-stays staying made (Leaf kind) here stays = stays
  front-stays staying made (Place place order) here (r, now, at, is, same) = (r, now, front-at staying made place r at, is, same)
  front-stays staying made (Defined d orders) here stays = absurd stays
  front-stays staying made (Through j orders inner) here stays = absurd stays
  front-stays staying made (Brought j inner) here stays = absurd stays

  shared-many : (leads : Leads) (parameters : Exports) (made : List Replacement) → AreShared flat leads parameters made → length made ≡ length parameters
  shared-many leads [] [] all = refl
  shared-many leads [] (r ∷ made) all = absurd all
  shared-many leads (p ∷ ps) [] all = absurd all
  shared-many leads (p ∷ ps) (r ∷ made) all = ap suc (shared-many leads ps made all.2)

  module _ (leads symbols : Leads) (base here : Meaning → Stand) (leads-here : LeadsBy here symbols) (alike : AreAlike here) (all : List Replacement) where
    shared-stays : (parameters : Exports) (made : List Replacement) (number : ℕ) → ((i : ℕ) → slice_get all (number + i) ≡ slice_get made i) → AreShared flat leads parameters made → AllByRecursion (IsPlacedAs leads symbols) (map (λ (p : Named × Meaning). p.1) parameters) → (m : Meaning) → StaysIn flat all (base m) (here m) → StaysIn flat all (symbols_at base (map (λ (p : Named × Meaning). p.1) parameters) number m) (here m)
    shared-stays [] made number ats shared placed m stays = stays
    shared-stays (p ∷ ps) [] number ats shared placed m stays = absurd shared
    shared-stays (p ∷ ps) (r ∷ made) number ats (node, most, shared) ((placed, same), others) m stays =
        by_sameness (same_symbol m p.1) refl
        (shared-stays ps made (suc number) (λ i. let e : suc number + i ≡ number + suc i = omega arith in ap (slice_get all) e ∙ ats (suc i)) shared others m stays)
      where
        by_sameness : (b : Bool) → same_symbol m p.1 ≡ b → StaysIn flat all (symbols_at base (map (λ (q : Named × Meaning). q.1) ps) (suc number) m) (here m) → StaysIn flat all (cond b (Place number (order_of p.1)) (symbols_at base (map (λ (q : Named × Meaning). q.1) ps) (suc number) m)) (here m)
        by_sameness true e rest =
            let zeroth : number ≡ number + 0 = omega arith in (
              r,
              placed.0,
              ap (slice_get all) zeroth ∙ ats 0,
              parameter-stays flat r (name_node (operator_places (Some p.1)) (leads p.1 []) []) placed.0 ordered node (ap (λ lead. (name_node (operator_places (Some p.1)) lead []).form) (same ∙ placed.1)),
              alike m p.1 e ∙ lead-place (here p.1) placed.0 (order_of p.1) (sym (leads-here p.1 []) ∙ placed.1),
            )
        by_sameness false e rest = rest

  -- ---- an extended module

  -- how it comes
  abbrev pub extension-of : Setting → FlatFace → Outside → ℕ → List Replacement → (Meaning → Stand) → (Named → Stand) → Extension
  extension-of setting face outside j replacements base inner =
      record {
        number = j;
        instance = record { outer = length setting.frame; parameters = 0; guards = false; replacements = replacements };
        symbols = symbols_at base (symbols_of outside) face.outer;
        places = face.outer + length (symbols_of outside);
        inner = inner;
      }

  pub extension-is : (setting : Setting) (symbols : Leads) (here : Meaning → Stand) (face : FlatFace) (outside : Outside) (j : ℕ) (layout : Layout) → LeadsBy here symbols → AreAlike here → layout.places ≡ length setting.frame → (by : IsExtendedBy flat setting.leads symbols face outside) → (made : IsExtensionMade flat setting face j) → IsExtension flat layout here outside (extension-of setting face outside j (made.0 ++ made.1) by.base by.inner)
  extension-is setting symbols here face outside j layout leads-here alike room by (staying, made, there, stay, shared) =
      let many = staying-many flat 0 face.outer staying stay in
      let by-outside = subst (λ ps. AreShared flat setting.leads ps made) by.parameters shared in
      let own = shared-many setting.leads outside.view.parameters made by-outside in
      let mapped = length-map outside.view.parameters (λ (p : Named × Meaning). p.1) in
      let both = length-append staying made in
      record {
        made = record { there = there; outer = sym room; parameters = refl; guards = refl };
        many = both ∙ ap (λ n. n + length made) many ∙ ap (λ n. face.outer + n) (own ∙ sym mapped);
        kept = by.kept;
        stays = λ m. shared-stays setting.leads symbols by.base here leads-here alike (staying ++ made) outside.view.parameters made face.outer
            (λ i. ap (λ n. slice_get (staying ++ made) (n + i)) (sym many) ∙ behind-at staying made i) by-outside by.placed m
            (front-stays staying made (by.base m) (here m)
            (staying-stays flat ordered face.outer staying (by.base m) (here m) stay (leads-as face.outer (by.base m) (here m) (subst (λ lead. LeadsAs face.outer (by.base m) lead) (leads-here m []) (by.symbols m)))));
      }

-- ---- all of them

-- what none of the entries means that a module exports, none means that it brings
pub unseen-passing : (entries : Exports) (m : Meaning) → is_seen (meanings_of entries) m ≡ false → name_among (instantiable entries) m ≡ None
unseen-passing [] m none = refl
unseen-passing (entry ∷ rest) m none = by_same (same_meaning m entry.1) refl none (unseen-passing rest m)
  where
    by_kind : (b : Bool) → same_meaning m entry.1 ≡ false → name_among (instantiable rest) m ≡ None → name_among (cond b (entry ∷ instantiable rest) (instantiable rest)) m ≡ None
    by_kind true apart others = ap (λ t. cond t (Some entry.0) (name_among (instantiable rest) m)) (standing-unlike m entry.1 apart) ∙ others
    by_kind false apart others = others

    by_same : (t : Bool) → same_meaning m entry.1 ≡ t → cond t true (is_seen (meanings_of rest) m) ≡ false → (is_seen (meanings_of rest) m ≡ false → name_among (instantiable rest) m ≡ None) → name_among (instantiable (entry ∷ rest)) m ≡ None
    by_same true e none others = absurd (cc none)
    by_same false e none others = by_kind (is_meant stands_behind entry.1) e (others none)

module _ (flat : FlatModule) (ordered : IsOrdered flat) (text : Text) (means : ℕ → Option Meaning) (implied : ℕ → List Meaning) (files : List ℕ → FlatFace) (outsides : List ℕ → Outside) (words : List ℕ) (known : Known) (context : Context) (modules : Scope Outside) (faces : Scope FlatFace) (setting : Setting) (symbols : Leads) (here : Meaning → Stand) where
  -- an extended module is what is known of it
  abbrev IsEachGiven : Lexeme → Type 0
  IsEachGiven l =
      IsExtendedBy flat setting.leads symbols (face_in flat text means implied files outsides words faces (spelled text.source l)) (named_in text outsides words modules (spelled text.source l))
      × AllCome known context (named_in text outsides words modules (spelled text.source l)).view (extended_entries text outsides words modules l)

  pub extended-all : LeadsBy here symbols → AreAlike here → (ls : List Lexeme) (stands : Meaning → Stand) (leads next : Leads) → LeadsBy stands leads → AllByRecursion IsEachGiven ls → AreExtended flat text means implied files outsides words modules faces setting leads ls next → AreExtendedSo flat text outsides words known context modules (length setting.frame) here ls stands next
  extended-all leads-here alike [] stands leads next all each is =
      record {
        extensions = [];
        are = λ layout room. tt;
        leads = subst (λ (l : Leads). LeadsBy stands l) (sym is) all;
        takes = λ used m e takes. takes tt;
        unsaid = λ m none. refl;
      }
  extended-all leads-here alike (l ∷ rest) stands leads next all each (j, is, more) =
      let name = spelled text.source l in
      let face = face_in flat text means implied files outsides words faces name in
      let outside = named_in text outsides words modules name in
      let entries = extended_entries text outsides words modules l in
      let by = each.0.0 in
      let extension = extension-of flat ordered setting face outside j (is.0 ++ is.1) by.base by.inner in
      let then = with_brought stands entries j by.inner in
      let others = extended-all leads-here alike rest then (with_brought_leads leads entries j face) next (brought-lead stands leads entries j face by.inner all by.paths) each.1 more in
      record {
        extensions = extension ∷ others.extensions;
        are = λ layout room. (extension-is flat ordered setting symbols here face outside j layout leads-here alike room by is, others.are layout room);
        leads = others.leads;
        takes = λ used m e takes. others.takes used m e (λ none. by_name j by.inner m (λ n found. comes-takes known outside.view n m by.inner (each.0.1 used m n e found) by.takes) (λ first. takes (first, none)) (name_among entries m) refl);
        unsaid = λ m none. let parts = unseen-parts (meanings_of (exported outside.view)) (extended_meanings text outsides words modules rest) m none in
            others.unsaid m parts.1 ∙ ap (coming_stand j by.inner (stands m)) (unseen-passing (exported outside.view) m parts.0);
      }
    where
      by_name : (j : ℕ) (inner : Named → Stand) (m : Meaning) → ((n : Named) → name_among (extended_entries text outsides words modules l) m ≡ Some n → TakesBehind (inner n) (behind_meaning known (Some m)) m) → (name_among (extended_entries text outsides words modules l) m ≡ None → TakesAs (stands m) (behind_meaning known (Some m)) m) → (o : Option Named) → name_among (extended_entries text outsides words modules l) m ≡ o → TakesAs (coming_stand j inner (stands m) o) (behind_meaning known (Some m)) m
      by_name j inner m comes old (Some n) found = comes n found
      by_name j inner m comes old None found = old found

-- ---- names behind them

module _ (text : Text) (outsides : List ℕ → Outside) (words : List ℕ) (modules : Scope Outside) where
  -- modules bring by their names what is known of them
  abbrev pub BringSame : Environment ModuleView → Type 0
  BringSame here = (name : List ℕ) → exports_under (exports_by (views text outsides words)) (module_meaning here name) name ≡ exported (named_in text outsides words modules name).view

  joined-modules : (entries : Exports) (local : Bool) (reading : Reading) → (joined local reading entries).modules ≡ reading.modules
  joined-modules [] local reading = refl
  joined-modules (entry ∷ rest) local reading = joined-modules rest local _ ∙ by_clash (clashes reading.context entry)
    where
      by_clash : (b : Bool) → (cond b reading (with_entry local reading entry.0 entry.1)).modules ≡ reading.modules
      by_clash true = refl
      by_clash false = refl

  abbrev entries-at : Reading → Lexeme → Exports
  entries-at reading l = brings text (exports_by (views text outsides words)) reading l

  pub extends-means : (ls : List Lexeme) (reading : Reading) (name : Named) (m : Meaning) → BringSame reading.modules → meaning_of (extends_all text (exports_by (views text outsides words)) reading ls).context name ≡ Some m → (meaning_of reading.context name ≡ Some m) ⊎ (is_seen (extended_meanings text outsides words modules ls) m ≡ true)
  extends-means [] reading name m same e = inl e
  extends-means (l ∷ rest) reading name m same e =
      by_rest (extends-means rest (extended reading (entries-at reading l)) name m (subst BringSame (sym (joined-modules (entries-at reading l) false reading)) same) e)
    where
      by_first : ((meaning_of reading.context name ≡ Some m) ⊎ IsEntry (entries-at reading l) m) → (meaning_of reading.context name ≡ Some m) ⊎ (is_seen (extended_meanings text outsides words modules (l ∷ rest)) m ≡ true)
      by_first (inl before) = inl before
      by_first (inr one) =
          inr (seen-left (meanings_of (exported (named_in text outsides words modules (spelled text.source l)).view)) (extended_meanings text outsides words modules rest) m
          (subst (λ es. is_seen (meanings_of es) m ≡ true) (same (spelled text.source l)) (entry-seen (entries-at reading l) m one)))

      by_rest : ((meaning_of (extended reading (entries-at reading l)).context name ≡ Some m) ⊎ (is_seen (extended_meanings text outsides words modules rest) m ≡ true)) → (meaning_of reading.context name ≡ Some m) ⊎ (is_seen (extended_meanings text outsides words modules (l ∷ rest)) m ≡ true)
      by_rest (inl here) = by_first (joined-means (entries-at reading l) false reading name m here)
      by_rest (inr one) = inr (seen-right (meanings_of (exported (named_in text outsides words modules (spelled text.source l)).view)) (extended_meanings text outsides words modules rest) m one)
