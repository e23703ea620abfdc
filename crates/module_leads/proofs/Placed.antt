-- What is known at a place, by what calls change of faces and layers.
use Rattle.std.proofs.Common.{◌≡◌, ℕ, zero, suc, ◌+◌, ◌<◌, ◌≤◌, Bool, true, false, List, [], ◌∷◌, ◌++◌, Option, Some, None, refl, sym, ap, ◌∙◌, if◌then◌else◌, drop, get_or, length, subst, take, arith}
use Rattle.std.specs.Prelude.{nat_eq, option_map, unwrap_or}
use Rattle.std.specs.Option.{option_or}
use Rattle.std.proofs.lemmas.List.{map-append, take_more}
use Rattle.list_laws.proofs.Lists.{at-end, drop-from}
use Rattle.tla_model.specs.Entities.{Meaning}
use Rattle.tla_model.specs.Tables.{Named, Table, find, same_named}
use Rattle.module_model.specs.Exports.{Exports, entry_of, exports_of}
use Rattle.module_model.proofs.Entries.{entry-of-table}
use Rattle.tree_kinds.specs.Standing.{same_standing}
use Rattle.tree_names.specs.declared.parameter.Parameter.{Parameter}
use Rattle.tree_names.specs.Parameters.{entries_in, named_in}
use Rattle.flattened_trees.specs.NodeForms.{lead_of}
use Rattle.flattened_trees.specs.Leads.{FlatFace, Lead, Leads, with_leads}
use Rattle.flattened_units.specs.Units.{exported_leads, with_brought, with_symbols}
use Rattle.module_leads.specs.declared.faces.ListedNames.{ListedNames}
use Rattle.module_leads.specs.declared.faces.ModuleFace.{ModuleFace}
use Rattle.module_leads.specs.declared.layer.Layer.{Layer}
use Rattle.module_leads.specs.declared.ways.Way.TheVariants as way
use Rattle.module_leads.specs.Faces.{HasWays, face_leads, faces_of, flat_face, found_lead, table_way, way_among, way_of}
use Rattle.module_leads.specs.Layers.{ArePut, HasSymbols, IsBrought, IsPut, IsSilent, brought_way, first_ways, layer_way, leads_by, listed_way, own_way, put_ways, round_by, said_way, symbol_among, symbol_end, way_by}
use Rattle.module_leads.specs.Leading.{AreWithin, entered, face_over, leading, leading_of, left, left_by, nothing_led, with_face}
use Rattle.module_leads.specs.Ways.{face_at, name_as, unsaid_way, way_lead}
use Rattle.module_leads.proofs.Keyed.{ends-none, own-none}
use Rattle.module_leads.proofs.Leaded.{held-name, over, over-all, over-brought, over-symbols, unsaid-leads}
use Rattle.module_leads.proofs.Numbered.{at-within, faces-more, length-more}
use Rattle.module_leads.proofs.Putting.{lookup-more}
use Rattle.module_leads.proofs.Within.{leads-stay, round-stays}

-- ---- layers

-- those before a place stay
ways-stay : (layers more : List Layer) (n : ℕ) → n ≤ length layers → first_ways (layers ++ more) n ≡ first_ways layers n
ways-stay layers more zero within = refl
ways-stay layers more (suc n) within =
    let before = ways-stay layers more n (omega arith) in
    let at = at-within layers more n (omega arith) in
    λ i m. listed_way (at i) (before i m) m

-- with one more
ways-more : (layers : List Layer) (here : Layer) → first_ways (layers ++ here ∷ []) (suc (length layers)) ≡ way_by layers here
ways-more layers here =
    let before = ways-stay layers (here ∷ []) (length layers) (omega arith) in
    let at = at-end layers here in
    λ i m. listed_way (at i) (before i m) m

round-stay : (faces : ℕ → FlatFace) (layers more : List Layer) (n : ℕ) → n ≤ length layers → round_by faces (layers ++ more) n ≡ round_by faces layers n
round-stay faces layers more zero within = refl
round-stay faces layers more (suc n) within =
    let first = ways-stay layers more (suc n) within in
    let rest = round-stay faces layers more n (omega arith) in
    λ i. leads_by faces (first i) ∷ rest i

round-more : (faces : ℕ → FlatFace) (layers : List Layer) (here : Layer)
    → round_by faces (layers ++ here ∷ []) (length (layers ++ here ∷ [])) ≡ leads_by faces (way_by layers here) ∷ round_by faces layers (length layers)
round-more faces layers here =
    let first = ways-more layers here in
    let rest = round-stay faces layers (here ∷ []) (length layers) (omega arith) in
    ap (round_by faces (layers ++ here ∷ [])) (length-more layers here) ∙ (λ i. leads_by faces (first i) ∷ rest i)

-- ---- what a layer says over others

-- the ways but for what is defined and brought
abbrev under : List Layer → Layer → Meaning → way.the_data
under round here meaning = unwrap_or (option_map (λ e. way.To e) (symbol_end here.symbols meaning)) (first_ways round (length round) meaning)

unwrap-or : {A : Type 0} (a b : Option A) (c : A) → unwrap_or (option_or a b) c ≡ unwrap_or a (unwrap_or b c)
unwrap-or None b c = refl
unwrap-or (Some x) b c = refl

over-own : (faces : ℕ → FlatFace) (round : List Layer) (here : Layer) → leads_by faces (way_by round here) ≡ over faces (under round here) (own_way here)
over-own faces round here =
    λ i m names. way_lead faces (unwrap-or (own_way here m) (option_map (λ e. way.To e) (symbol_end here.symbols m)) (first_ways round (length round) m) i) names

-- where what is put changes where names lead
over-put : (faces : ℕ → FlatFace) (round : List Layer) (old new : Layer) (ways : Meaning → Option way.the_data) → new.symbols ≡ old.symbols → ((m : Meaning) → own_way new m ≡ ways m)
    → leads_by faces (way_by round new) ≡ over faces (under round old) ways
over-put faces round old new ways symbols put =
    over-own faces round new
    ∙ (λ i m names. way_lead faces (unwrap_or (put m i) (unwrap_or (option_map (λ e. way.To e) (symbol_end (symbols i) m)) (first_ways round (length round) m))) names)

pub defined-leads : (faces : ℕ → FlatFace) (round : List Layer) (old new : Layer) (meanings : List Meaning) (way : way.the_data) (lead : List Named → Lead) → ArePut old new meanings way
    → ((names : List Named) → way_lead faces way names ≡ lead names) → leads_by faces (way_by round new) ≡ with_leads (leads_by faces (way_by round old)) meanings lead
defined-leads faces round old new meanings way lead put leads =
    over-put faces round old new (put_ways meanings way (own_way old)) put.symbols put.ways
    ∙ over-all faces (under round old) meanings (own_way old) way lead leads
    ∙ ap (λ (l : Leads). with_leads l meanings lead) (sym (over-own faces round old))

pub brought-leads : (faces : ℕ → FlatFace) (round : List Layer) (old new : Layer) (entries : Exports) (j : ℕ) (face : Option ℕ) → IsBrought old new entries j face
    → leads_by faces (way_by round new) ≡ with_brought (leads_by faces (way_by round old)) entries j (face_at faces face)
brought-leads faces round old new entries j face brought =
    over-put faces round old new (λ other. option_or (brought_way entries j face other) (own_way old other)) brought.symbols brought.ways
    ∙ over-brought faces (under round old) entries j face (own_way old)
    ∙ ap (λ (l : Leads). with_brought l entries j (face_at faces face)) (sym (over-own faces round old))

-- other leads at a place
pub led : (faces : List ModuleFace) (round : List Layer) (old new : Layer) (leads : Leads) → leads_by (faces_of faces) (way_by round new) ≡ leads → leading_of faces round new ≡ leading (leading_of faces round old) leads
led faces round old new leads is = λ i. record { count = length faces; faces = faces_of faces; leads = is i; round = round_by (faces_of faces) round (length round) }

-- ---- nothing is known

pub silent-says : (here : Layer) → IsSilent here → (m : Meaning) → said_way here m ≡ None
silent-says here silent m = let own = own-none here silent.others silent.brought m in let symbol = ends-none here.symbols silent.symbols m in λ i. option_or (own i) (option_map (λ e. way.To e) (symbol i))

pub nothing-known : (faces : List ModuleFace) (round : List Layer) (here : Layer) → faces ≡ [] → round ≡ [] → IsSilent here → leading_of faces round here ≡ nothing_led
nothing-known faces round here no_faces no_round silent =
    (λ i. leading_of (no_faces i) (no_round i) here)
    ∙ (λ i. record { count = 0; faces = faces_of []; leads = quiet i; round = [] })
  where
    quiet : leads_by (faces_of []) (way_by [] here) ≡ nothing_led.leads
    quiet = (λ i m names. way_lead (faces_of []) (unwrap_or (silent-says here silent m i) (unsaid_way m)) names) ∙ unsaid-leads (faces_of [])

-- ---- a module begins and ends

pub begun : (faces : List ModuleFace) (round longer : List Layer) (here inner : Layer) (own : List Meaning) (place : ℕ) → longer ≡ round ++ here ∷ [] → HasSymbols inner own place
    → leading_of faces longer inner ≡ entered (leading_of faces round here) own place
begun faces round longer here inner own place long has =
    ap (λ layers. leading_of faces layers inner) long
    ∙ (λ i. record { count = length faces; faces = faces_of faces; leads = inside i; round = round-more (faces_of faces) round here i })
  where
    says : (m : Meaning) → said_way inner m ≡ option_map (λ e. way.To e) (symbol_among own place m)
    says m = let own_none = own-none inner has.others has.brought m in let symbol = has.symbols m in λ i. option_or (own_none i) (option_map (λ e. way.To e) (symbol i))

    outside : first_ways (round ++ here ∷ []) (length (round ++ here ∷ [])) ≡ way_by round here
    outside = ap (first_ways (round ++ here ∷ [])) (length-more round here) ∙ ways-more round here

    inside : leads_by (faces_of faces) (way_by (round ++ here ∷ []) inner) ≡ with_symbols (leads_by (faces_of faces) (way_by round here)) own place
    inside =
        (λ i m names. way_lead (faces_of faces) (unwrap_or (says m i) (outside i m)) names)
        ∙ over-symbols (faces_of faces) (way_by round here) own place

pub ended : (faces : List ModuleFace) (round shorter : List Layer) (here outer : Layer) → round ≡ shorter ++ outer ∷ [] → leading_of faces shorter outer ≡ left (leading_of faces round here)
ended faces round shorter here outer long =
    sym (ap (λ leads. left_by (leading_of faces round here) leads) (ap (λ layers. round_by (faces_of faces) layers (length layers)) long ∙ round-more (faces_of faces) shorter outer))

pub not-begun : (faces : List ModuleFace) (round : List Layer) (here : Layer) → round ≡ [] → leading_of faces round here ≡ left (leading_of faces round here)
not-begun faces round here none = sym (ap (λ layers. left_by (leading_of faces round here) (round_by (faces_of faces) layers (length layers))) none ∙ whole none)
  where
    whole : round ≡ [] → record { count = length faces; faces = faces_of faces; leads = leads_by (faces_of faces) (way_by round here); round = round_by (faces_of faces) round (length round) } ≡ leading_of faces round here
    whole none = refl

-- ---- one more face

named-lead : (faces : ℕ → FlatFace) (ways : Meaning → way.the_data) (found : Option Meaning) (names : List Named) → found_lead faces (option_map ways found) names ≡ lead_of (leads_by faces ways) found names
named-lead faces ways None names = refl
named-lead faces ways (Some meaning) names = refl

pub face-over : (faces : ℕ → FlatFace) (ways : Meaning → way.the_data) (face : ModuleFace) (entries : Exports) → ((name : Named) → way_of face name ≡ option_map ways (entry_of entries name))
    → flat_face faces face ≡ face_over (entries_in face.parameters) face.outer face.is_constant entries (leads_by faces ways)
face-over faces ways face entries has = λ i. record { parameters = entries_in face.parameters; outer = face.outer; leads = λ names. leads names i; is_constant = face.is_constant }
  where
    leads : (names : List Named) → face_leads faces face names ≡ exported_leads (leads_by faces ways) entries names
    leads [] = refl
    leads (name ∷ names) = ap (λ o. found_lead faces o names) (has name) ∙ named-lead faces ways (entry_of entries name) names

-- names that are listed behind none
pub listed-ways : (bare names : ListedNames) (ways : Meaning → way.the_data) (entries : Exports) → ((name : Named) → way_among bare name ≡ None) → HasWays bare names ways entries
    → (name : Named) → way_among names name ≡ option_map ways (entry_of entries name)
listed-ways bare names ways entries nameless has name = has name ∙ ap (λ o. option_or o (option_map ways (entry_of entries name))) (nameless name)

-- names of a table, where nothing is said round the module
pub table-ways : (exports : Table Meaning) (here outer : Layer) (round : List Layer) → round ≡ outer ∷ [] → IsSilent outer
    → (name : Named) → table_way (record { exports = exports; layer = here }) name ≡ option_map (way_by round here) (entry_of (exports_of exports) name)
table-ways exports here outer round alone silent name =
    ap (λ (ways : Meaning → way.the_data). option_map ways (find exports name)) (λ i meaning. layer_way here (bare meaning i) meaning)
    ∙ ap (option_map (way_by round here)) (sym (entry-of-table exports name))
  where
    bare : (meaning : Meaning) → unsaid_way meaning ≡ first_ways round (length round) meaning
    bare meaning =
        sym (ap (λ o. unwrap_or o (unsaid_way meaning)) (silent-says outer silent meaning))
        ∙ sym (ap (λ (layers : List Layer). first_ways layers (length layers) meaning) alone)

pub faced : (faces : List ModuleFace) (more : List ModuleFace) (face : ModuleFace) (flat : FlatFace) (round : List Layer) (here : Layer) → more ≡ faces ++ face ∷ [] → flat_face (faces_of faces) face ≡ flat
    → AreWithin faces round here → leading_of more round here ≡ with_face (leading_of faces round here) flat
faced faces more face flat round here long is within =
    ap (λ all. leading_of all round here) long
    ∙ (λ i. record {
      count = length-more faces face i;
      faces = (faces-more faces face ∙ (λ j number. if nat_eq number (length faces) then is j else faces_of faces number)) i;
      leads = leads-stay faces face round here within.outer within.inner i;
      round = round-stays faces face round (length round) within.outer i;
    })

-- ---- loops

put-ways-more : (meanings : List Meaning) (meaning : Meaning) (ways : Meaning → Option way.the_data) (goes : way.the_data) (other : Meaning)
    → put_ways (meanings ++ meaning ∷ []) goes ways other ≡ (if same_standing other meaning then Some goes else put_ways meanings goes ways other)
put-ways-more [] meaning ways goes other = refl
put-ways-more (first ∷ rest) meaning ways goes other = put-ways-more rest meaning (λ o. if same_standing o first then Some goes else ways o) goes other

-- nothing was put as yet
pub put-none : (layer : Layer) (way : way.the_data) → ArePut layer layer [] way
put-none layer way = record { symbols = refl; ways = λ other. refl }

-- one more goes the same way
pub put-more : (old mid new : Layer) (meanings : List Meaning) (i : ℕ) (meaning : Meaning) (way : way.the_data) → ArePut old mid (take i meanings) way → IsPut mid new meaning way → i < length meanings → meaning ≡ get_or meanings i meaning
    → ArePut old new (take (i + 1) meanings) way
put-more old mid new meanings i meaning way known put within is =
    subst (λ ms. ArePut old new ms way) (sym (take_more meanings i meaning within ∙ ap (λ m. take i meanings ++ m ∷ []) (sym is)))
    (record {
      symbols = put.symbols ∙ known.symbols;
      ways = λ other. put.ways other ∙ ap (λ z. if same_standing other meaning then Some way else z) (known.ways other) ∙ sym (put-ways-more (take i meanings) meaning (own_way old) way other);
    })

-- one more entry is brought, before those behind it
pub brought-more : (old mid new : Layer) (entries : List Parameter) (i : ℕ) (entry : Parameter) (j : ℕ) (face : Option ℕ) → IsBrought old mid (entries_in (drop (i + 1) entries)) j face
    → IsPut mid new entry.meaning (way.Through j face entry.name) → i < length entries → entry ≡ get_or entries i entry → IsBrought old new (entries_in (drop i entries)) j face
brought-more old mid new entries i entry j face known put within is =
    subst (λ es. IsBrought old new (entries_in es) j face) (sym (drop-from entries i entry within is))
    (record {
      symbols = put.symbols ∙ known.symbols;
      ways = λ other. put.ways other ∙ by other (same_standing other entry.meaning);
    })
  where
    by : (other : Meaning) (b : Bool) → (if b then Some (way.Through j face entry.name) else own_way mid other)
        ≡ option_or (if b then Some (way.Through j face (name_as (named_in entry.name))) else brought_way (entries_in (drop (i + 1) entries)) j face other) (own_way old other)
    by other true = ap (λ name. Some (way.Through j face name)) (sym (held-name entry.name))
    by other false = known.ways other

-- one more name that is listed
pub named-more : (old mid new : ListedNames) (ways : Meaning → way.the_data) (entries : List Parameter) (i : ℕ) (entry : Parameter) (name : Named) (goes : way.the_data) → HasWays old mid ways (entries_in (take i entries))
    → ((other : Named) → way_among new other ≡ option_or (way_among mid other) (if same_named other name then Some goes else None)) → name ≡ named_in entry.name → goes ≡ ways entry.meaning
    → i < length entries → entry ≡ get_or entries i entry → HasWays old new ways (entries_in (take (i + 1) entries))
named-more old mid new ways entries i entry name goes known put named leads within is =
    subst (HasWays old new ways) (sym longer)
    (λ other.
    put other
    ∙ (λ i. option_or (known other i) (if same_named other (named i) then Some (leads i) else None))
    ∙ joined (way_among old other) (entry_of (entries_in (take i entries)) other) (same_named other (named_in entry.name))
    ∙ ap (λ z. option_or (way_among old other) (option_map ways z)) (sym (lookup-more same_named (entries_in (take i entries)) (named_in entry.name) entry.meaning other)))
  where
    longer : entries_in (take (i + 1) entries) ≡ entries_in (take i entries) ++ (named_in entry.name, entry.meaning) ∷ []
    longer =
        ap entries_in (take_more entries i entry within ∙ ap (λ e. take i entries ++ e ∷ []) (sym is))
        ∙ map-append (λ (e : Parameter). (named_in e.name, e.meaning)) (take i entries) (entry ∷ [])

    joined : (a : Option way.the_data) (b : Option Meaning) (c : Bool) → option_or (option_or a (option_map ways b)) (if c then Some (ways entry.meaning) else None)
        ≡ option_or a (option_map ways (option_or b (if c then Some entry.meaning else None)))
    joined (Some x) b c = refl
    joined None (Some m) c = refl
    joined None None true = refl
    joined None None false = refl
