-- Ways that lead behind faces of a table, and stay where it grows.
use Rattle.std.proofs.Common.{◌≡◌, ℕ, zero, suc, ◌≤◌, Bool, true, false, List, [], ◌∷◌, ◌++◌, Option, Some, None, refl, sym, ap, ◌∙◌, subst, if◌then◌else◌, length, slice_get, arith}
use Rattle.std.specs.Prelude.{IfSome, option_map, unwrap_or}
use Rattle.std.specs.List.{AllByRecursion}
use Rattle.std.specs.Option.{option_or}
use Rattle.tla_model.specs.declared.entity.Entity.TheVariants as entity
use Rattle.tla_model.specs.declared.names.Meaning.TheVariants.{BuiltIn, Declared}
use Rattle.tla_model.specs.Entities.{Meaning}
use Rattle.tla_model.specs.Tables.{Named}
use Rattle.tree_kinds.specs.Standing.{same_standing}
use Rattle.module_model.specs.Exports.{Exports}
use Rattle.tree_names.specs.Parameters.{named_in}
use Rattle.flattened_trees.specs.declared.End.TheVariants as end
use Rattle.flattened_trees.specs.Leads.{FlatFace, behind_instance, through}
use Rattle.module_leads.specs.declared.faces.ModuleFace.{ModuleFace}
use Rattle.module_leads.specs.declared.layer.Layer.{Layer}
use Rattle.module_leads.specs.declared.ways.Way.TheVariants as way
use Rattle.module_leads.specs.Faces.{faces_of, flat_face}
use Rattle.module_leads.specs.Layers.{IsFaceWithin, IsLayerWithin, IsWayWithin, brought_way, first_ways, layer_way, leads_by, listed_way, own_way, put_ways, round_by, symbol_end, way_by}
use Rattle.module_leads.specs.Ways.{face_at, name_as, unsaid_way, way_lead}
use Rattle.module_leads.proofs.Numbered.{faces-more, other-number}

-- ---- what is put

if-none : {A : Type 0} (P : A → Type 0) (o : Option A) → o ≡ None → IfSome o P
if-none P o none = subst (λ z. IfSome z P) (sym none) tt

choice : {A : Type 0} (P : A → Type 0) (b : Bool) (x : A) (o : Option A) → P x → IfSome o P → IfSome (if b then Some x else o) P
choice P true x o here other = here
choice P false x o here other = other

either : {A : Type 0} (P : A → Type 0) (o p : Option A) → IfSome o P → IfSome p P → IfSome (option_or o p) P
either P None p first second = second
either P (Some x) p first second = first

pub put-within : (count : ℕ) (meanings : List Meaning) (ways : Meaning → Option way.the_data) (goes : way.the_data) → IsWayWithin count goes → ((m : Meaning) → IfSome (ways m) (IsWayWithin count))
    → (m : Meaning) → IfSome (put_ways meanings goes ways m) (IsWayWithin count)
put-within count [] ways goes here known m = known m
put-within count (meaning ∷ rest) ways goes here known m =
    put-within count rest (λ other. if same_standing other meaning then Some goes else ways other) goes here (λ other. choice (IsWayWithin count) (same_standing other meaning) goes (ways other) here (known other)) m

pub brought-within : (count : ℕ) (entries : Exports) (j : ℕ) (face : Option ℕ) (before : Option way.the_data) (m : Meaning) → IsFaceWithin count face → IfSome before (IsWayWithin count)
    → IfSome (option_or (brought_way entries j face m) before) (IsWayWithin count)
brought-within count entries j face before m here known = either (IsWayWithin count) (brought_way entries j face m) before (among entries) known
  where
    among : (entries : Exports) → IfSome (brought_way entries j face m) (IsWayWithin count)
    among [] = tt
    among (entry ∷ rest) = choice (IsWayWithin count) (same_standing m entry.1) (way.Through j face (name_as entry.0)) (brought_way rest j face m) here (among rest)

-- nothing leads anywhere where nothing is put
pub none-within : (count : ℕ) (layer : Layer) → ((m : Meaning) → own_way layer m ≡ None) → IsLayerWithin count layer
none-within count layer none m = if-none (IsWayWithin count) (own_way layer m) (none m)

pub all-more : {A : Type 0} (P : A → Type 0) (xs : List A) (x : A) → AllByRecursion P xs → P x → AllByRecursion P (xs ++ x ∷ [])
all-more P [] x all here = (here, tt)
all-more P (y ∷ xs) x all here = (all.0, all-more P xs x all.1 here)

pub all-front : {A : Type 0} (P : A → Type 0) (xs : List A) (x : A) → AllByRecursion P (xs ++ x ∷ []) → AllByRecursion P xs × P x
all-front P [] x all = (tt, all.0)
all-front P (y ∷ xs) x all = let rest = all-front P xs x all.1 in ((all.0, rest.0), rest.1)

-- ---- ways of meanings

unsaid-within : (count : ℕ) (m : Meaning) → IsWayWithin count (unsaid_way m)
unsaid-within count BuiltIn = tt
unsaid-within count (Declared (entity.Bound state) callee) = tt
unsaid-within count (Declared e callee) = tt

symbol-within : (count : ℕ) (o : Option end.the_data) → IfSome (option_map (λ e. way.To e) o) (IsWayWithin count)
symbol-within count None = tt
symbol-within count (Some e) = tt

unwrapped : {A : Type 0} (P : A → Type 0) (o : Option A) (x : A) → IfSome o P → P x → P (unwrap_or o x)
unwrapped P None x inner other = other
unwrapped P (Some y) x inner other = inner

layer-within : (count : ℕ) (layer : Layer) (below : way.the_data) (m : Meaning) → IsLayerWithin count layer → IsWayWithin count below → IsWayWithin count (layer_way layer below m)
layer-within count layer below m all under =
    unwrapped (IsWayWithin count) (option_or (own_way layer m) (option_map (λ e. way.To e) (symbol_end layer.symbols m))) below
    (either (IsWayWithin count) (own_way layer m) (option_map (λ e. way.To e) (symbol_end layer.symbols m)) (all m) (symbol-within count (symbol_end layer.symbols m))) under

listed-within : (count : ℕ) (layers : List Layer) (i : ℕ) (below : way.the_data) (m : Meaning) → AllByRecursion (IsLayerWithin count) layers → IsWayWithin count below → IsWayWithin count (listed_way (slice_get layers i) below m)
listed-within count [] i below m all under = under
listed-within count (layer ∷ layers) zero below m all under = layer-within count layer below m all.0 under
listed-within count (layer ∷ layers) (suc i) below m all under = listed-within count layers i below m all.1 under

first-within : (count : ℕ) (layers : List Layer) (n : ℕ) (m : Meaning) → AllByRecursion (IsLayerWithin count) layers → IsWayWithin count (first_ways layers n m)
first-within count layers zero m all = unsaid-within count m
first-within count layers (suc n) m all = listed-within count layers n (first_ways layers n m) m all (first-within count layers n m all)

-- ---- one more face

-- a face that is there stays
face-stays : (faces : List ModuleFace) (more : ModuleFace) (face : Option ℕ) → IsFaceWithin (length faces) face → face_at (faces_of (faces ++ more ∷ [])) face ≡ face_at (faces_of faces) face
face-stays faces more None within = refl
face-stays faces more (Some number) within =
    (λ i. faces-more faces more i number)
    ∙ ap (λ (b : Bool). if b then flat_face (faces_of faces) more else faces_of faces number) (other-number number (length faces) (λ e. omega arith))

-- and what leads behind it
way-stays : (faces : List ModuleFace) (more : ModuleFace) (way : way.the_data) (names : List Named) → IsWayWithin (length faces) way → way_lead (faces_of (faces ++ more ∷ [])) way names ≡ way_lead (faces_of faces) way names
way-stays faces more (way.To e) names within = refl
way-stays faces more (way.Behind j face) names within = ap (λ (f : FlatFace). behind_instance j f names) (face-stays faces more face within)
way-stays faces more (way.Through j face name) names within = ap (λ (f : FlatFace). through j (f.leads (named_in name ∷ names))) (face-stays faces more face within)

pub leads-stay : (faces : List ModuleFace) (more : ModuleFace) (round : List Layer) (here : Layer) → AllByRecursion (IsLayerWithin (length faces)) round → IsLayerWithin (length faces) here
    → leads_by (faces_of (faces ++ more ∷ [])) (way_by round here) ≡ leads_by (faces_of faces) (way_by round here)
leads-stay faces more round here all within =
    λ i m names. way-stays faces more (way_by round here m) names (layer-within (length faces) here (first_ways round (length round) m) m within (first-within (length faces) round (length round) m all)) i

pub round-stays : (faces : List ModuleFace) (more : ModuleFace) (layers : List Layer) (n : ℕ) → AllByRecursion (IsLayerWithin (length faces)) layers
    → round_by (faces_of (faces ++ more ∷ [])) layers n ≡ round_by (faces_of faces) layers n
round-stays faces more layers zero all = refl
round-stays faces more layers (suc n) all =
    let rest = round-stays faces more layers n all in
    λ i. (λ m names. way-stays faces more (first_ways layers (suc n) m) names (first-within (length faces) layers (suc n) m all) i) ∷ rest i

-- what leads behind some faces leads behind more
face-more : (a b : ℕ) (face : Option ℕ) → a ≤ b → IsFaceWithin a face → IsFaceWithin b face
face-more a b None more within = tt
face-more a b (Some number) more within = omega arith

way-more : (a b : ℕ) (way : way.the_data) → a ≤ b → IsWayWithin a way → IsWayWithin b way
way-more a b (way.To e) more within = tt
way-more a b (way.Behind j face) more within = face-more a b face more within
way-more a b (way.Through j face name) more within = face-more a b face more within

pub layer-more : (a b : ℕ) (layer : Layer) → a ≤ b → IsLayerWithin a layer → IsLayerWithin b layer
layer-more a b layer more within m = by (own_way layer m) (within m)
  where
    by : (o : Option way.the_data) → IfSome o (IsWayWithin a) → IfSome o (IsWayWithin b)
    by None known = tt
    by (Some way) known = way-more a b way more known

pub layers-more : (a b : ℕ) (layers : List Layer) → a ≤ b → AllByRecursion (IsLayerWithin a) layers → AllByRecursion (IsLayerWithin b) layers
layers-more a b [] more all = tt
layers-more a b (layer ∷ layers) more all = (layer-more a b layer more all.0, layers-more a b layers more all.1)
