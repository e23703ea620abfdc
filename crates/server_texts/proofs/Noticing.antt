-- Notices stand in byte order of the modules' names.
use Rattle.std.proofs.Common.{◌≡◌, ℕ, Bool, true, false, cond, List, [], ◌∷◌, ◌++◌, map, Option, Some, None, refl, ap, ◌∙◌}
use Rattle.std.specs.List.{AllByRecursion}
use Rattle.std.specs.Option.{IfSome}
use Rattle.std.specs.Ordering.{nat_cmp, match_ordering}
use Rattle.std.specs.declared.cmp.Ordering.{Ordering}
use Rattle.std.specs.declared.cmp.Ordering.TheVariants.{Less, Equal, Greater}
use Rattle.std.specs.Cmp.Lexicographic.{slice_cmp}
use Rattle.lsp_wire.specs.declared.types.Note.{Note}
use Rattle.lsp_answers.specs.declared.Due.{Due}
use Rattle.lsp_answers.specs.States.{State, Root, Named, Opened, all_notices, closing, dues_of, notice, notices, others_notice, others_notices, was_sent}
use Rattle.server_texts.specs.Kept.{AreInByteOrder, HasMembers, HasNamesInOrder}
use Rattle.server_texts.specs.Notes.{notes_of}
use Rattle.server_uris.specs.Uris.{module_of}
use Rattle.server_texts.proofs.ByteOrder.{before-trans, ordered-first, ordered-more, ordered-none, ordered-rest, turned, IsBeforeAll}
use Rattle.server_texts.proofs.Stepping.{opened_name}

module _ (root : Option Root) (notes : List ℕ → List Note) where
  abbrev module_at : Due → Option (List ℕ)
  module_at due = module_of root due.uri

  abbrev AreMembers : List Opened → Type 0
  AreMembers os = AllByRecursion (λ o. module_of root o.uri ≡ Some o.name) os

  -- notices of modules in byte order, none of them before all of these names
  record AreOrdered (bounds : List (List ℕ)) (dues : List Due) : Type 0 where
    names : List (List ℕ)
    ordered : AreInByteOrder names
    modules : map module_at dues ≡ map (λ name. Some name) names
    bounded : (a : List ℕ) → IsBeforeAll a bounds → IsBeforeAll a names

  -- one more notice, before the others
  first : (due : Due) (name : List ℕ) (bounds : List (List ℕ)) (dues : List Due) → module_at due ≡ Some name → IsBeforeAll name bounds → AreOrdered bounds dues → AreOrdered (name ∷ bounds) (due ∷ dues)
  first due name bounds dues is before more =
      record {
        names = name ∷ more.names;
        ordered = ordered-more name more.names (more.bounded name before) more.ordered;
        modules = ap (λ m. m ∷ map module_at dues) is ∙ ap (λ ms. Some name ∷ ms) more.modules;
        bounded = λ a h. (h.0, more.bounded a h.1);
      }

  -- one more bound
  wider : (name : List ℕ) (bounds : List (List ℕ)) (dues : List Due) → AreOrdered bounds dues → AreOrdered (name ∷ bounds) dues
  wider name bounds dues more =
      record {
        names = more.names;
        ordered = more.ordered;
        modules = more.modules;
        bounded = λ a h. more.bounded a h.1;
      }

  other-at : (sent : Bool) (o : Opened) (bounds : List (List ℕ)) (dues : List Due) → module_of root o.uri ≡ Some o.name → IsBeforeAll o.name bounds → AreOrdered bounds dues → AreOrdered (o.name ∷ bounds) (cond sent [] (notice notes o ∷ []) ++ dues)
  other-at true o bounds dues is before more = wider o.name bounds dues more
  other-at false o bounds dues is before more = first (notice notes o) o.name bounds dues is before more

  others-ordered : (os : List Opened) → AreInByteOrder (map opened_name os) → AreMembers os → AreOrdered (map opened_name os) (others_notices notes os)
  others-ordered [] h are =
      record { names = []; ordered = ordered-none; modules = refl; bounded = λ a before. tt }
  others-ordered (o ∷ os) h are =
      other-at (was_sent o.sent (notes o.name)) o (map opened_name os) (others_notices notes os) are.0 (ordered-first o.name (map opened_name os) h) (others-ordered os (ordered-rest o.name (map opened_name os) h) are.1)

  -- the first two bounds change places
  swapped : (a b : List ℕ) (bounds : List (List ℕ)) (dues : List Due) → AreOrdered (a ∷ b ∷ bounds) dues → AreOrdered (b ∷ a ∷ bounds) dues
  swapped a b bounds dues more =
      record {
        names = more.names;
        ordered = more.ordered;
        modules = more.modules;
        bounded = λ c h. more.bounded c (h.1.0, (h.0, h.1.1));
      }

  named-at : (order : Ordering) (d : Named) (o : Opened) (os : List Opened) → slice_cmp nat_cmp d.name o.name ≡ order → AreInByteOrder (o.name ∷ map opened_name os) → AreMembers (o ∷ os) → module_of root d.uri ≡ Some d.name → AreOrdered (d.name ∷ map opened_name os) (all_notices notes d os) → AreOrdered (d.name ∷ o.name ∷ map opened_name os) (match_ordering order (closing d ∷ (others_notice notes o ++ others_notices notes os)) (notice notes o ∷ others_notices notes os) (others_notice notes o ++ all_notices notes d os))
  named-at Less d o os e h are is more =
      let before : IsBeforeAll o.name (map opened_name os) = ordered-first o.name (map opened_name os) h in
      first (closing d) d.name (o.name ∷ map opened_name os) (others_notices notes (o ∷ os)) is (e, before-trans d.name o.name (map opened_name os) e before) (others-ordered (o ∷ os) h are)
  named-at Equal d o os e h are is more =
      wider d.name (o.name ∷ map opened_name os) (notice notes o ∷ others_notices notes os) (first (notice notes o) o.name (map opened_name os) (others_notices notes os) are.0 (ordered-first o.name (map opened_name os) h) (others-ordered os (ordered-rest o.name (map opened_name os) h) are.1))
  named-at Greater d o os e h are is more =
      swapped o.name d.name (map opened_name os) (others_notice notes o ++ all_notices notes d os) (other-at (was_sent o.sent (notes o.name)) o (d.name ∷ map opened_name os) (all_notices notes d os) are.0 (turned d.name o.name e, ordered-first o.name (map opened_name os) h) more)

  all-ordered : (d : Named) (os : List Opened) → AreInByteOrder (map opened_name os) → AreMembers os → module_of root d.uri ≡ Some d.name → AreOrdered (d.name ∷ map opened_name os) (all_notices notes d os)
  all-ordered d [] h are is =
      first (closing d) d.name [] [] is tt (others-ordered [] h are)
  all-ordered d (o ∷ os) h are is =
      named-at (slice_cmp nat_cmp d.name o.name) d o os refl h are is (all-ordered d os (ordered-rest o.name (map opened_name os) h) are.1 is)

  -- modules in byte order
  abbrev AreOfModules : List Due → Type 0
  AreOfModules dues = (names : List (List ℕ)) × AreInByteOrder names × (map (λ due. module_of root due.uri) dues ≡ map (λ name. Some name) names)

  notices-ordered : (due : Option Named) (os : List Opened) → AreInByteOrder (map opened_name os) → AreMembers os → IfSome due (λ d. module_of root d.uri ≡ Some d.name) → AreOfModules (notices notes due os)
  notices-ordered None os h are is = let w = others-ordered os h are in (w.names, w.ordered, w.modules)
  notices-ordered (Some d) os h are is = let w = all-ordered d os h are is in (w.names, w.ordered, w.modules)

pub dues-ordered : (s : State) → HasNamesInOrder s → HasMembers s → (names : List (List ℕ)) × AreInByteOrder names × (map (λ due. module_of s.root due.uri) (dues_of notes_of s) ≡ map (λ name. Some name) names)
dues-ordered s h are = notices-ordered s.root (notes_of s) s.due s.opened h.opened are.opened are.due
