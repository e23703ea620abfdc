-- Uses that get their levels one after another.
use Rattle.std.proofs.Common.{◌≡◌, ℕ, zero, suc, ◌+◌, ◌<◌, List, [], ◌∷◌, ◌++◌, length, get_or, take, drop, map, refl, ap, ◌∙◌, add-one, arith}
use Rattle.indexmap.specs.IndexMap.{IndexMap}
use Rattle.std.specs.Prelude.{slice_set}
use Rattle.tla_model.specs.declared.entity.Level.{Level}
use Rattle.tla_model.specs.declared.entity.Use.{Use}
use Rattle.family_levels.specs.Judging.{level_at, with_level}

-- items of which the first ones are mapped, with the next one mapped too
mapped-more : (f : Use → Use) (items : List Use) (k : ℕ) (d : Use) → k < length items → slice_set (map f (take k items) ++ drop k items) k (f (get_or (map f (take k items) ++ drop k items) k d)) ≡ map f (take (suc k) items) ++ drop (suc k) items
mapped-more f [] k d there = absurd (omega arith)
mapped-more f (x ∷ items) zero d there = refl
mapped-more f (x ∷ items) (suc k) d there = ap (λ rest. f x ∷ rest) (mapped-more f items k d (omega (arith, there)))

-- uses of which the first ones have their levels, with the level of the next one
pub leveled-more : {S : Type 0} (levels : IndexMap ℕ Level S) (start now : List Use) (i : ℕ) (d : Use) (level : Level) → i < length start → now ≡ map (with_level levels) (take i start) ++ drop i start → level ≡ level_at levels (get_or now i d).name.start
    → slice_set now i (record (get_or now i d) { level = level }) ≡ map (with_level levels) (take (i + 1) start) ++ drop (i + 1) start
leveled-more levels start now i d level there holds is =
    ap (λ l. slice_set now i (record (get_or now i d) { level = l })) is
    ∙ (ap (λ items. slice_set items i (with_level levels (get_or items i d))) holds ∙ rw add-one (mapped-more (with_level levels) start i d there))
