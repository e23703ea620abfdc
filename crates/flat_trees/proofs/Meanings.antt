-- Names and meanings that are the same, and what stands for them.
use Rattle.std.proofs.Common.{◌≡◌, ℕ, suc, Bool, true, cond, List, [], ◌∷◌, refl, ap, ◌∙◌}
use Rattle.std.proofs.lemmas.Slice.Eq.{bytes_eq-Decides}
use denote.Enum.Bare.{same_true, true_same}
use Rattle.tla_symbols.specs.contracts.op.Op as op
use Rattle.tla_model.specs.Tables.{Named, Word, Symbol, same_named}
use Rattle.tla_model.specs.Entities.{Meaning}
use Rattle.tree_kinds.specs.Standing.{same_standing}
use Rattle.tree_kinds.proofs.Standings.{standing-alike}
use Rattle.flat_trees.specs.Stands.{Stand, Place}
use Rattle.flat_trees.specs.Layouts.{order_of}
use Rattle.flat_trees.specs.Instances.{with_symbols}

pub named-equal : (a b : Named) → same_named a b ≡ true → a ≡ b
named-equal (Word a) (Word b) same = ap Word ((bytes_eq-Decides a b).0 same)
named-equal (Symbol a) (Symbol b) same = ap Symbol (same_true op.the_type tt a b same)
named-equal (Word a) (Symbol b) same = cc same
named-equal (Symbol a) (Word b) same = cc same

pub named-itself : (a : Named) → same_named a a ≡ true
named-itself (Word a) = (bytes_eq-Decides a a).1 refl
named-itself (Symbol a) = true_same op.the_type a a refl

-- symbols that are the same stand for the same
pub symbols-same : (base : Meaning → Stand) (symbols : List Meaning) (place : ℕ) (a b : Meaning) → same_standing a b ≡ true → base a ≡ base b → with_symbols base symbols place a ≡ with_symbols base symbols place b
symbols-same base [] place a b same alike = alike
symbols-same base (meaning ∷ rest) place a b same alike =
    ap (λ (t : Bool). cond t (Place place (order_of meaning)) (with_symbols base rest (suc place) a)) (standing-alike a b meaning same)
    ∙ ap (λ (stand : Stand). cond (same_standing b meaning) (Place place (order_of meaning)) stand) (symbols-same base rest (suc place) a b same alike)
