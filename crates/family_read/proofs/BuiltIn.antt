-- How long the texts of the built-in modules are.
use Rattle.std.proofs.Common.{◌≡◌, ◌<◌, ◌^◌, ℕ, List, length, refl, arith}
use Rattle.std.specs.Prelude.{codes, unwrap_or, []}
use Rattle.std.specs.List.{AllByRecursion}
use Rattle.std_modules.specs.StdTexts.{STD_MODULES, bags, finite_sets, integers, naturals, real_time, reals, sequences, std_names, std_text, tlc}

abbrev pub IsSmall : List ℕ → Type 0
IsSmall name = length (unwrap_or (std_text name) []) < 2 ^ 31

few : (n m : ℕ) → n ≡ m → m < 1000 → n < 2 ^ 31
few n m e l = omega (arith, e, l)

small-naturals : IsSmall (codes "Naturals")
unfolding STD_MODULES naturals
small-naturals = few (length (unwrap_or (std_text (codes "Naturals")) [])) 492 refl (omega arith)

small-integers : IsSmall (codes "Integers")
unfolding STD_MODULES integers
small-integers = few (length (unwrap_or (std_text (codes "Integers")) [])) 116 refl (omega arith)

small-reals : IsSmall (codes "Reals")
unfolding STD_MODULES reals
small-reals = few (length (unwrap_or (std_text (codes "Reals")) [])) 159 refl (omega arith)

small-sequences : IsSmall (codes "Sequences")
unfolding STD_MODULES sequences
small-sequences = few (length (unwrap_or (std_text (codes "Sequences")) [])) 401 refl (omega arith)

small-finite-sets : IsSmall (codes "FiniteSets")
unfolding STD_MODULES finite_sets
small-finite-sets = few (length (unwrap_or (std_text (codes "FiniteSets")) [])) 141 refl (omega arith)

small-bags : IsSmall (codes "Bags")
unfolding STD_MODULES bags
small-bags = few (length (unwrap_or (std_text (codes "Bags")) [])) 660 refl (omega arith)

small-real-time : IsSmall (codes "RealTime")
unfolding STD_MODULES real_time
small-real-time = few (length (unwrap_or (std_text (codes "RealTime")) [])) 562 refl (omega arith)

small-tlc : IsSmall (codes "TLC")
unfolding STD_MODULES tlc
small-tlc = few (length (unwrap_or (std_text (codes "TLC")) [])) 632 refl (omega arith)

pub built-in-small : AllByRecursion IsSmall std_names
built-in-small = (small-naturals, (small-integers, (small-reals, (small-sequences, (small-finite-sets, (small-bags, (small-real-time, (small-tlc, tt))))))))
