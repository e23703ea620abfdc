-- Numbers of few decimal digits.
use Rattle.std.proofs.Common.{ℕ, ◌+◌, ◌*◌, ◌^◌, ◌<◌, ◌≤◌, lit<, arith}
use Rattle.std.proofs.Math.Nat.{pow-le-pow_right}
use Rattle.std.proofs.lemmas.Grind.{pow_more}

-- fewer than fifteen digits and one more fit a word
pub ten_times_fits : (count value digit : ℕ) → count < 15 → value < 10 ^ count → digit < 10 → value * 10 + digit < 2 ^ 64
ten_times_fits count value digit few small one =
    let bound : 10 ^ count ≤ 10 ^ 14 = pow-le-pow_right (lit< tt) {i = count} {j = 14} (omega arith) in omega (arith, few, small, one)

-- one more digit
pub ten_times_counted : (count value digit : ℕ) → value < 10 ^ count → digit < 10 → value * 10 + digit < 10 ^ (count + 1)
ten_times_counted count value digit small one = omega (arith, pow_more 10 count)
