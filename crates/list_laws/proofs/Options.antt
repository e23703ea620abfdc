-- What a test of an option tells of it.
use Rattle.std.proofs.Common.{◌≡◌, Option, Some, None, Result, Ok, Err, true, false, refl}
use Rattle.std.specs.Prelude.{is_some}
use Rattle.std.specs.Result.{OnErr}

pub none-there : {A : Type 0} (o : Option A) → is_some o ≡ false → o ≡ None
none-there None e = refl
none-there (Some a) e = cc e

pub some-there : {A : Type 0} (o : Option A) → is_some o ≡ true → (a : A) × (o ≡ Some a)
some-there None e = cc e
some-there (Some a) e = (a, refl)

-- what holds whatever a call answers holds where it fails
pub holds-on-err : {T E P : Type 0} (r : Result T E) → P → OnErr r P
holds-on-err (Ok value) holds = tt
holds-on-err (Err fault) holds = holds
