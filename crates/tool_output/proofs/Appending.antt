-- Known bytes that grow.
use Rattle.std.proofs.Common.{◌≡◌, ◌≢◌, ℕ, List, [], ◌∷◌, ◌++◌, Option, Some, None, refl, sym, ap, ◌∙◌, append_assoc}
use Rattle.std.proofs.lemmas.List.{append-nil}
use Rattle.std.specs.Io.KnownBytes.{Appends}
use Rattle.tool_output.specs.Output.{AppendsFront, AppendsSome}

-- by nothing
pub appends_nothing : (old : Option (List ℕ)) → Appends old old []
appends_nothing None = tt
appends_nothing (Some x) = sym (append-nil x)

-- in two steps
pub appends_both : (a b c : Option (List ℕ)) (bs cs : List ℕ) → Appends a b bs → Appends b c cs → Appends a c (bs ++ cs)
appends_both None b c bs cs h k = tt
appends_both (Some x) None c bs cs h k = absurd h
appends_both (Some x) (Some y) None bs cs h k = absurd k
appends_both (Some x) (Some y) (Some z) bs cs h k = k ∙ ap (λ l. l ++ cs) h ∙ append_assoc x bs cs

-- some bytes, and not all, are bytes from the front
pub some_front : (old new : Option (List ℕ)) (bytes : List ℕ) → AppendsSome old new bytes → AppendsFront old new bytes
some_front old new bytes a = (a.0, a.1, a.2, a.4)
