-- What is made of the same is the same, and nodes are told by their numbers.
use Rattle.std.proofs.Common.{arith, ◌≡◌, ◌⊎◌, ℕ, List, [], ◌∷◌, ◌++◌, Some, true, ap, inl, inr, length, sym, ◌∙◌, subst}
use Rattle.std.proofs.lemmas.Option.{slice_get_within}
use Rattle.std.specs.Prelude.{nat_eq, slice_get}
use Rattle.list_laws.proofs.Lists.{pushed-cases}
use Rattle.std.proofs.lemmas.Bool.{eqb-true}
use Rattle.kind_text.specs.FlatModule.{FlatModule}
use Rattle.tree_numbers.specs.declared.keys.Contents.{Contents}
use Rattle.tree_numbers.specs.declared.keys.Key.{Key}
use Rattle.resolved_trees.specs.Resolved.{resolved}
use Rattle.tree_numbers.specs.Numbered.{AreApart, AreContents, AreFirstNodes, AreKeys, AreKnown, AreTold, IsFirst, IsKey, IsNumber, IsSameInstance, IsSameNode, NumberNodes, TellTrees}
use Rattle.tree_numbers.proofs.Pieces.{pieces-exact}

module _ (flat : FlatModule) where
  pub nodes-alike : (key : Key) (i j : ℕ) → IsKey flat key i → IsKey flat key j → IsSameNode flat i j
  nodes-alike key i j a b = record { here = a.here; there = b.here; same = pieces-exact (resolved flat i) (resolved flat j) (a.pieces ∙ sym b.pieces) }

  pub instances-alike : (contents : Contents) (i j : ℕ) → AreContents flat contents i → AreContents flat contents j → IsSameInstance flat i j
  instances-alike contents i j a b = record { here = a.here; there = b.here; same = a.is ∙ sym b.is }

  pub instance-back : (a b n : ℕ) → nat_eq a b ≡ true → IsSameInstance flat b n → IsSameInstance flat a n
  instance-back a b n h same = subst (λ j. IsSameInstance flat j n) (sym (eqb-true a b h)) same

  -- the number of one more node
  pub nodes-more : (numbers : List ℕ) (n : ℕ) → NumberNodes flat numbers → IsSameNode flat (length numbers) n → NumberNodes flat (numbers ++ n ∷ [])
  nodes-more numbers n right same i m at = by (pushed-cases numbers n m i at)
    where
      by : (slice_get numbers i ≡ Some m) ⊎ ((i ≡ length numbers) × (n ≡ m)) → IsSameNode flat i m
      by (inl before) = right i m before
      by (inr last) = subst (IsSameNode flat i) last.1 (subst (λ j. IsSameNode flat j n) (sym last.0) same)

  -- nodes with one number have one tree
  pub nodes-told : (numbers : List ℕ) → NumberNodes flat numbers → AreTold flat numbers
  nodes-told numbers right i j n at_i at_j = (right i n at_i).same ∙ sym (right j n at_j).same

  -- where there are no numbers, each is right
  pub no-numbers : (numbers : List ℕ) → numbers ≡ [] → NumberNodes flat numbers
  no-numbers numbers empty i n at = absurd (omega (arith, slice_get_within numbers i n at, ap length empty))

  -- nodes whose numbers stand with keys are told apart as these are
  pub numbers-apart : (keys : List (Key × ℕ)) (numbers : List ℕ) → AreFirstNodes keys numbers → AreApart (resolved flat) (IsFirst keys) → AreApart (resolved flat) (IsNumber numbers)
  numbers-apart keys numbers firsts apart n m number other same = apart n m (firsts n number) (firsts m other) same

  -- so nodes with one tree have one number
  pub nodes-tell : (numbers : List ℕ) → NumberNodes flat numbers → AreApart (resolved flat) (IsNumber numbers) → TellTrees flat numbers
  nodes-tell numbers right apart i j n m at_i at_j same = apart n m (i, at_i) (j, at_j) (sym (right i n at_i).same ∙ same ∙ (right j m at_j).same)

-- where nothing is kept, all is right
pub no-first-nodes : (keys : List (Key × ℕ)) (numbers : List ℕ) → numbers ≡ [] → AreFirstNodes keys numbers
no-first-nodes keys numbers empty n number = absurd (omega (arith, slice_get_within numbers number.0 n number.1, ap length empty))

pub no-keys : (flat : FlatModule) (numbers : List ℕ) (known : List (Contents × ℕ)) → AreKeys flat numbers known []
no-keys flat numbers known = record { each = tt; numbered = tt; apart = λ n m one other same. absurd (omega (arith, slice_get_within {A = Key × ℕ} [] one.0 (one.1, n) one.2)) }

pub none-known : (flat : FlatModule) (numbers : List ℕ) → AreKnown flat numbers []
none-known flat numbers = record { each = tt; numbered = tt; apart = λ n m one other same. absurd (omega (arith, slice_get_within {A = Contents × ℕ} [] one.0 (one.1, n) one.2)) }
