-- What has the same resolved trees, as far as numbers of nodes tell.
use Rattle.std.specs.Prelude.{◌≡◌, ℕ, ◌<◌, Bool, List, Option, IsSomeAnd, IsTrue, length}
use Rattle.std.specs.List.{AllByRecursion}
use Rattle.kind_text.specs.FlatModule.{Definition, FlatModule, Instance, Replacement}
use Rattle.resolved_trees.specs.Resolved.{definition_at, instance_at, replacements_at, resolved}
use Rattle.tree_numbers.specs.Numbered.{AreTold, TellTrees}

-- ---- what has numbers

module _ (numbers : List ℕ) where
  -- a definition is there, and its body has a number
  abbrev pub IsNumberedDefinition : Option Definition → Type 0
  IsNumberedDefinition one = IsSomeAnd one (λ x. x.root < length numbers)

  -- what stands for symbols has numbers
  abbrev pub AreNumberedReplacements : List Replacement → Type 0
  AreNumberedReplacements = AllByRecursion (λ r. r.root < length numbers)

  -- an instance is there, and what stands for symbols in it has numbers
  abbrev pub IsNumberedInstance : Option Instance → Type 0
  IsNumberedInstance one = IsSomeAnd one (λ x. AreNumberedReplacements x.replacements)

-- ---- what the answer yes says, where one number is one tree

module _ (flat : FlatModule) (numbers : List ℕ) where
  -- nodes have the same tree
  abbrev pub IsSameNode : ℕ → ℕ → Type 0
  IsSameNode one other = AreTold flat numbers → resolved flat one ≡ resolved flat other

  -- definitions do
  abbrev pub IsSameDefinition : Option Definition → Option Definition → Type 0
  IsSameDefinition one other = AreTold flat numbers → definition_at flat (resolved flat) one ≡ definition_at flat (resolved flat) other

  -- what stands for symbols does, one after another
  abbrev pub AreSameReplacements : List Replacement → List Replacement → Type 0
  AreSameReplacements one other = AreTold flat numbers → replacements_at flat (resolved flat) one ≡ replacements_at flat (resolved flat) other

  -- instances do
  abbrev pub IsSameInstance : Option Instance → Option Instance → Type 0
  IsSameInstance one other = AreTold flat numbers → instance_at flat (resolved flat) one ≡ instance_at flat (resolved flat) other

-- ---- when the answer is yes, where one tree has one number

module _ (flat : FlatModule) (numbers : List ℕ) where
  -- nodes with numbers have the same tree
  abbrev pub FindsSameNode : ℕ → ℕ → Bool → Type 0
  FindsSameNode one other answer = TellTrees flat numbers → one < length numbers → other < length numbers → resolved flat one ≡ resolved flat other → IsTrue answer

  -- definitions with numbers do
  abbrev pub FindsSameDefinition : Option Definition → Option Definition → Bool → Type 0
  FindsSameDefinition one other answer =
      TellTrees flat numbers → IsNumberedDefinition numbers one → IsNumberedDefinition numbers other → definition_at flat (resolved flat) one ≡ definition_at flat (resolved flat) other → IsTrue answer

  -- what stands for symbols does, one after another
  abbrev pub FindsSameReplacements : List Replacement → List Replacement → Bool → Type 0
  FindsSameReplacements one other answer =
      TellTrees flat numbers → AreNumberedReplacements numbers one → AreNumberedReplacements numbers other → replacements_at flat (resolved flat) one ≡ replacements_at flat (resolved flat) other → IsTrue answer

  -- instances with numbers do
  abbrev pub FindsSameInstance : Option Instance → Option Instance → Bool → Type 0
  FindsSameInstance one other answer =
      TellTrees flat numbers → IsNumberedInstance numbers one → IsNumberedInstance numbers other → instance_at flat (resolved flat) one ≡ instance_at flat (resolved flat) other → IsTrue answer
