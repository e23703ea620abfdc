-- What is right of keys and of instances is so with more numbers and with more instances.
use Rattle.std.proofs.Common.{◌≡◌, ◌⊎◌, ℕ, List, [], ◌∷◌, ◌++◌, Option, None, Some, inl, inr, length, subst, sym}
use Rattle.std.specs.Prelude.{IfSome}
use Rattle.kind_text.specs.FlatModule.{FlatModule}
use Rattle.list_laws.proofs.Lists.{all-weaker}
use Rattle.tree_numbers.specs.declared.keys.Body.{Body}
use Rattle.tree_numbers.specs.declared.keys.Contents.{Contents}
use Rattle.tree_numbers.specs.declared.keys.Key.{Key}
use Rattle.tree_numbers.specs.declared.keys.Root.{Root}
use Rattle.tree_numbers.specs.declared.numbers.TreeNumbers.{TreeNumbers}
use Rattle.tree_numbers.specs.Numbered.{AreFirstNodes, AreInstances, AreKeys, AreKnown, AreMet, HasNumbers, IsByNumbers, IsFirst, IsNumber, IsNumbered, IsSameNode, KeepsFirsts, NumberNodes}
use Rattle.tree_numbers.proofs.Entries.{number-cases, numbers-kept}
use Rattle.tree_numbers.proofs.Sharing.{nodes-more}

-- what stands for instances is known with more of them
pub met-more : (known more : List (Contents × ℕ)) (firsts : List (ℕ × ℕ)) → KeepsFirsts known more → AreMet known firsts → AreMet more firsts
met-more known more firsts kept met = all-weaker (λ e. IsFirst known e.1) (λ e. IsFirst more e.1) (λ e. kept e.1) firsts met

module _ (numbers more : List ℕ) (known further : List (Contents × ℕ)) (counted : (n : ℕ) → IsNumber numbers n → IsNumber more n) (kept : KeepsFirsts known further) where
  body-more : (body : Option Body) → IfSome body (λ x. IsNumber numbers x.root) → IfSome body (λ x. IsNumber more x.root)
  body-more None numbered = tt
  body-more (Some x) numbered = counted x.root numbered

  by-more : (key : Key) → IsByNumbers numbers known key → IsByNumbers more further key
  by-more key h = record {
    path = all-weaker (IsFirst known) (IsFirst further) kept key.path.items h.path;
    root = body-more key.body h.root;
    parts = all-weaker (IsNumber numbers) (IsNumber more) counted key.parts.items h.parts;
  }

  pub keys-grow : (flat : FlatModule) (keys : List (Key × ℕ)) → AreKeys flat numbers known keys → AreKeys flat more further keys
  keys-grow flat keys h = record {
    each = h.each;
    numbered = all-weaker (λ e. IsByNumbers numbers known e.0) (λ e. IsByNumbers more further e.0) (λ e. by-more e.0) keys h.numbered;
    apart = h.apart;
  }

  held-more : (contents : Contents) → HasNumbers numbers contents → HasNumbers more contents
  held-more contents h = all-weaker (λ (r : Root). IsNumber numbers r.root) (λ r. IsNumber more r.root) (λ r. counted r.root) contents.roots.items h

  pub known-grows : (flat : FlatModule) (all : List (Contents × ℕ)) → AreKnown flat numbers all → AreKnown flat more all
  known-grows flat all h = record {
    each = h.each;
    numbered = all-weaker (λ e. HasNumbers numbers e.0) (λ e. HasNumbers more e.0) (λ e. held-more e.0) all h.numbered;
    apart = h.apart;
  }

-- one more node, whose number stands with a key
pub first-nodes-more : (keys : List (Key × ℕ)) (numbers : List ℕ) (first : ℕ) → AreFirstNodes keys numbers → IsFirst keys first → AreFirstNodes keys (numbers ++ first ∷ [])
first-nodes-more keys numbers first firsts here n number = by (number-cases numbers first n number)
  where
    by : IsNumber numbers n ⊎ (first ≡ n) → IsFirst keys n
    by (inl before) = firsts n before
    by (inr last) = subst (IsFirst keys) last here

-- ---- one more node

module _ (flat : FlatModule) (was now : TreeNumbers) (right : IsNumbered flat was) (instances : AreInstances flat was.nodes.items now.instances) (kept : KeepsFirsts was.instances.known.entries now.instances.known.entries) where
  -- its key is by numbers, before it is kept
  pub keys-known : AreKeys flat was.nodes.items now.instances.known.entries was.keys.entries
  keys-known = keys-grow was.nodes.items was.nodes.items was.instances.known.entries now.instances.known.entries (λ n number. number) kept flat was.keys.entries right.keys

  module _ (keys : AreKeys flat was.nodes.items now.instances.known.entries now.keys.entries) (keys_kept : KeepsFirsts was.keys.entries now.keys.entries) where
    -- its key is kept, or not, and it has no number
    pub numbered-same : now.nodes.items ≡ was.nodes.items → IsNumbered flat now
    numbered-same same = record {
      nodes = subst (NumberNodes flat) (sym same) right.nodes;
      firsts = subst (AreFirstNodes now.keys.entries) (sym same) (λ n number. keys_kept n (right.firsts n number));
      keys = subst (λ xs. AreKeys flat xs now.instances.known.entries now.keys.entries) (sym same) keys;
      instances = subst (λ xs. AreInstances flat xs now.instances) (sym same) instances;
    }

    -- its number is the first one with its key
    pub numbered-more : (first : ℕ) → now.nodes.items ≡ was.nodes.items ++ first ∷ [] → IsFirst now.keys.entries first → IsSameNode flat (length was.nodes.items) first → IsNumbered flat now
    numbered-more first more is_first same =
        let numbers = was.nodes.items in
        let all = numbers ++ first ∷ [] in
        let known = now.instances.known.entries in
        let counted = numbers-kept numbers first in
        let of_instances : AreInstances flat all now.instances = record {
          firsts = instances.firsts;
          met = instances.met;
          known = known-grows numbers all known known counted (λ n met. met) flat known instances.known;
        } in
        record {
          nodes = subst (NumberNodes flat) (sym more) (nodes-more flat numbers first right.nodes same);
          firsts = subst (AreFirstNodes now.keys.entries) (sym more) (first-nodes-more now.keys.entries numbers first (λ n number. keys_kept n (right.firsts n number)) is_first);
          keys = subst (λ xs. AreKeys flat xs known now.keys.entries) (sym more) (keys-grow numbers all known known counted (λ n met. met) flat now.keys.entries keys);
          instances = subst (λ xs. AreInstances flat xs now.instances) (sym more) of_instances;
        }
