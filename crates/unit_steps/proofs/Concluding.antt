-- Where a part goes that is whole with its last lexeme.
use Rattle.std.proofs.Common.{◌≡◌, ℕ, ◌<◌, List, length, ◌∷◌, [], ◌++◌, refl, subst, ◌∙◌, ap, Option, Some, None}
use Rattle.std.specs.Prelude.{reverse}
use Rattle.tla_symbols.specs.declared.lexeme.Lexeme.{Lexeme}
use Rattle.tla_tree.specs.Arena as Arena
use Rattle.tla_tree.specs.Arena.{tree_at}
use Rattle.tla_tree.specs.Lexemes.{then}
use Rattle.tla_tree.specs.Syntax.{Tree, Trees}
use Rattle.unit_machine.specs.Tables.{after_part}
use Rattle.tla_tree.specs.declared.unit.Unit.TheVariants as unit
use Rattle.tree_parts.specs.declared.part.Part.{Part}
use Rattle.tree_parts.specs.Parts.{IsPart}
use Rattle.unit_grammar.specs.Units.{UnitTree, Instance, Assumption, Theorem, defined}
use Rattle.unit_machine.specs.Machine as Machine
use Rattle.unit_frames.specs.declared.frame.Frame.{Frame}
use Rattle.unit_frames.specs.declared.reached.Reached.{Reached}
use Rattle.unit_frames.specs.declared.unfinished.Begun.{Begun}
use Rattle.unit_frames.specs.declared.unfinished.Unfinished.{Unfinished}
use Rattle.unit_steps.specs.declared.point.Point.{Point}
use Rattle.unit_steps.specs.declared.point.Next.{Next}
use Rattle.unit_grammar.specs.UnitNodes.{AreUnits}
use Rattle.unit_frames.specs.FrameMeaning.{AreParts, IsFrame, IsBegun, IsReached, IsUnder}
use Rattle.unit_steps.specs.PointMeaning.{IsMoved}
use Rattle.unit_steps.proofs.Reaching.{units-one}
use Rattle.unit_frames.proofs.Popping.{under-none, under-popped}

-- declarations of constants, and one more
pub concluded-constants : (nodes : List Arena.Node) (reached : Reached) (numbers more : List ℕ) (begun : Begun) (b : Machine.Begun) (x : Tree) (d : ℕ) (us : List UnitTree) → begun ≡ Begun.Constants numbers → IsReached nodes reached d us → IsBegun nodes begun b → ((xs : Trees) → AreParts nodes numbers xs → AreParts nodes more (then xs x)) → IsMoved nodes (Some (Next.At (Point.Declared reached more))) (Machine.concluded b x d us)
concluded-constants nodes reached numbers more begun b x d us q r i k = by b (subst (λ z. IsBegun nodes z b) q i)
  where
    by : (c : Machine.Begun) → IsBegun nodes (Begun.Constants numbers) c → IsMoved nodes (Some (Next.At (Point.Declared reached more))) (Machine.concluded c x d us)
    by (Machine.OfConstants xs) j = (k xs j, r)
    by (Machine.OfDefinition l) j = absurd j
    by (Machine.OfInstance l) j = absurd j
    by (Machine.OfAssumption w) j = absurd j
    by (Machine.OfTheorem w) j = absurd j

other-begun : (nodes : List Arena.Node) (begun : Begun) (xs : Trees) → ((numbers : List ℕ) → begun ≡ Begun.Constants numbers → ⊥) → IsBegun nodes begun (Machine.OfConstants xs) → ⊥
other-begun nodes (Begun.Constants numbers) xs k i = k numbers refl
other-begun nodes (Begun.Definition l) xs k i = i
other-begun nodes (Begun.Instance l) xs k i = i
other-begun nodes (Begun.Assumption w) xs k i = i
other-begun nodes (Begun.Theorem w) xs k i = i

-- and no other unit
pub not-concluded : (nodes : List Arena.Node) (begun : Begun) (b : Machine.Begun) (x : Tree) (d : ℕ) (us : List UnitTree) → ((numbers : List ℕ) → begun ≡ Begun.Constants numbers → ⊥) → IsBegun nodes begun b → IsMoved nodes None (Machine.concluded b x d us)
not-concluded nodes begun (Machine.OfConstants xs) x d us k i = absurd (other-begun nodes begun xs k i)
not-concluded nodes begun (Machine.OfDefinition l) x d us k i = tt
not-concluded nodes begun (Machine.OfInstance l) x d us k i = tt
not-concluded nodes begun (Machine.OfAssumption w) x d us k i = tt
not-concluded nodes begun (Machine.OfTheorem w) x d us k i = tt

pub shut-none : (nodes : List Arena.Node) (unfinished : Unfinished) (b : Machine.Begun) (fs : List Machine.Frame) (x : Tree) (spelled : List Lexeme) (d : ℕ) (us : List UnitTree) (state : Option Next) → unfinished.below.items ≡ [] → IsUnder nodes unfinished b fs d us → IsMoved nodes state (Machine.concluded b x d us) → IsMoved nodes state (Machine.shut b fs x spelled d us)
shut-none nodes unfinished b fs x spelled d us state e u i = rw (under-none nodes unfinished b fs d us e u) i

-- the frame below takes it
pub shut-frame : (nodes : List Arena.Node) (unfinished after : Unfinished) (top held : Frame) (w : _) (b : Machine.Begun) (fs : List Machine.Frame) (x : Tree) (spelled : List Lexeme) (d : ℕ) (us : List UnitTree) → after.reached ≡ unfinished.reached → after.begun ≡ unfinished.begun → reverse unfinished.below.items ≡ top ∷ reverse after.below.items → w ≡ after_part top.wait → IsUnder nodes unfinished b fs d us → ((g : Machine.Frame) → IsFrame nodes top g → IsFrame nodes held (Machine.frame w (then g.parts x) (g.read ++ spelled))) → IsMoved nodes (Some (Next.At (Point.Part after held))) (Machine.shut b fs x spelled d us)
shut-frame nodes unfinished after top held w b fs x spelled d us r s e q u h =
    let k = under-popped nodes unfinished after top b fs d us r s e u in
    let f : IsFrame nodes held (Machine.taking k.0 x spelled) = subst (λ z. IsFrame nodes held (Machine.frame z (then k.0.parts x) (k.0.read ++ spelled))) (q ∙ ap after_part k.3.wait) (h k.0 k.3) in
    rw k.2 (k.4, f)

-- ---- units that are whole before a lexeme

tree-of : (nodes : List Arena.Node) (node : ℕ) (part : Part) (x : Tree) (spelled : List Lexeme) → part.node ≡ node → IsPart nodes part x spelled → tree_at nodes node ≡ x
tree-of nodes node part x spelled n p = subst (λ z. tree_at nodes z ≡ x) n p.is

pub finished-constants : (nodes : List Arena.Node) (begun : Begun) (numbers : List ℕ) (b : Machine.Begun) (x : Tree) (d : ℕ) (us : List UnitTree) (t : Lexeme) (state : Option Next) → begun ≡ Begun.Constants numbers → IsBegun nodes begun b → ((xs : Trees) → AreParts nodes numbers xs → IsMoved nodes state (Machine.after_declared (then xs x) d us t)) → IsMoved nodes state (Machine.finished b x d us t)
finished-constants nodes begun numbers b x d us t state q i k = by b (subst (λ z. IsBegun nodes z b) q i)
  where
    by : (c : Machine.Begun) → IsBegun nodes (Begun.Constants numbers) c → IsMoved nodes state (Machine.finished c x d us t)
    by (Machine.OfConstants xs) j = k xs j
    by (Machine.OfDefinition l) j = absurd j
    by (Machine.OfInstance l) j = absurd j
    by (Machine.OfAssumption w) j = absurd j
    by (Machine.OfTheorem w) j = absurd j

pub finished-definition : (nodes : List Arena.Node) (begun : Begun) (local : Option Lexeme) (b : Machine.Begun) (node : ℕ) (whole : unit.the_data) (part : Part) (x : Tree) (spelled : List Lexeme) (d : ℕ) (us : List UnitTree) (t : Lexeme) (state : Option Next) → begun ≡ Begun.Definition local → IsBegun nodes begun b → part.node ≡ node → IsPart nodes part x spelled → AreUnits nodes (whole ∷ []) (defined local (tree_at nodes node) ∷ []) → ((u : UnitTree) → AreUnits nodes (whole ∷ []) (u ∷ []) → IsMoved nodes state (Machine.unit_due None d (us ++ u ∷ []) t)) → IsMoved nodes state (Machine.finished b x d us t)
finished-definition nodes begun local b node whole part x spelled d us t state q i n p a k = by b (subst (λ z. IsBegun nodes z b) q i)
  where
    by : (c : Machine.Begun) → IsBegun nodes (Begun.Definition local) c → IsMoved nodes state (Machine.finished c x d us t)
    by (Machine.OfDefinition l) e = k (defined l x) (subst (λ z. AreUnits nodes (whole ∷ []) (defined z x ∷ [])) e (subst (λ z. AreUnits nodes (whole ∷ []) (defined local z ∷ [])) (tree-of nodes node part x spelled n p) a))
    by (Machine.OfConstants xs) e = absurd e
    by (Machine.OfInstance l) e = absurd e
    by (Machine.OfAssumption w) e = absurd e
    by (Machine.OfTheorem w) e = absurd e

pub finished-instance : (nodes : List Arena.Node) (begun : Begun) (local : Option Lexeme) (b : Machine.Begun) (node : ℕ) (part : Part) (x : Tree) (spelled : List Lexeme) (d : ℕ) (us : List UnitTree) (t : Lexeme) (state : Option Next) → begun ≡ Begun.Instance local → IsBegun nodes begun b → part.node ≡ node → IsPart nodes part x spelled → ((u : UnitTree) → AreUnits nodes (unit.Instance local node ∷ []) (u ∷ []) → IsMoved nodes state (Machine.unit_due None d (us ++ u ∷ []) t)) → IsMoved nodes state (Machine.finished b x d us t)
finished-instance nodes begun local b node part x spelled d us t state q i n p k = by b (subst (λ z. IsBegun nodes z b) q i)
  where
    by : (c : Machine.Begun) → IsBegun nodes (Begun.Instance local) c → IsMoved nodes state (Machine.finished c x d us t)
    by (Machine.OfConstants xs) e = absurd e
    by (Machine.OfDefinition m) e = absurd e
    by (Machine.OfInstance m) e = k (Instance m x) (units-one nodes node (subst (λ z. z < length nodes) n p.there) (unit.Instance local node) (Instance m x) refl (ap (Instance local) (tree-of nodes node part x spelled n p) ∙ ap (λ z. Instance z x) e))
    by (Machine.OfAssumption w) e = absurd e
    by (Machine.OfTheorem w) e = absurd e

pub finished-assumption : (nodes : List Arena.Node) (begun : Begun) (word : Lexeme) (b : Machine.Begun) (node : ℕ) (part : Part) (x : Tree) (spelled : List Lexeme) (d : ℕ) (us : List UnitTree) (t : Lexeme) (state : Option Next) → begun ≡ Begun.Assumption word → IsBegun nodes begun b → part.node ≡ node → IsPart nodes part x spelled → ((u : UnitTree) → AreUnits nodes (unit.Assumption word None node ∷ []) (u ∷ []) → IsMoved nodes state (Machine.unit_due None d (us ++ u ∷ []) t)) → IsMoved nodes state (Machine.finished b x d us t)
finished-assumption nodes begun word b node part x spelled d us t state q i n p k = by b (subst (λ z. IsBegun nodes z b) q i)
  where
    by : (c : Machine.Begun) → IsBegun nodes (Begun.Assumption word) c → IsMoved nodes state (Machine.finished c x d us t)
    by (Machine.OfConstants xs) e = absurd e
    by (Machine.OfDefinition m) e = absurd e
    by (Machine.OfInstance m) e = absurd e
    by (Machine.OfAssumption w) e = k (Assumption w None x) (units-one nodes node (subst (λ z. z < length nodes) n p.there) (unit.Assumption word None node) (Assumption w None x) refl (ap (Assumption word None) (tree-of nodes node part x spelled n p) ∙ ap (λ z. Assumption z None x) e))
    by (Machine.OfTheorem w) e = absurd e

pub finished-theorem : (nodes : List Arena.Node) (begun : Begun) (word : Lexeme) (b : Machine.Begun) (node : ℕ) (part : Part) (x : Tree) (spelled : List Lexeme) (d : ℕ) (us : List UnitTree) (t : Lexeme) (state : Option Next) → begun ≡ Begun.Theorem word → IsBegun nodes begun b → part.node ≡ node → IsPart nodes part x spelled → ((u : UnitTree) → AreUnits nodes (unit.Theorem word None node ∷ []) (u ∷ []) → IsMoved nodes state (Machine.unit_due None d (us ++ u ∷ []) t)) → IsMoved nodes state (Machine.finished b x d us t)
finished-theorem nodes begun word b node part x spelled d us t state q i n p k = by b (subst (λ z. IsBegun nodes z b) q i)
  where
    by : (c : Machine.Begun) → IsBegun nodes (Begun.Theorem word) c → IsMoved nodes state (Machine.finished c x d us t)
    by (Machine.OfConstants xs) e = absurd e
    by (Machine.OfDefinition m) e = absurd e
    by (Machine.OfInstance m) e = absurd e
    by (Machine.OfAssumption w) e = absurd e
    by (Machine.OfTheorem w) e = k (Theorem w None x) (units-one nodes node (subst (λ z. z < length nodes) n p.there) (unit.Theorem word None node) (Theorem w None x) refl (ap (Theorem word None) (tree-of nodes node part x spelled n p) ∙ ap (λ z. Theorem z None x) e))
