-- What a lexeme does to frames is what the machine makes of it.
use Rattle.std.proofs.Common.{◌≡◌, ℕ, List, [], ◌∷◌, ◌++◌, refl, ap, sym, subst, ◌∙◌, Option, Some, None, Bool, true, false, ◌+◌, ◌<◌, lit<}
use Rattle.std.specs.Prelude.{reverse}
use Rattle.tla_symbols.specs.declared.lexeme.Lexeme.{Lexeme}
use Rattle.tla_tree.specs.declared.form.Form.{Form}
use Rattle.tla_tree.specs.Arena as Arena
use Rattle.tla_tree.specs.Lexemes.{then}
use Rattle.tla_tree.specs.Syntax.{Tree, Trees}
use Rattle.tree_parts.specs.declared.part.Part.{Part}
use Rattle.tree_parts.specs.Parts.{Grows, IsPart}
use Rattle.tree_parts.proofs.Growing.{grows-same, grows-on}
use Rattle.unit_machine.specs.declared.wait.Due.{Due}
use Rattle.unit_machine.specs.declared.wait.Move.{Move}
use Rattle.expr_grammar.specs.Kinds.{is_underscore}
use Rattle.unit_machine.specs.declared.wait.Wait.{Wait}
use Rattle.unit_machine.specs.Tables.{if_move, places_of, move, after_part, after_expression, after_bounds}
use Rattle.unit_grammar.specs.Units.{UnitTree}
use Rattle.unit_machine.specs.Machine as Machine
use Rattle.unit_machine.specs.Machine.{part_step, moved, finished, given}
use Rattle.unit_frames.specs.declared.frame.Frame.{Frame}
use Rattle.unit_frames.specs.declared.reached.Reached.{Reached}
use Rattle.unit_frames.specs.declared.unfinished.Unfinished.{Unfinished}
use Rattle.unit_steps.specs.declared.point.Point.{Point}
use Rattle.unit_steps.specs.declared.point.Next.{Next}
use Rattle.unit_frames.specs.FrameMeaning.{AreParts, IsReached, IsFrame, AreFrames, IsUnder, Makes, Takes}
use Rattle.unit_steps.specs.PointMeaning.{IsFocus, IsPoint, IsMoved, Moves, EndsWhole, EndsMoving, IsEnded, Ends, TakesBelow, EndsFrame, form_of_end}
use Rattle.unit_frames.proofs.Growing.{frame-grows, frames-grow, under-grows}

-- nothing was added
pub still : {nodes : List Arena.Node} {state : Option Next} {st : Option Machine.State} → IsMoved nodes state st → Moves nodes nodes state st
still {nodes = nodes} i = record { grows = grows-same nodes; is = i }

pub part-moves : (nodes more : List Arena.Node) (unfinished : Unfinished) (held : Frame) (b : Machine.Begun) (f : Machine.Frame) (fs : List Machine.Frame) (d : ℕ) (us : List UnitTree) → IsUnder nodes unfinished b fs d us → Takes nodes more held f → Moves nodes more (Some (Next.At (Point.Part unfinished held))) (Some (Machine.state d us (Machine.Part b f fs)))
part-moves nodes more unfinished held b f fs d us u t = record {
  grows = t.grows;
  is = (under-grows nodes more unfinished b fs d us t.grows u, t.is);
}

pub made-moves : (nodes more : List Arena.Node) (unfinished : Unfinished) (part : Part) (b : Machine.Begun) (fs : List Machine.Frame) (d : ℕ) (us : List UnitTree) (x : Tree) (spelled : List Lexeme) (state : Option Next) (st : Option Machine.State) → IsUnder nodes unfinished b fs d us → Makes nodes more part x spelled → (IsUnder more unfinished b fs d us → IsPart more part x spelled → IsMoved more state st) → Moves nodes more state st
made-moves nodes more unfinished part b fs d us x spelled state st u m k = record {
  grows = m.grows;
  is = k (under-grows nodes more unfinished b fs d us m.grows u) m.is;
}

-- ---- the frames that end

abbrev DoesNotEnd : Move → Type 0
DoesNotEnd to = (form : Form) → to ≡ Move.Ends form → ⊥

moved-still : (to : Move) (b : Machine.Begun) (f : Machine.Frame) (fs : List Machine.Frame) (d : ℕ) (us : List UnitTree) (t : Lexeme) (go : Form → Option Machine.State) → DoesNotEnd to → moved to b f fs d us t go ≡ moved to b f fs d us t (λ form. None)
moved-still (Move.Ends form) b f fs d us t go k = absurd (k form refl)
moved-still _ b f fs d us t go k = refl

step-still : (to : Move) (b : Machine.Begun) (f : Machine.Frame) (fs : List Machine.Frame) (d : ℕ) (us : List UnitTree) (t : Lexeme) → move f.wait t ≡ to → DoesNotEnd to → part_step fs b f d us t ≡ moved to b f fs d us t (λ form. None)
step-still to b f [] d us t q k = ap (λ z. moved z b f [] d us t (λ form. finished b (Machine.node form f) d us t)) q ∙ moved-still to b f [] d us t _ k
step-still to b f (g ∷ gs) d us t q k = ap (λ z. moved z b f (g ∷ gs) d us t (λ form. part_step gs b (Machine.taking g (Machine.node form f) f.read) d us t)) q ∙ moved-still to b f (g ∷ gs) d us t _ k

step-whole : (form : Form) (b : Machine.Begun) (f : Machine.Frame) (d : ℕ) (us : List UnitTree) (t : Lexeme) → move f.wait t ≡ Move.Ends form → part_step [] b f d us t ≡ finished b (Machine.node form f) d us t
step-whole form b f d us t q = ap (λ z. moved z b f [] d us t (λ x. finished b (Machine.node x f) d us t)) q

step-ends : (form : Form) (b : Machine.Begun) (f g : Machine.Frame) (gs : List Machine.Frame) (d : ℕ) (us : List UnitTree) (t : Lexeme) → move f.wait t ≡ Move.Ends form → part_step (g ∷ gs) b f d us t ≡ part_step gs b (Machine.taking g (Machine.node form f) f.read) d us t
step-ends form b f g gs d us t q = ap (λ z. moved z b f (g ∷ gs) d us t (λ x. part_step gs b (Machine.taking g (Machine.node x f) f.read) d us t)) q

not-ending : (to : Move) → form_of_end to ≡ None → DoesNotEnd to
not-ending to q form e = let k : Some form ≡ None = sym (ap form_of_end e) ∙ q in cc

pub ending-is : (to : Move) (form : Form) (found : Option Form) → found ≡ form_of_end to → found ≡ Some form → Move.Ends form ≡ to
ending-is (Move.Ends g) form found q e = let k : Some form ≡ Some g = sym e ∙ q in let i : form ≡ g = cc in ap Move.Ends i
ending-is _ form found q e = let k : Some form ≡ None = sym e ∙ q in cc

pub not-ended : (to found : Move) → found ≡ to → DoesNotEnd found → None ≡ form_of_end to
not-ended to found q k = subst (λ z. None ≡ form_of_end z) q (by found k)
  where
    by : (m : Move) → DoesNotEnd m → None ≡ form_of_end m
    by (Move.Ends form) k = absurd (k form refl)
    by _ k = refl

-- a frame that has read too many places does not end
pub places-stay : (wait : Wait) (t : Lexeme) → (places_of wait < 4294967295 → ⊥) → None ≡ form_of_end (move wait t)
places-stay (Wait.Places n places) t e = by (is_underscore t.kind)
  where
    by : (b : Bool) → None ≡ form_of_end (if_move b (Move.Shift (Wait.PlacesRead n (places + 1))))
    by true = refl
    by false = refl
places-stay _ t e = absurd (e (lit< tt))

-- what is left of the step is the step
pub record Goes (nodes more : List Arena.Node) (below : List Frame) (held : Frame) (f : Machine.Frame) (fs : List Machine.Frame) (t : Lexeme) : Type 0 where
  pub frame : Machine.Frame
  pub frames : List Machine.Frame
  pub grows : Grows nodes more
  pub is : IsFrame more held frame
  pub are : AreFrames more (reverse below) frames
  pub same : (b : Machine.Begun) → (d : ℕ) → (us : List UnitTree) → part_step fs b f d us t ≡ part_step frames b frame d us t

pub goes-first : (nodes : List Arena.Node) (below : List Frame) (held : Frame) (f : Machine.Frame) (fs : List Machine.Frame) (t : Lexeme) → IsFrame nodes held f → AreFrames nodes (reverse below) fs → Goes nodes nodes below held f fs t
goes-first nodes below held f fs t i a = record { frame = f; frames = fs; grows = grows-same nodes; is = i; are = a; same = λ b d us. refl }

pub goes-moves : {nodes more : List Arena.Node} {below : List Frame} {held : Frame} {f : Machine.Frame} {fs : List Machine.Frame} {t : Lexeme} → None ≡ form_of_end (move held.wait t) → Goes nodes more below held f fs t → Ends nodes more below held None f fs t
goes-moves {held = held} {t = t} q g = record {
  grows = g.grows;
  is = record {
    frame = g.frame;
    frames = g.frames;
    is = g.is;
    below = g.are;
    same = λ b d us. g.same b d us ∙ step-still (move held.wait t) b g.frame g.frames d us t (sym (ap (λ z. move z t) g.is.wait)) (not-ending (move held.wait t) (sym q));
  };
}

pub not-some : (o : Option Part) → ((part : Part) → o ≡ Some part → ⊥) → o ≡ None
not-some None k = refl
not-some (Some part) k = absurd (k part refl)

-- no frame is left below the one that ends
pub goes-whole : {nodes more : List Arena.Node} {below : List Frame} {held : Frame} {f : Machine.Frame} {fs : List Machine.Frame} {t : Lexeme} (most : List Arena.Node) (left : List Frame) (last : Frame) (part : Part) (form : Form) (ended : Option Part) → Move.Ends form ≡ move held.wait t → ended ≡ Some part → (g : Goes nodes more below held f fs t) → EndsFrame more most left last form g.frame g.frames ended → Ends nodes most left last (Some part) f fs t
goes-whole {nodes = nodes} {more = more} {t = t} most left last part form ended q s g n =
    let e : EndsFrame more most left last form g.frame g.frames (Some part) = subst (EndsFrame more most left last form g.frame g.frames) s n in
    record {
      grows = grows-on nodes more most g.grows e.grows;
      is = record {
        tree = Machine.node form g.frame;
        spelled = g.frame.read;
        is = e.is.1;
        same = λ b d us. g.same b d us ∙ (ap (λ z. part_step z b g.frame d us t) e.is.0 ∙ step-whole form b g.frame d us t (sym (q ∙ ap (λ z. move z t) g.is.wait)));
      };
    }

-- and the one below goes on
pub goes-on : {nodes more : List Arena.Node} {below : List Frame} {held : Frame} {f : Machine.Frame} {fs : List Machine.Frame} {t : Lexeme} (most : List Arena.Node) (left : List Frame) (outer : Frame) (form : Form) (ended : Option Part) → Move.Ends form ≡ move held.wait t → ended ≡ None → (g : Goes nodes more below held f fs t) → EndsFrame more most left outer form g.frame g.frames ended → Goes nodes most left outer f fs t
goes-on {nodes = nodes} {more = more} {t = t} most left outer form ended q s g n =
    let e : EndsFrame more most left outer form g.frame g.frames None = subst (EndsFrame more most left outer form g.frame g.frames) s n in
    record {
      frame = Machine.taking e.is.outer (Machine.node form g.frame) g.frame.read;
      frames = e.is.outers;
      grows = grows-on nodes more most g.grows e.grows;
      is = e.is.is;
      are = e.is.below;
      same = λ b d us. g.same b d us ∙ (ap (λ z. part_step z b g.frame d us t) e.is.was ∙ step-ends form b g.frame e.is.outer e.is.outers d us t (sym (q ∙ ap (λ z. move z t) g.is.wait)));
    }

-- ---- one frame ends

pub ended-alone : (nodes more : List Arena.Node) (below left : List Frame) (held : Frame) (part : Part) (form : Form) (f : Machine.Frame) (fs : List Machine.Frame) → below ≡ [] → AreFrames nodes (reverse below) fs → Makes nodes more part (Machine.node form f) f.read → EndsFrame nodes more left held form f fs (Some part)
ended-alone nodes more below left held part form f fs e a m = record {
  grows = m.grows;
  is = (none fs (subst (λ z. AreFrames nodes (reverse z) fs) e a), m.is);
}
  where
    none : (gs : List Machine.Frame) → AreFrames nodes [] gs → gs ≡ []
    none [] a = refl
    none (h ∷ hs) a = absurd a

pub ended-below : (nodes more : List Arena.Node) (below left : List Frame) (outer taken : Frame) (part : Part) (form : Form) (f : Machine.Frame) (fs : List Machine.Frame) → reverse below ≡ outer ∷ reverse left → AreFrames nodes (reverse below) fs → Makes nodes more part (Machine.node form f) f.read → ((h : Machine.Frame) → (x : Tree) → (b : List Lexeme) → IsFrame more outer h → IsPart more part x b → IsFrame more taken (Machine.frame (after_part outer.wait) (then h.parts x) (h.read ++ b))) → EndsFrame nodes more left taken form f fs None
ended-below nodes more below left outer taken part form f fs e a m k = record {
  grows = m.grows;
  is = by fs (subst (λ z. AreFrames nodes z fs) e a);
}
  where
    by : (gs : List Machine.Frame) → AreFrames nodes (outer ∷ reverse left) gs → TakesBelow more left taken form f gs
    by [] a = absurd a
    by (h ∷ hs) a = record {
      outer = h;
      outers = hs;
      was = refl;
      is = subst (λ z. IsFrame more taken (Machine.frame (after_part z) (then h.parts (Machine.node form f)) (h.read ++ f.read))) a.0.wait (k h (Machine.node form f) f.read (frame-grows nodes more outer h m.grows a.0) m.is);
      below = frames-grow nodes more _ hs m.grows a.1;
    }

-- ---- the step, once the frames have ended

pub ended-whole : (nodes : List Arena.Node) (below : List Frame) (held : Frame) (whole : Option Part) (part : Part) (f : Machine.Frame) (fs : List Machine.Frame) (t : Lexeme) → whole ≡ Some part → IsEnded nodes below held whole f fs t → EndsWhole nodes part f fs t
ended-whole nodes below held whole part f fs t q e = subst (λ z. IsEnded nodes below held z f fs t) q e

pub ended-moves : (nodes : List Arena.Node) (below : List Frame) (held : Frame) (whole : Option Part) (f : Machine.Frame) (fs : List Machine.Frame) (t : Lexeme) → whole ≡ None → IsEnded nodes below held whole f fs t → EndsMoving nodes below held f fs t
ended-moves nodes below held whole f fs t q e = subst (λ z. IsEnded nodes below held z f fs t) q e

pub step-whole-is : (nodes : List Arena.Node) (part : Part) (b : Machine.Begun) (f : Machine.Frame) (fs : List Machine.Frame) (d : ℕ) (us : List UnitTree) (t : Lexeme) (state : Option Next) → (w : EndsWhole nodes part f fs t) → IsMoved nodes state (finished b w.tree d us t) → Moves nodes nodes state (part_step fs b f d us t)
step-whole-is nodes part b f fs d us t state w i = still (subst (IsMoved nodes state) (sym (w.same b d us)) i)

pub step-moves-is : (nodes more : List Arena.Node) (below : List Frame) (held : Frame) (to : Move) (b : Machine.Begun) (f : Machine.Frame) (fs : List Machine.Frame) (d : ℕ) (us : List UnitTree) (t : Lexeme) (state : Option Next) → to ≡ move held.wait t → (w : EndsMoving nodes below held f fs t) → Moves nodes more state (moved to b w.frame w.frames d us t (λ form. None)) → Moves nodes more state (part_step fs b f d us t)
step-moves-is nodes more below held to b f fs d us t state q w m = subst (Moves nodes more state) (sym (w.same b d us)) (subst (λ z. Moves nodes more state (moved z b w.frame w.frames d us t (λ form. None))) q m)

-- nodes were added before
pub moves-later : (nodes more most : List Arena.Node) (state : Option Next) (st : Option Machine.State) → Grows nodes more → Moves more most state st → Moves nodes most state st
moves-later nodes more most state st g m = record { grows = grows-on nodes more most g m.grows; is = m.is }

-- ---- an expression or bounds that are whole

pub given-none : (nodes : List Arena.Node) (b : Machine.Begun) (fs : List Machine.Frame) (x : Tree) (spelled : List Lexeme) (d : ℕ) (us : List UnitTree) (t : Lexeme) (state : Option Next) → fs ≡ [] → IsMoved nodes state (finished b x d us t) → Moves nodes nodes state (given fs b x spelled d us t)
given-none nodes b fs x spelled d us t state e i = rw e (still i)

pub given-frame : (nodes more : List Arena.Node) (b : Machine.Begun) (fs gs : List Machine.Frame) (g : Machine.Frame) (x : Tree) (spelled : List Lexeme) (d : ℕ) (us : List UnitTree) (t : Lexeme) (state : Option Next) → fs ≡ g ∷ gs → Moves nodes more state (part_step gs b (Machine.frame (after_expression g.wait) (then g.parts x) (g.read ++ spelled)) d us t) → Moves nodes more state (given fs b x spelled d us t)
given-frame nodes more b fs gs g x spelled d us t state e m = rw e m

-- the frame that takes it waits for what the machine's does
pub waits-as : (nodes : List Arena.Node) (taken top : Frame) (w : _) (g : Machine.Frame) (ps : Trees) (a : List Lexeme) → w ≡ after_expression top.wait → IsFrame nodes top g → IsFrame nodes taken (Machine.frame w ps a) → IsFrame nodes taken (Machine.frame (after_expression g.wait) ps a)
waits-as nodes taken top w g ps a q i k = subst (λ z. IsFrame nodes taken (Machine.frame z ps a)) (q ∙ ap after_expression i.wait) k

pub bounds-wait : (nodes : List Arena.Node) (taken top : Frame) (w : _) (g : Machine.Frame) (ps : Trees) (a : List Lexeme) → w ≡ after_bounds top.wait → IsFrame nodes top g → IsFrame nodes taken (Machine.frame w ps a) → IsFrame nodes taken (Machine.frame (after_bounds g.wait) ps a)
bounds-wait nodes taken top w g ps a q i k = subst (λ z. IsFrame nodes taken (Machine.frame z ps a)) (q ∙ ap after_bounds i.wait) k

-- ---- where the reading stands, by what it is

pub as-stands : (nodes : List Arena.Node) (point : Point) (reached : Reached) (due : Due) (names : List Lexeme) (st : Machine.State) → point ≡ Point.Stands reached due names → IsPoint nodes point st → (st.focus ≡ Machine.Stands due names) × IsReached nodes reached st.depth st.units
as-stands nodes point reached due names st q i = by st.focus (subst (λ z. IsFocus nodes z st.focus st.depth st.units) q i)
  where
    by : (focus : Machine.Focus) → IsFocus nodes (Point.Stands reached due names) focus st.depth st.units → (focus ≡ Machine.Stands due names) × IsReached nodes reached st.depth st.units
    by (Machine.Stands d ns) k = (ap (λ z. Machine.Stands z ns) (sym k.0) ∙ ap (Machine.Stands due) (sym k.1), k.2)
    by (Machine.Declared xs) k = absurd k
    by (Machine.Part b f fs) k = absurd k
    by (Machine.Expression b fs s a) k = absurd k
    by (Machine.Bounds b f s a) k = absurd k

pub as-declared : (nodes : List Arena.Node) (point : Point) (reached : Reached) (declarations : List ℕ) (st : Machine.State) → point ≡ Point.Declared reached declarations → IsPoint nodes point st → (xs : Trees) × (st.focus ≡ Machine.Declared xs) × AreParts nodes declarations xs × IsReached nodes reached st.depth st.units
as-declared nodes point reached declarations st q i = by st.focus (subst (λ z. IsFocus nodes z st.focus st.depth st.units) q i)
  where
    by : (focus : Machine.Focus) → IsFocus nodes (Point.Declared reached declarations) focus st.depth st.units → (xs : Trees) × (focus ≡ Machine.Declared xs) × AreParts nodes declarations xs × IsReached nodes reached st.depth st.units
    by (Machine.Declared xs) k = (xs, refl, k.0, k.1)
    by (Machine.Stands d ns) k = absurd k
    by (Machine.Part b f fs) k = absurd k
    by (Machine.Expression b fs s a) k = absurd k
    by (Machine.Bounds b f s a) k = absurd k

pub as-part : (nodes : List Arena.Node) (point : Point) (unfinished : Unfinished) (held : Frame) (st : Machine.State) → point ≡ Point.Part unfinished held → IsPoint nodes point st → (b : Machine.Begun) × (f : Machine.Frame) × (fs : List Machine.Frame) × (st.focus ≡ Machine.Part b f fs) × IsUnder nodes unfinished b fs st.depth st.units × IsFrame nodes held f
as-part nodes point unfinished held st q i = by st.focus (subst (λ z. IsFocus nodes z st.focus st.depth st.units) q i)
  where
    by : (focus : Machine.Focus) → IsFocus nodes (Point.Part unfinished held) focus st.depth st.units → (b : Machine.Begun) × (f : Machine.Frame) × (fs : List Machine.Frame) × (focus ≡ Machine.Part b f fs) × IsUnder nodes unfinished b fs st.depth st.units × IsFrame nodes held f
    by (Machine.Part b f fs) k = (b, f, fs, refl, k.0, k.1)
    by (Machine.Stands due names) k = absurd k
    by (Machine.Declared xs) k = absurd k
    by (Machine.Expression b fs s a) k = absurd k
    by (Machine.Bounds b f s a) k = absurd k

pub focus-moves : (nodes more : List Arena.Node) (state : Option Next) (st : Machine.State) (focus : Machine.Focus) (t : Lexeme) → st.focus ≡ focus → Moves nodes more state (Machine.focus_step focus st.depth st.units t) → Moves nodes more state (Machine.step st t)
focus-moves nodes more state st focus t q m = subst (λ z. Moves nodes more state (Machine.focus_step z st.depth st.units t)) (sym q) m
