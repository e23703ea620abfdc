-- What the reader does at a lexeme is what the machine makes of it.
use Rattle.std.proofs.Common.{◌≡◌, ℕ, Bool, true, false, List, [], ◌∷◌, ◌++◌, refl, ap, sym, subst, ◌∙◌, Option, Some, None}
use Rattle.std.specs.Prelude.{cond}
use Rattle.tla_symbols.specs.declared.lexeme.LexKind.{LexKind}
use Rattle.tla_symbols.specs.declared.lexeme.Lexeme.{Lexeme}
use Rattle.tla_tree.specs.Arena as Arena
use Rattle.tla_tree.specs.Arena.{tree_at}
use Rattle.tla_tree.specs.Syntax.{Tree}
use Rattle.tree_parts.specs.declared.part.Part.{Part}
use Rattle.tree_parts.specs.Parts.{Grows, parts_of}
use Rattle.tree_parts.proofs.Growing.{grows-same, grows-on}
use Rattle.expr_grammar.specs.Machine as Expressions
use Rattle.expr_grammar.specs.Machine.{start, start_bounds, finish}
use Rattle.expr_grammar.specs.Following.{stops, done_before, bounds_done_before}
use Rattle.expr_parse.specs.declared.goal.Goal.{Goal}
use Rattle.unit_machine.specs.Tables.{after_bounds}
use Rattle.unit_grammar.specs.Units.{UnitTree}
use Rattle.unit_machine.specs.Machine as Machine
use Rattle.unit_machine.specs.Machine.{part_step, given, expression_step, bounds_step}
use Rattle.unit_frames.specs.declared.frame.Frame.{Frame}
use Rattle.unit_frames.specs.declared.unfinished.Unfinished.{Unfinished}
use Rattle.unit_frames.specs.FrameMeaning.{IsFrame, IsUnder}
use Rattle.unit_frames.proofs.Growing.{frame-grows, under-grows}
use Rattle.unit_steps.specs.declared.point.Point.{Point}
use Rattle.unit_steps.specs.declared.point.Next.{Next}
use Rattle.unit_steps.specs.PointMeaning as Steps
use Rattle.unit_parse.specs.declared.reader.ExprReader.{ExprReader}
use Rattle.unit_parse.specs.declared.reader.Fed.{Fed}
use Rattle.unit_parse.specs.declared.state.State.{State}
use Rattle.unit_parse.specs.ReaderMeaning.{IsReading, IsFocus, IsState, IsMoved, Moves, IsFed, Feeds}

-- nodes were added before
pub moves-later : (nodes more most : List Arena.Node) (state : Option State) (st : Option Machine.State) → Grows nodes more → Moves more most state st → Moves nodes most state st
moves-later nodes more most state st g m = record { grows = grows-on nodes more most g m.grows; is = m.is }

-- an expression is not whole before its first lexeme
start-not-done : (kind : LexKind) (x : Tree) → done_before (Some start) kind ≡ Some x → ⊥
start-not-done kind x q = by (stops kind) q
  where
    by : (b : Bool) → cond b (finish (Some start)) None ≡ Some x → ⊥
    by true e = cc
    by false e = cc

pub begin-going : (nodes more : List Arena.Node) (unfinished : Unfinished) (reader : ExprReader) (t : Lexeme) (fed : Fed) (st : Option Machine.State) → fed ≡ Fed.Going → Steps.Begins nodes unfinished t st → Feeds nodes more reader Goal.Expression start [] t fed → Moves nodes more (Some (State.Expression unfinished reader)) st
begin-going nodes more unfinished reader t fed st q b h =
    let k : Feeds nodes more reader Goal.Expression start [] t Fed.Going = subst (Feeds nodes more reader Goal.Expression start [] t) q h in
    let e : st ≡ Some (Machine.state b.depth b.units (Machine.Expression b.begun b.frames k.is.1.state (t ∷ []))) =
    b.same ∙ ap (λ o. Machine.reading o b.begun b.frames (t ∷ []) b.depth b.units) k.is.1.steps
    in
    record {
      grows = k.grows;
      is = subst (IsMoved more (Some (State.Expression unfinished reader))) (sym e) (under-grows nodes more unfinished b.begun b.frames b.depth b.units k.grows b.under, k.is.1.is);
    }

pub begin-refused : (nodes more : List Arena.Node) (unfinished : Unfinished) (reader : ExprReader) (t : Lexeme) (fed : Fed) (st : Option Machine.State) → (fed ≡ Fed.Going → ⊥) → Steps.Begins nodes unfinished t st → Feeds nodes more reader Goal.Expression start [] t fed → Moves nodes more None st
begin-refused nodes more unfinished reader t Fed.Going st q b h = absurd (q refl)
begin-refused nodes more unfinished reader t (Fed.Done part) st q b h = absurd (start-not-done t.kind (tree_at more part.node) h.is.0)
begin-refused nodes more unfinished reader t Fed.Refused st q b h =
    let e : st ≡ None = b.same ∙ ap (λ o. Machine.reading o b.begun b.frames (t ∷ []) b.depth b.units) h.is.1 in
    record { grows = h.grows; is = subst (IsMoved more None) (sym e) tt }

-- ---- where units and frames lead

-- the reader enters it at once
pub enters : (nodes more : List Arena.Node) (next : Option Next) (st : Option Machine.State) {state : Option State} → Steps.Moves nodes more next st → IsMoved more state st → Moves nodes more state st
enters nodes more next st m i = record { grows = m.grows; is = i }

-- or adds nodes as it does
pub enters-begun : (nodes more most : List Arena.Node) (next : Option Next) (state : Option State) (st : Option Machine.State) → Steps.Moves nodes more next st → Moves more most state st → Moves nodes most state st
enters-begun nodes more most next state st m e = record { grows = grows-on nodes more most m.grows e.grows; is = e.is }

pub leads-to : (nodes : List Arena.Node) (next leads : Next) (st : Option Machine.State) → next ≡ leads → Steps.IsMoved nodes (Some next) st → Steps.IsMoved nodes (Some leads) st
leads-to nodes next leads st r i = subst (λ z. Steps.IsMoved nodes (Some z) st) r i

pub enters-point : (nodes : List Arena.Node) (point : Point) (st : Option Machine.State) → Steps.IsMoved nodes (Some (Next.At point)) st → IsMoved nodes (Some (State.At point)) st
enters-point nodes point None k = absurd k
enters-point nodes point (Some s) k = k

pub enters-expression : (nodes : List Arena.Node) (unfinished : Unfinished) (reader : ExprReader) (st : Option Machine.State) → IsReading nodes reader Goal.Expression start [] → Steps.IsMoved nodes (Some (Next.Awaits unfinished)) st → IsMoved nodes (Some (State.Expression unfinished reader)) st
enters-expression nodes unfinished reader None r k = absurd k
enters-expression nodes unfinished reader (Some s) r k = by s.focus k
  where
    by : (focus : Machine.Focus) → Steps.IsNextFocus nodes (Next.Awaits unfinished) focus s.depth s.units → IsFocus nodes (State.Expression unfinished reader) focus s.depth s.units
    by (Machine.Expression b fs e a) k = (k.0, rw (k.1, k.2) r)
    by (Machine.Stands due names) k = absurd k
    by (Machine.Declared xs) k = absurd k
    by (Machine.Part b f fs) k = absurd k
    by (Machine.Bounds b f e a) k = absurd k

pub enters-bounds : (nodes : List Arena.Node) (unfinished : Unfinished) (held : Frame) (reader : ExprReader) (st : Option Machine.State) → IsReading nodes reader Goal.Bounds start_bounds [] → Steps.IsMoved nodes (Some (Next.Bounds unfinished held)) st → IsMoved nodes (Some (State.Bounds unfinished held reader)) st
enters-bounds nodes unfinished held reader None r k = absurd k
enters-bounds nodes unfinished held reader (Some s) r k = by s.focus k
  where
    by : (focus : Machine.Focus) → Steps.IsNextFocus nodes (Next.Bounds unfinished held) focus s.depth s.units → IsFocus nodes (State.Bounds unfinished held reader) focus s.depth s.units
    by (Machine.Bounds b f e a) k = (k.0, k.1, rw (k.2, k.3) r)
    by (Machine.Stands due names) k = absurd k
    by (Machine.Declared xs) k = absurd k
    by (Machine.Part b f fs) k = absurd k
    by (Machine.Expression b fs e a) k = absurd k

-- ---- what the reader of expressions answered

pub fed-still : {nodes : List Arena.Node} {reader : ExprReader} {goal : Goal} {st : Expressions.State} {read : List Lexeme} {t : Lexeme} {fed : Fed} → IsFed nodes reader goal st read t fed → Feeds nodes nodes reader goal st read t fed
fed-still {nodes = nodes} i = record { grows = grows-same nodes; is = i }

pub expression-going : (nodes more : List Arena.Node) (unfinished : Unfinished) (reader : ExprReader) (b : Machine.Begun) (fs : List Machine.Frame) (d : ℕ) (us : List UnitTree) (st : Expressions.State) (read : List Lexeme) (t : Lexeme) (fed : Fed) → fed ≡ Fed.Going → IsUnder nodes unfinished b fs d us → Feeds nodes more reader Goal.Expression st read t fed → Moves nodes more (Some (State.Expression unfinished reader)) (expression_step (done_before (Some st) t.kind) b fs st read d us t)
expression-going nodes more unfinished reader b fs d us st read t fed q u h =
    let k : Feeds nodes more reader Goal.Expression st read t Fed.Going = subst (Feeds nodes more reader Goal.Expression st read t) q h in
    let e : expression_step (done_before (Some st) t.kind) b fs st read d us t ≡ Some (Machine.state d us (Machine.Expression b fs k.is.1.state (read ++ t ∷ []))) =
    ap (λ o. expression_step o b fs st read d us t) k.is.0 ∙ ap (λ o. Machine.reading o b fs (read ++ t ∷ []) d us) k.is.1.steps
    in
    record {
      grows = k.grows;
      is = subst (IsMoved more (Some (State.Expression unfinished reader))) (sym e) (under-grows nodes more unfinished b fs d us k.grows u, k.is.1.is);
    }

pub expression-refused : (nodes more : List Arena.Node) (reader : ExprReader) (b : Machine.Begun) (fs : List Machine.Frame) (d : ℕ) (us : List UnitTree) (st : Expressions.State) (read : List Lexeme) (t : Lexeme) (fed : Fed) → fed ≡ Fed.Refused → Feeds nodes more reader Goal.Expression st read t fed → Moves nodes more None (expression_step (done_before (Some st) t.kind) b fs st read d us t)
expression-refused nodes more reader b fs d us st read t fed q h =
    let k : Feeds nodes more reader Goal.Expression st read t Fed.Refused = subst (Feeds nodes more reader Goal.Expression st read t) q h in
    let e : expression_step (done_before (Some st) t.kind) b fs st read d us t ≡ None =
    ap (λ o. expression_step o b fs st read d us t) k.is.0 ∙ ap (λ o. Machine.reading o b fs (read ++ t ∷ []) d us) k.is.1
    in
    record { grows = k.grows; is = subst (IsMoved more None) (sym e) tt }

pub expression-done : (nodes more most : List Arena.Node) (reader : ExprReader) (part : Part) (b : Machine.Begun) (fs : List Machine.Frame) (d : ℕ) (us : List UnitTree) (st : Expressions.State) (read : List Lexeme) (t : Lexeme) (state : Option State) → Feeds nodes more reader Goal.Expression st read t (Fed.Done part) → Moves more most state (given fs b (tree_at more part.node) read d us t) → Moves nodes most state (expression_step (done_before (Some st) t.kind) b fs st read d us t)
expression-done nodes more most reader part b fs d us st read t state h m = record {
  grows = grows-on nodes more most h.grows m.grows;
  is = subst (IsMoved most state) (sym (ap (λ o. expression_step o b fs st read d us t) h.is.0)) m.is;
}

pub bounds-going : (nodes more : List Arena.Node) (unfinished : Unfinished) (held : Frame) (reader : ExprReader) (b : Machine.Begun) (f : Machine.Frame) (d : ℕ) (us : List UnitTree) (st : Expressions.State) (read : List Lexeme) (t : Lexeme) (fed : Fed) → fed ≡ Fed.Going → IsUnder nodes unfinished b [] d us → IsFrame nodes held f → Feeds nodes more reader Goal.Bounds st read t fed → Moves nodes more (Some (State.Bounds unfinished held reader)) (bounds_step (bounds_done_before (Some st) t.kind) b f st read d us t)
bounds-going nodes more unfinished held reader b f d us st read t fed q u i h =
    let k : Feeds nodes more reader Goal.Bounds st read t Fed.Going = subst (Feeds nodes more reader Goal.Bounds st read t) q h in
    let e : bounds_step (bounds_done_before (Some st) t.kind) b f st read d us t ≡ Some (Machine.state d us (Machine.Bounds b f k.is.1.state (read ++ t ∷ []))) =
    ap (λ o. bounds_step o b f st read d us t) k.is.0 ∙ ap (λ o. Machine.reading_bounds o b f (read ++ t ∷ []) d us) k.is.1.steps
    in
    record {
      grows = k.grows;
      is = subst (IsMoved more (Some (State.Bounds unfinished held reader))) (sym e) (under-grows nodes more unfinished b [] d us k.grows u, frame-grows nodes more held f k.grows i, k.is.1.is);
    }

pub bounds-refused : (nodes more : List Arena.Node) (reader : ExprReader) (b : Machine.Begun) (f : Machine.Frame) (d : ℕ) (us : List UnitTree) (st : Expressions.State) (read : List Lexeme) (t : Lexeme) (fed : Fed) → fed ≡ Fed.Refused → Feeds nodes more reader Goal.Bounds st read t fed → Moves nodes more None (bounds_step (bounds_done_before (Some st) t.kind) b f st read d us t)
bounds-refused nodes more reader b f d us st read t fed q h =
    let k : Feeds nodes more reader Goal.Bounds st read t Fed.Refused = subst (Feeds nodes more reader Goal.Bounds st read t) q h in
    let e : bounds_step (bounds_done_before (Some st) t.kind) b f st read d us t ≡ None =
    ap (λ o. bounds_step o b f st read d us t) k.is.0 ∙ ap (λ o. Machine.reading_bounds o b f (read ++ t ∷ []) d us) k.is.1
    in
    record { grows = k.grows; is = subst (IsMoved more None) (sym e) tt }

pub bounds-done-is : (nodes more most : List Arena.Node) (reader : ExprReader) (part : Part) (b : Machine.Begun) (f : Machine.Frame) (d : ℕ) (us : List UnitTree) (st : Expressions.State) (read : List Lexeme) (t : Lexeme) (state : Option State) → Feeds nodes more reader Goal.Bounds st read t (Fed.Done part) → Moves more most state (part_step [] b (Machine.frame (after_bounds f.wait) (parts_of (tree_at more part.node)) (f.read ++ read)) d us t) → Moves nodes most state (bounds_step (bounds_done_before (Some st) t.kind) b f st read d us t)
bounds-done-is nodes more most reader part b f d us st read t state h m = record {
  grows = grows-on nodes more most h.grows m.grows;
  is = subst (IsMoved most state) (sym (ap (λ o. bounds_step o b f st read d us t) h.is.0)) m.is;
}

pub fed-done : (nodes more : List Arena.Node) (reader : ExprReader) (goal : Goal) (st : Expressions.State) (read : List Lexeme) (t : Lexeme) (fed : Fed) (part : Part) → fed ≡ Fed.Done part → Feeds nodes more reader goal st read t fed → Feeds nodes more reader goal st read t (Fed.Done part)
fed-done nodes more reader goal st read t fed part q h = subst (Feeds nodes more reader goal st read t) q h

-- ---- a state in code, by what it is

pub as-point : (nodes : List Arena.Node) (state : State) (point : Point) (st : Machine.State) → state ≡ State.At point → IsState nodes state st → Steps.IsPoint nodes point st
as-point nodes state point st q i = subst (λ z. IsFocus nodes z st.focus st.depth st.units) q i

pub as-expression : (nodes : List Arena.Node) (state : State) (unfinished : Unfinished) (reader : ExprReader) (st : Machine.State) → state ≡ State.Expression unfinished reader → IsState nodes state st → (b : Machine.Begun) × (fs : List Machine.Frame) × (s : Expressions.State) × (a : List Lexeme) × (st.focus ≡ Machine.Expression b fs s a) × IsUnder nodes unfinished b fs st.depth st.units × IsReading nodes reader Goal.Expression s a
as-expression nodes state unfinished reader st q i = by st.focus (subst (λ z. IsFocus nodes z st.focus st.depth st.units) q i)
  where
    by : (focus : Machine.Focus) → IsFocus nodes (State.Expression unfinished reader) focus st.depth st.units → (b : Machine.Begun) × (fs : List Machine.Frame) × (s : Expressions.State) × (a : List Lexeme) × (focus ≡ Machine.Expression b fs s a) × IsUnder nodes unfinished b fs st.depth st.units × IsReading nodes reader Goal.Expression s a
    by (Machine.Expression b fs s a) k = (b, fs, s, a, refl, k.0, k.1)
    by (Machine.Stands due names) k = absurd k
    by (Machine.Declared xs) k = absurd k
    by (Machine.Part b f fs) k = absurd k
    by (Machine.Bounds b f s a) k = absurd k

pub as-bounds : (nodes : List Arena.Node) (state : State) (unfinished : Unfinished) (held : Frame) (reader : ExprReader) (st : Machine.State) → state ≡ State.Bounds unfinished held reader → IsState nodes state st → (b : Machine.Begun) × (f : Machine.Frame) × (s : Expressions.State) × (a : List Lexeme) × (st.focus ≡ Machine.Bounds b f s a) × IsUnder nodes unfinished b [] st.depth st.units × IsFrame nodes held f × IsReading nodes reader Goal.Bounds s a
as-bounds nodes state unfinished held reader st q i = by st.focus (subst (λ z. IsFocus nodes z st.focus st.depth st.units) q i)
  where
    by : (focus : Machine.Focus) → IsFocus nodes (State.Bounds unfinished held reader) focus st.depth st.units → (b : Machine.Begun) × (f : Machine.Frame) × (s : Expressions.State) × (a : List Lexeme) × (focus ≡ Machine.Bounds b f s a) × IsUnder nodes unfinished b [] st.depth st.units × IsFrame nodes held f × IsReading nodes reader Goal.Bounds s a
    by (Machine.Bounds b f s a) k = (b, f, s, a, refl, k.0, k.1, k.2)
    by (Machine.Stands due names) k = absurd k
    by (Machine.Declared xs) k = absurd k
    by (Machine.Part b f fs) k = absurd k
    by (Machine.Expression b fs s a) k = absurd k

pub focus-moves : (nodes more : List Arena.Node) (state : Option State) (st : Machine.State) (focus : Machine.Focus) (t : Lexeme) → st.focus ≡ focus → Moves nodes more state (Machine.focus_step focus st.depth st.units t) → Moves nodes more state (Machine.step st t)
focus-moves nodes more state st focus t q m = subst (λ z. Moves nodes more state (Machine.focus_step z st.depth st.units t)) (sym q) m
