-- The machine for units: where in a module it stands, with the units that it has read.
--
-- While an expression is read, or the bounds in a function's head, the state of the machine for these stands beside the
-- frames that wait for it. An expression is done before the lexemes that may follow one in a unit, and bounds before `]`.
use Rattle.std.specs.Prelude.{◌≡◌, ℕ, suc, ◌+◌, take, cond, List, [], ◌∷◌, ◌++◌, length, Option, Some, None}
use Rattle.tla_symbols.specs.declared.lexeme.Lexeme.{Lexeme}
use Rattle.tla_tree.specs.declared.form.Form.{Form}
use Rattle.tla_tree.specs.Syntax.{Tree, Trees, Nil}
use Rattle.tla_tree.specs.Lexemes.{built, then}
use Rattle.expr_grammar.specs.Kinds.{is_comma}
use Rattle.expr_grammar.specs.Machine as Expressions
use Rattle.expr_grammar.specs.Machine.{start, start_bounds}
use Rattle.expr_grammar.specs.Following.{done_before, bounds_done_before}
use Rattle.unit_grammar.specs.Units.{UnitTree, Variables, Constants, Instance, Assumption, Theorem, Line, ModuleBegin, ModuleEnd, ModuleUnits, defined}
use Rattle.unit_machine.specs.declared.wait.Due.{Due}
use Rattle.unit_machine.specs.declared.wait.DueMove.{DueMove}
use Rattle.unit_machine.specs.declared.wait.UnitStart.{UnitStart}
use Rattle.unit_machine.specs.declared.wait.Wait.{Wait}
use Rattle.unit_machine.specs.declared.wait.Move.{Move}
use Rattle.unit_machine.specs.Tables.{unit_start, due_move, move, after_part, after_expression, after_bounds}

-- a part that is read: what it waits for, its own parts, and its lexemes
pub record Frame : Type 0 where
  pub wait : Wait
  pub parts : Trees
  pub read : List Lexeme

-- the frame with this wait, these parts and these lexemes
abbrev pub frame : Wait → Trees → List Lexeme → Frame
frame w ps a = record { wait = w; parts = ps; read = a }

-- the unit that is read, with what it has beside its last part
pub data Begun : Type 0 where
  OfConstants : (declarations : Trees) → Begun
  OfDefinition : (before : Option Lexeme) → Begun
  OfInstance : (before : Option Lexeme) → Begun
  OfAssumption : (word : Lexeme) → Begun
  OfTheorem : (word : Lexeme) → Begun

-- what is read now
pub data Focus : Type 0 where
  -- a lexeme of the module's own form is due, after these names of a list
  Stands : (due : Due) (names : List Lexeme) → Focus
  -- declarations of constants are read: a comma, or the next unit
  Declared : (declarations : Trees) → Focus
  -- a lexeme of a part is due, with the parts that wait for it
  Part : (begun : Begun) (f : Frame) (fs : List Frame) → Focus
  -- an expression or bounds are read, with their lexemes so far
  Expression : (begun : Begun) (fs : List Frame) (state : Expressions.State) (read : List Lexeme) → Focus
  Bounds : (begun : Begun) (f : Frame) (state : Expressions.State) (read : List Lexeme) → Focus

-- how many modules are open, the units so far with the begins of these modules, and where in the last it stands
pub record State : Type 0 where
  pub depth : ℕ
  pub units : List UnitTree
  pub focus : Focus

-- so many modules are open, after these units, and this is read now
abbrev pub state : ℕ → List UnitTree → Focus → State
state depth units focus = record { depth = depth; units = units; focus = focus }

-- the unit that is whole with this last part
abbrev pub unit_of : Begun → Tree → UnitTree
unit_of (OfConstants xs) x = Constants (then xs x)
unit_of (OfDefinition before) x = defined before x
unit_of (OfInstance before) x = Instance before x
unit_of (OfAssumption w) x = Assumption w None x
unit_of (OfTheorem w) x = Theorem w None x

-- the run of `=` that ends a nested module
abbrev pub ended : ℕ → List UnitTree → Lexeme → Option State
ended (suc (suc depth)) us t = Some (state (suc depth) (us ++ ModuleEnd t ∷ []) (Stands Due.Unit []))
ended _ us t = None

-- and the one that closes the outermost
abbrev pub closed : ℕ → List UnitTree → Option State
closed (suc ℕ.zero) us = Some (state ℕ.zero us (Stands Due.Closed []))
closed _ us = None

-- what a lexeme begins where a unit is due, behind the LOCAL that may stand before it
abbrev pub started : UnitStart → Option Lexeme → ℕ → List UnitTree → Lexeme → Option State
started (UnitStart.Goes due) l d us t = Some (state d us (Stands due []))
started (UnitStart.Definition w) l d us t = Some (state d us (Part (OfDefinition l) (frame w Nil (t ∷ [])) []))
started UnitStart.Instance l d us t = Some (state d us (Part (OfInstance l) (frame Wait.InstanceName Nil (t ∷ [])) []))
started UnitStart.Constants l d us t = Some (state d us (Part (OfConstants Nil) (frame Wait.Declaration Nil []) []))
started UnitStart.Assumption l d us t = Some (state d us (Expression (OfAssumption t) [] start []))
started UnitStart.Theorem l d us t = Some (state d us (Expression (OfTheorem t) [] start []))
started UnitStart.Ends l d us t = ended d us t
started UnitStart.Closes l d us t = closed d us
started UnitStart.Refused l d us t = None

-- a lexeme where a unit is due, after these units
abbrev pub unit_due : Option Lexeme → ℕ → List UnitTree → Lexeme → Option State
unit_due l d us t = started (unit_start t.kind t) l d us t

-- the move of the table for a lexeme where something is due; a unit that it ends is read before the lexeme
abbrev pub due_moved : DueMove → List Lexeme → ℕ → List UnitTree → Lexeme → Option State
due_moved (DueMove.Goes due) names d us t = Some (state d us (Stands due names))
due_moved (DueMove.Named due) names d us t = Some (state d us (Stands due (names ++ t ∷ [])))
due_moved (DueMove.Begun dashes n) names d us t = unit_due None (suc d) (us ++ ModuleBegin dashes n names ∷ []) t
due_moved DueMove.Listed names d us t = unit_due None d (us ++ Variables names ∷ []) t
due_moved (DueMove.Lined dashes) names d us t = unit_due None d (us ++ Line dashes ∷ []) t
due_moved (DueMove.Begins l) names d us t = unit_due l d us t
due_moved DueMove.Refused names d us t = None

-- a lexeme after declarations of constants
abbrev pub after_declared : Trees → ℕ → List UnitTree → Lexeme → Option State
after_declared xs d us t = cond (is_comma t.kind) (Some (state d us (Part (OfConstants xs) (frame Wait.Declaration Nil []) []))) (unit_due None d (us ++ Constants xs ∷ []) t)

-- a whole part of a unit, before a lexeme
abbrev pub finished : Begun → Tree → ℕ → List UnitTree → Lexeme → Option State
finished (OfConstants xs) x d us t = after_declared (then xs x) d us t
finished begun x d us t = unit_due None d (us ++ unit_of begun x ∷ []) t

-- and with its last lexeme, as declarations of constants may end
abbrev pub concluded : Begun → Tree → ℕ → List UnitTree → Option State
concluded (OfConstants xs) x d us = Some (state d us (Declared (then xs x)))
concluded begun x d us = None

-- the tree of a frame
abbrev pub node : Form → Frame → Tree
node form f = built form f.parts f.read

-- the frame below takes a part
abbrev pub taking : Frame → Tree → List Lexeme → Frame
taking g x b = frame (after_part g.wait) (then g.parts x) (g.read ++ b)

-- a part that ended with its own last lexeme goes to the frame below, and at the bottom to the unit
abbrev pub shut : Begun → List Frame → Tree → List Lexeme → ℕ → List UnitTree → Option State
shut begun [] x b d us = concluded begun x d us
shut begun (g ∷ gs) x b d us = Some (state d us (Part begun (taking g x b) gs))

-- an expression is read on with the lexeme, its first one or a later one, unless it is refused there
abbrev pub reading : Option Expressions.State → Begun → List Frame → List Lexeme → ℕ → List UnitTree → Option State
reading None begun fs b d us = None
reading (Some st) begun fs b d us = Some (state d us (Expression begun fs st b))

-- the move of the table for a lexeme in a frame; the last argument says how a frame ends before the lexeme
abbrev pub moved : Move → Begun → Frame → List Frame → ℕ → List UnitTree → Lexeme → (Form → Option State) → Option State
moved (Move.Shift w) begun f fs d us t go = Some (state d us (Part begun (frame w f.parts (f.read ++ t ∷ [])) fs))
moved (Move.Leaf form w) begun f fs d us t go = Some (state d us (Part begun (frame w (then f.parts (built form Nil (t ∷ []))) (f.read ++ t ∷ [])) fs))
moved (Move.LeafOf form n w) begun f fs d us t go = Some (state d us (Part begun (frame w (then f.parts (built form Nil (n ∷ []))) (f.read ++ t ∷ [])) fs))
moved (Move.Push w) begun f fs d us t go = Some (state d us (Part begun (frame w Nil (t ∷ [])) (f ∷ fs)))
moved (Move.Opens w c) begun f fs d us t go = Some (state d us (Part begun (frame c Nil []) (frame w f.parts (f.read ++ t ∷ []) ∷ fs)))
moved (Move.Close form) begun f fs d us t go = shut begun fs (built form f.parts (f.read ++ t ∷ [])) (f.read ++ t ∷ []) d us
moved (Move.Ends form) begun f fs d us t go = go form
moved Move.Expression begun f fs d us t go = reading (Expressions.step start t) begun (f ∷ fs) (t ∷ []) d us
moved (Move.Bounds w) begun f fs d us t go = Some (state d us (Bounds begun (frame w f.parts (f.read ++ t ∷ [])) start_bounds []))
moved Move.Refused begun f fs d us t go = None

-- a lexeme that ends a part is due in the frame below, and after the unit at the bottom
abbrev pub part_step : List Frame → Begun → Frame → ℕ → List UnitTree → Lexeme → Option State
part_step [] begun f d us t = moved (move f.wait t) begun f [] d us t (λ form. finished begun (node form f) d us t)
part_step (g ∷ gs) begun f d us t = moved (move f.wait t) begun f (g ∷ gs) d us t (λ form. part_step gs begun (taking g (node form f) f.read) d us t)

-- an expression that is done, before a lexeme
abbrev pub given : List Frame → Begun → Tree → List Lexeme → ℕ → List UnitTree → Lexeme → Option State
given [] begun x b d us t = finished begun x d us t
given (g ∷ gs) begun x b d us t = part_step gs begun (frame (after_expression g.wait) (then g.parts x) (g.read ++ b)) d us t

-- a lexeme after an expression that is done before it, or else in the expression
abbrev pub expression_step : Option Tree → Begun → List Frame → Expressions.State → List Lexeme → ℕ → List UnitTree → Lexeme → Option State
expression_step (Some x) begun fs st b d us t = given fs begun x b d us t
expression_step None begun fs st b d us t = reading (Expressions.step st t) begun fs (b ++ t ∷ []) d us

-- bounds are read on with the lexeme, unless it is refused there
abbrev pub reading_bounds : Option Expressions.State → Begun → Frame → List Lexeme → ℕ → List UnitTree → Option State
reading_bounds None begun f b d us = None
reading_bounds (Some st) begun f b d us = Some (state d us (Bounds begun f st b))

-- a lexeme after bounds that are done before it, or else in the bounds
abbrev pub bounds_step : Option Trees → Begun → Frame → Expressions.State → List Lexeme → ℕ → List UnitTree → Lexeme → Option State
bounds_step (Some xs) begun f st b d us t = part_step [] begun (frame (after_bounds f.wait) xs (f.read ++ b)) d us t
bounds_step None begun f st b d us t = reading_bounds (Expressions.step st t) begun f (b ++ t ∷ []) d us

-- a lexeme by what is read now
abbrev pub focus_step : Focus → ℕ → List UnitTree → Lexeme → Option State
focus_step (Stands due names) d us t = due_moved (due_move due t) names d us t
focus_step (Declared xs) d us t = after_declared xs d us t
focus_step (Part begun f fs) d us t = part_step fs begun f d us t
focus_step (Expression begun fs st b) d us t = expression_step (done_before (Some st) t.kind) begun fs st b d us t
focus_step (Bounds begun f st b) d us t = bounds_step (bounds_done_before (Some st) t.kind) begun f st b d us t

-- one lexeme more
abbrev pub step : State → Lexeme → Option State
step s t = focus_step s.focus s.depth s.units t

-- the state after these lexemes; there is none after a refused one
abbrev pub run : Option State → List Lexeme → Option State
run o [] = o
run None (t ∷ ts) = None
run (Some s) (t ∷ ts) = run (step s t) ts

-- how many frames are held
abbrev pub held : Focus → ℕ
held (Part begun f fs) = suc (length fs)
held (Expression begun fs st b) = length fs
held (Bounds begun f st b) = 1
held _ = 0

-- before the first lexeme: no module is open, and the dashes of the outermost are due
abbrev pub opening : State
opening = state ℕ.zero [] (Stands Due.Opening [])

-- the units of the outermost module stand behind its begin
abbrev pub whole : List UnitTree → Option ModuleUnits
whole (ModuleBegin dashes n names ∷ us) = Some (record { name = n; extends = names; units = us })
whole _ = None

-- the module, where the outermost one is closed
abbrev pub answered : Focus → List UnitTree → Option ModuleUnits
answered (Stands Due.Closed names) us = whole us
answered _ us = None

-- the one module that has been read, if it is closed
abbrev pub answer : Option State → Option ModuleUnits
answer None = None
answer (Some s) = answered s.focus s.units

-- the module that a list of lexemes spells, if the machine accepts it
abbrev pub parse : List Lexeme → Option ModuleUnits
parse ts = answer (run (Some opening) ts)

-- it reads the lexemes before this one, and not this one
pub record RefusesAt (lexemes : List Lexeme) (index : ℕ) : Type 0 where
  pub reached : State
  pub reads : run (Some opening) (take index lexemes) ≡ Some reached
  pub refuses : run (Some opening) (take (index + 1) lexemes) ≡ None
