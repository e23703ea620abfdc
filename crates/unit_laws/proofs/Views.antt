-- What the machine has read, in the terms of the grammar: of each part, of the unit, and of the modules round it.
use Rattle.std.proofs.Common.{◌≡◌, ℕ, suc, ◌+◌, List, [], ◌∷◌, ◌++◌, Option, Some, None}
use Rattle.tla_symbols.specs.declared.op.Op.{Op}
use Rattle.tla_symbols.specs.declared.place.Fix.{Fix}
use Rattle.tla_symbols.specs.declared.lexeme.Word.TheVariants as Word
use Rattle.tla_symbols.specs.declared.lexeme.Mark.TheVariants as Mark
use Rattle.tla_symbols.specs.declared.lexeme.Lexeme.{Lexeme}
use Rattle.tla_tree.specs.declared.form.Form.{Form}
use Rattle.tla_tree.specs.Syntax.{Tree, Trees, Nil}
use Rattle.tla_tree.specs.Lexemes.{IsName, IsWord, IsMark, IsSymbol, Defines, built, one, two, then, joined}
use Rattle.tla_tree.specs.Headings.{DerivesPlaces, DerivesParameter, DerivesParameters, DerivesHead, IsReplaceable}
use Rattle.tla_tree.specs.Derivation.{Derives, DerivesBounds, DerivesDefinition, DerivesInstance, DerivesReplacements, DerivesReplacement}
use Rattle.expr_grammar.specs.Tables.{name_leaf}
use Rattle.expr_grammar.specs.Machine as Expressions
use Rattle.expr_grammar.specs.Machine.{start, start_bounds}
use Rattle.unit_grammar.specs.Units.{UnitTree, ModuleBegin, ModuleUnits}
use Rattle.unit_grammar.specs.Derivation.{IsDashes, DeclaresVariables, DeclaresConstants, Assumes, SpellsNames, BeginsModule, SpellsLocal}
use Rattle.unit_machine.specs.declared.wait.Due.{Due}
use Rattle.unit_machine.specs.declared.wait.Wait.{Wait}
use Rattle.unit_machine.specs.Tables.{after_expression}
use Rattle.unit_machine.specs.Machine.{Frame, frame, Begun, OfConstants, OfDefinition, OfInstance, OfAssumption, OfTheorem, Focus, Stands, Declared, Part, Expression, Bounds, whole}
use Rattle.unit_laws.proofs.Flat.{Rest, Whole}

-- ---- parts

pub data Sort : Type 0 where
  Declaration : Sort
  Definition : Sort
  Instance : Sort
  Replacement : Sort

-- what a part of a sort derives, before a lexeme
abbrev pub Made : Sort → Tree → List Lexeme → Lexeme → Type 0
Made Declaration x b t = DerivesParameter x b
Made Definition x b t = DerivesDefinition x b 0 (Some t)
Made Instance x b t = DerivesInstance x b 0 (Some t)
Made Replacement x b t = DerivesReplacement x b 0 (Some t)

-- parts so far, with which each list of the kind goes on
abbrev pub PlacesSeen : ℕ → List Lexeme → Type 0
PlacesSeen p a = (m : ℕ) (c : List Lexeme) → DerivesPlaces m c → DerivesPlaces (p + m) (a ++ c)

abbrev pub ParametersSeen : Trees → List Lexeme → Type 0
ParametersSeen ps a = (xs : Trees) (c : List Lexeme) → DerivesParameters xs c → DerivesParameters (joined ps xs) (a ++ c)

abbrev pub ReplacementsSeen : Trees → List Lexeme → Type 0
ReplacementsSeen ps a = (xs : Trees) (c : List Lexeme) (t : Lexeme) → DerivesReplacements xs c 0 (Some t) → DerivesReplacements (joined ps xs) (a ++ c) 0 (Some t)

-- what an expression makes a definition of
abbrev pub Defining : Form → Trees → List Lexeme → Type 0
Defining form ps a = (x : Tree) (b : List Lexeme) (t : Lexeme) → Derives x b 0 (Some t) → DerivesDefinition (built form (then ps x) (a ++ b)) (a ++ b) 0 (Some t)

-- what a frame has read that makes a part of a sort, where a lexeme is due
pub data HasRead (t : Lexeme) : Sort → Wait → Trees → List Lexeme → Type 0 where
  declaration : HasRead t Declaration Wait.Declaration Nil []
  declaration_name : {n : Lexeme} → IsName n → HasRead t Declaration (Wait.DeclarationName n) Nil (n ∷ [])
  places : {n u : Lexeme} {p : ℕ} {d : List Lexeme} → IsName n → IsMark u Mark.LeftParen → PlacesSeen p d → HasRead t Declaration (Wait.Places n p) Nil (n ∷ u ∷ d)
  places_read : {n u : Lexeme} (v : Lexeme) (p : ℕ) (d : List Lexeme) → IsName n → IsMark u Mark.LeftParen → PlacesSeen p d → IsMark v Mark.Underscore → HasRead t Declaration (Wait.PlacesRead n (p + 1)) Nil (n ∷ u ∷ (d ++ v ∷ []))
  prefix_place : {s : Lexeme} → IsSymbol s Op.Negative → HasRead t Declaration (Wait.PrefixPlace s) Nil (s ∷ [])
  symbol_place : {p : Lexeme} → IsMark p Mark.Underscore → HasRead t Declaration Wait.SymbolPlace Nil (p ∷ [])
  infix_place : {op : Op} {p s : Lexeme} → IsMark p Mark.Underscore → IsSymbol s op → Defines op Fix.Infix → HasRead t Declaration (Wait.InfixPlace s) Nil (p ∷ s ∷ [])
  definition_name : {n : Lexeme} → IsName n → HasRead t Definition (Wait.DefinitionName n) Nil (n ∷ [])
  parameters_read : {n u : Lexeme} (ps : Trees) (x : Tree) (d b : List Lexeme) → IsName n → IsMark u Mark.LeftParen → ParametersSeen ps d → DerivesParameter x b → HasRead t Definition (Wait.ParametersRead n) (then ps x) (n ∷ u ∷ (d ++ b))
  define : {n : Lexeme} {ps : Trees} {a : List Lexeme} → DerivesHead n ps a → HasRead t Definition (Wait.Define n) ps a
  body : {n : Lexeme} {ps : Trees} {a : List Lexeme} (d : Lexeme) → DerivesHead n ps a → IsMark d Mark.Define → HasRead t Definition (Wait.Body n) ps (a ++ d ∷ [])
  prefix_name : {s : Lexeme} → IsSymbol s Op.Negative → HasRead t Definition (Wait.PrefixName s) Nil (s ∷ [])
  prefix_define : {s n : Lexeme} → IsSymbol s Op.Negative → IsName n → HasRead t Definition (Wait.PrefixDefine s) (one (name_leaf n)) (s ∷ n ∷ [])
  infix_name : {op : Op} {m s : Lexeme} → IsName m → IsSymbol s op → Defines op Fix.Infix → HasRead t Definition (Wait.InfixName s) (one (name_leaf m)) (m ∷ s ∷ [])
  infix_define : {op : Op} {m s n : Lexeme} → IsName m → IsSymbol s op → Defines op Fix.Infix → IsName n → HasRead t Definition (Wait.InfixDefine s) (two (name_leaf m) (name_leaf n)) (m ∷ s ∷ n ∷ [])
  postfix_define : {op : Op} {m s : Lexeme} → IsName m → IsSymbol s op → Defines op Fix.Postfix → HasRead t Definition (Wait.PostfixDefine s) (one (name_leaf m)) (m ∷ s ∷ [])
  bounds_read : {n u : Lexeme} {xs : Trees} {b : List Lexeme} → IsName n → IsMark u Mark.LeftBracket → DerivesBounds xs b 0 (Some t) → HasRead t Definition (Wait.BoundsRead n) xs (n ∷ u ∷ b)
  bounds_define : {n u : Lexeme} (v : Lexeme) {xs : Trees} {b : List Lexeme} → IsName n → IsMark u Mark.LeftBracket → IsMark v Mark.RightBracket → DerivesBounds xs b 0 (Some v) → HasRead t Definition (Wait.BoundsDefine n) xs (n ∷ u ∷ (b ++ v ∷ []))
  right : {form : Form} {ps : Trees} {a : List Lexeme} → Defining form ps a → HasRead t Definition (Wait.Right form) ps a
  instance_name : {w : Lexeme} → IsWord w Word.Instance → HasRead t Instance Wait.InstanceName Nil (w ∷ [])
  instance_read : {w m : Lexeme} → IsWord w Word.Instance → IsName m → HasRead t Instance (Wait.InstanceRead m) Nil (w ∷ m ∷ [])
  replacements_read : {w m u : Lexeme} (ps : Trees) (x : Tree) (d b : List Lexeme) → IsWord w Word.Instance → IsName m → IsWord u Word.With → ReplacementsSeen ps d → DerivesReplacement x b 0 (Some t) → HasRead t Instance (Wait.ReplacementsRead m) (then ps x) (w ∷ m ∷ u ∷ (d ++ b))
  replacement_start : HasRead t Replacement Wait.ReplacementStart Nil []
  replacement_arrow : {n : Lexeme} → IsReplaceable n → HasRead t Replacement (Wait.ReplacementArrow n) Nil (n ∷ [])
  replacement_right : {n u : Lexeme} → IsReplaceable n → IsMark u Mark.LeftArrow → HasRead t Replacement (Wait.ReplacementRight n) Nil (n ∷ u ∷ [])
  complete : {s : Sort} {form : Form} {ps : Trees} {a : List Lexeme} → Made s (built form ps a) a t → HasRead t s (Wait.Complete form) ps a

-- and one with a part in a frame of its own: the sorts of what it makes, and of that part
pub data Holds : Sort → Sort → Wait → Trees → List Lexeme → Type 0 where
  parameters : {n u : Lexeme} {ps : Trees} {d : List Lexeme} → IsName n → IsMark u Mark.LeftParen → ParametersSeen ps d → Holds Definition Declaration (Wait.Parameters n) ps (n ∷ u ∷ d)
  replacements : {w m u : Lexeme} {ps : Trees} {d : List Lexeme} → IsWord w Word.Instance → IsName m → IsWord u Word.With → ReplacementsSeen ps d → Holds Instance Replacement (Wait.Replacements m) ps (w ∷ m ∷ u ∷ d)
  body_instance : {n : Lexeme} {ps : Trees} {a : List Lexeme} (d : Lexeme) → DerivesHead n ps a → IsMark d Mark.Define → Holds Definition Instance (Wait.Body n) ps (a ++ d ∷ [])

-- the sort of part that a unit takes
abbrev pub wants : Begun → Option Sort
wants (OfConstants xs) = Some Declaration
wants (OfDefinition before) = Some Definition
wants (OfInstance before) = Some Instance
wants (OfAssumption w) = None
wants (OfTheorem w) = None

-- the frames below a part of a sort, and their lexemes
pub data Stack (begun : Begun) : Sort → List Frame → List Lexeme → Type 0 where
  base : {s : Sort} → wants begun ≡ Some s → Stack begun s [] []
  above : {s r : Sort} {w : Wait} {ps : Trees} {a c : List Lexeme} {gs : List Frame} → Stack begun s gs c → Holds s r w ps a → Stack begun r (frame w ps a ∷ gs) (c ++ a)

-- what waits for an expression
abbrev pub Awaits : Sort → Frame → Type 0
Awaits s g = (x : Tree) (b : List Lexeme) (t : Lexeme) → Derives x b 0 (Some t) → HasRead t s (after_expression g.wait) (then g.parts x) (g.read ++ b)

pub data Under (begun : Begun) : List Frame → List Lexeme → Type 0 where
  claims : wants begun ≡ None → Under begun [] []
  awaits : {s : Sort} {g : Frame} {gs : List Frame} {c : List Lexeme} → Stack begun s gs c → Awaits s g → Under begun (g ∷ gs) (c ++ g.read)

-- ---- units

-- what the unit has beside its last part, and its lexemes
pub data Opened : Begun → List Lexeme → Type 0 where
  opened_constants : {w : Lexeme} {xs : Trees} {d : List Lexeme} → DeclaresConstants w → ParametersSeen xs d → Opened (OfConstants xs) (w ∷ d)
  opened_definition : {before : Option Lexeme} {l : List Lexeme} → SpellsLocal before l → Opened (OfDefinition before) l
  opened_instance : {before : Option Lexeme} {l : List Lexeme} → SpellsLocal before l → Opened (OfInstance before) l
  opened_assumption : {w : Lexeme} → Assumes w → Opened (OfAssumption w) (w ∷ [])
  opened_theorem : {w : Lexeme} → IsWord w Word.Theorem → Opened (OfTheorem w) (w ∷ [])

-- ---- modules

-- units with the begins of their modules, to the closing run
abbrev pub Wholes : List UnitTree → List Lexeme → Type 0
Wholes us ts = (found : ModuleUnits) × (whole us ≡ Some found) × Whole found ts

-- lexemes and units with which each remainder goes on, with so many modules open
pub record Goes (depth : ℕ) (us : List UnitTree) (q : List Lexeme) : Type 0 where
  pub on : (vs : List UnitTree) (b : List Lexeme) → Rest depth vs b → Wholes (us ++ vs) (q ++ b)

-- and with which each begin of a module does
pub record Opens (depth : ℕ) (us : List UnitTree) (q : List Lexeme) : Type 0 where
  pub begin : (dashes n : Lexeme) (names a : List Lexeme) → BeginsModule dashes n names a → Goes (suc depth) (us ++ ModuleBegin dashes n names ∷ []) (q ++ a)

abbrev pub NamesSeen : List Lexeme → List Lexeme → Type 0
NamesSeen ns c = (names b : List Lexeme) → SpellsNames names b → SpellsNames (ns ++ names) (c ++ b)

-- where in the modules the machine stands, after these lexemes
pub data FocusOk : ℕ → List UnitTree → Focus → List Lexeme → Type 0 where
  at_opening : FocusOk ℕ.zero [] (Stands Due.Opening []) []
  at_word : {d : Lexeme} → IsDashes d → FocusOk ℕ.zero [] (Stands (Due.OpeningWord d) []) (d ∷ [])
  at_name : {depth : ℕ} {us : List UnitTree} (q : List Lexeme) (d w : Lexeme) → Opens depth us q → IsDashes d → IsWord w Word.Module → FocusOk depth us (Stands (Due.ModuleName d) []) (q ++ d ∷ w ∷ [])
  at_dashes : {depth : ℕ} {us : List UnitTree} {n : Lexeme} (q : List Lexeme) (d w : Lexeme) → Opens depth us q → IsDashes d → IsWord w Word.Module → IsName n → FocusOk depth us (Stands (Due.ModuleDashes d n) []) (q ++ d ∷ w ∷ n ∷ [])
  at_read : {depth : ℕ} {us : List UnitTree} {n : Lexeme} (q : List Lexeme) (d w e : Lexeme) → Opens depth us q → IsDashes d → IsWord w Word.Module → IsName n → IsDashes e → FocusOk depth us (Stands (Due.ModuleRead d n) []) (q ++ d ∷ w ∷ n ∷ e ∷ [])
  at_extends : {depth : ℕ} {us : List UnitTree} {n : Lexeme} {ns : List Lexeme} (q : List Lexeme) (d w e x : Lexeme) (c : List Lexeme) → Opens depth us q → IsDashes d → IsWord w Word.Module → IsName n → IsDashes e → IsWord x Word.Extends → NamesSeen ns c → FocusOk depth us (Stands (Due.ExtendsName d n) ns) (q ++ d ∷ w ∷ n ∷ e ∷ x ∷ c)
  at_extended : {depth : ℕ} {us : List UnitTree} {n : Lexeme} (q : List Lexeme) (d w e x : Lexeme) (ns c : List Lexeme) (m : Lexeme) → Opens depth us q → IsDashes d → IsWord w Word.Module → IsName n → IsDashes e → IsWord x Word.Extends → NamesSeen ns c → IsName m → FocusOk depth us (Stands (Due.ExtendsRead d n) (ns ++ m ∷ [])) (q ++ d ∷ w ∷ n ∷ e ∷ x ∷ (c ++ m ∷ []))
  at_unit : {depth : ℕ} {us : List UnitTree} {q : List Lexeme} → Goes (suc depth) us q → FocusOk (suc depth) us (Stands Due.Unit []) q
  at_line : {depth : ℕ} {us : List UnitTree} {d : Lexeme} (q : List Lexeme) → Goes (suc depth) us q → IsDashes d → FocusOk (suc depth) us (Stands (Due.Dashes d) []) (q ++ d ∷ [])
  at_local : {depth : ℕ} {us : List UnitTree} {w : Lexeme} (q : List Lexeme) → Goes (suc depth) us q → IsWord w Word.Local → FocusOk (suc depth) us (Stands (Due.Local w) []) (q ++ w ∷ [])
  at_variable : {depth : ℕ} {us : List UnitTree} {ns : List Lexeme} (q : List Lexeme) (w : Lexeme) (c : List Lexeme) → Goes (suc depth) us q → DeclaresVariables w → NamesSeen ns c → FocusOk (suc depth) us (Stands Due.VariableName ns) (q ++ w ∷ c)
  at_variables : {depth : ℕ} {us : List UnitTree} (q : List Lexeme) (w : Lexeme) (ns c : List Lexeme) (m : Lexeme) → Goes (suc depth) us q → DeclaresVariables w → NamesSeen ns c → IsName m → FocusOk (suc depth) us (Stands Due.VariableRead (ns ++ m ∷ [])) (q ++ w ∷ (c ++ m ∷ []))
  at_closed : {us : List UnitTree} {ts : List Lexeme} → Wholes us ts → FocusOk ℕ.zero us (Stands Due.Closed []) ts
  at_declared : {depth : ℕ} {us : List UnitTree} (q : List Lexeme) (w : Lexeme) (xs : Trees) (x : Tree) (d b : List Lexeme) → Goes (suc depth) us q → DeclaresConstants w → ParametersSeen xs d → DerivesParameter x b → FocusOk (suc depth) us (Declared (then xs x)) (q ++ w ∷ (d ++ b))
  at_part : {depth : ℕ} {us : List UnitTree} {begun : Begun} {s : Sort} {f : Frame} {fs : List Frame} (q l c : List Lexeme) → Goes (suc depth) us q → Opened begun l → Stack begun s fs c → ((t : Lexeme) → HasRead t s f.wait f.parts f.read) → FocusOk (suc depth) us (Part begun f fs) (q ++ (l ++ (c ++ f.read)))
  at_expression : {depth : ℕ} {us : List UnitTree} {begun : Begun} {fs : List Frame} {st : Expressions.State} {b : List Lexeme} (q l c : List Lexeme) → Goes (suc depth) us q → Opened begun l → Under begun fs c → Expressions.run (Some start) b ≡ Some st → FocusOk (suc depth) us (Expression begun fs st b) (q ++ (l ++ (c ++ b)))
  at_bounds : {depth : ℕ} {us : List UnitTree} {before : Option Lexeme} {n u : Lexeme} {st : Expressions.State} {b : List Lexeme} (q l : List Lexeme) → Goes (suc depth) us q → SpellsLocal before l → IsName n → IsMark u Mark.LeftBracket → Expressions.run (Some start_bounds) b ≡ Some st → FocusOk (suc depth) us (Bounds (OfDefinition before) (frame (Wait.Bounds n) Nil (n ∷ u ∷ [])) st b) (q ++ (l ++ (n ∷ u ∷ b)))
