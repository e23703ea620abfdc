-- What the frames of the machine have read, and what stands under them, in the terms of the grammar.
use Rattle.std.specs.Prelude.{◌≡◌, ℕ, ◌+◌, ◌≤◌, ◌⊎◌, Bool, true, false, IsTrue, List, [], ◌∷◌, ◌++◌, Option, Some, None}
use Rattle.tla_symbols.specs.declared.op.Op.{Op}
use Rattle.tla_symbols.specs.declared.place.Fix.{Fix}
use Rattle.tla_symbols.specs.declared.lexeme.Word.{Word}
use Rattle.tla_symbols.specs.declared.lexeme.Mark.{Mark}
use Rattle.tla_symbols.specs.declared.lexeme.Lexeme.{Lexeme}
use Rattle.tla_tree.specs.declared.form.Form.{Form}
use Rattle.tla_tree.specs.Syntax.{Tree, Trees, trees}
use Rattle.tla_tree.specs.Edges.{Operator, product, AllJoin, left_edge, right_edge}
use Rattle.tla_tree.specs.Alignment.{IsBullet, GoesOn}
use Rattle.tla_tree.specs.Shapes.{IsBareMember, BindsOne, AreBareSegments, IsSubscript}
use Rattle.tla_tree.specs.Lexemes.{IsName, IsWord, IsMark, IsSymbol, Applies, Defines, is_product, is_passed, is_given, built, one, joined}
use Rattle.tla_tree.specs.Headings.{DerivesNameList, DerivesNames, DerivesTupleNames, DerivesBinder, DerivesPlaces, DerivesParameter, DerivesParameters, DerivesHead, IsReplaceable}
use Rattle.tla_tree.specs.Derivation.{Derives, DerivesList, DerivesFactors, DerivesSegments, DerivesSegment, DerivesArguments, DerivesBound, DerivesBounds, DerivesFields, DerivesUpdate, DerivesUpdates, DerivesStep, DerivesSteps, DerivesArms, DerivesArm, DerivesItems, DerivesDefinitions, DerivesDefinition, DerivesInstance, DerivesReplacements, DerivesReplacement}
use Rattle.expr_grammar.specs.declared.wait.Binding.{Binding}
use Rattle.expr_grammar.specs.declared.wait.Handed.{Handed}
use Rattle.expr_grammar.specs.declared.wait.Wait.{Wait}
use Rattle.expr_grammar.specs.declared.wait.Mode.{Mode}
use Rattle.expr_grammar.specs.Tables.{mode, takes_more, takes_set, name_leaf}
use Rattle.expr_laws.proofs.Asking.{AllFit}
use Rattle.expr_laws.proofs.Starting.{symbol-leaf, segment-leaf}

-- the helper forms, by the place that asks for them
pub data Sort : Type 0 where
  Segment : Sort
  Parameter : Sort
  Replacement : Sort
  Update : Sort
  Step : Sort
  Arm : Sort
  Instance : Sort
  Other : Sort

abbrev pub sort : Wait → Sort
sort (Wait.Handing Handed.Segment n) = Segment
sort (Wait.DefinitionParameters n) = Parameter
sort (Wait.Replacements m) = Replacement
sort Wait.ExceptUpdates = Update
sort Wait.StepFirst = Step
sort Wait.StepNext = Step
sort Wait.CaseArms = Arm
sort (Wait.DefinitionBody n) = Instance
sort _ = Other

-- which names the part under a wait binds
abbrev pub binding : Wait → Option Binding
binding Wait.WholeBounds = Some Binding.Bound
binding (Wait.QuantifierFirst q) = Some Binding.Either
binding (Wait.QuantifierNext q) = Some Binding.Bound
binding (Wait.TemporalFirst q) = Some Binding.Names
binding Wait.ChooseFirst = Some Binding.One
binding Wait.ImageBounds = Some Binding.Bound
binding (Wait.FunctionNames flag) = Some Binding.Bound
binding Wait.FunctionBounds = Some Binding.Bound
binding (Wait.FunctionHeadBounds n) = Some Binding.Bound
binding _ = None

abbrev pub NamesFor : Binding → Tree → List Lexeme → Type 0
NamesFor Binding.One x b = DerivesBinder x b
NamesFor Binding.Bound x b = ⊥
NamesFor Binding.Names x b = DerivesNames x b
NamesFor Binding.Either x b = DerivesNames x b

abbrev pub BoundFor : Binding → Tree → List Lexeme → ℕ → Option Lexeme → Type 0
BoundFor Binding.One x b i o = DerivesBound x b i o × BindsOne x
BoundFor Binding.Bound x b i o = DerivesBound x b i o
BoundFor Binding.Names x b i o = ⊥
BoundFor Binding.Either x b i o = DerivesBound x b i o

-- an expression or a subscript may stand under the wait
abbrev pub IsDue : Wait → Type 0
IsDue w = mode w ≡ Mode.Marks → ⊥

-- a finished part under a wait, before a lexeme
pub data Stands (w : Wait) : Tree → List Lexeme → ℕ → Option Lexeme → Type 0 where
  expression : {x : Tree} {b : List Lexeme} {i : ℕ} {o : Option Lexeme}
      → Derives x b i o → AllFit w (left_edge x) → IsDue w → (mode w ≡ Mode.Subscript → IsSubscript x) → Stands w x b i o
  symbol : {op : Op} {t : Lexeme} {i : ℕ} {o : Option Lexeme}
      → mode w ≡ Mode.Operand → IsSymbol t op → IsTrue (is_passed op) → Stands w (symbol-leaf t) (t ∷ []) i o
  instance : {x : Tree} {b : List Lexeme} {i : ℕ} {o : Option Lexeme} → sort w ≡ Instance → DerivesInstance x b i o → Stands w x b i o
  names : {x : Tree} {b : List Lexeme} {i : ℕ} {o : Option Lexeme} (β : Binding) → binding w ≡ Some β → NamesFor β x b → Stands w x b i o
  bound : {x : Tree} {b : List Lexeme} {i : ℕ} {o : Option Lexeme} (β : Binding) → binding w ≡ Some β → BoundFor β x b i o → Stands w x b i o
  arm : {x : Tree} {b : List Lexeme} {i : ℕ} {o : Option Lexeme} → sort w ≡ Arm → DerivesArm x b i o → Stands w x b i o
  other_arm : {h t : Lexeme} {x : Tree} {b : List Lexeme} {i : ℕ} {o : Option Lexeme}
      → sort w ≡ Arm → IsWord h Word.Other → IsMark t Mark.Arrow → Derives x b i o → Stands w (built Form.OtherArm (one x) (h ∷ t ∷ b)) (h ∷ t ∷ b) i o
  segment : {x : Tree} {b : List Lexeme} {i : ℕ} {o : Option Lexeme} → sort w ≡ Segment → DerivesSegment x b i → Stands w x b i o
  definition : {n : Lexeme} {x : Tree} {b : List Lexeme} {i : ℕ} {o : Option Lexeme}
      → w ≡ Wait.Handing Handed.Definition n → DerivesDefinition x (n ∷ b) i o → Stands w x (n ∷ b) i o
  parameter : {x : Tree} {b : List Lexeme} {i : ℕ} {o : Option Lexeme} → sort w ≡ Parameter → DerivesParameter x b → Stands w x b i o
  replacement : {x : Tree} {b : List Lexeme} {i : ℕ} {o : Option Lexeme} → sort w ≡ Replacement → DerivesReplacement x b i o → Stands w x b i o
  update : {x : Tree} {b : List Lexeme} {i : ℕ} {o : Option Lexeme} → sort w ≡ Update → DerivesUpdate x b i o → Stands w x b i o
  step : {x : Tree} {b : List Lexeme} {i : ℕ} {o : Option Lexeme} → sort w ≡ Step → DerivesStep x b i → Stands w x b i o

-- a part that ends with a lexeme of its own
abbrev pub Shut : Wait → Tree → List Lexeme → ℕ → Type 0
Shut w x b i = ((o : Option Lexeme) → Stands w x b i o) × (right_edge x ≡ [])

-- parts and their lexemes with which each list of the kind goes on
abbrev pub Adds : (Trees → List Lexeme → Type 0) → List Tree → List Lexeme → Type 0
Adds L ps a = (xs : Trees) (c : List Lexeme) → L xs c → L (joined (trees ps) xs) (a ++ c)

abbrev pub Expressions : ℕ → List Tree → List Lexeme → Type 0
Expressions i ps a = (o : Option Lexeme) → Adds (λ xs c. DerivesList xs c i o) ps a

abbrev pub Bounds : ℕ → List Tree → List Lexeme → Type 0
Bounds i ps a = (o : Option Lexeme) → Adds (λ xs c. DerivesBounds xs c i o) ps a

abbrev pub Factors : ℕ → List Tree → List Lexeme → Type 0
Factors i ps a = (o : Option Lexeme) → Adds (λ xs c. DerivesFactors xs c i o) ps a

abbrev pub Arguments : ℕ → List Tree → List Lexeme → Type 0
Arguments i ps a = (o : Option Lexeme) → Adds (λ xs c. DerivesArguments xs c i o) ps a

abbrev pub Fields : Mark → ℕ → List Tree → List Lexeme → Type 0
Fields mark i ps a = (o : Option Lexeme) → Adds (λ xs c. DerivesFields mark xs c i o) ps a

abbrev pub Updates : ℕ → List Tree → List Lexeme → Type 0
Updates i ps a = (o : Option Lexeme) → Adds (λ xs c. DerivesUpdates xs c i o) ps a

abbrev pub Arms : ℕ → List Tree → List Lexeme → Type 0
Arms i ps a = (o : Option Lexeme) → Adds (λ xs c. DerivesArms xs c i o) ps a

abbrev pub Replaced : ℕ → List Tree → List Lexeme → Type 0
Replaced i ps a = (o : Option Lexeme) → Adds (λ xs c. DerivesReplacements xs c i o) ps a

abbrev pub Segments : ℕ → List Tree → List Lexeme → Type 0
Segments i ps a = Adds (λ xs c. DerivesSegments xs c i) ps a

abbrev pub BareSegments : ℕ → List Tree → List Lexeme → Type 0
BareSegments i ps a = Adds (λ xs c. DerivesSegments xs c i × AreBareSegments xs) ps a

abbrev pub Steps : ℕ → List Tree → List Lexeme → Type 0
Steps i ps a = Adds (λ xs c. DerivesSteps xs c i) ps a

abbrev pub NamesRead : List Tree → List Lexeme → Type 0
NamesRead ps a = Adds DerivesNameList ps a

abbrev pub ParametersRead : List Tree → List Lexeme → Type 0
ParametersRead ps a = Adds DerivesParameters ps a

-- the same for definitions, of which the next begins with this lexeme
abbrev pub DefinitionsRead : Lexeme → ℕ → List Tree → List Lexeme → Type 0
DefinitionsRead n i ps a =
    (o : Option Lexeme) (xs : Trees) (c : List Lexeme) → DerivesDefinitions xs (n ∷ c) i o → DerivesDefinitions (joined (trees ps) xs) (a ++ n ∷ c) i o

-- and for the items of a list, of which the next stands behind this bullet
abbrev pub ItemsRead : Lexeme → Lexeme → List Tree → List Lexeme → Type 0
ItemsRead first u ps a =
    (o : Option Lexeme) (xs : Trees) (c : List Lexeme) → DerivesItems first xs (u ∷ c) o → DerivesItems first (joined (trees ps) xs) (first ∷ (a ++ c)) o

abbrev pub PlacesSeen : ℕ → List Lexeme → Type 0
PlacesSeen places a = (more : ℕ) (c : List Lexeme) → DerivesPlaces more c → DerivesPlaces (places + more) (a ++ c)

-- one name alone, where the place takes no more
abbrev pub Alone : Binding → List Tree → List Lexeme → Type 0
Alone β ps a = takes_more β ≡ false → (ps ≡ []) × (a ≡ [])

-- what begins an operator's definition, or a function's
abbrev pub IsQuantifier : Lexeme → Type 0
IsQuantifier q = IsMark q Mark.ForAll ⊎ IsMark q Mark.Exists

abbrev pub IsTemporal : Lexeme → Type 0
IsTemporal q = IsMark q Mark.TemporalForAll ⊎ IsMark q Mark.TemporalExists

abbrev pub IsFair : Lexeme → Type 0
IsFair h = IsWord h Word.WeakFair ⊎ IsWord h Word.StrongFair

abbrev pub Starts : Lexeme → Type 0
Starts n = IsName n ⊎ IsSymbol n Op.Negative

-- what a frame has read: its wait, its parts and its lexemes, under the wait of the frame below it, inside the lists
-- before a column
pub data HasRead (w : Wait) (i : ℕ) : Wait → List Tree → List Lexeme → Type 0 where
  prefix_operand : {op : Op} {t : Lexeme} → mode w ≡ Mode.Operand → IsSymbol t op → Applies op Fix.Prefix
      → HasRead w i (Wait.PrefixOperand t) [] (t ∷ [])
  infix_operand : {op : Op} {t : Lexeme} {x : Tree} {b : List Lexeme}
      → mode w ≡ Mode.Operand → IsSymbol t op → Applies op Fix.Infix → is_product op ≡ false
      → AllJoin (Operator op Fix.Infix) (right_edge x) → AllFit w (Operator op Fix.Infix ∷ left_edge x) → Derives x b i (Some t)
      → HasRead w i (Wait.InfixOperand t) (x ∷ []) (b ++ t ∷ [])
  factor : {t : Lexeme} {x : Tree} {b : List Lexeme} {ps : List Tree} (d : List Lexeme)
      → mode w ≡ Mode.Operand → IsSymbol t Op.Product
      → AllJoin product (right_edge x) → AllFit w (product ∷ left_edge x) → Derives x b i (Some t) → Factors i ps d
      → HasRead w i Wait.Factor (x ∷ ps) (b ++ t ∷ d)
  parentheses_body : {t : Lexeme} → IsDue w → IsMark t Mark.LeftParen → HasRead w i Wait.ParenthesesBody [] (t ∷ [])
  list_first : {t : Lexeme} → mode w ≡ Mode.Operand → IsBullet t → i ≤ t.col → HasRead w i (Wait.ListFirst t) [] (t ∷ [])
  list_item : {first u : Lexeme} {ps : List Tree} {d : List Lexeme}
      → mode w ≡ Mode.Operand → IsBullet first → i ≤ first.col → GoesOn first u → ItemsRead first u ps d
      → HasRead w i (Wait.ListItem first) ps (first ∷ d)
  handing_segment : {n : Lexeme} {ps : List Tree} {a : List Lexeme}
      → mode w ≡ Mode.Operand → IsName n → i ≤ n.col → Segments i ps a
      → HasRead w i (Wait.Handing Handed.Segment n) ps a
  identifier_bang : {ps : List Tree} {a : List Lexeme} → mode w ≡ Mode.Operand → Segments i ps a → HasRead w i Wait.IdentifierBang ps a
  segment_name : {n : Lexeme} → sort w ≡ Segment → IsName n → HasRead w i (Wait.SegmentName n) [] (n ∷ [])
  argument : {n t : Lexeme} {ps : List Tree} {d : List Lexeme}
      → sort w ≡ Segment → IsName n → IsMark t Mark.LeftParen → Arguments i ps d
      → HasRead w i (Wait.Argument n) ps (n ∷ t ∷ d)
  argument_symbol : {op : Op} {n t : Lexeme} (s : Lexeme) (ps : List Tree) (d : List Lexeme)
      → sort w ≡ Segment → IsName n → IsMark t Mark.LeftParen → Arguments i ps d → IsSymbol s op → IsTrue (is_passed op)
      → HasRead w i (Wait.ArgumentSymbol n) (ps ++ symbol-leaf s ∷ []) (n ∷ t ∷ (d ++ s ∷ []))
  subscript_read : (n : Lexeme) (ps : List Tree) (a : List Lexeme)
      → IsDue w → BareSegments i ps a → IsName n
      → HasRead w i Wait.SubscriptRead (ps ++ segment-leaf n ∷ []) (a ++ n ∷ [])
  subscript_bang : {ps : List Tree} {a : List Lexeme} → IsDue w → BareSegments i ps a → HasRead w i Wait.SubscriptBang ps a
  binding_start : {β : Binding} → binding w ≡ Some β → HasRead w i (Wait.BindingStart β) [] []
  binding_comma : {β : Binding} {ps : List Tree} {a : List Lexeme}
      → binding w ≡ Some β → takes_more β ≡ true → NamesRead ps a
      → HasRead w i (Wait.BindingComma β) ps a
  binding_read : {β : Binding} (n : Lexeme) (ps : List Tree) (a : List Lexeme)
      → binding w ≡ Some β → NamesRead ps a → IsName n → Alone β ps a
      → HasRead w i (Wait.BindingRead β) (ps ++ name_leaf n ∷ []) (a ++ n ∷ [])
  tuple_comma : {β : Binding} {t : Lexeme} {ps : List Tree} {a : List Lexeme}
      → binding w ≡ Some β → takes_set β ≡ true → IsMark t Mark.LeftAngle → NamesRead ps a
      → HasRead w i (Wait.TupleComma β) ps (t ∷ a)
  tuple_read : {β : Binding} {t : Lexeme} (n : Lexeme) (ps : List Tree) (a : List Lexeme)
      → binding w ≡ Some β → takes_set β ≡ true → IsMark t Mark.LeftAngle → NamesRead ps a → IsName n
      → HasRead w i (Wait.TupleRead β) (ps ++ name_leaf n ∷ []) (t ∷ (a ++ n ∷ []))
  tuple_closed : {β : Binding} {ps : List Tree} {a : List Lexeme}
      → binding w ≡ Some β → takes_set β ≡ true → DerivesTupleNames (trees ps) a
      → HasRead w i (Wait.TupleClosed β) ps a
  bound_set : {β : Binding} (m : Lexeme) {ps : List Tree} {a : List Lexeme}
      → binding w ≡ Some β → takes_set β ≡ true → DerivesNameList (trees ps) a → (takes_more β ≡ false → (n : Lexeme) × (ps ≡ name_leaf n ∷ [])) → IsSymbol m Op.In
      → HasRead w i Wait.BoundSet ps (a ++ m ∷ [])
  tuple_bound_set : {β : Binding} (m : Lexeme) {ps : List Tree} {a : List Lexeme}
      → binding w ≡ Some β → takes_set β ≡ true → DerivesTupleNames (trees ps) a → IsSymbol m Op.In
      → HasRead w i Wait.TupleBoundSet ps (a ++ m ∷ [])
  quantifier_first : {q : Lexeme} → mode w ≡ Mode.Operand → IsQuantifier q → HasRead w i (Wait.QuantifierFirst q) [] (q ∷ [])
  quantifier_next : {q : Lexeme} {ps : List Tree} {d : List Lexeme}
      → mode w ≡ Mode.Operand → IsQuantifier q → Bounds i ps d
      → HasRead w i (Wait.QuantifierNext q) ps (q ∷ d)
  quantifier_body : {q : Lexeme} (t : Lexeme) {x : Tree} {a : List Lexeme}
      → mode w ≡ Mode.Operand → IsQuantifier q → DerivesNames x a → IsMark t Mark.Colon
      → HasRead w i (Wait.QuantifierBody q) (x ∷ []) (q ∷ (a ++ t ∷ []))
  bounded_body : {q t : Lexeme} {ps : List Tree} {a : List Lexeme}
      → mode w ≡ Mode.Operand → IsQuantifier q → DerivesBounds (trees ps) a i (Some t) → IsMark t Mark.Colon
      → HasRead w i (Wait.BoundedBody q) ps (q ∷ (a ++ t ∷ []))
  temporal_first : {q : Lexeme} → mode w ≡ Mode.Operand → IsTemporal q → HasRead w i (Wait.TemporalFirst q) [] (q ∷ [])
  temporal_body : {q : Lexeme} (t : Lexeme) {x : Tree} {a : List Lexeme}
      → mode w ≡ Mode.Operand → IsTemporal q → DerivesNames x a → IsMark t Mark.Colon
      → HasRead w i (Wait.TemporalBody q) (x ∷ []) (q ∷ (a ++ t ∷ []))
  choose_first : {h : Lexeme} → mode w ≡ Mode.Operand → IsWord h Word.Choose → HasRead w i Wait.ChooseFirst [] (h ∷ [])
  choose_body : {h : Lexeme} (t : Lexeme) {x : Tree} {a : List Lexeme}
      → mode w ≡ Mode.Operand → IsWord h Word.Choose → DerivesBinder x a → IsMark t Mark.Colon
      → HasRead w i Wait.ChooseBody (x ∷ []) (h ∷ (a ++ t ∷ []))
  bounded_choose_body : {h t : Lexeme} {x : Tree} {a : List Lexeme}
      → mode w ≡ Mode.Operand → IsWord h Word.Choose → DerivesBound x a i (Some t) → BindsOne x → IsMark t Mark.Colon
      → HasRead w i Wait.BoundedChooseBody (x ∷ []) (h ∷ (a ++ t ∷ []))
  brace_first : {t : Lexeme} → IsDue w → IsMark t Mark.LeftBrace → HasRead w i Wait.BraceFirst [] (t ∷ [])
  brace_next : {t : Lexeme} {ps : List Tree} {d : List Lexeme}
      → IsDue w → IsMark t Mark.LeftBrace → Expressions i ps d → HasRead w i Wait.BraceNext ps (t ∷ d)
  filter_body : {t c : Lexeme} {x : Tree} {a : List Lexeme}
      → IsDue w → IsMark t Mark.LeftBrace → IsMark c Mark.Colon → DerivesBound x a i (Some c) → BindsOne x
      → HasRead w i Wait.FilterBody (x ∷ []) (t ∷ (a ++ c ∷ []))
  image_bounds : {t c : Lexeme} {x : Tree} {ps : List Tree} {a : List Lexeme} (d : List Lexeme)
      → IsDue w → IsMark t Mark.LeftBrace → IsMark c Mark.Colon → Derives x a i (Some c) → (IsBareMember x → ⊥) → Bounds i ps d
      → HasRead w i Wait.ImageBounds (x ∷ ps) (t ∷ (a ++ c ∷ d))
  application_argument : {t : Lexeme} {x : Tree} {ps : List Tree} {b : List Lexeme} (d : List Lexeme)
      → mode w ≡ Mode.Operand → AllFit w (left_edge (built Form.Application (one x) [])) → IsMark t Mark.LeftBracket → right_edge x ≡ [] → Derives x b i (Some t) → Expressions i ps d
      → HasRead w i Wait.ApplicationArgument (x ∷ ps) (b ++ t ∷ d)
  field_name : {t : Lexeme} {x : Tree} {b : List Lexeme}
      → mode w ≡ Mode.Operand → AllFit w (left_edge (built (Form.FieldAccess t) (one x) [])) → IsMark t Mark.Dot → right_edge x ≡ [] → Derives x b i (Some t)
      → HasRead w i Wait.FieldName (x ∷ []) (b ++ t ∷ [])
  square_first : {flag : Bool} {t : Lexeme} → IsDue w → (flag ≡ true → mode w ≡ Mode.Operand) → IsMark t Mark.LeftBracket
      → HasRead w i (Wait.SquareFirst flag) [] (t ∷ [])
  function_to : {t m : Lexeme} {x : Tree} {a : List Lexeme}
      → IsDue w → IsMark t Mark.LeftBracket → IsMark m Mark.Arrow → Derives x a i (Some m)
      → HasRead w i Wait.FunctionTo (x ∷ []) (t ∷ (a ++ m ∷ []))
  function_names : {flag : Bool} {t : Lexeme} → IsDue w → (flag ≡ true → mode w ≡ Mode.Operand) → IsMark t Mark.LeftBracket
      → HasRead w i (Wait.FunctionNames flag) [] (t ∷ [])
  function_bounds : {t : Lexeme} {ps : List Tree} {d : List Lexeme}
      → IsDue w → IsMark t Mark.LeftBracket → Bounds i ps d → HasRead w i Wait.FunctionBounds ps (t ∷ d)
  function_body : {t m : Lexeme} {ps : List Tree} {a : List Lexeme}
      → IsDue w → IsMark t Mark.LeftBracket → IsMark m Mark.MapsTo → DerivesBounds (trees ps) a i (Some m)
      → HasRead w i Wait.FunctionBody ps (t ∷ (a ++ m ∷ []))
  record_value : {n m t : Lexeme} {ps : List Tree} (d : List Lexeme)
      → IsDue w → IsMark t Mark.LeftBracket → IsName n → IsMark m Mark.MapsTo → Fields Mark.MapsTo i ps d
      → HasRead w i (Wait.RecordValue n m) ps (t ∷ (d ++ n ∷ m ∷ []))
  record_next : {t : Lexeme} {ps : List Tree} {d : List Lexeme}
      → IsDue w → IsMark t Mark.LeftBracket → Fields Mark.MapsTo i ps d → HasRead w i Wait.RecordNext ps (t ∷ d)
  record_named : {n t : Lexeme} {ps : List Tree} (d : List Lexeme)
      → IsDue w → IsMark t Mark.LeftBracket → IsName n → Fields Mark.MapsTo i ps d → HasRead w i (Wait.RecordNamed n) ps (t ∷ (d ++ n ∷ []))
  record_set_value : {n m t : Lexeme} {ps : List Tree} (d : List Lexeme)
      → IsDue w → IsMark t Mark.LeftBracket → IsName n → IsMark m Mark.Colon → Fields Mark.Colon i ps d
      → HasRead w i (Wait.RecordSetValue n m) ps (t ∷ (d ++ n ∷ m ∷ []))
  record_set_next : {t : Lexeme} {ps : List Tree} {d : List Lexeme}
      → IsDue w → IsMark t Mark.LeftBracket → Fields Mark.Colon i ps d → HasRead w i Wait.RecordSetNext ps (t ∷ d)
  record_set_named : {n t : Lexeme} {ps : List Tree} (d : List Lexeme)
      → IsDue w → IsMark t Mark.LeftBracket → IsName n → Fields Mark.Colon i ps d → HasRead w i (Wait.RecordSetNamed n) ps (t ∷ (d ++ n ∷ []))
  except_updates : {t h : Lexeme} {x : Tree} {ps : List Tree} {a : List Lexeme} (d : List Lexeme)
      → IsDue w → IsMark t Mark.LeftBracket → IsWord h Word.Except → Derives x a i (Some h) → Updates i ps d
      → HasRead w i Wait.ExceptUpdates (x ∷ ps) (t ∷ (a ++ h ∷ d))
  update_bang : sort w ≡ Update → HasRead w i Wait.UpdateBang [] []
  step_first : {t : Lexeme} → sort w ≡ Update → IsMark t Mark.Bang → HasRead w i Wait.StepFirst [] (t ∷ [])
  step_next : {t : Lexeme} {ps : List Tree} {d : List Lexeme}
      → sort w ≡ Update → IsMark t Mark.Bang → DerivesSteps (trees ps) d i → Steps i ps d → HasRead w i Wait.StepNext ps (t ∷ d)
  step_field : {t : Lexeme} (k : Lexeme) {ps : List Tree} (d : List Lexeme)
      → sort w ≡ Update → IsMark t Mark.Bang → Steps i ps d → IsMark k Mark.Dot → HasRead w i Wait.StepField ps (t ∷ (d ++ k ∷ []))
  update_value : {t : Lexeme} (e : Lexeme) {ps : List Tree} {d : List Lexeme}
      → sort w ≡ Update → IsMark t Mark.Bang → DerivesSteps (trees ps) d i → IsSymbol e Op.Equal
      → HasRead w i Wait.UpdateValue ps (t ∷ (d ++ e ∷ []))
  index_part : {t : Lexeme} {ps : List Tree} {d : List Lexeme}
      → sort w ≡ Step → IsMark t Mark.LeftBracket → Expressions i ps d → HasRead w i Wait.IndexPart ps (t ∷ d)
  angle_first : {flag : Bool} {t : Lexeme} → IsDue w → (flag ≡ true → mode w ≡ Mode.Operand) → IsMark t Mark.LeftAngle
      → HasRead w i (Wait.AngleFirst flag) [] (t ∷ [])
  angle_next : {t : Lexeme} {ps : List Tree} {d : List Lexeme}
      → IsDue w → IsMark t Mark.LeftAngle → Expressions i ps d → HasRead w i Wait.AngleNext ps (t ∷ d)
  square_subscript : {t u : Lexeme} {x : Tree} {a : List Lexeme}
      → mode w ≡ Mode.Operand → IsMark t Mark.LeftBracket → IsMark u Mark.RightBracketSubscript → Derives x a i (Some u)
      → HasRead w i Wait.SquareSubscript (x ∷ []) (t ∷ (a ++ u ∷ []))
  angle_subscript : {t u : Lexeme} {x : Tree} {a : List Lexeme}
      → mode w ≡ Mode.Operand → IsMark t Mark.LeftAngle → IsMark u Mark.RightAngleSubscript → Derives x a i (Some u)
      → HasRead w i Wait.AngleSubscript (x ∷ []) (t ∷ (a ++ u ∷ []))
  fair_subscript : {h : Lexeme} → mode w ≡ Mode.Operand → IsFair h → HasRead w i (Wait.FairSubscript h) [] (h ∷ [])
  fair_action : {h t : Lexeme} {s : Tree} {a : List Lexeme}
      → mode w ≡ Mode.Operand → IsFair h → IsMark t Mark.LeftParen → Derives s a i (Some t) → IsSubscript s
      → HasRead w i (Wait.FairAction h) (s ∷ []) (h ∷ (a ++ t ∷ []))
  if_test : {t : Lexeme} → mode w ≡ Mode.Operand → IsWord t Word.If → HasRead w i Wait.IfTest [] (t ∷ [])
  if_then : {t u : Lexeme} {x : Tree} {a : List Lexeme}
      → mode w ≡ Mode.Operand → IsWord t Word.If → IsWord u Word.Then → Derives x a i (Some u)
      → HasRead w i Wait.IfThen (x ∷ []) (t ∷ (a ++ u ∷ []))
  if_else : {t u v : Lexeme} {x y : Tree} {a b : List Lexeme}
      → mode w ≡ Mode.Operand → IsWord t Word.If → IsWord u Word.Then → IsWord v Word.Else → Derives x a i (Some u) → Derives y b i (Some v)
      → HasRead w i Wait.IfElse (x ∷ y ∷ []) (t ∷ (a ++ u ∷ (b ++ v ∷ [])))
  case_arms : {h : Lexeme} {ps : List Tree} {d : List Lexeme}
      → mode w ≡ Mode.Operand → IsWord h Word.Case → Arms i ps d → HasRead w i Wait.CaseArms ps (h ∷ d)
  arm_guard : sort w ≡ Arm → HasRead w i Wait.ArmGuard [] []
  arm_body : {t : Lexeme} {x : Tree} {a : List Lexeme}
      → sort w ≡ Arm → IsMark t Mark.Arrow → Derives x a i (Some t) → HasRead w i Wait.ArmBody (x ∷ []) (a ++ t ∷ [])
  other_arrow : {h : Lexeme} → sort w ≡ Arm → IsWord h Word.Other → HasRead w i Wait.OtherArrow [] (h ∷ [])
  other_body : {h t : Lexeme} → sort w ≡ Arm → IsWord h Word.Other → IsMark t Mark.Arrow → HasRead w i Wait.OtherBody [] (h ∷ t ∷ [])
  let_first : {h : Lexeme} → mode w ≡ Mode.Operand → IsWord h Word.Let → HasRead w i Wait.LetFirst [] (h ∷ [])
  handing_definition : {h n : Lexeme} {ps : List Tree} {d : List Lexeme}
      → mode w ≡ Mode.Operand → IsWord h Word.Let → Starts n → i ≤ n.col → DefinitionsRead n i ps d
      → HasRead w i (Wait.Handing Handed.Definition n) ps (h ∷ d)
  let_body : {h t : Lexeme} {ps : List Tree} {a : List Lexeme}
      → mode w ≡ Mode.Operand → IsWord h Word.Let → IsWord t Word.In → DerivesDefinitions (trees ps) a i (Some t)
      → HasRead w i Wait.LetBody ps (h ∷ (a ++ t ∷ []))
  definition_name : {n : Lexeme} → w ≡ Wait.Handing Handed.Definition n → IsName n → HasRead w i (Wait.DefinitionName n) [] (n ∷ [])
  definition_parameters : {n t : Lexeme} {ps : List Tree} {d : List Lexeme}
      → w ≡ Wait.Handing Handed.Definition n → IsName n → IsMark t Mark.LeftParen → ParametersRead ps d
      → HasRead w i (Wait.DefinitionParameters n) ps (n ∷ t ∷ d)
  definition_define : {n : Lexeme} {ps : List Tree} {a : List Lexeme}
      → w ≡ Wait.Handing Handed.Definition n → DerivesHead n (trees ps) (n ∷ a) → HasRead w i (Wait.DefinitionDefine n) ps (n ∷ a)
  definition_body : {n : Lexeme} (d : Lexeme) {ps : List Tree} {a : List Lexeme}
      → w ≡ Wait.Handing Handed.Definition n → DerivesHead n (trees ps) (n ∷ a) → IsMark d Mark.Define
      → HasRead w i (Wait.DefinitionBody n) ps (n ∷ (a ++ d ∷ []))
  prefix_name : {s : Lexeme} → w ≡ Wait.Handing Handed.Definition s → IsSymbol s Op.Negative → HasRead w i (Wait.PrefixName s) [] (s ∷ [])
  prefix_define : {s n : Lexeme} → w ≡ Wait.Handing Handed.Definition s → IsSymbol s Op.Negative → IsName n
      → HasRead w i (Wait.PrefixDefine s) (name_leaf n ∷ []) (s ∷ n ∷ [])
  prefix_body : {s n d : Lexeme} → w ≡ Wait.Handing Handed.Definition s → IsSymbol s Op.Negative → IsName n → IsMark d Mark.Define
      → HasRead w i (Wait.PrefixBody s) (name_leaf n ∷ []) (s ∷ n ∷ d ∷ [])
  infix_name : {op : Op} {m s : Lexeme} → w ≡ Wait.Handing Handed.Definition m → IsName m → IsSymbol s op → Defines op Fix.Infix
      → HasRead w i (Wait.InfixName s) (name_leaf m ∷ []) (m ∷ s ∷ [])
  infix_define : {op : Op} {m s n : Lexeme} → w ≡ Wait.Handing Handed.Definition m → IsName m → IsSymbol s op → Defines op Fix.Infix → IsName n
      → HasRead w i (Wait.InfixDefine s) (name_leaf m ∷ name_leaf n ∷ []) (m ∷ s ∷ n ∷ [])
  infix_body : {op : Op} {m s n d : Lexeme} → w ≡ Wait.Handing Handed.Definition m → IsName m → IsSymbol s op → Defines op Fix.Infix → IsName n → IsMark d Mark.Define
      → HasRead w i (Wait.InfixBody s) (name_leaf m ∷ name_leaf n ∷ []) (m ∷ s ∷ n ∷ d ∷ [])
  postfix_define : {op : Op} {m s : Lexeme} → w ≡ Wait.Handing Handed.Definition m → IsName m → IsSymbol s op → Defines op Fix.Postfix
      → HasRead w i (Wait.PostfixDefine s) (name_leaf m ∷ []) (m ∷ s ∷ [])
  postfix_body : {op : Op} {m s d : Lexeme} → w ≡ Wait.Handing Handed.Definition m → IsName m → IsSymbol s op → Defines op Fix.Postfix → IsMark d Mark.Define
      → HasRead w i (Wait.PostfixBody s) (name_leaf m ∷ []) (m ∷ s ∷ d ∷ [])
  function_head_bounds : {n t : Lexeme} {ps : List Tree} {d : List Lexeme}
      → w ≡ Wait.Handing Handed.Definition n → IsName n → IsMark t Mark.LeftBracket → Bounds i ps d
      → HasRead w i (Wait.FunctionHeadBounds n) ps (n ∷ t ∷ d)
  function_head_define : {n t u : Lexeme} {ps : List Tree} {a : List Lexeme}
      → w ≡ Wait.Handing Handed.Definition n → IsName n → IsMark t Mark.LeftBracket → IsMark u Mark.RightBracket → DerivesBounds (trees ps) a i (Some u)
      → HasRead w i (Wait.FunctionHeadDefine n) ps (n ∷ t ∷ (a ++ u ∷ []))
  function_head_body : {n t u : Lexeme} (d : Lexeme) {ps : List Tree} {a : List Lexeme}
      → w ≡ Wait.Handing Handed.Definition n → IsName n → IsMark t Mark.LeftBracket → IsMark u Mark.RightBracket → IsMark d Mark.Define → DerivesBounds (trees ps) a i (Some u)
      → HasRead w i (Wait.FunctionHeadBody n) ps (n ∷ t ∷ (a ++ u ∷ d ∷ []))
  instance_module : {h : Lexeme} → sort w ≡ Instance → IsWord h Word.Instance → HasRead w i Wait.InstanceModule [] (h ∷ [])
  instance_named : {h m : Lexeme} → sort w ≡ Instance → IsWord h Word.Instance → IsName m → HasRead w i (Wait.InstanceNamed m) [] (h ∷ m ∷ [])
  replacements : {h m t : Lexeme} {ps : List Tree} {d : List Lexeme}
      → sort w ≡ Instance → IsWord h Word.Instance → IsName m → IsWord t Word.With → Replaced i ps d
      → HasRead w i (Wait.Replacements m) ps (h ∷ m ∷ t ∷ d)
  replacement_start : sort w ≡ Replacement → HasRead w i Wait.ReplacementStart [] []
  replacement_arrow : {n : Lexeme} → sort w ≡ Replacement → IsReplaceable n → HasRead w i (Wait.ReplacementArrow n) [] (n ∷ [])
  replacement_right : {n t : Lexeme} → sort w ≡ Replacement → IsReplaceable n → IsMark t Mark.LeftArrow → HasRead w i (Wait.ReplacementRight n) [] (n ∷ t ∷ [])
  replacement_end : {op : Op} {n t s : Lexeme} → sort w ≡ Replacement → IsReplaceable n → IsMark t Mark.LeftArrow → IsSymbol s op → IsTrue (is_given op)
      → HasRead w i (Wait.ReplacementEnd n) (symbol-leaf s ∷ []) (n ∷ t ∷ s ∷ [])
  parameter_start : sort w ≡ Parameter → HasRead w i Wait.ParameterStart [] []
  parameter_name : {n : Lexeme} → sort w ≡ Parameter → IsName n → HasRead w i (Wait.ParameterName n) [] (n ∷ [])
  places : {n t : Lexeme} {count : ℕ} {d : List Lexeme}
      → sort w ≡ Parameter → IsName n → IsMark t Mark.LeftParen → PlacesSeen count d → HasRead w i (Wait.Places n count) [] (n ∷ t ∷ d)
  places_read : {n t : Lexeme} (p : Lexeme) (count : ℕ) (d : List Lexeme)
      → sort w ≡ Parameter → IsName n → IsMark t Mark.LeftParen → PlacesSeen count d → IsMark p Mark.Underscore
      → HasRead w i (Wait.PlacesRead n (count + 1)) [] (n ∷ t ∷ (d ++ p ∷ []))
  prefix_place : {s : Lexeme} → sort w ≡ Parameter → IsSymbol s Op.Negative → HasRead w i (Wait.PrefixPlace s) [] (s ∷ [])
  symbol_place : {p : Lexeme} → sort w ≡ Parameter → IsMark p Mark.Underscore → HasRead w i Wait.SymbolPlace [] (p ∷ [])
  infix_place : {op : Op} {p s : Lexeme} → sort w ≡ Parameter → IsMark p Mark.Underscore → IsSymbol s op → Defines op Fix.Infix
      → HasRead w i (Wait.InfixPlace s) [] (p ∷ s ∷ [])
