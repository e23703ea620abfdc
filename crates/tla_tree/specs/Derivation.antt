-- Which trees derive which lexemes: a rule for each form, with all its conditions.
--
-- Beside a tree and its lexemes stand two things that the rules for aligned lists look at: one more than the column of
-- the innermost list that holds the tree in an item (0 for none), and the lexeme that follows.
use Rattle.std.specs.Prelude.{◌≤◌, ◌≡◌, ℕ, suc, ◌⊎◌, false, IsTrue, List, [], ◌∷◌, ◌++◌, Option, Some}
use Rattle.tla_symbols.specs.declared.op.Op.{Op}
use Rattle.tla_symbols.specs.declared.place.Fix.{Fix}
use Rattle.tla_symbols.specs.declared.lexeme.LexKind.{LexKind}
use Rattle.tla_symbols.specs.declared.lexeme.Word.{Word}
use Rattle.tla_symbols.specs.declared.lexeme.Mark.{Mark}
use Rattle.tla_symbols.specs.declared.lexeme.Lexeme.{Lexeme}
use Rattle.tla_tree.specs.declared.form.Form.{Form}
use Rattle.tla_tree.specs.Syntax.{Tree, Trees, Nil, Cons}
use Rattle.tla_tree.specs.Edges.{Operator, product, AllMeet, AllJoin, left_edge, right_edge}
use Rattle.tla_tree.specs.Alignment.{IsBullet, GoesOn, From, MayFollow, MayFollowArms}
use Rattle.tla_tree.specs.Shapes.{IsBareMember, BindsOne, IsSubscript}
use Rattle.tla_tree.specs.Lexemes.{IsName, IsWord, IsMark, IsSymbol, Applies, Defines, is_product, is_passed, is_given, built, one, two, then}
use Rattle.tla_tree.specs.Headings.{DerivesNameList, DerivesNames, DerivesTupleNames, DerivesBinder, DerivesHead, IsReplaceable}

mutual
  -- an expression: its lexemes are those of its form, and its place is theirs
  pub data Derives : Tree → List Lexeme → ℕ → Option Lexeme → Type 0 where
    node : {form : Form} {xs : Trees} {a : List Lexeme} {inner : ℕ} {next : Option Lexeme} → Spells form xs a inner next → Derives (built form xs a) a inner next

  -- what a form with these parts spells
  pub data Spells : Form → Trees → List Lexeme → ℕ → Option Lexeme → Type 0 where
    -- `Id!Id(e, ..)!..`
    identifier : {xs : Trees} {a : List Lexeme} {inner : ℕ} {next : Option Lexeme} → DerivesSegments xs a inner → Spells Form.Identifier xs a inner next
    -- numbers, strings and `@`
    number : {t : Lexeme} {inner : ℕ} {next : Option Lexeme} → t.kind ≡ LexKind.Number → Spells (Form.Number t) Nil (t ∷ []) inner next
    text : {t : Lexeme} {inner : ℕ} {next : Option Lexeme} → t.kind ≡ LexKind.Str → Spells (Form.Text t) Nil (t ∷ []) inner next
    at : {t : Lexeme} {inner : ℕ} {next : Option Lexeme} → IsMark t Mark.At → Spells (Form.At t) Nil (t ∷ []) inner next
    -- prefix, infix and postfix symbols, each among operands whose edges it admits
    prefixed : {op : Op} {t : Lexeme} {x : Tree} {a : List Lexeme} {inner : ℕ} {next : Option Lexeme}
        → IsSymbol t op → Applies op Fix.Prefix
        → AllMeet (Operator op Fix.Prefix) (left_edge x)
        → Derives x a inner next
        → Spells (Form.Prefix t) (one x) (t ∷ a) inner next
    infixed : {op : Op} {x y : Tree} {a b : List Lexeme} {inner : ℕ} {next : Option Lexeme} (t : Lexeme)
        → IsSymbol t op → Applies op Fix.Infix → is_product op ≡ false
        → AllJoin (Operator op Fix.Infix) (right_edge x)
        → AllMeet (Operator op Fix.Infix) (left_edge y)
        → Derives x a inner (Some t) → Derives y b inner next
        → Spells (Form.Infix t) (two x y) (a ++ t ∷ b) inner next
    postfixed : {op : Op} {x : Tree} {a : List Lexeme} {inner : ℕ} {next : Option Lexeme} (t : Lexeme)
        → IsSymbol t op → Applies op Fix.Postfix
        → right_edge x ≡ []
        → Derives x a inner (Some t)
        → Spells (Form.Postfix t) (one x) (a ++ t ∷ []) inner next
    -- `e \X e \X ..`: none of its operands is a bare `\X`
    products : {x : Tree} {xs : Trees} {a b : List Lexeme} {inner : ℕ} {next : Option Lexeme} (t : Lexeme)
        → IsSymbol t Op.Product
        → AllJoin product (right_edge x)
        → Derives x a inner (Some t) → DerivesFactors xs b inner next
        → Spells Form.Product (Cons x xs) (a ++ t ∷ b) inner next
    -- `(e)`
    parentheses : {x : Tree} {a : List Lexeme} {inner : ℕ} {next : Option Lexeme} (t u : Lexeme)
        → IsMark t Mark.LeftParen → IsMark u Mark.RightParen
        → Derives x a inner (Some u)
        → Spells Form.Parentheses (one x) (t ∷ (a ++ u ∷ [])) inner next
    -- `\A` and `\E` over names or over bounds, `\AA` and `\EE` over names
    quantifier : {q : Lexeme} {names x : Tree} {a b : List Lexeme} {inner : ℕ} {next : Option Lexeme} (t : Lexeme)
        → IsMark q Mark.ForAll ⊎ IsMark q Mark.Exists → IsMark t Mark.Colon
        → DerivesNames names a → Derives x b inner next
        → Spells (Form.Quantifier q) (two names x) (q ∷ (a ++ t ∷ b)) inner next
    bounded_quantifier : {q : Lexeme} {bounds : Trees} {x : Tree} {a b : List Lexeme} {inner : ℕ} {next : Option Lexeme} (t : Lexeme)
        → IsMark q Mark.ForAll ⊎ IsMark q Mark.Exists → IsMark t Mark.Colon
        → DerivesBounds bounds a inner (Some t) → Derives x b inner next
        → Spells (Form.BoundedQuantifier q) (then bounds x) (q ∷ (a ++ t ∷ b)) inner next
    temporal_quantifier : {q : Lexeme} {names x : Tree} {a b : List Lexeme} {inner : ℕ} {next : Option Lexeme} (t : Lexeme)
        → IsMark q Mark.TemporalForAll ⊎ IsMark q Mark.TemporalExists → IsMark t Mark.Colon
        → DerivesNames names a → Derives x b inner next
        → Spells (Form.TemporalQuantifier q) (two names x) (q ∷ (a ++ t ∷ b)) inner next
    -- `CHOOSE x : e` and `CHOOSE x \in e : e`, where x is a name or a tuple of names
    choose : {w : Lexeme} {binder x : Tree} {a b : List Lexeme} {inner : ℕ} {next : Option Lexeme} (t : Lexeme)
        → IsWord w Word.Choose → IsMark t Mark.Colon
        → DerivesBinder binder a → Derives x b inner next
        → Spells Form.Choose (two binder x) (w ∷ (a ++ t ∷ b)) inner next
    bounded_choose : {w : Lexeme} {bound x : Tree} {a b : List Lexeme} {inner : ℕ} {next : Option Lexeme} (t : Lexeme)
        → IsWord w Word.Choose → IsMark t Mark.Colon
        → DerivesBound bound a inner (Some t) → BindsOne bound → Derives x b inner next
        → Spells Form.BoundedChoose (two bound x) (w ∷ (a ++ t ∷ b)) inner next
    -- `{}` and `{e, ..}`
    empty_set : {t u : Lexeme} {inner : ℕ} {next : Option Lexeme}
        → IsMark t Mark.LeftBrace → IsMark u Mark.RightBrace
        → Spells Form.SetEnumeration Nil (t ∷ u ∷ []) inner next
    set : {xs : Trees} {a : List Lexeme} {inner : ℕ} {next : Option Lexeme} (t u : Lexeme)
        → IsMark t Mark.LeftBrace → IsMark u Mark.RightBrace
        → DerivesList xs a inner (Some u)
        → Spells Form.SetEnumeration xs (t ∷ (a ++ u ∷ [])) inner next
    -- `{x \in e : e}`, where x is a name or a tuple of names
    set_filter : {bound y : Tree} {a b : List Lexeme} {inner : ℕ} {next : Option Lexeme} (t c u : Lexeme)
        → IsMark t Mark.LeftBrace → IsMark c Mark.Colon → IsMark u Mark.RightBrace
        → DerivesBound bound a inner (Some c) → BindsOne bound → Derives y b inner (Some u)
        → Spells Form.SetFilter (two bound y) (t ∷ (a ++ c ∷ (b ++ u ∷ []))) inner next
    -- `{e : x \in e, ..}`, where the first e is not of the bare form `x \in e`
    set_image : {x : Tree} {bounds : Trees} {a b : List Lexeme} {inner : ℕ} {next : Option Lexeme} (t c u : Lexeme)
        → IsMark t Mark.LeftBrace → IsMark c Mark.Colon → IsMark u Mark.RightBrace
        → Derives x a inner (Some c) → (IsBareMember x → ⊥) → DerivesBounds bounds b inner (Some u)
        → Spells Form.SetImage (Cons x bounds) (t ∷ (a ++ c ∷ (b ++ u ∷ []))) inner next
    -- `e[e, ..]`
    application : {x : Tree} {xs : Trees} {a b : List Lexeme} {inner : ℕ} {next : Option Lexeme} (t u : Lexeme)
        → IsMark t Mark.LeftBracket → IsMark u Mark.RightBracket
        → right_edge x ≡ []
        → Derives x a inner (Some t) → DerivesList xs b inner (Some u)
        → Spells Form.Application (Cons x xs) (a ++ t ∷ (b ++ u ∷ [])) inner next
    -- `[x \in e, .. |-> e]`
    function : {bounds : Trees} {y : Tree} {a b : List Lexeme} {inner : ℕ} {next : Option Lexeme} (t m u : Lexeme)
        → IsMark t Mark.LeftBracket → IsMark m Mark.MapsTo → IsMark u Mark.RightBracket
        → DerivesBounds bounds a inner (Some m) → Derives y b inner (Some u)
        → Spells Form.FunctionConstructor (then bounds y) (t ∷ (a ++ m ∷ (b ++ u ∷ []))) inner next
    -- `[e -> e]`
    function_set : {x y : Tree} {a b : List Lexeme} {inner : ℕ} {next : Option Lexeme} (t m u : Lexeme)
        → IsMark t Mark.LeftBracket → IsMark m Mark.Arrow → IsMark u Mark.RightBracket
        → Derives x a inner (Some m) → Derives y b inner (Some u)
        → Spells Form.FunctionSet (two x y) (t ∷ (a ++ m ∷ (b ++ u ∷ []))) inner next
    -- `[Id |-> e, ..]` and `[Id : e, ..]`
    record_of : {xs : Trees} {a : List Lexeme} {inner : ℕ} {next : Option Lexeme} (t u : Lexeme)
        → IsMark t Mark.LeftBracket → IsMark u Mark.RightBracket
        → DerivesFields Mark.MapsTo xs a inner (Some u)
        → Spells Form.Record xs (t ∷ (a ++ u ∷ [])) inner next
    record_set : {xs : Trees} {a : List Lexeme} {inner : ℕ} {next : Option Lexeme} (t u : Lexeme)
        → IsMark t Mark.LeftBracket → IsMark u Mark.RightBracket
        → DerivesFields Mark.Colon xs a inner (Some u)
        → Spells Form.RecordSet xs (t ∷ (a ++ u ∷ [])) inner next
    -- `e.Id`
    field : {x : Tree} {a : List Lexeme} {h : Lexeme} {inner : ℕ} {next : Option Lexeme} (t : Lexeme)
        → IsMark t Mark.Dot → IsName h
        → right_edge x ≡ []
        → Derives x a inner (Some t)
        → Spells (Form.FieldAccess h) (one x) (a ++ t ∷ h ∷ []) inner next
    -- `[e EXCEPT !.Id[e, ..] = e, ..]`
    except : {x : Tree} {xs : Trees} {a b : List Lexeme} {inner : ℕ} {next : Option Lexeme} (t w u : Lexeme)
        → IsMark t Mark.LeftBracket → IsWord w Word.Except → IsMark u Mark.RightBracket
        → Derives x a inner (Some w) → DerivesUpdates xs b inner (Some u)
        → Spells Form.Except (Cons x xs) (t ∷ (a ++ w ∷ (b ++ u ∷ []))) inner next
    -- `<<>>` and `<<e, ..>>`
    empty_tuple : {t u : Lexeme} {inner : ℕ} {next : Option Lexeme}
        → IsMark t Mark.LeftAngle → IsMark u Mark.RightAngle
        → Spells Form.Tuple Nil (t ∷ u ∷ []) inner next
    tuple : {xs : Trees} {a : List Lexeme} {inner : ℕ} {next : Option Lexeme} (t u : Lexeme)
        → IsMark t Mark.LeftAngle → IsMark u Mark.RightAngle
        → DerivesList xs a inner (Some u)
        → Spells Form.Tuple xs (t ∷ (a ++ u ∷ [])) inner next
    -- `[e]_s` and `<<e>>_s`
    square : {x s : Tree} {a b : List Lexeme} {inner : ℕ} {next : Option Lexeme} (t u : Lexeme)
        → IsMark t Mark.LeftBracket → IsMark u Mark.RightBracketSubscript
        → Derives x a inner (Some u) → Derives s b inner next → IsSubscript s
        → Spells Form.SquareAction (two x s) (t ∷ (a ++ u ∷ b)) inner next
    angle : {x s : Tree} {a b : List Lexeme} {inner : ℕ} {next : Option Lexeme} (t u : Lexeme)
        → IsMark t Mark.LeftAngle → IsMark u Mark.RightAngleSubscript
        → Derives x a inner (Some u) → Derives s b inner next → IsSubscript s
        → Spells Form.AngleAction (two x s) (t ∷ (a ++ u ∷ b)) inner next
    -- `WF_s(e)` and `SF_s(e)`
    fairness : {w : Lexeme} {s x : Tree} {a b : List Lexeme} {inner : ℕ} {next : Option Lexeme} (t u : Lexeme)
        → IsWord w Word.WeakFair ⊎ IsWord w Word.StrongFair → IsMark t Mark.LeftParen → IsMark u Mark.RightParen
        → Derives s a inner (Some t) → IsSubscript s → Derives x b inner (Some u)
        → Spells (Form.Fairness w) (two s x) (w ∷ (a ++ t ∷ (b ++ u ∷ []))) inner next
    -- `IF e THEN e ELSE e`
    if_then_else : {x y z : Tree} {a b c : List Lexeme} {inner : ℕ} {next : Option Lexeme} (t u v : Lexeme)
        → IsWord t Word.If → IsWord u Word.Then → IsWord v Word.Else
        → Derives x a inner (Some u) → Derives y b inner (Some v) → Derives z c inner next
        → Spells Form.IfThenElse (Cons x (two y z)) (t ∷ (a ++ u ∷ (b ++ v ∷ c))) inner next
    -- `CASE e -> e [] ..`, whose last arm may be `OTHER -> e`
    case : {w : Lexeme} {xs : Trees} {a : List Lexeme} {inner : ℕ} {next : Option Lexeme}
        → IsWord w Word.Case → DerivesArms xs a inner next
        → Spells Form.Case xs (w ∷ a) inner next
    -- `LET defs IN e`
    let_in : {w : Lexeme} {xs : Trees} {x : Tree} {a b : List Lexeme} {inner : ℕ} {next : Option Lexeme} (t : Lexeme)
        → IsWord w Word.Let → IsWord t Word.In
        → DerivesDefinitions xs a inner (Some t) → Derives x b inner next
        → Spells Form.Let (then xs x) (w ∷ (a ++ t ∷ b)) inner next
    -- an aligned list, inside the items of those that hold it
    junctions : {t : Lexeme} {xs : Trees} {a : List Lexeme} {inner : ℕ} {next : Option Lexeme}
        → IsBullet t → inner ≤ t.col → DerivesItems t xs (t ∷ a) next → MayFollow t next
        → Spells (Form.JunctionList t) xs (t ∷ a) inner next

  -- one or more expressions parted by commas
  pub data DerivesList : Trees → List Lexeme → ℕ → Option Lexeme → Type 0 where
    last : {x : Tree} {a : List Lexeme} {inner : ℕ} {next : Option Lexeme} → Derives x a inner next → DerivesList (one x) a inner next
    more : {x : Tree} {xs : Trees} {a b : List Lexeme} {inner : ℕ} {next : Option Lexeme} (t : Lexeme)
        → IsMark t Mark.Comma
        → Derives x a inner (Some t) → DerivesList xs b inner next
        → DerivesList (Cons x xs) (a ++ t ∷ b) inner next

  -- the operands of `\X` after the first
  pub data DerivesFactors : Trees → List Lexeme → ℕ → Option Lexeme → Type 0 where
    last_factor : {x : Tree} {a : List Lexeme} {inner : ℕ} {next : Option Lexeme}
        → AllMeet product (left_edge x)
        → Derives x a inner next
        → DerivesFactors (one x) a inner next
    more_factors : {x : Tree} {xs : Trees} {a b : List Lexeme} {inner : ℕ} {next : Option Lexeme} (t : Lexeme)
        → IsSymbol t Op.Product
        → AllMeet product (left_edge x) → AllJoin product (right_edge x)
        → Derives x a inner (Some t) → DerivesFactors xs b inner next
        → DerivesFactors (Cons x xs) (a ++ t ∷ b) inner next

  -- the segments of a general identifier
  pub data DerivesSegments : Trees → List Lexeme → ℕ → Type 0 where
    last_segment : {x : Tree} {a : List Lexeme} {inner : ℕ} → DerivesSegment x a inner → DerivesSegments (one x) a inner
    more_segments : {x : Tree} {xs : Trees} {a b : List Lexeme} {inner : ℕ} (t : Lexeme)
        → IsMark t Mark.Bang
        → DerivesSegment x a inner → DerivesSegments xs b inner
        → DerivesSegments (Cons x xs) (a ++ t ∷ b) inner

  -- `Id` or `Id(e, ..)`
  pub data DerivesSegment : Tree → List Lexeme → ℕ → Type 0 where
    bare : {n : Lexeme} {inner : ℕ} → IsName n → DerivesSegment (built (Form.Segment n) Nil (n ∷ [])) (n ∷ []) inner
    applied : {n : Lexeme} {xs : Trees} {a : List Lexeme} {inner : ℕ} (t u : Lexeme)
        → IsName n → IsMark t Mark.LeftParen → IsMark u Mark.RightParen
        → DerivesArguments xs a inner (Some u)
        → DerivesSegment (built (Form.Segment n) xs (n ∷ t ∷ (a ++ u ∷ []))) (n ∷ t ∷ (a ++ u ∷ [])) inner

  -- arguments are expressions or bare symbols, each of them before a comma or the closing parenthesis
  pub data DerivesArguments : Trees → List Lexeme → ℕ → Option Lexeme → Type 0 where
    last_argument : {x : Tree} {a : List Lexeme} {inner : ℕ} {next : Option Lexeme} → DerivesArgument x a inner next → DerivesArguments (one x) a inner next
    more_arguments : {x : Tree} {xs : Trees} {a b : List Lexeme} {inner : ℕ} {next : Option Lexeme} (t : Lexeme)
        → IsMark t Mark.Comma
        → DerivesArgument x a inner (Some t) → DerivesArguments xs b inner next
        → DerivesArguments (Cons x xs) (a ++ t ∷ b) inner next

  -- an expression, or a symbol that is passed bare
  pub data DerivesArgument : Tree → List Lexeme → ℕ → Option Lexeme → Type 0 where
    expression : {x : Tree} {a : List Lexeme} {inner : ℕ} {next : Option Lexeme} → Derives x a inner next → DerivesArgument x a inner next
    passed : {op : Op} {t : Lexeme} {inner : ℕ} {next : Option Lexeme}
        → IsSymbol t op → IsTrue (is_passed op)
        → DerivesArgument (built (Form.Symbol t) Nil (t ∷ [])) (t ∷ []) inner next

  -- `Id, .. \in e` and `<<Id, ..>> \in e`, where e may stand to the right of `\in`
  pub data DerivesBound : Tree → List Lexeme → ℕ → Option Lexeme → Type 0 where
    bound : {xs : Trees} {x : Tree} {a b : List Lexeme} {inner : ℕ} {next : Option Lexeme} (m : Lexeme)
        → IsSymbol m Op.In
        → AllMeet (Operator Op.In Fix.Infix) (left_edge x)
        → DerivesNameList xs a → Derives x b inner next
        → DerivesBound (built Form.Bound (then xs x) (a ++ m ∷ b)) (a ++ m ∷ b) inner next
    tuple_bound : {xs : Trees} {x : Tree} {a b : List Lexeme} {inner : ℕ} {next : Option Lexeme} (m : Lexeme)
        → IsSymbol m Op.In
        → AllMeet (Operator Op.In Fix.Infix) (left_edge x)
        → DerivesTupleNames xs a → Derives x b inner next
        → DerivesBound (built Form.TupleBound (then xs x) (a ++ m ∷ b)) (a ++ m ∷ b) inner next

  -- one or more bounds parted by commas
  pub data DerivesBounds : Trees → List Lexeme → ℕ → Option Lexeme → Type 0 where
    last_bound : {x : Tree} {a : List Lexeme} {inner : ℕ} {next : Option Lexeme} → DerivesBound x a inner next → DerivesBounds (one x) a inner next
    more_bounds : {x : Tree} {xs : Trees} {a b : List Lexeme} {inner : ℕ} {next : Option Lexeme} (t : Lexeme)
        → IsMark t Mark.Comma
        → DerivesBound x a inner (Some t) → DerivesBounds xs b inner next
        → DerivesBounds (Cons x xs) (a ++ t ∷ b) inner next

  -- a field of a record or of a set of records, by the mark after its name
  pub data DerivesField : Mark → Tree → List Lexeme → ℕ → Option Lexeme → Type 0 where
    named : {mark : Mark} {n m : Lexeme} {x : Tree} {a : List Lexeme} {inner : ℕ} {next : Option Lexeme}
        → IsName n → IsMark m mark
        → Derives x a inner next
        → DerivesField mark (built (Form.Field n) (one x) (n ∷ m ∷ a)) (n ∷ m ∷ a) inner next

  -- one or more fields parted by commas, all with this mark
  pub data DerivesFields : Mark → Trees → List Lexeme → ℕ → Option Lexeme → Type 0 where
    last_field : {mark : Mark} {x : Tree} {a : List Lexeme} {inner : ℕ} {next : Option Lexeme} → DerivesField mark x a inner next → DerivesFields mark (one x) a inner next
    more_fields : {mark : Mark} {x : Tree} {xs : Trees} {a b : List Lexeme} {inner : ℕ} {next : Option Lexeme} (t : Lexeme)
        → IsMark t Mark.Comma
        → DerivesField mark x a inner (Some t) → DerivesFields mark xs b inner next
        → DerivesFields mark (Cons x xs) (a ++ t ∷ b) inner next

  -- `!`, one or more of `.Id` and `[e, ..]`, `=`, e
  pub data DerivesUpdate : Tree → List Lexeme → ℕ → Option Lexeme → Type 0 where
    update : {xs : Trees} {x : Tree} {a b : List Lexeme} {inner : ℕ} {next : Option Lexeme} (t e : Lexeme)
        → IsMark t Mark.Bang → IsSymbol e Op.Equal
        → DerivesSteps xs a inner → Derives x b inner next
        → DerivesUpdate (built Form.Update (then xs x) (t ∷ (a ++ e ∷ b))) (t ∷ (a ++ e ∷ b)) inner next

  -- one or more updates parted by commas
  pub data DerivesUpdates : Trees → List Lexeme → ℕ → Option Lexeme → Type 0 where
    last_update : {x : Tree} {a : List Lexeme} {inner : ℕ} {next : Option Lexeme} → DerivesUpdate x a inner next → DerivesUpdates (one x) a inner next
    more_updates : {x : Tree} {xs : Trees} {a b : List Lexeme} {inner : ℕ} {next : Option Lexeme} (t : Lexeme)
        → IsMark t Mark.Comma
        → DerivesUpdate x a inner (Some t) → DerivesUpdates xs b inner next
        → DerivesUpdates (Cons x xs) (a ++ t ∷ b) inner next

  -- the place of a step `.Id` is that of its name
  pub data DerivesStep : Tree → List Lexeme → ℕ → Type 0 where
    field_step : {t h : Lexeme} {inner : ℕ}
        → IsMark t Mark.Dot → IsName h
        → DerivesStep (built (Form.FieldStep h) Nil (h ∷ [])) (t ∷ h ∷ []) inner
    index_step : {xs : Trees} {a : List Lexeme} {inner : ℕ} (t u : Lexeme)
        → IsMark t Mark.LeftBracket → IsMark u Mark.RightBracket
        → DerivesList xs a inner (Some u)
        → DerivesStep (built Form.IndexStep xs (t ∷ (a ++ u ∷ []))) (t ∷ (a ++ u ∷ [])) inner

  -- one or more steps, one right behind the other
  pub data DerivesSteps : Trees → List Lexeme → ℕ → Type 0 where
    last_step : {x : Tree} {a : List Lexeme} {inner : ℕ} → DerivesStep x a inner → DerivesSteps (one x) a inner
    more_steps : {x : Tree} {xs : Trees} {a b : List Lexeme} {inner : ℕ} → DerivesStep x a inner → DerivesSteps xs b inner → DerivesSteps (Cons x xs) (a ++ b) inner

  -- the arms of a CASE: what follows one without OTHER is no `[]` that it could take
  pub data DerivesArms : Trees → List Lexeme → ℕ → Option Lexeme → Type 0 where
    last_arm : {x : Tree} {a : List Lexeme} {inner : ℕ} {next : Option Lexeme}
        → DerivesArm x a inner next → MayFollowArms inner next
        → DerivesArms (one x) a inner next
    other_arm : {w t : Lexeme} {x : Tree} {a : List Lexeme} {inner : ℕ} {next : Option Lexeme}
        → IsWord w Word.Other → IsMark t Mark.Arrow
        → Derives x a inner next
        → DerivesArms (one (built Form.OtherArm (one x) (w ∷ t ∷ a))) (w ∷ t ∷ a) inner next
    more_arms : {x : Tree} {xs : Trees} {a b : List Lexeme} {inner : ℕ} {next : Option Lexeme} (t : Lexeme)
        → IsSymbol t Op.Always
        → DerivesArm x a inner (Some t) → DerivesArms xs b inner next
        → DerivesArms (Cons x xs) (a ++ t ∷ b) inner next

  -- `e -> e`, an arm with a guard
  pub data DerivesArm : Tree → List Lexeme → ℕ → Option Lexeme → Type 0 where
    arm : {x y : Tree} {a b : List Lexeme} {inner : ℕ} {next : Option Lexeme} (t : Lexeme)
        → IsMark t Mark.Arrow
        → Derives x a inner (Some t) → Derives y b inner next
        → DerivesArm (built Form.Arm (two x y) (a ++ t ∷ b)) (a ++ t ∷ b) inner next

  -- the items of an aligned list, each behind the bullet and right of its column
  pub data DerivesItems : Lexeme → Trees → List Lexeme → Option Lexeme → Type 0 where
    last_item : {first t : Lexeme} {x : Tree} {a : List Lexeme} {next : Option Lexeme}
        → GoesOn first t
        → From (suc first.col) a → Derives x a (suc first.col) next
        → DerivesItems first (one x) (t ∷ a) next
    more_items : {first t : Lexeme} {x : Tree} {xs : Trees} {a b : List Lexeme} {next : Option Lexeme} (u : Lexeme)
        → GoesOn first t
        → From (suc first.col) a → Derives x a (suc first.col) (Some u)
        → DerivesItems first xs (u ∷ b) next
        → DerivesItems first (Cons x xs) (t ∷ (a ++ u ∷ b)) next

  -- one or more definitions
  pub data DerivesDefinitions : Trees → List Lexeme → ℕ → Option Lexeme → Type 0 where
    last_definition : {x : Tree} {a : List Lexeme} {inner : ℕ} {next : Option Lexeme} → DerivesDefinition x a inner next → DerivesDefinitions (one x) a inner next
    more_definitions : {x : Tree} {xs : Trees} {a b : List Lexeme} {inner : ℕ} {next : Option Lexeme} (t : Lexeme)
        → DerivesDefinition x a inner (Some t) → DerivesDefinitions xs (t ∷ b) inner next
        → DerivesDefinitions (Cons x xs) (a ++ t ∷ b) inner next

  -- an operator, function or module definition
  pub data DerivesDefinition : Tree → List Lexeme → ℕ → Option Lexeme → Type 0 where
    operator : {n : Lexeme} {xs : Trees} {x : Tree} {a b : List Lexeme} {inner : ℕ} {next : Option Lexeme} (d : Lexeme)
        → DerivesHead n xs a → IsMark d Mark.Define
        → Derives x b inner next
        → DerivesDefinition (built (Form.OperatorDefinition n) (then xs x) (a ++ d ∷ b)) (a ++ d ∷ b) inner next
    prefix_operator : {t n d : Lexeme} {x : Tree} {a : List Lexeme} {inner : ℕ} {next : Option Lexeme}
        → IsSymbol t Op.Negative → IsName n → IsMark d Mark.Define
        → Derives x a inner next
        → DerivesDefinition (built (Form.PrefixDefinition t) (two (built (Form.Name n) Nil (n ∷ [])) x) (t ∷ n ∷ d ∷ a)) (t ∷ n ∷ d ∷ a) inner next
    infix_operator : {op : Op} {m t n d : Lexeme} {x : Tree} {a : List Lexeme} {inner : ℕ} {next : Option Lexeme}
        → IsName m → IsSymbol t op → Defines op Fix.Infix → IsName n → IsMark d Mark.Define
        → Derives x a inner next
        → DerivesDefinition (built (Form.InfixDefinition t) (Cons (built (Form.Name m) Nil (m ∷ [])) (two (built (Form.Name n) Nil (n ∷ [])) x)) (m ∷ t ∷ n ∷ d ∷ a)) (m ∷ t ∷ n ∷ d ∷ a) inner next
    postfix_operator : {op : Op} {m t d : Lexeme} {x : Tree} {a : List Lexeme} {inner : ℕ} {next : Option Lexeme}
        → IsName m → IsSymbol t op → Defines op Fix.Postfix → IsMark d Mark.Define
        → Derives x a inner next
        → DerivesDefinition (built (Form.PostfixDefinition t) (two (built (Form.Name m) Nil (m ∷ [])) x) (m ∷ t ∷ d ∷ a)) (m ∷ t ∷ d ∷ a) inner next
    function_of : {n t : Lexeme} {bounds : Trees} {x : Tree} {a b : List Lexeme} {inner : ℕ} {next : Option Lexeme} (u d : Lexeme)
        → IsName n → IsMark t Mark.LeftBracket → IsMark u Mark.RightBracket → IsMark d Mark.Define
        → DerivesBounds bounds a inner (Some u) → Derives x b inner next
        → DerivesDefinition (built (Form.FunctionDefinition n) (then bounds x) (n ∷ t ∷ (a ++ u ∷ d ∷ b))) (n ∷ t ∷ (a ++ u ∷ d ∷ b)) inner next
    module_of : {n : Lexeme} {xs : Trees} {x : Tree} {a b : List Lexeme} {inner : ℕ} {next : Option Lexeme} (d : Lexeme)
        → DerivesHead n xs a → IsMark d Mark.Define
        → DerivesInstance x b inner next
        → DerivesDefinition (built (Form.ModuleDefinition n) (then xs x) (a ++ d ∷ b)) (a ++ d ∷ b) inner next

  -- `INSTANCE Id`, and `WITH Repl, ..` after it
  pub data DerivesInstance : Tree → List Lexeme → ℕ → Option Lexeme → Type 0 where
    without : {w m : Lexeme} {inner : ℕ} {next : Option Lexeme}
        → IsWord w Word.Instance → IsName m
        → DerivesInstance (built (Form.Instance m) Nil (w ∷ m ∷ [])) (w ∷ m ∷ []) inner next
    with_replacements : {w m t : Lexeme} {xs : Trees} {a : List Lexeme} {inner : ℕ} {next : Option Lexeme}
        → IsWord w Word.Instance → IsName m → IsWord t Word.With
        → DerivesReplacements xs a inner next
        → DerivesInstance (built (Form.Instance m) xs (w ∷ m ∷ t ∷ a)) (w ∷ m ∷ t ∷ a) inner next

  -- one or more replacements parted by commas
  pub data DerivesReplacements : Trees → List Lexeme → ℕ → Option Lexeme → Type 0 where
    last_replacement : {x : Tree} {a : List Lexeme} {inner : ℕ} {next : Option Lexeme} → DerivesReplacement x a inner next → DerivesReplacements (one x) a inner next
    more_replacements : {x : Tree} {xs : Trees} {a b : List Lexeme} {inner : ℕ} {next : Option Lexeme} (t : Lexeme)
        → IsMark t Mark.Comma
        → DerivesReplacement x a inner (Some t) → DerivesReplacements xs b inner next
        → DerivesReplacements (Cons x xs) (a ++ t ∷ b) inner next

  -- an Id or a definable symbol, `<-`, an expression or a bare symbol
  pub data DerivesReplacement : Tree → List Lexeme → ℕ → Option Lexeme → Type 0 where
    replaced : {n t : Lexeme} {x : Tree} {a : List Lexeme} {inner : ℕ} {next : Option Lexeme}
        → IsReplaceable n → IsMark t Mark.LeftArrow
        → Derives x a inner next
        → DerivesReplacement (built (Form.Replacement n) (one x) (n ∷ t ∷ a)) (n ∷ t ∷ a) inner next
    replaced_by_symbol : {op : Op} {n t s : Lexeme} {inner : ℕ} {next : Option Lexeme}
        → IsReplaceable n → IsMark t Mark.LeftArrow → IsSymbol s op → IsTrue (is_given op)
        → DerivesReplacement (built (Form.Replacement n) (one (built (Form.Symbol s) Nil (s ∷ []))) (n ∷ t ∷ s ∷ [])) (n ∷ t ∷ s ∷ []) inner next
