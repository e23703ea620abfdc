-- The front of bytes and of lexemes, as the code comes to it.
use Rattle.std.proofs.Common.{◌≡◌, ◌≢◌, ℕ, suc, ◌+◌, ◌≤◌, ◌<◌, ◌∷◌, ◌++◌, [], List, length, take, drop, get_or, refl, sym, ap, ◌∙◌, arith, subst, ⊎_elim, Some, None}
use Rattle.std.proofs.Math.Nat.{eq-or-lt_of_le}
use Rattle.std.proofs.Math.Seq.{take-length}
use Rattle.std.specs.Prelude.{IfOk, IfErr, Result, Ok, Err}
use Rattle.std.proofs.lemmas.List.{drop_more, take-append-drop, length-take-le}
use Rattle.std.proofs.lemmas.Str.{IsCharBoundary-end, IsCharBoundary-start}
use Rattle.std.specs.List.{All}
use Rattle.std.specs.Str.{IsUtf8, IsCharBoundary}
use Rattle.tla_text.specs.Places.{IsLongestUtf8}
use Rattle.tla_symbols.specs.declared.lexeme.Lexeme.{Lexeme}
use Rattle.tla_lexeme.specs.ModulePart.{module_part}
use Rattle.tla_lexeme.specs.Spans.{IsPlaced}
use Rattle.tla_model.specs.declared.Diagnostic.{Diagnostic}
use Rattle.tla_model.specs.Lexemes.{spelled}
use Rattle.tla_tree.specs.declared.unit.ModuleTree.{ModuleTree}
use Rattle.unit_grammar.specs.Units.{ModuleUnits}
use Rattle.unit_grammar.specs.Derivation.{BeginsModule, alone, extending, DerivesModule, outermost}
use Rattle.unit_grammar.specs.FirstBad.{IsFirstBad}
use Rattle.front_laws.proofs.Readable.{readable_len-longest, readable_len-text}
use Rattle.front_laws.specs.Fronts.{Front, Fault, Tree, fault_at, fault_of, readable_len, syntax_code, MOST_TEXT, IsFrontOfLexemes, bad, high, misnamed, whole, IsFront, not_utf8, too_large, no_header, read, IsTree, IsReadFront}
use Rattle.tla_front.specs.declared.module.FrontError.{FrontError}
use Rattle.unit_heights.specs.TooHigh.{MOST_HEIGHT, IsFirstHigh, IsRead, IsHigh}
use Rattle.tla_front.specs.Faults.{IsFaultBehind, IsFrontFault, IsFaultOfLexemes}

-- ---- bytes

short : (bytes : List ℕ) (at : ℕ) → IsLongestUtf8 bytes at → ¬ (IsUtf8 bytes) → at < length bytes
short bytes at longest no_text =
    ⊎_elim
    (λ (e : at ≡ length bytes). absurd (no_text (subst IsUtf8 (ap (λ n. take n bytes) e ∙ take-length bytes) longest.front)))
    (λ (l : at < length bytes). l)
    (eq-or-lt_of_le longest.fits)

pub not_utf8-front : (name bytes : List ℕ) (at : ℕ) (fault : Diagnostic) → fault ≡ fault_at 101 at → ¬ (IsUtf8 bytes) → IsLongestUtf8 bytes at → IsFront name bytes (Fault fault)
not_utf8-front name bytes at fault e no_text longest =
    let len : readable_len bytes ≡ at = readable_len-longest bytes at longest in
    let less : readable_len bytes < length bytes = subst (λ n. n < length bytes) (sym len) (short bytes at longest no_text) in
    let same : fault_at 101 (readable_len bytes) ≡ fault = ap (fault_at 101) len ∙ sym e in
    subst (λ f. IsFront name bytes (Fault f)) same (not_utf8 less)

-- the fault at the end of what is UTF-8 stands there
pub not_utf8-placed : (bytes : List ℕ) (at : ℕ) (fault : Diagnostic) → fault ≡ fault_at 101 at → IsLongestUtf8 bytes at → IsPlaced (take (readable_len bytes) bytes) fault.span
not_utf8-placed bytes at fault e longest =
    let len : readable_len bytes ≡ at = readable_len-longest bytes at longest in
    let size : length (take at bytes) ≡ at = length-take-le at bytes longest.fits in
    let end : IsCharBoundary (take at bytes) at = subst (IsCharBoundary (take at bytes)) size (IsCharBoundary-end (take at bytes)) in
    let there : IsPlaced (take at bytes) (fault_at 101 at).span = record { start = end; end = end } in
    subst (λ n. IsPlaced (take n bytes) fault.span) (sym len) (subst (λ (f : Diagnostic). IsPlaced (take at bytes) f.span) (sym e) there)

-- a fault of no bytes stands at the start of a text
pub start-placed : (text : List ℕ) (code : ℕ) (fault : Diagnostic) → fault ≡ fault_at code 0 → IsUtf8 text → IsPlaced text fault.span
start-placed text code fault e utf8 =
    let start : IsCharBoundary text 0 = IsCharBoundary-start text utf8 in
    let there : IsPlaced text (fault_at code 0).span = record { start = start; end = start } in
    subst (λ (f : Diagnostic). IsPlaced text f.span) (sym e) there

pub readable-whole : (bytes : List ℕ) → IsUtf8 bytes → take (readable_len bytes) bytes ≡ bytes
readable-whole bytes text = ap (λ n. take n bytes) (readable_len-text bytes text) ∙ take-length bytes

pub too_large-front : (name bytes : List ℕ) (fault : Diagnostic) → fault ≡ fault_at 104 0 → IsUtf8 bytes → MOST_TEXT < length bytes → IsFront name bytes (Fault fault)
too_large-front name bytes fault e text large = subst (λ f. IsFront name bytes (Fault f)) (sym e) (too_large (readable_len-text bytes text) large)

pub no_header-front : (name bytes : List ℕ) (fault : Diagnostic) → fault ≡ fault_at 102 0 → IsUtf8 bytes → length bytes ≤ MOST_TEXT → module_part bytes ≡ None → IsFront name bytes (Fault fault)
no_header-front name bytes fault e text small none = subst (λ f. IsFront name bytes (Fault f)) (sym e) (no_header (readable_len-text bytes text) small none)

read-front : (name bytes : List ℕ) (lexemes : List Lexeme) (front : Front) → IsUtf8 bytes → length bytes ≤ MOST_TEXT → module_part bytes ≡ Some lexemes → IsFrontOfLexemes name bytes lexemes front → IsFront name bytes front
read-front name bytes lexemes front text small part h = read (readable_len-text bytes text) small part h

-- ---- lexemes

pub fault-behind : (lexemes : List Lexeme) (index : ℕ) (d : Lexeme) (fault : Diagnostic) → index < length lexemes → fault ≡ fault_of (syntax_code (get_or lexemes index d).kind) (get_or lexemes index d) → IsFaultBehind lexemes index fault
fault-behind lexemes index d fault lt e = (get_or lexemes index d, drop (index + 1) lexemes, drop_more lexemes index d lt, e)

pub bad-front : (name text : List ℕ) (lexemes slice : List Lexeme) (index : ℕ) (fault : Diagnostic) → slice ≡ lexemes → IsFirstBad lexemes index → IsFaultBehind slice index fault → IsFrontOfLexemes name text lexemes (Fault fault)
bad-front name text lexemes slice index fault same first h =
    subst (λ f. IsFrontOfLexemes name text lexemes (Fault f)) (sym h.3) (bad first (ap (drop index) (sym same) ∙ h.2))

-- what is said of lexemes is said of the text that has them
pub read-tree : (name text : List ℕ) (lexemes : List Lexeme) (result : Result ModuleTree FrontError) → IsUtf8 text → length text ≤ MOST_TEXT → module_part text ≡ Some lexemes → IfOk result (λ tree. IsReadFront name text lexemes tree) → IfOk result (λ tree. (found : ModuleUnits) × IsFront name text (Tree found) × IsTree tree found text)
read-tree name text lexemes (Ok tree) utf8 small part h = (h.0, read-front name text lexemes (Tree h.0) utf8 small part h.1, h.2)
read-tree name text lexemes (Err error) utf8 small part h = tt

pub read-fault : (name text : List ℕ) (lexemes : List Lexeme) (result : Result ModuleTree FrontError) → IsUtf8 text → length text ≤ MOST_TEXT → module_part text ≡ Some lexemes → IfErr result (λ error. IsFaultOfLexemes name text lexemes error) → IfErr result (λ error. IsFrontFault name text error)
read-fault name text lexemes (Ok tree) utf8 small part h = tt
read-fault name text lexemes (Err (FrontError.Fault fault)) utf8 small part h = read-front name text lexemes (Fault fault) utf8 small part h
read-fault name text lexemes (Err FrontError.Memory) utf8 small part h = tt

pub high-front : (name text : List ℕ) (tree : ModuleTree) (lexemes : List Lexeme) (t : Lexeme) (fault : Diagnostic) → IsHigh tree lexemes t → fault ≡ fault_of 105 t → IsFrontOfLexemes name text lexemes (Fault fault)
high-front name text tree lexemes t fault h e = subst (λ f. IsFrontOfLexemes name text lexemes (Fault f)) (sym e) (high h.1 h.3)

pub misnamed-front : (name text : List ℕ) (tree : ModuleTree) (lexemes : List Lexeme) (fault : Diagnostic) → IsRead tree lexemes → tree.height ≤ MOST_HEIGHT → spelled text tree.name ≢ name → fault ≡ fault_of 103 tree.name → IsFrontOfLexemes name text lexemes (Fault fault)
misnamed-front name text tree lexemes fault h low other e =
    let found : ModuleUnits = h.0 in
    let named : tree.name ≡ found.name = h.2.name in
    subst (λ f. IsFrontOfLexemes name text lexemes (Fault f)) (ap (fault_of 103) (sym named) ∙ sym e)
    (misnamed h.1 (subst (λ n. n ≤ MOST_HEIGHT) h.2.height low) (subst (λ (n : Lexeme). spelled text n ≢ name) named other))

pub whole-front : (name text : List ℕ) (tree made : ModuleTree) (lexemes : List Lexeme) → IsRead tree lexemes → tree.height ≤ MOST_HEIGHT → spelled text tree.name ≡ name → made ≡ record tree { source = text } → IsReadFront name text lexemes made
whole-front name text tree made lexemes h low same e =
    let found : ModuleUnits = h.0 in
    let named : tree.name ≡ found.name = h.2.name in
    let front : IsFrontOfLexemes name text lexemes (Tree found) = whole h.1 (subst (λ n. n ≤ MOST_HEIGHT) h.2.height low) (subst (λ (n : Lexeme). spelled text n ≡ name) named same) in
    let is : IsTree (record tree { source = text }) found text = record { name = named; extends = h.2.extends; units = h.2.units; height = h.2.height; source = refl } in
    subst (λ (m : ModuleTree). IsReadFront name text lexemes m) (sym e) (found, front, is)

-- ---- where they stand

within-at : (P : Lexeme → Type 0) (before : List Lexeme) (l : Lexeme) (after : List Lexeme) → All P (before ++ l ∷ after) → P l
within-at P [] l after h = h 0 l (omega arith)
within-at P (b ∷ before) l after h = within-at P before l after (λ k d lt. h (suc k) d (omega (arith, lt)))

high-there : (P : Lexeme → Type 0) (found : ModuleUnits) (lexemes : List Lexeme) (t : Lexeme) → IsFirstHigh found lexemes t → All P lexemes → P t
high-there P found lexemes t h all =
    let a : All P (h.header ++ (h.before ++ t ∷ (h.more ++ (h.after ++ h.closing ∷ [])))) = subst (All P) h.spells all in
    within-at P h.before t (h.more ++ (h.after ++ h.closing ∷ [])) (behind h.header (h.before ++ t ∷ (h.more ++ (h.after ++ h.closing ∷ []))) a)
  where
    behind : (xs ys : List Lexeme) → All P (xs ++ ys) → All P ys
    behind [] ys a = a
    behind (x ∷ xs) ys a = behind xs ys (λ k d lt. a (suc k) d (omega (arith, lt)))

named-there : (P : Lexeme → Type 0) (found : ModuleUnits) (lexemes : List Lexeme) → DerivesModule found lexemes → All P lexemes → P found.name
named-there P found lexemes (outermost {b = b} c begins ds k) all = by begins (b ++ c ∷ []) all
  where
    by : {dashes n : Lexeme} {names a : List Lexeme} → BeginsModule dashes n names a → (rest : List Lexeme) → All P (a ++ rest) → P n
    by (alone {n = n} d w is e) rest h = h 2 n (omega arith)
    by (extending {n = n} d w is e x s) rest h = h 2 n (omega arith)

pub bad-placed : (text : List ℕ) (lexemes slice : List Lexeme) (index : ℕ) (fault : Diagnostic) → slice ≡ lexemes → IsFaultBehind slice index fault → All (λ l. IsPlaced text l.span) lexemes → IsPlaced text fault.span
bad-placed text lexemes slice index fault same h all =
    let split : lexemes ≡ take index slice ++ h.0 ∷ h.1 = sym same ∙ (sym (take-append-drop index slice) ∙ ap (λ ls. take index slice ++ ls) h.2) in
    let there : IsPlaced text h.0.span = within-at (λ l. IsPlaced text l.span) (take index slice) h.0 h.1 (subst (All (λ l. IsPlaced text l.span)) split all) in
    subst (λ (f : Diagnostic). IsPlaced text f.span) (sym h.3) there

pub high-placed : (text : List ℕ) (tree : ModuleTree) (lexemes : List Lexeme) (t : Lexeme) (fault : Diagnostic) → IsHigh tree lexemes t → fault ≡ fault_of 105 t → All (λ l. IsPlaced text l.span) lexemes → IsPlaced text fault.span
high-placed text tree lexemes t fault h e all =
    subst (λ (f : Diagnostic). IsPlaced text f.span) (sym e) (high-there (λ l. IsPlaced text l.span) h.0 lexemes t h.3 all)

pub misnamed-placed : (text : List ℕ) (tree : ModuleTree) (lexemes : List Lexeme) (fault : Diagnostic) → IsRead tree lexemes → fault ≡ fault_of 103 tree.name → All (λ l. IsPlaced text l.span) lexemes → IsPlaced text fault.span
misnamed-placed text tree lexemes fault h e all =
    let named : tree.name ≡ h.0.name = h.2.name in
    let there : IsPlaced text tree.name.span = subst (λ (n : Lexeme). IsPlaced text n.span) (sym named) (named-there (λ l. IsPlaced text l.span) h.0 lexemes h.1 all) in
    subst (λ (f : Diagnostic). IsPlaced text f.span) (sym e) there
