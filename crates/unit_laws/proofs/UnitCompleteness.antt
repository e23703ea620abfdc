-- The machine reads units and modules: each derivable list is accepted, with its module.
use Rattle.std.proofs.Common.{◌≡◌, ℕ, suc, inl, inr, Bool, true, false, List, [], ◌∷◌, ◌++◌, Option, Some, None, refl, ap, sym, subst, ◌∙◌, append_assoc, append-nil}
use Rattle.tla_symbols.specs.declared.op.Op.TheVariants as Op
use Rattle.tla_symbols.specs.declared.lexeme.LexKind.{LexKind}
use Rattle.tla_symbols.specs.declared.lexeme.Word.{Word}
use Rattle.tla_symbols.specs.declared.lexeme.Lexeme.{Lexeme}
use Rattle.tla_tree.specs.Syntax.{Tree, Trees, Nil}
use Rattle.tla_tree.specs.Headings.{DerivesParameters}
use Rattle.tla_tree.specs.Derivation.{DerivesDefinition, DerivesInstance, without, with_replacements}
use Rattle.expr_grammar.specs.Kinds.{is_comma, is_left_paren, is_with}
use Rattle.expr_grammar.specs.Machine.{start}
use Rattle.expr_grammar.specs.Following.{stops}
use Rattle.expr_laws.proofs.Defining.{IsFirst, Beginning, definition-beginning}
use Rattle.unit_grammar.specs.Units.{UnitTree, Variables, Constants, ModuleBegin, ModuleEnd, ModuleUnits}
use Rattle.unit_grammar.specs.Derivation.{SpellsNames, last_name, more_names, BeginsModule, alone, extending, SpellsLocal, exported, kept, DerivesModule}
use Rattle.unit_grammar.specs.FirstBad.{Begins}
use Rattle.unit_machine.specs.declared.wait.Due.{Due}
use Rattle.unit_machine.specs.declared.wait.DueMove.{DueMove}
use Rattle.unit_machine.specs.declared.wait.UnitStart.{UnitStart}
use Rattle.unit_machine.specs.declared.wait.Wait.{Wait}
use Rattle.unit_machine.specs.Tables.{is_dashes, is_module, is_extends, may_be_local, unit_start, due_move}
use Rattle.unit_machine.specs.Machine.{after_declared, OfConstants, OfDefinition, OfInstance, OfAssumption, OfTheorem, State, state, Stands, started, unit_due, due_moved, step, run, opening, answer, parse}
use Rattle.unit_laws.proofs.Flat.{Plain, plain_variables, plain_constants, plain_definition, plain_instance, plain_assumption, plain_theorem, plain_line, Rest, closes, ends, goes, opens, Whole, whole, derives-whole}
use Rattle.unit_laws.proofs.Moving.{around, at, reads-on}
use Rattle.unit_laws.proofs.PartCompleteness.{read-constants, Follows, InstanceRead, read-instance, DefinitionRead, read-definition}

-- what begins a unit, or ends a module
abbrev pub begins_unit : LexKind → Bool
begins_unit LexKind.Name = true
begins_unit (LexKind.Sym Op.Negative) = true
begins_unit LexKind.Dashes = true
begins_unit LexKind.Equals = true
begins_unit LexKind.Close = true
begins_unit (LexKind.Word Word.Variable) = true
begins_unit (LexKind.Word Word.Variables) = true
begins_unit (LexKind.Word Word.Constant) = true
begins_unit (LexKind.Word Word.Constants) = true
begins_unit (LexKind.Word Word.Local) = true
begins_unit (LexKind.Word Word.Instance) = true
begins_unit (LexKind.Word Word.Assume) = true
begins_unit (LexKind.Word Word.Assumption) = true
begins_unit (LexKind.Word Word.Axiom) = true
begins_unit (LexKind.Word Word.Theorem) = true
begins_unit _ = false

pub record Facts (k : LexKind) : Type 0 where
  pub stops : stops k ≡ true
  pub comma : is_comma k ≡ false
  pub paren : is_left_paren k ≡ false
  pub with : is_with k ≡ false
  pub extends : is_extends k ≡ false
  pub module_word : is_module k ≡ false

pub facts : (k : LexKind) → begins_unit k ≡ true → Facts k
facts LexKind.Name h = record { stops = refl; comma = refl; paren = refl; with = refl; extends = refl; module_word = refl }
facts (LexKind.Sym Op.Negative) h = record { stops = refl; comma = refl; paren = refl; with = refl; extends = refl; module_word = refl }
facts (LexKind.Sym op) h = cc
facts LexKind.Dashes h = record { stops = refl; comma = refl; paren = refl; with = refl; extends = refl; module_word = refl }
facts LexKind.Equals h = record { stops = refl; comma = refl; paren = refl; with = refl; extends = refl; module_word = refl }
facts LexKind.Close h = record { stops = refl; comma = refl; paren = refl; with = refl; extends = refl; module_word = refl }
facts (LexKind.Word word) h = by word h
  where
    by : (word : Word) → begins_unit (LexKind.Word word) ≡ true → Facts (LexKind.Word word)
    by Word.Variable h = record { stops = refl; comma = refl; paren = refl; with = refl; extends = refl; module_word = refl }
    by Word.Variables h = record { stops = refl; comma = refl; paren = refl; with = refl; extends = refl; module_word = refl }
    by Word.Constant h = record { stops = refl; comma = refl; paren = refl; with = refl; extends = refl; module_word = refl }
    by Word.Constants h = record { stops = refl; comma = refl; paren = refl; with = refl; extends = refl; module_word = refl }
    by Word.Local h = record { stops = refl; comma = refl; paren = refl; with = refl; extends = refl; module_word = refl }
    by Word.Instance h = record { stops = refl; comma = refl; paren = refl; with = refl; extends = refl; module_word = refl }
    by Word.Assume h = record { stops = refl; comma = refl; paren = refl; with = refl; extends = refl; module_word = refl }
    by Word.Assumption h = record { stops = refl; comma = refl; paren = refl; with = refl; extends = refl; module_word = refl }
    by Word.Axiom h = record { stops = refl; comma = refl; paren = refl; with = refl; extends = refl; module_word = refl }
    by Word.Theorem h = record { stops = refl; comma = refl; paren = refl; with = refl; extends = refl; module_word = refl }
    by _ h = cc
facts _ h = cc

pub follows-of : (t : Lexeme) → begins_unit t.kind ≡ true → Follows t
follows-of t h = let f : Facts t.kind = facts t.kind h in record { stops = f.stops; comma = f.comma; paren = f.paren; with = f.with }

-- the first lexeme of what remains
abbrev pub FirstBegins : List Lexeme → Type 0
FirstBegins [] = ⊥
FirstBegins (t ∷ b) = begins_unit t.kind ≡ true

record FirstOf (a : List Lexeme) : Type 0 where
  pub s : Lexeme
  pub rest : List Lexeme
  pub is : a ≡ s ∷ rest
  pub begins : begins_unit s.kind ≡ true

local-first : {before : Option Lexeme} {a : List Lexeme} → SpellsLocal before a → (b : List Lexeme) → FirstOf b → FirstOf (a ++ b)
local-first exported b f = f
local-first (kept {w = w} e) b f = record { s = w; rest = b; is = refl; begins = ap begins_unit e }

instance-first : {x : Tree} {a : List Lexeme} {t : Lexeme} → DerivesInstance x a 0 (Some t) → FirstOf a
instance-first (without {w = w} {m = m} e g) = record { s = w; rest = m ∷ []; is = refl; begins = ap begins_unit e }
instance-first (with_replacements {w = w} {m = m} {t = q} {a = a} e g h d) = record { s = w; rest = m ∷ q ∷ a; is = refl; begins = ap begins_unit e }

first-begins : (t : Lexeme) → IsFirst t → begins_unit t.kind ≡ true
first-begins t (inl e) = ap begins_unit e
first-begins t (inr e) = ap begins_unit e

definition-first : {x : Tree} {a : List Lexeme} {t : Lexeme} → DerivesDefinition x a 0 (Some t) → FirstOf a
definition-first d = let r : Beginning _ = definition-beginning d in record { s = r.t; rest = r.rest; is = r.is; begins = first-begins r.t r.first }

plain-first : {u : UnitTree} {a : List Lexeme} {t : Lexeme} → Plain u a t → FirstOf a
plain-first (plain_variables {w = w} {a = a} (inl e) n) = record { s = w; rest = a; is = refl; begins = ap begins_unit e }
plain-first (plain_variables {w = w} {a = a} (inr e) n) = record { s = w; rest = a; is = refl; begins = ap begins_unit e }
plain-first (plain_constants {w = w} {a = a} (inl e) n) = record { s = w; rest = a; is = refl; begins = ap begins_unit e }
plain-first (plain_constants {w = w} {a = a} (inr e) n) = record { s = w; rest = a; is = refl; begins = ap begins_unit e }
plain-first (plain_definition {b = b} l d) = local-first l b (definition-first d)
plain-first (plain_instance {b = b} l d) = local-first l b (instance-first d)
plain-first (plain_assumption {w = w} {a = a} (inl e) n) = record { s = w; rest = a; is = refl; begins = ap begins_unit e }
plain-first (plain_assumption {w = w} {a = a} (inr (inl e)) n) = record { s = w; rest = a; is = refl; begins = ap begins_unit e }
plain-first (plain_assumption {w = w} {a = a} (inr (inr e)) n) = record { s = w; rest = a; is = refl; begins = ap begins_unit e }
plain-first (plain_theorem {w = w} {a = a} e n) = record { s = w; rest = a; is = refl; begins = ap begins_unit e }
plain-first (plain_line {d = d} e n) = record { s = d; rest = []; is = refl; begins = ap begins_unit e }

module-first : {dashes n : Lexeme} {names a : List Lexeme} → BeginsModule dashes n names a → FirstOf a
module-first (alone {d = d} {w = w} {n = n} {e = e} h i j k) = record { s = d; rest = w ∷ n ∷ e ∷ []; is = refl; begins = ap begins_unit h }
module-first (extending {d = d} {w = w} {n = n} {e = e} {x = x} {a = a} h i j k l m) = record { s = d; rest = w ∷ n ∷ e ∷ x ∷ a; is = refl; begins = ap begins_unit h }

front-begins : {a : List Lexeme} (c : List Lexeme) → FirstOf a → FirstBegins (a ++ c)
front-begins c f = subst (λ z. FirstBegins (z ++ c)) (sym f.is) f.begins

pub rest-begins : {depth : ℕ} {units : List UnitTree} {l : List Lexeme} → Rest depth units l → FirstBegins l
rest-begins (closes e) = ap begins_unit e
rest-begins (ends e r) = ap begins_unit e
rest-begins (goes {b = b} t p r) = front-begins (t ∷ b) (plain-first p)
rest-begins (opens {b = b} t k r) = front-begins (t ∷ b) (module-first k)

-- ---- lists of names

abbrev standing : ℕ → List UnitTree → Due → List Lexeme → Option State
standing d us due names = Some (state d us (Stands due names))

reads-variables : {names a : List Lexeme} → SpellsNames names a → (d : ℕ) (us : List UnitTree) (ns : List Lexeme) (t : Lexeme) (ts : List Lexeme) → is_comma t.kind ≡ false → run (standing d us Due.VariableName ns) (a ++ t ∷ ts) ≡ run (unit_due None d (us ++ Variables (ns ++ names) ∷ []) t) ts
reads-variables (last_name {n = n} e) d us ns t ts c =
    let p : due_move Due.VariableName n ≡ DueMove.Named Due.VariableRead = rw e in
    let q : due_move Due.VariableRead t ≡ DueMove.Listed = rw c in
    ap (λ z. run (due_moved z ns d us n) (t ∷ ts)) p ∙ ap (λ z. run (due_moved z (ns ++ n ∷ []) d us t) ts) q
reads-variables (more_names {n = n} {t = s} {names = names} {a = a} e g h) d us ns t ts c =
    let p : due_move Due.VariableName n ≡ DueMove.Named Due.VariableRead = rw e in
    let q : due_move Due.VariableRead s ≡ DueMove.Goes Due.VariableName = rw g in
    ap (λ z. run (due_moved z ns d us n) (s ∷ (a ++ t ∷ ts))) p
    ∙ (ap (λ z. run (due_moved z (ns ++ n ∷ []) d us s) (a ++ t ∷ ts)) q
    ∙ (reads-variables h d us (ns ++ n ∷ []) t ts c ∙ ap (λ z. run (unit_due None d (us ++ Variables z ∷ []) t) ts) (append_assoc ns (n ∷ []) names)))

reads-extended : {names a : List Lexeme} → SpellsNames names a → (dashes m : Lexeme) (d : ℕ) (us : List UnitTree) (ns : List Lexeme) (t : Lexeme) (ts : List Lexeme) → is_comma t.kind ≡ false → run (standing d us (Due.ExtendsName dashes m) ns) (a ++ t ∷ ts) ≡ run (unit_due None (suc d) (us ++ ModuleBegin dashes m (ns ++ names) ∷ []) t) ts
reads-extended (last_name {n = n} e) dashes m d us ns t ts c =
    let p : due_move (Due.ExtendsName dashes m) n ≡ DueMove.Named (Due.ExtendsRead dashes m) = rw e in
    let q : due_move (Due.ExtendsRead dashes m) t ≡ DueMove.Begun dashes m = rw c in
    ap (λ z. run (due_moved z ns d us n) (t ∷ ts)) p ∙ ap (λ z. run (due_moved z (ns ++ n ∷ []) d us t) ts) q
reads-extended (more_names {n = n} {t = s} {names = names} {a = a} e g h) dashes m d us ns t ts c =
    let p : due_move (Due.ExtendsName dashes m) n ≡ DueMove.Named (Due.ExtendsRead dashes m) = rw e in
    let q : due_move (Due.ExtendsRead dashes m) s ≡ DueMove.Goes (Due.ExtendsName dashes m) = rw g in
    ap (λ z. run (due_moved z ns d us n) (s ∷ (a ++ t ∷ ts))) p
    ∙ (ap (λ z. run (due_moved z (ns ++ n ∷ []) d us s) (a ++ t ∷ ts)) q
    ∙ (reads-extended h dashes m d us (ns ++ n ∷ []) t ts c ∙ ap (λ z. run (unit_due None (suc d) (us ++ ModuleBegin dashes m z ∷ []) t) ts) (append_assoc ns (n ∷ []) names)))

-- ---- how modules begin

-- from the name on
record HeaderRead (d n : Lexeme) (names a : List Lexeme) : Type 0 where
  pub w : Lexeme
  pub rest : List Lexeme
  pub is : a ≡ d ∷ w ∷ rest
  pub dashes : is_dashes d.kind ≡ true
  pub starts : unit_start d.kind d ≡ UnitStart.Goes (Due.Dashes d)
  pub word : is_module w.kind ≡ true
  pub reads : (depth : ℕ) (us : List UnitTree) (t : Lexeme) (ts : List Lexeme) → begins_unit t.kind ≡ true → run (standing depth us (Due.ModuleName d) []) (rest ++ t ∷ ts) ≡ run (unit_due None (suc depth) (us ++ ModuleBegin d n names ∷ []) t) ts

read-header : {d n : Lexeme} {names a : List Lexeme} → BeginsModule d n names a → HeaderRead d n names a
read-header (alone {d = d} {w = w} {n = n} {e = e} h i j k) = record {
  w = w;
  rest = n ∷ e ∷ [];
  is = refl;
  dashes = ap is_dashes h;
  starts = ap (λ z. unit_start z d) h;
  word = ap is_module i;
  reads = λ depth us t ts b.
      let p : due_move (Due.ModuleName d) n ≡ DueMove.Goes (Due.ModuleDashes d n) = rw j in
      let q : due_move (Due.ModuleDashes d n) e ≡ DueMove.Goes (Due.ModuleRead d n) = rw k in
      let c : is_extends t.kind ≡ false = (facts t.kind b).extends in
      let r : due_move (Due.ModuleRead d n) t ≡ DueMove.Begun d n = rw c in
      ap (λ z. run (due_moved z [] depth us n) (e ∷ t ∷ ts)) p ∙ (ap (λ z. run (due_moved z [] depth us e) (t ∷ ts)) q ∙ ap (λ z. run (due_moved z [] depth us t) ts) r);
}
read-header (extending {d = d} {w = w} {n = n} {e = e} {x = x} {names = names} {a = a} h i j k l m) = record {
  w = w;
  rest = n ∷ e ∷ x ∷ a;
  is = refl;
  dashes = ap is_dashes h;
  starts = ap (λ z. unit_start z d) h;
  word = ap is_module i;
  reads = λ depth us t ts b.
      let p : due_move (Due.ModuleName d) n ≡ DueMove.Goes (Due.ModuleDashes d n) = rw j in
      let q : due_move (Due.ModuleDashes d n) e ≡ DueMove.Goes (Due.ModuleRead d n) = rw k in
      let r : due_move (Due.ModuleRead d n) x ≡ DueMove.Goes (Due.ExtendsName d n) = rw l in
      ap (λ z. run (due_moved z [] depth us n) (e ∷ x ∷ (a ++ t ∷ ts))) p
      ∙ (ap (λ z. run (due_moved z [] depth us e) (x ∷ (a ++ t ∷ ts))) q
      ∙ (ap (λ z. run (due_moved z [] depth us x) (a ++ t ∷ ts)) r
      ∙ reads-extended m d n depth us [] t ts (facts t.kind b).comma));
}

reads-nested : {d n : Lexeme} {names a : List Lexeme} → BeginsModule d n names a → (depth : ℕ) (us : List UnitTree) (t : Lexeme) (ts : List Lexeme) → begins_unit t.kind ≡ true → run (standing depth us Due.Unit []) (a ++ t ∷ ts) ≡ run (unit_due None (suc depth) (us ++ ModuleBegin d n names ∷ []) t) ts
reads-nested {d = d} {n = n} {names = names} k depth us t ts b =
    let r : HeaderRead d n names _ = read-header k in
    let m : due_move (Due.Dashes d) r.w ≡ DueMove.Goes (Due.ModuleName d) = (let z : is_module r.w.kind ≡ true = r.word in rw z) in
    ap (λ z. run (standing depth us Due.Unit []) (z ++ t ∷ ts)) r.is
    ∙ (ap (λ z. run (started z None depth us d) (r.w ∷ (r.rest ++ t ∷ ts))) r.starts
    ∙ (ap (λ z. run (due_moved z [] depth us r.w) (r.rest ++ t ∷ ts)) m ∙ r.reads depth us t ts b))

reads-outermost : {d n : Lexeme} {names a : List Lexeme} → BeginsModule d n names a → (t : Lexeme) (ts : List Lexeme) → begins_unit t.kind ≡ true → run (Some opening) (a ++ t ∷ ts) ≡ run (unit_due None (suc ℕ.zero) (ModuleBegin d n names ∷ []) t) ts
reads-outermost {d = d} {n = n} {names = names} k t ts b =
    let r : HeaderRead d n names _ = read-header k in
    let l : due_move Due.Opening d ≡ DueMove.Goes (Due.OpeningWord d) = (let z : is_dashes d.kind ≡ true = r.dashes in rw z) in
    let m : due_move (Due.OpeningWord d) r.w ≡ DueMove.Goes (Due.ModuleName d) = (let z : is_module r.w.kind ≡ true = r.word in rw z) in
    ap (λ z. run (Some opening) (z ++ t ∷ ts)) r.is
    ∙ (ap (λ z. run (due_moved z [] ℕ.zero [] d) (r.w ∷ (r.rest ++ t ∷ ts))) l
    ∙ (ap (λ z. run (due_moved z [] ℕ.zero [] r.w) (r.rest ++ t ∷ ts)) m ∙ r.reads ℕ.zero [] t ts b))

-- ---- units

reads-local : {before : Option Lexeme} {a : List Lexeme} → SpellsLocal before a → (d : ℕ) (us : List UnitTree) (s : Lexeme) (ts : List Lexeme) → may_be_local s.kind ≡ true → run (standing d us Due.Unit []) (a ++ s ∷ ts) ≡ run (started (unit_start s.kind s) before d us s) ts
reads-local exported d us s ts h = refl
reads-local (kept {w = w} e) d us s ts h =
    let m : due_move (Due.Local w) s ≡ DueMove.Begins (Some w) = rw h in
    ap (λ z. run (started (unit_start z w) None d us w) (s ∷ ts)) e ∙ ap (λ z. run (due_moved z [] d us s) ts) m

reads-declared : {xs : Trees} {a : List Lexeme} → DerivesParameters xs a → (d : ℕ) (us : List UnitTree) (t : Lexeme) (ts : List Lexeme) → begins_unit t.kind ≡ true → run (at (around (OfConstants Nil) [] d us) Wait.Declaration Nil []) (a ++ t ∷ ts) ≡ run (unit_due None d (us ++ Constants xs ∷ []) t) ts
reads-declared {xs = xs} {a = a} n d us t ts b =
    let c : is_comma t.kind ≡ false = (facts t.kind b).comma in
    let m : after_declared xs d us t ≡ unit_due None d (us ++ Constants xs ∷ []) t = rw c in
    read-constants n d us Nil t ts (facts t.kind b).paren ∙ ap (λ z. run z ts) m

reads-plain : {u : UnitTree} {a : List Lexeme} {t : Lexeme} → Plain u a t → begins_unit t.kind ≡ true → (d : ℕ) (us : List UnitTree) (ts : List Lexeme) → run (standing d us Due.Unit []) (a ++ t ∷ ts) ≡ run (unit_due None d (us ++ u ∷ []) t) ts
reads-plain (plain_variables {w = w} {next = t} {a = a} (inl e) n) b d us ts =
    ap (λ z. run (started (unit_start z w) None d us w) (a ++ t ∷ ts)) e ∙ reads-variables n d us [] t ts (facts t.kind b).comma
reads-plain (plain_variables {w = w} {next = t} {a = a} (inr e) n) b d us ts =
    ap (λ z. run (started (unit_start z w) None d us w) (a ++ t ∷ ts)) e ∙ reads-variables n d us [] t ts (facts t.kind b).comma
reads-plain (plain_constants {w = w} {next = t} {xs = xs} {a = a} (inl e) n) b d us ts =
    ap (λ z. run (started (unit_start z w) None d us w) (a ++ t ∷ ts)) e ∙ reads-declared n d us t ts b
reads-plain (plain_constants {w = w} {next = t} {xs = xs} {a = a} (inr e) n) b d us ts =
    ap (λ z. run (started (unit_start z w) None d us w) (a ++ t ∷ ts)) e ∙ reads-declared n d us t ts b
reads-plain (plain_definition {before = before} {x = x} {a = a} {b = c} {next = t} l h) b d us ts =
    let r : DefinitionRead x c t = read-definition h (follows-of t b) in
    ap (λ z. run (standing d us Due.Unit []) z) (append_assoc a c (t ∷ ts))
    ∙ (ap (λ z. run (standing d us Due.Unit []) (a ++ (z ++ t ∷ ts))) r.is
    ∙ (reads-local l d us r.s (r.rest ++ t ∷ ts) r.local
    ∙ (ap (λ z. run (started z before d us r.s) (r.rest ++ t ∷ ts)) r.starts ∙ r.reads (OfDefinition before) d us ts)))
reads-plain (plain_instance {before = before} {x = x} {a = a} {b = c} {next = t} l h) b d us ts =
    let r : InstanceRead x c t = read-instance h (follows-of t b) in
    let s : unit_start r.w.kind r.w ≡ UnitStart.Instance = ap (λ z. unit_start z r.w) r.word in
    ap (λ z. run (standing d us Due.Unit []) z) (append_assoc a c (t ∷ ts))
    ∙ (ap (λ z. run (standing d us Due.Unit []) (a ++ (z ++ t ∷ ts))) r.is
    ∙ (reads-local l d us r.w (r.rest ++ t ∷ ts) (ap may_be_local r.word)
    ∙ (ap (λ z. run (started z before d us r.w) (r.rest ++ t ∷ ts)) s ∙ r.reads (around (OfInstance before) [] d us) ts)))
reads-plain (plain_assumption {w = w} {next = t} {x = x} {a = a} (inl e) h) b d us ts =
    ap (λ z. run (started (unit_start z w) None d us w) (a ++ t ∷ ts)) e ∙ reads-on a (OfAssumption w) [] start [] d us t ts x refl (facts t.kind b).stops h
reads-plain (plain_assumption {w = w} {next = t} {x = x} {a = a} (inr (inl e)) h) b d us ts =
    ap (λ z. run (started (unit_start z w) None d us w) (a ++ t ∷ ts)) e ∙ reads-on a (OfAssumption w) [] start [] d us t ts x refl (facts t.kind b).stops h
reads-plain (plain_assumption {w = w} {next = t} {x = x} {a = a} (inr (inr e)) h) b d us ts =
    ap (λ z. run (started (unit_start z w) None d us w) (a ++ t ∷ ts)) e ∙ reads-on a (OfAssumption w) [] start [] d us t ts x refl (facts t.kind b).stops h
reads-plain (plain_theorem {w = w} {next = t} {x = x} {a = a} e h) b d us ts =
    ap (λ z. run (started (unit_start z w) None d us w) (a ++ t ∷ ts)) e ∙ reads-on a (OfTheorem w) [] start [] d us t ts x refl (facts t.kind b).stops h
reads-plain (plain_line {d = w} {next = t} e n) b d us ts =
    let c : is_module t.kind ≡ false = (facts t.kind b).module_word in
    let m : due_move (Due.Dashes w) t ≡ DueMove.Lined w = rw c in
    ap (λ z. run (started (unit_start z w) None d us w) (t ∷ ts)) e ∙ ap (λ z. run (due_moved z [] d us t) ts) m

-- ---- modules

reads-rest : {depth : ℕ} {units : List UnitTree} {l : List Lexeme} → Rest depth units l → (us : List UnitTree) → run (standing depth us Due.Unit []) l ≡ standing ℕ.zero (us ++ units) Due.Closed []
reads-rest (closes {c = c} e) us = ap (λ z. started (unit_start z c) None (suc ℕ.zero) us c) e ∙ ap (λ z. standing ℕ.zero z Due.Closed []) (sym (append-nil us))
reads-rest (ends {depth = depth} {e = e} {units = units} {b = b} h r) us =
    ap (λ z. run (started (unit_start z e) None (suc (suc depth)) us e) b) h
    ∙ (reads-rest r (us ++ ModuleEnd e ∷ []) ∙ ap (λ z. standing ℕ.zero z Due.Closed []) (append_assoc us (ModuleEnd e ∷ []) units))
reads-rest (goes {depth = depth} {unit = unit} {units = units} {b = b} t p r) us =
    reads-plain p (rest-begins r) depth us b ∙ (reads-rest r (us ++ unit ∷ []) ∙ ap (λ z. standing ℕ.zero z Due.Closed []) (append_assoc us (unit ∷ []) units))
reads-rest (opens {depth = depth} {dashes = dashes} {n = n} {names = names} {units = units} {b = b} t k r) us =
    reads-nested k depth us t b (rest-begins r) ∙ (reads-rest r (us ++ ModuleBegin dashes n names ∷ []) ∙ ap (λ z. standing ℕ.zero z Due.Closed []) (append_assoc us (ModuleBegin dashes n names ∷ []) units))

whole-parses : {found : ModuleUnits} {ts : List Lexeme} → Whole found ts → parse ts ≡ Some found
whole-parses (whole {dashes = dashes} {n = n} {names = names} {b = b} t k r) = ap answer (reads-outermost k t b (rest-begins r) ∙ reads-rest r (ModuleBegin dashes n names ∷ []))

pub derives-parses : (found : ModuleUnits) (lexemes : List Lexeme) → DerivesModule found lexemes → parse lexemes ≡ Some found
derives-parses found lexemes d = whole-parses (derives-whole d)

-- no two modules derive one list
pub one-module : (found other : ModuleUnits) (lexemes : List Lexeme) → DerivesModule found lexemes → DerivesModule other lexemes → found ≡ other
one-module found other lexemes d e =
    let a : parse lexemes ≡ Some found = derives-parses found lexemes d in
    let b : parse lexemes ≡ Some other = derives-parses other lexemes e in
    cc

pub run-nothing : (lexemes : List Lexeme) → run None lexemes ≡ None
run-nothing [] = refl
run-nothing (t ∷ lexemes) = refl

pub run-append : (lexemes rest : List Lexeme) (o : Option State) → run o (lexemes ++ rest) ≡ run (run o lexemes) rest
run-append [] rest o = refl
run-append (t ∷ lexemes) rest None = sym (run-nothing rest)
run-append (t ∷ lexemes) rest (Some st) = run-append lexemes rest (step st t)

-- no derivable list begins so
pub refused-ends : (lexemes : List Lexeme) → run (Some opening) lexemes ≡ None → Begins lexemes → ⊥
refused-ends lexemes e b =
    let p : parse (lexemes ++ b.0) ≡ Some b.1.0 = derives-parses b.1.0 (lexemes ++ b.0) b.1.1 in
    let q : run (Some opening) (lexemes ++ b.0) ≡ None = run-append lexemes b.0 (Some opening) ∙ (ap (λ o. run o b.0) e ∙ run-nothing b.0) in
    let r : parse (lexemes ++ b.0) ≡ None = ap answer q in
    cc
