-- The walk over a module's units ends in its first unit that is too high.
use Rattle.std.proofs.Common.{◌≡◌, ℕ, suc, ◌+◌, ◌-◌, ◌<◌, ◌≤◌, max, true, List, [], ◌∷◌, ◌++◌, length, get_or, Option, None, refl, sym, ap, ◌∙◌, subst, ⊎_elim, append_assoc, length-append, arith}
use Rattle.std.proofs.lemmas.Bool.{lt-ltb, le-ltb, cases_lt}
use Rattle.std.proofs.lemmas.List.{get_or_at}
use Rattle.tla_symbols.specs.declared.lexeme.Lexeme.{Lexeme}
use Rattle.tla_tree.specs.declared.form.Form.{Form}
use Rattle.tla_tree.specs.Syntax.{Tree, Trees, Node, span}
use Rattle.tla_tree.specs.Lexemes.{place, built}
use Rattle.tla_tree.specs.Headings.{DerivesHead, constant, with_parameters}
use Rattle.tla_tree.specs.Derivation.{DerivesDefinition, operator, prefix_operator, infix_operator, postfix_operator, function_of, module_of, DerivesInstance, without, with_replacements}
use Rattle.unit_grammar.specs.Units.{UnitTree, Variables, Constants, Instance, Assumption, Theorem, Line, ModuleBegin, ModuleEnd, ModuleUnits, defined}
use Rattle.unit_grammar.specs.Derivation.{BeginsModule, alone, extending, SpellsLocal, exported, kept, first, DerivesUnit, variables, constants, definition, instance, assumption, theorem, line, nested, DerivesUnits, no_units, more_units, DerivesModule, outermost}
use Rattle.unit_grammar.specs.Heights.{unit_height, highest_unit, module_height}
use Rattle.unit_grammar.proofs.Singles.{defined-single, is_single, one-less, single-height}
use Rattle.unit_heights.specs.TooHigh.{MOST_HEIGHT, IsFirstHigh}
use Rattle.unit_heights.specs.FirstHigh.{BeginsFurther, depth_after, outer, high_unit, begins_with, begins_at, place_of, lexemes_before, before_high}
use Rattle.unit_heights.proofs.Places.{place_of-there}

-- ---- one step

step-low : (depth : ℕ) (begun u : UnitTree) (us : List UnitTree) → highest_unit depth (u ∷ []) ≤ MOST_HEIGHT → high_unit depth begun (u ∷ us) ≡ high_unit (depth_after depth u) (outer depth begun u) us
step-low depth begun u us low = rw (le-ltb MOST_HEIGHT (highest_unit depth (u ∷ [])) low) refl

step-high : (depth : ℕ) (begun u : UnitTree) (us : List UnitTree) → MOST_HEIGHT < highest_unit depth (u ∷ []) → high_unit depth begun (u ∷ us) ≡ outer depth begun u
step-high depth begun u us high = rw (lt-ltb MOST_HEIGHT (highest_unit depth (u ∷ [])) high) refl

single-depth : (u : UnitTree) → is_single u ≡ true → (depth : ℕ) → depth_after depth u ≡ depth
single-depth (ModuleBegin dashes name extends) e depth = absurd (cc)
single-depth (ModuleEnd closing) e depth = absurd (cc)
single-depth _ e depth = refl

-- ---- whole units

-- a unit that begins with this entry: the walk passes it where it is low, and ends in it where it is high
record WalksUnit (head : UnitTree) (us : List UnitTree) : Type 0 where
  pub beside : (depth : ℕ) (more : List UnitTree) → highest_unit depth (us ++ more) ≡ max (highest_unit depth us) (highest_unit depth more)
  pub low : (depth : ℕ) (begun : UnitTree) (more : List UnitTree) → highest_unit depth us ≤ MOST_HEIGHT → high_unit depth begun (us ++ more) ≡ high_unit depth (outer depth begun head) more
  pub high : (depth : ℕ) (begun : UnitTree) (more : List UnitTree) → MOST_HEIGHT < highest_unit depth us → high_unit depth begun (us ++ more) ≡ outer depth begun head

-- units inside a nested module, which began before
record WalksUnits (us : List UnitTree) : Type 0 where
  pub beside : (depth : ℕ) (more : List UnitTree) → highest_unit depth (us ++ more) ≡ max (highest_unit depth us) (highest_unit depth more)
  pub low : (depth : ℕ) (begun : UnitTree) (more : List UnitTree) → highest_unit (suc depth) us ≤ MOST_HEIGHT → high_unit (suc depth) begun (us ++ more) ≡ high_unit (suc depth) begun more
  pub high : (depth : ℕ) (begun : UnitTree) (more : List UnitTree) → MOST_HEIGHT < highest_unit (suc depth) us → high_unit (suc depth) begun (us ++ more) ≡ begun

walks-single : (u : UnitTree) → is_single u ≡ true → WalksUnit u (u ∷ [])
walks-single u e = record {
  beside = λ depth more.
      let a : highest_unit depth (u ∷ more) ≡ max (depth + unit_height u) (highest_unit depth more) = single-height u e depth more in
      let b : highest_unit depth (u ∷ []) ≡ max (depth + unit_height u) 0 = single-height u e depth [] in
      omega arith;
  low = λ depth begun more low. step-low depth begun u more low ∙ ap (λ d. high_unit d (outer depth begun u) more) (single-depth u e depth);
  high = λ depth begun more high. step-high depth begun u more high;
}

walks-nested : (dashes n : Lexeme) (names : List Lexeme) (us : List UnitTree) (e : Lexeme) → WalksUnits us → WalksUnit (ModuleBegin dashes n names) (ModuleBegin dashes n names ∷ (us ++ ModuleEnd e ∷ []))
walks-nested dashes n names us e h = record { beside = beside; low = low; high = high }
  where
    begin : UnitTree
    begin = ModuleBegin dashes n names

    inner : (depth : ℕ) (more : List UnitTree) → highest_unit (suc depth) ((us ++ ModuleEnd e ∷ []) ++ more) ≡ max (highest_unit (suc depth) us) (highest_unit depth more)
    inner depth more =
        ap (highest_unit (suc depth)) (append_assoc us (ModuleEnd e ∷ []) more)
        ∙ (h.beside (suc depth) (ModuleEnd e ∷ more) ∙ ap (λ d. max (highest_unit (suc depth) us) (highest_unit d more)) (one-less depth))

    alone-height : (depth : ℕ) → highest_unit (suc depth) (us ++ ModuleEnd e ∷ []) ≡ max (highest_unit (suc depth) us) 0
    alone-height depth = h.beside (suc depth) (ModuleEnd e ∷ [])

    beside : (depth : ℕ) (more : List UnitTree) → highest_unit depth ((ModuleBegin dashes n names ∷ (us ++ ModuleEnd e ∷ [])) ++ more) ≡ max (highest_unit depth (ModuleBegin dashes n names ∷ (us ++ ModuleEnd e ∷ []))) (highest_unit depth more)
    beside depth more = omega (arith, inner depth more, alone-height depth)

    entered : (depth : ℕ) (begun : UnitTree) (more : List UnitTree) → depth + 1 ≤ MOST_HEIGHT → high_unit depth begun ((ModuleBegin dashes n names ∷ (us ++ ModuleEnd e ∷ [])) ++ more) ≡ high_unit (suc depth) (outer depth begun (ModuleBegin dashes n names)) (us ++ ModuleEnd e ∷ more)
    entered depth begun more le =
        step-low depth begun (ModuleBegin dashes n names) ((us ++ ModuleEnd e ∷ []) ++ more) (omega (arith, le))
        ∙ ap (high_unit (suc depth) (outer depth begun (ModuleBegin dashes n names))) (append_assoc us (ModuleEnd e ∷ []) more)

    left : (depth : ℕ) (begun : UnitTree) (more : List UnitTree) → high_unit (suc depth) begun (ModuleEnd e ∷ more) ≡ high_unit depth begun more
    left depth begun more = step-low (suc depth) begun (ModuleEnd e) more (omega arith) ∙ ap (λ d. high_unit d begun more) (one-less depth)

    low : (depth : ℕ) (begun : UnitTree) (more : List UnitTree) → highest_unit depth (ModuleBegin dashes n names ∷ (us ++ ModuleEnd e ∷ [])) ≤ MOST_HEIGHT → high_unit depth begun ((ModuleBegin dashes n names ∷ (us ++ ModuleEnd e ∷ [])) ++ more) ≡ high_unit depth (outer depth begun (ModuleBegin dashes n names)) more
    low depth begun more le =
        let here : UnitTree = outer depth begun (ModuleBegin dashes n names) in
        entered depth begun more (omega (arith, le))
        ∙ (h.low depth here (ModuleEnd e ∷ more) (omega (arith, le, alone-height depth)) ∙ left depth here more)

    high : (depth : ℕ) (begun : UnitTree) (more : List UnitTree) → MOST_HEIGHT < highest_unit depth (ModuleBegin dashes n names ∷ (us ++ ModuleEnd e ∷ [])) → high_unit depth begun ((ModuleBegin dashes n names ∷ (us ++ ModuleEnd e ∷ [])) ++ more) ≡ outer depth begun (ModuleBegin dashes n names)
    high depth begun more lt =
        ⊎_elim
        (λ (deep : MOST_HEIGHT < depth + 1). step-high depth begun (ModuleBegin dashes n names) ((us ++ ModuleEnd e ∷ []) ++ more) (omega (arith, deep)))
        (λ (le : depth + 1 ≤ MOST_HEIGHT). entered depth begun more le ∙ h.high depth (outer depth begun (ModuleBegin dashes n names)) (ModuleEnd e ∷ more) (omega (arith, le, lt, alone-height depth)))
        (cases_lt MOST_HEIGHT (depth + 1))

walks-both : (head : UnitTree) (us vs : List UnitTree) → WalksUnit head us → WalksUnits vs → WalksUnits (us ++ vs)
walks-both head us vs h k = record {
  beside = λ depth more.
      let a : highest_unit depth (us ++ (vs ++ more)) ≡ max (highest_unit depth us) (highest_unit depth (vs ++ more)) = h.beside depth (vs ++ more) in
      let b : highest_unit depth (vs ++ more) ≡ max (highest_unit depth vs) (highest_unit depth more) = k.beside depth more in
      let c : highest_unit depth (us ++ vs) ≡ max (highest_unit depth us) (highest_unit depth vs) = h.beside depth vs in
      let d : highest_unit depth ((us ++ vs) ++ more) ≡ highest_unit depth (us ++ (vs ++ more)) = ap (highest_unit depth) (append_assoc us vs more) in
      omega arith;
  low = λ depth begun more le.
      let c : highest_unit (suc depth) (us ++ vs) ≡ max (highest_unit (suc depth) us) (highest_unit (suc depth) vs) = h.beside (suc depth) vs in
      ap (high_unit (suc depth) begun) (append_assoc us vs more)
      ∙ (h.low (suc depth) begun (vs ++ more) (omega (arith, le, c)) ∙ k.low depth begun more (omega (arith, le, c)));
  high = λ depth begun more lt.
      let c : highest_unit (suc depth) (us ++ vs) ≡ max (highest_unit (suc depth) us) (highest_unit (suc depth) vs) = h.beside (suc depth) vs in
      ap (high_unit (suc depth) begun) (append_assoc us vs more)
      ∙ ⊎_elim
      (λ (here : MOST_HEIGHT < highest_unit (suc depth) us). h.high (suc depth) begun (vs ++ more) here)
      (λ (le : highest_unit (suc depth) us ≤ MOST_HEIGHT). h.low (suc depth) begun (vs ++ more) le ∙ k.high depth begun more (omega (arith, le, lt, c)))
      (cases_lt MOST_HEIGHT (highest_unit (suc depth) us));
}

-- ---- where a unit begins

-- its first lexeme, by which it is found
record Begins (head : UnitTree) (a : List Lexeme) : Type 0 where
  pub found : Lexeme
  pub more : List Lexeme
  pub spells : a ≡ found ∷ more
  pub at : found.span.start ≡ begins_at head

starts : (form : Form) (parts : Trees) (a : List Lexeme) (t : Lexeme) (rest : List Lexeme) → a ≡ t ∷ rest → (span (built form parts a)).start ≡ t.span.start
starts form parts a t rest e = ap (λ (l : List Lexeme). (place l).start) e

-- a tree begins where its first lexeme does
record Starts (x : Tree) (a : List Lexeme) : Type 0 where
  pub t : Lexeme
  pub rest : List Lexeme
  pub spells : a ≡ t ∷ rest
  pub at : (span x).start ≡ t.span.start

head-first : {n : Lexeme} {xs : Trees} {a : List Lexeme} → DerivesHead n xs a → (rest : List Lexeme) × (a ≡ n ∷ rest)
head-first (constant d) = ([], refl)
head-first (with_parameters u d k l ps) = (_, refl)

after-head : {n : Lexeme} {xs : Trees} {a : List Lexeme} → DerivesHead n xs a → (form : Form) (parts : Trees) (b : List Lexeme) → Starts (built form parts (a ++ b)) (a ++ b)
after-head {n = n} {a = a} d form parts b =
    let f : (rest : List Lexeme) × (a ≡ n ∷ rest) = head-first d in
    let e : a ++ b ≡ n ∷ (f.0 ++ b) = ap (λ l. l ++ b) f.1 in
    record { t = n; rest = f.0 ++ b; spells = e; at = starts form parts (a ++ b) n (f.0 ++ b) e }

definition-starts : {x : Tree} {a : List Lexeme} {i : ℕ} {o : Option Lexeme} → DerivesDefinition x a i o → Starts x a
definition-starts (operator {n = n} {xs = xs} {x = x} {a = a} {b = b} d h k e) = after-head h _ _ (d ∷ b)
definition-starts (prefix_operator k l m e) = record { t = _; rest = _; spells = refl; at = refl }
definition-starts (infix_operator k l m p q e) = record { t = _; rest = _; spells = refl; at = refl }
definition-starts (postfix_operator k l m p e) = record { t = _; rest = _; spells = refl; at = refl }
definition-starts (function_of u d k l m p bs e) = record { t = _; rest = _; spells = refl; at = refl }
definition-starts (module_of {b = b} d h k e) = after-head h _ _ (d ∷ b)

instance-starts : {x : Tree} {a : List Lexeme} {i : ℕ} {o : Option Lexeme} → DerivesInstance x a i o → Starts x a
instance-starts (without k l) = record { t = _; rest = _; spells = refl; at = refl }
instance-starts (with_replacements k l m rs) = record { t = _; rest = _; spells = refl; at = refl }

defined-at : (local : Option Lexeme) (x : Tree) → begins_at (defined local x) ≡ begins_with local x
defined-at local (Node (Form.FunctionDefinition n) s parts) = refl
defined-at local (Node (Form.ModuleDefinition n) s parts) = refl
defined-at local (Node _ s parts) = refl

local-begins : {local : Option Lexeme} {a : List Lexeme} → SpellsLocal local a → (x : Tree) (b : List Lexeme) (head : UnitTree) → Starts x b → begins_at head ≡ begins_with local x → Begins head (a ++ b)
local-begins exported x b head s at = record { found = s.t; more = s.rest; spells = s.spells; at = sym s.at ∙ sym at }
local-begins (kept {w = w} k) x b head s at = record { found = w; more = b; spells = refl; at = sym at }

word-begins : (w : Lexeme) (a : List Lexeme) (head : UnitTree) → begins_at head ≡ w.span.start → Begins head (w ∷ a)
word-begins w a head at = record { found = w; more = a; spells = refl; at = sym at }

module-begins : {dashes n : Lexeme} {names a : List Lexeme} → BeginsModule dashes n names a → (b : List Lexeme) → Begins (ModuleBegin dashes n names) (a ++ b)
module-begins (alone {d = d} {w = w} {n = n} {e = e} i j k l) b = record { found = d; more = w ∷ n ∷ e ∷ b; spells = refl; at = refl }
module-begins (extending {d = d} {w = w} {n = n} {e = e} {x = x} {a = a} i j k l m s) b = record { found = d; more = w ∷ n ∷ e ∷ x ∷ (a ++ b); spells = refl; at = refl }

-- ---- what derived units are

-- a unit of a module: it is not empty, it is walked as a whole, and where it is high it is found by where it begins
record Stands (us : List UnitTree) (a : List Lexeme) : Type 0 where
  pub head : UnitTree
  pub tail : List UnitTree
  pub is : us ≡ head ∷ tail
  pub walks : WalksUnit head us
  pub first : Lexeme
  pub more : List Lexeme
  pub spells : a ≡ first ∷ more
  pub begins : MOST_HEIGHT < highest_unit 0 us → Begins head a

stands-by : (head : UnitTree) (tail : List UnitTree) (a : List Lexeme) → WalksUnit head (head ∷ tail) → Begins head a → Stands (head ∷ tail) a
stands-by head tail a walks begins =
    record { head = head; tail = tail; is = refl; walks = walks; first = begins.found; more = begins.more; spells = begins.spells; begins = λ high. begins }

-- a unit without expressions is never too high
stands-low : (u : UnitTree) (t : Lexeme) (a : List Lexeme) → is_single u ≡ true → unit_height u ≡ 1 → Stands (u ∷ []) (t ∷ a)
stands-low u t a single one =
    record { head = u; tail = []; is = refl; walks = walks-single u single; first = t; more = a; spells = refl; begins = λ high. absurd (omega (arith, high, one, single-height u single 0 [])) }

mutual
  unit-stands : {us : List UnitTree} {a : List Lexeme} {next : Lexeme} → DerivesUnit us a next → Stands us a
  unit-stands (variables {w = w} {names = names} {a = a} k d) = stands-low (Variables names) w a refl refl
  unit-stands (constants {w = w} {xs = xs} {a = a} k d) = stands-low (Constants xs) w a refl refl
  unit-stands (definition {before = local} {x = x} {a = a} {b = b} k d) =
      let head : UnitTree = defined local x in
      stands-by head [] (a ++ b) (walks-single head (defined-single local x)) (local-begins k x b head (definition-starts d) (defined-at local x))
  unit-stands (instance {before = local} {x = x} {a = a} {b = b} k d) =
      stands-by (Instance local x) [] (a ++ b) (walks-single (Instance local x) refl) (local-begins k x b (Instance local x) (instance-starts d) refl)
  unit-stands (assumption {w = w} {x = x} {a = a} k d) = stands-by (Assumption w None x) [] (w ∷ a) (walks-single (Assumption w None x) refl) (word-begins w a (Assumption w None x) refl)
  unit-stands (theorem {w = w} {x = x} {a = a} k d) = stands-by (Theorem w None x) [] (w ∷ a) (walks-single (Theorem w None x) refl) (word-begins w a (Theorem w None x) refl)
  unit-stands (line {d = d} k h) = stands-low (Line d) d [] refl refl
  unit-stands (nested {d = dashes} {n = n} {names = names} {a = a} {b = b} {units = units} e k ds h) =
      stands-by (ModuleBegin dashes n names) (units ++ ModuleEnd e ∷ []) (a ++ (b ++ e ∷ [])) (walks-nested dashes n names units e (units-walk ds)) (module-begins k (b ++ e ∷ []))

  units-walk : {us : List UnitTree} {a : List Lexeme} {next : Lexeme} → DerivesUnits us a next → WalksUnits us
  units-walk no_units = record { beside = λ depth more. omega arith; low = λ depth begun more le. refl; high = λ depth begun more lt. absurd (omega (arith, lt)) }
  units-walk (more_units {unit = unit} {units = units} d ds) =
      let s = unit-stands d in
      walks-both s.head unit units s.walks (units-walk ds)

-- ---- units of the outermost module

-- the walk passes units that are all low
passes-low : {us : List UnitTree} {a : List Lexeme} {next : Lexeme} → DerivesUnits us a next → (begun : UnitTree) (more : List UnitTree) → highest_unit 0 us ≤ MOST_HEIGHT → (last : UnitTree) × (high_unit 0 begun (us ++ more) ≡ high_unit 0 last more)
passes-low no_units begun more le = (begun, refl)
passes-low (more_units {unit = unit} {units = units} d ds) begun more le =
    let s = unit-stands d in
    let height : highest_unit 0 (unit ++ units) ≡ max (highest_unit 0 unit) (highest_unit 0 units) = s.walks.beside 0 units in
    let rest = passes-low ds s.head more (omega (arith, le, height)) in
    (rest.0, ap (high_unit 0 begun) (append_assoc unit units more) ∙ (s.walks.low 0 begun (units ++ more) (omega (arith, le, height)) ∙ rest.1))

-- units and lexemes, split at the first unit that is too high
record Split (units : List UnitTree) (b : List Lexeme) (next : Lexeme) : Type 0 where
  pub before : List Lexeme
  pub t : Lexeme
  pub more : List Lexeme
  pub after : List Lexeme
  pub lower : List UnitTree
  pub unit : List UnitTree
  pub rest : List UnitTree
  pub spells : b ≡ before ++ ((t ∷ more) ++ after)
  pub are : units ≡ lower ++ (unit ++ rest)
  pub derives_lower : DerivesUnits lower before t
  pub derives_unit : DerivesUnit unit (t ∷ more) (first after next)
  pub derives_rest : DerivesUnits rest after next
  pub low : highest_unit 0 lower ≤ MOST_HEIGHT
  pub high : MOST_HEIGHT < highest_unit 0 unit

first-before : (before : List Lexeme) (t : Lexeme) (after : List Lexeme) (next : Lexeme) → first (before ++ t ∷ after) next ≡ first before t
first-before [] t after next = refl
first-before (l ∷ before) t after next = refl

split-here : (unit units : List UnitTree) (a b : List Lexeme) (next : Lexeme) → DerivesUnit unit a (first b next) → DerivesUnits units b next → MOST_HEIGHT < highest_unit 0 unit → Split (unit ++ units) (a ++ b) next
split-here unit units a b next d ds lt =
    let s = unit-stands d in
    record {
      before = [];
      t = s.first;
      more = s.more;
      after = b;
      lower = [];
      unit = unit;
      rest = units;
      spells = ap (λ l. l ++ b) s.spells;
      are = refl;
      derives_lower = no_units;
      derives_unit = subst (λ l. DerivesUnit unit l (first b next)) s.spells d;
      derives_rest = ds;
      low = omega arith;
      high = lt;
    }

split-later : (unit units : List UnitTree) (a b : List Lexeme) (next : Lexeme) → DerivesUnit unit a (first b next) → highest_unit 0 unit ≤ MOST_HEIGHT → Split units b next → Split (unit ++ units) (a ++ b) next
split-later unit units a b next d le h =
    let s = unit-stands d in
    let height : highest_unit 0 (unit ++ h.lower) ≡ max (highest_unit 0 unit) (highest_unit 0 h.lower) = s.walks.beside 0 h.lower in
    let follows : first b next ≡ first h.before h.t = ap (λ l. first l next) h.spells ∙ first-before h.before h.t (h.more ++ h.after) next in
    record {
      before = a ++ h.before;
      t = h.t;
      more = h.more;
      after = h.after;
      lower = unit ++ h.lower;
      unit = h.unit;
      rest = h.rest;
      spells = ap (λ l. a ++ l) h.spells ∙ sym (append_assoc a h.before ((h.t ∷ h.more) ++ h.after));
      are = ap (λ l. unit ++ l) h.are ∙ sym (append_assoc unit h.lower (h.unit ++ h.rest));
      derives_lower = more_units (subst (λ n. DerivesUnit unit a n) follows d) h.derives_lower;
      derives_unit = h.derives_unit;
      derives_rest = h.derives_rest;
      low = omega (arith, height, le, h.low);
      high = h.high;
    }

split : {units : List UnitTree} {b : List Lexeme} {next : Lexeme} → DerivesUnits units b next → MOST_HEIGHT < highest_unit 0 units → Split units b next
split no_units lt = absurd (omega (arith, lt))
split (more_units {unit = unit} {units = units} {a = a} {b = b} {next = next} d ds) lt =
    let s = unit-stands d in
    let height : highest_unit 0 (unit ++ units) ≡ max (highest_unit 0 unit) (highest_unit 0 units) = s.walks.beside 0 units in
    ⊎_elim
    (λ (here : MOST_HEIGHT < highest_unit 0 unit). split-here unit units a b next d ds here)
    (λ (le : highest_unit 0 unit ≤ MOST_HEIGHT). split-later unit units a b next d le (split ds (omega (arith, lt, le, height))))
    (cases_lt MOST_HEIGHT (highest_unit 0 unit))

-- a module that is too high has a first unit that is
pub some-high : {found : ModuleUnits} {lexemes : List Lexeme} → DerivesModule found lexemes → MOST_HEIGHT < module_height found → (t : Lexeme) × IsFirstHigh found lexemes t
some-high (outermost {d = dashes} {n = n} {names = names} {a = a} {b = b} {units = units} c begins ds k) lt =
    let s = split ds lt in
    let spelled : a ++ (b ++ c ∷ []) ≡ a ++ (s.before ++ ((s.t ∷ s.more) ++ (s.after ++ c ∷ []))) = ap (λ l. a ++ l) (ap (λ l. l ++ c ∷ []) s.spells ∙ (append_assoc s.before ((s.t ∷ s.more) ++ s.after) (c ∷ []) ∙ ap (λ l. s.before ++ l) (append_assoc (s.t ∷ s.more) s.after (c ∷ [])))) in (
      s.t,
      record {
        dashes = dashes;
        header = a;
        before = s.before;
        more = s.more;
        after = s.after;
        closing = c;
        lower = s.lower;
        unit = s.unit;
        rest = s.rest;
        spells = spelled;
        are = s.are;
        begins = begins;
        derives_lower = s.derives_lower;
        derives_unit = s.derives_unit;
        derives_rest = s.derives_rest;
        low = s.low;
        high = s.high;
      },
    )

-- and is too high where it has one
pub high-module : {found : ModuleUnits} {lexemes : List Lexeme} {t : Lexeme} → IsFirstHigh found lexemes t → MOST_HEIGHT < module_height found
high-module {found = found} h =
    let u = unit-stands h.derives_unit in
    let l = units-beside h.derives_lower in
    let a : highest_unit 0 found.units ≡ highest_unit 0 (h.lower ++ (h.unit ++ h.rest)) = ap (highest_unit 0) h.are in
    omega (arith, a, l.beside 0 (h.unit ++ h.rest), u.walks.beside 0 h.rest, h.high)
  where
    units-beside : {us : List UnitTree} {a : List Lexeme} {next : Lexeme} → DerivesUnits us a next → WalksUnits us
    units-beside d = units-walk d

-- ---- where it is found

-- the walk finds the unit
walk-high : (found : ModuleUnits) (lexemes : List Lexeme) (t : Lexeme) (h : IsFirstHigh found lexemes t) (begun : UnitTree) → high_unit 0 begun found.units ≡ (unit-stands h.derives_unit).head
walk-high found lexemes t h begun =
    let u = unit-stands h.derives_unit in
    let p = passes-low h.derives_lower begun (h.unit ++ h.rest) h.low in
    ap (high_unit 0 begun) h.are ∙ (p.1 ∙ u.walks.high 0 p.0 h.rest h.high)

before-walk : (lexemes : List Lexeme) (units : List UnitTree) (head : UnitTree) → ((begun : UnitTree) → high_unit 0 begun units ≡ head) → MOST_HEIGHT < highest_unit 0 units → before_high lexemes units ≡ lexemes_before lexemes head
before-walk lexemes [] head walk lt = absurd (omega (arith, lt))
before-walk lexemes (u ∷ us) head walk lt = ap (lexemes_before lexemes) (walk u)

found-before : (pre : List Lexeme) (head : UnitTree) (a post : List Lexeme) (h : Begins head a) → BeginsFurther 0 (pre ++ (a ++ post)) → lexemes_before (pre ++ (a ++ post)) head ≡ length pre
found-before pre head a post h further =
    let whole : pre ++ (a ++ post) ≡ pre ++ h.found ∷ (h.more ++ post) = ap (λ l. pre ++ (l ++ post)) h.spells in
    let there : place_of (pre ++ h.found ∷ (h.more ++ post)) h.found.span.start ≡ length pre = place_of-there 0 pre h.found (h.more ++ post) (subst (BeginsFurther 0) whole further) in
    ap (λ l. place_of l (begins_at head)) whole ∙ (ap (place_of (pre ++ h.found ∷ (h.more ++ post))) (sym h.at) ∙ there)

-- the first lexeme of the first unit that is too high is the one that is found
record IsFound (lexemes : List Lexeme) (units : List UnitTree) (t : Lexeme) : Type 0 where
  pub within : before_high lexemes units < length lexemes
  pub is : (d : Lexeme) → get_or lexemes (before_high lexemes units) d ≡ t

found-high : (found : ModuleUnits) (lexemes : List Lexeme) (t : Lexeme) → BeginsFurther 0 lexemes → IsFirstHigh found lexemes t → IsFound lexemes found.units t
found-high found lexemes t further h =
    let u = unit-stands h.derives_unit in
    let pre : List Lexeme = h.header ++ h.before in
    let post : List Lexeme = h.after ++ h.closing ∷ [] in
    let whole : lexemes ≡ pre ++ ((t ∷ h.more) ++ post) = h.spells ∙ sym (append_assoc h.header h.before ((t ∷ h.more) ++ post)) in
    let begins : Begins u.head (t ∷ h.more) = u.begins h.high in
    let counted : lexemes_before (pre ++ ((t ∷ h.more) ++ post)) u.head ≡ length pre = found-before pre u.head (t ∷ h.more) post begins (subst (BeginsFurther 0) whole further) in
    let walked : before_high lexemes found.units ≡ lexemes_before lexemes u.head = before-walk lexemes found.units u.head (λ begun. walk-high found lexemes t h begun) (high-module h) in
    let at : before_high lexemes found.units ≡ length pre = walked ∙ (ap (λ l. lexemes_before l u.head) whole ∙ counted) in
    let size : length lexemes ≡ length pre + length ((t ∷ h.more) ++ post) = ap length whole ∙ length-append pre ((t ∷ h.more) ++ post) in
    record {
      within = omega (arith, at, size);
      is = λ d. ap (λ l. get_or l (before_high lexemes found.units) d) whole ∙ get_or_at pre t (h.more ++ post) d (before_high lexemes found.units) (sym at);
    }

pub before-within : (found : ModuleUnits) (lexemes : List Lexeme) → BeginsFurther 0 lexemes → DerivesModule found lexemes → MOST_HEIGHT < module_height found → before_high lexemes found.units < length lexemes
before-within found lexemes further derives lt =
    let some : (t : Lexeme) × IsFirstHigh found lexemes t = some-high derives lt in
    (found-high found lexemes some.0 further some.1).within

pub before-high : (found : ModuleUnits) (lexemes : List Lexeme) (d : Lexeme) → BeginsFurther 0 lexemes → DerivesModule found lexemes → MOST_HEIGHT < module_height found → IsFirstHigh found lexemes (get_or lexemes (before_high lexemes found.units) d)
before-high found lexemes d further derives lt =
    let some : (t : Lexeme) × IsFirstHigh found lexemes t = some-high derives lt in
    subst (λ t. IsFirstHigh found lexemes t) (sym ((found-high found lexemes some.0 further some.1).is d)) some.1

-- there is but one
pub one-high : (found : ModuleUnits) (lexemes : List Lexeme) (t u : Lexeme) → BeginsFurther 0 lexemes → IsFirstHigh found lexemes t → IsFirstHigh found lexemes u → t ≡ u
one-high found lexemes t u further h k = sym ((found-high found lexemes t further h).is t) ∙ (found-high found lexemes u further k).is t
