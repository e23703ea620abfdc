-- A node is visited by what is due of it.
use Rattle.std.proofs.Common.{◌≡◌, ℕ, ◌+◌, ◌<◌, ◌≤◌, List, [], ◌∷◌, ◌++◌, Bool, true, false, append_assoc, refl, ap, sym, subst, ◌∙◌, arith}
use Rattle.std.specs.Prelude.{filter}
use Rattle.std.specs.List.{AllByRecursion}
use Rattle.std.proofs.lemmas.List.{append-nil}
use Rattle.tla_symbols.specs.declared.lexeme.Lexeme.{Lexeme}
use Rattle.tla_tree.specs.declared.form.Form.TheVariants as Form
use Rattle.tla_tree.specs.Arena.{Node as ArenaNode, AreThere, node_at, tree_at}
use Rattle.tla_tree.specs.Syntax.{Trees, Node}
use Rattle.tla_model.specs.Contexts.{Context, bind_all}
use Rattle.tla_model.specs.Entities.{Text}
use Rattle.tla_model.specs.Lexemes.{LiesIn, all_lexemes, form_lexemes, lexemes}
use Rattle.tla_model.specs.Scopes.{Finding, all_refused, has_set, itself, prefixed, reserved, symbol_findings}
use Rattle.list_laws.proofs.Lists.{all-both, all-left, all-right}
use Rattle.module_model.specs.Exports.{Behind}
use Rattle.module_model.specs.TreeFindings.{Surroundings, segments, walk, walk_each, walk_rest, walk_round, walk_sets}
use Rattle.tree_tasks.specs.declared.held.Held.{Held}
use Rattle.tree_tasks.specs.declared.tasks.Task.TheVariants as task
use Rattle.tree_tasks.specs.declared.tasks.Naming.TheVariants as how
use Rattle.name_context.specs.declared.context.Mark.{Mark}
use Rattle.name_context.specs.AsTables.{mark_of}
use Rattle.declared_names.specs.Nodes.{IsWhole, binders_at, defined_at, form_at, parts_at}
use Rattle.tree_scope.specs.TasksDone.{AreFound, AreReady, IsDone, IsNode, IsReady, all_size, emit, run, size, size_of, sizes, trees_at}
use Rattle.tree_tasks.specs.WalkTasks.{Task, between_tasks, chain, function_tasks, image_tasks, in_scope, is_chosen, naming, scope_tasks, visits, with_sets}
use Rattle.tree_scope.proofs.TaskFindings.{each-run, emit-append, first-run, function-run, order-run, scope-run, sets-run}
use Rattle.tree_scope.proofs.Scoping.{grows-refl, grows-reserve_all}
use Rattle.tree_scope.proofs.NamesInText.{parts-lie}
use Rattle.tree_scope.proofs.Shapes.{walk-bare, walk-before, walk-behind, walk-between, walk-function, walk-last, walk-order, walk-path, walk-plain, function-name, instance-name}

assoc4 : {A : Type 0} (d s b r : List A) → d ++ s ++ b ++ r ≡ d ++ (s ++ b ++ r)
assoc4 d s b r = ap (λ z. z ++ r) (append_assoc d s b) ∙ append_assoc d (s ++ b) r

module _ (text : Text) (nodes : List ArenaNode) where
  abbrev L : Lexeme → Type 0
  L = LiesIn text.source

  -- ---- readiness

  pub visits-ready : (numbers : List ℕ) → AreThere nodes numbers → AllByRecursion L (all_lexemes (trees_at nodes numbers)) → AreReady text nodes (visits numbers)
  visits-ready [] there lie = tt
  visits-ready (x ∷ numbers) there lie = (
    record { there = there.0; lie = all-left L (lexemes (tree_at nodes x)) (all_lexemes (trees_at nodes numbers)) lie },
    visits-ready numbers there.1 (all-right L (lexemes (tree_at nodes x)) (all_lexemes (trees_at nodes numbers)) lie),
  )

  pub chain-ready : (numbers : List ℕ) → AreReady text nodes (visits numbers) → AreReady text nodes (chain numbers)
  chain-ready [] ready = tt
  chain-ready (x ∷ numbers) ready = (ready.0, (ready.0, chain-ready numbers ready.1))

  filter-by : (p : ℕ → Bool) (x : ℕ) (numbers : List ℕ) (b : Bool) → p x ≡ b → IsNode text nodes x → AreReady text nodes (visits (filter p numbers)) → AreReady text nodes (visits (filter p (x ∷ numbers)))
  filter-by p x numbers true e one ready = rw e (one, ready)
  filter-by p x numbers false e one ready = rw e ready

  pub filter-ready : (p : ℕ → Bool) (numbers : List ℕ) → AreReady text nodes (visits numbers) → AreReady text nodes (visits (filter p numbers))
  filter-ready p [] ready = tt
  filter-ready p (x ∷ numbers) ready = filter-by p x numbers (p x) refl ready.0 (filter-ready p numbers ready.1)

  pub ready-append : (a b : List Task) → AreReady text nodes a → AreReady text nodes b → AreReady text nodes (a ++ b)
  ready-append a b first second = all-both (IsReady text nodes) a b first second

  -- ---- size

  pub size-append : (a b : List Task) → all_size text nodes (a ++ b) ≡ all_size text nodes a + all_size text nodes b
  size-append [] b = omega arith
  size-append (x ∷ a) b = omega (arith, size-append a b)

  pub visits-size : (numbers : List ℕ) → all_size text nodes (visits numbers) ≤ sizes text nodes (trees_at nodes numbers)
  visits-size [] = omega arith
  visits-size (x ∷ numbers) = omega (arith, visits-size numbers)

  pub chain-size : (numbers : List ℕ) → all_size text nodes (chain numbers) ≡ sizes text nodes (trees_at nodes numbers)
  chain-size [] = refl
  chain-size (x ∷ numbers) = omega (arith, chain-size numbers)

  split-by : (x : ℕ) (numbers : List ℕ) (b : Bool) → has_set (form_at nodes x) ≡ b →
      all_size text nodes (with_sets nodes true numbers) + all_size text nodes (with_sets nodes false numbers) ≤ sizes text nodes (trees_at nodes numbers) →
      all_size text nodes (with_sets nodes true (x ∷ numbers)) + all_size text nodes (with_sets nodes false (x ∷ numbers)) ≤ sizes text nodes (trees_at nodes (x ∷ numbers))
  split-by x numbers true e h = rw e (omega (arith, h))
  split-by x numbers false e h = rw e (omega (arith, h))

  pub split-size : (numbers : List ℕ) → all_size text nodes (with_sets nodes true numbers) + all_size text nodes (with_sets nodes false numbers) ≤ sizes text nodes (trees_at nodes numbers)
  split-size [] = omega arith
  split-size (x ∷ numbers) = split-by x numbers (has_set (form_at nodes x)) refl (split-size numbers)

-- ---- a node

module _ (text : Text) (around : Surroundings) (held : Held → Behind) (nodes : List ArenaNode) where
  module _ (node : ℕ) (one : IsNode text nodes node) (whole : IsWhole nodes node) (there : AreThere nodes (node_at nodes node).children) where
    abbrev kids : List ℕ
    kids = (node_at nodes node).children

    abbrev form : Form.the_data
    form = form_at nodes node

    abbrev parts : Trees
    parts = parts_at nodes node

    pub kids-ready : AreReady text nodes (visits kids)
    kids-ready = visits-ready text nodes kids there (parts-lie text.source nodes node whole one.lie)

    sets-ready : (sets : Bool) → AreReady text nodes (with_sets nodes sets kids)
    sets-ready sets = filter-ready text nodes (is_chosen nodes sets) kids kids-ready

    scope-ready : (mark : Mark) (more : List Task) → AreReady text nodes more → AreReady text nodes (in_scope nodes node kids mark more)
    scope-ready mark more ready = (one, ready-append text nodes (with_sets nodes false kids) (task.Leave mark ∷ more) (sets-ready false) (tt, ready))

    pub size-is : size text nodes (tree_at nodes node) ≡ 6 + sizes text nodes (trees_at nodes kids)
    size-is = ap (size text nodes) whole

    pub done : (context context' : Context) (findings findings' more rest : List Finding) (old new : List Task) → AreReady text nodes new →
        findings' ≡ findings ++ more → walk text around context (tree_at nodes node) ≡ more ++ rest → run text around held nodes context' new ≡ emit rest (run text around held nodes context old) →
        all_size text nodes new < size text nodes (tree_at nodes node) + all_size text nodes old → IsDone text around held nodes (task.Visit node) context context' findings findings' old new
    done context context' findings findings' more rest old new ready are found onward less = record {
      ready = ready;
      run_on = ap (λ z. emit z (run text around held nodes context' new)) are ∙ ap (emit (findings ++ more)) onward ∙ emit-append findings more (emit rest (run text around held nodes context old))
          ∙ ap (emit findings) (sym (emit-append more rest (run text around held nodes context old)) ∙ ap (λ z. emit z (run text around held nodes context old)) (sym found));
      less = less;
    }

    pub walk-is : (context : Context) → walk text around context (tree_at nodes node) ≡ walk text around context (Node form (node_at nodes node).span parts)
    walk-is context = ap (walk text around context) whole

    pub plain-done : (context context' : Context) (findings findings' : List Finding) (old new : List Task) → naming form ≡ how.BoundsFirst → AreReady text nodes old →
        context' ≡ reserved text context form parts → findings' ≡ findings ++ all_refused text context (defined_at nodes node) → new ≡ scope_tasks nodes node kids (mark_of context) old →
        IsDone text around held nodes (task.Visit node) context context' findings findings' old new
    plain-done context context' findings findings' old new named ready inner are is =
        let within = reserved text context form parts in
        let due = scope_tasks nodes node kids (mark_of context) old in
        done context context' findings findings' (all_refused text context (defined_at nodes node)) _ old new
        (subst (AreReady text nodes) (sym is) (ready-append text nodes (with_sets nodes true kids) (in_scope nodes node kids (mark_of context) old) (sets-ready true) (scope-ready (mark_of context) old ready)))
        are (walk-is context ∙ walk-plain text around context (node_at nodes node).span parts form named ∙ assoc4 (all_refused text context (defined_at nodes node)) _ _ _)
        (ap (λ z. run text around held nodes z new) inner ∙ ap (run text around held nodes within) is ∙ first-run text around held nodes context within node kids old there (grows-reserve_all text context (defined_at nodes node)))
        (rw (is, size-is, size-append text nodes (with_sets nodes true kids) (in_scope nodes node kids (mark_of context) old), size-append text nodes (with_sets nodes false kids) (task.Leave (mark_of context) ∷ old)) (omega (arith, split-size text nodes kids)))

    pub function-done : (name : Lexeme) (context context' : Context) (findings findings' : List Finding) (old new : List Task) → naming form ≡ how.Function name → LiesIn text.source name → AreReady text nodes old →
        context' ≡ reserved text context form parts → findings' ≡ findings ++ all_refused text context (defined_at nodes node) → new ≡ function_tasks nodes node name kids (mark_of context) old →
        IsDone text around held nodes (task.Visit node) context context' findings findings' old new
    function-done name context context' findings findings' old new named lies ready inner are is =
        let mark = mark_of context in
        let onward = in_scope nodes node kids mark old in
        done context context' findings findings' (all_refused text context (defined_at nodes node)) _ old new
        (subst (AreReady text nodes) (sym is) (ready-append text nodes (with_sets nodes true kids) (task.Leave mark ∷ (task.Function name ∷ onward)) (sets-ready true) (tt, (lies, scope-ready mark old ready))))
        are (walk-is context ∙ walk-function text around context (node_at nodes node).span parts form name named ∙ assoc4 (all_refused text context (defined_at nodes node)) _ _ _)
        (ap (λ z. run text around held nodes z new) inner ∙ ap (run text around held nodes (reserved text context form parts)) is
        ∙ function-run text around held nodes context (reserved text context form parts) node name kids old there (grows-reserve_all text context (defined_at nodes node)))
        (rw (is, size-is, size-append text nodes (with_sets nodes true kids) (task.Leave mark ∷ (task.Function name ∷ onward)), size-append text nodes (with_sets nodes false kids) (task.Leave mark ∷ old)) (omega (arith, split-size text nodes kids)))

    pub image-done : (context : Context) (findings : List Finding) (old new : List Task) → naming form ≡ how.BoundsLast → AreReady text nodes old → new ≡ image_tasks nodes node kids (mark_of context) old →
        IsDone text around held nodes (task.Visit node) context context findings findings old new
    image-done context findings old new named ready is =
        let mark = mark_of context in
        let sets = with_sets nodes true kids in
        let names = all_refused text context (binders_at nodes node) in
        let inner = walk_rest text around (bind_all text context (binders_at nodes node)) (trees_at nodes kids) in
        let outer = walk_sets text around context (trees_at nodes kids) in
        done context context findings findings [] (names ++ inner ++ outer) old new
        (subst (AreReady text nodes) (sym is) (scope-ready mark (sets ++ old) (ready-append text nodes sets old (sets-ready true) ready)))
        (sym (append-nil findings)) (walk-is context ∙ walk-last text around context (node_at nodes node).span parts form named)
        (ap (run text around held nodes context) is ∙ scope-run text around held nodes context context node kids (sets ++ old) there (grows-refl context)
        ∙ ap (λ z. emit names (emit inner z)) (sets-run text around held nodes context kids old there)
        ∙ sym (emit-append (names ++ inner) outer (run text around held nodes context old) ∙ emit-append names inner (emit outer (run text around held nodes context old))))
        (rw (is, size-is, size-append text nodes (with_sets nodes false kids) (task.Leave mark ∷ (sets ++ old)), size-append text nodes sets old) (omega (arith, split-size text nodes kids)))

    pub order-done : (context : Context) (findings : List Finding) (old new : List Task) → naming form ≡ how.InOrder → AreReady text nodes old → new ≡ chain kids ++ (task.Leave (mark_of context) ∷ old) →
        IsDone text around held nodes (task.Visit node) context context findings findings old new
    order-done context findings old new named ready is =
        done context context findings findings [] _ old new
        (subst (AreReady text nodes) (sym is) (ready-append text nodes (chain kids) (task.Leave (mark_of context) ∷ old) (chain-ready text nodes kids kids-ready) (tt, ready)))
        (sym (append-nil findings)) (walk-is context ∙ walk-order text around context (node_at nodes node).span parts form named)
        (ap (run text around held nodes context) is ∙ order-run text around held nodes context kids old)
        (rw (is, size-is, size-append text nodes (chain kids) (task.Leave (mark_of context) ∷ old), chain-size text nodes kids) (omega arith))

    pub bare-done : (l : Lexeme) (context : Context) (findings findings' : List Finding) (old : List Task) → naming form ≡ how.Bare l → AreReady text nodes old → findings' ≡ findings ++ symbol_findings context itself l l.kind →
        IsDone text around held nodes (task.Visit node) context context findings findings' old old
    bare-done l context findings findings' old named ready are =
        done context context findings findings' (symbol_findings context itself l l.kind) [] old old ready are
        (walk-is context ∙ walk-bare text around context (node_at nodes node).span parts form l named ∙ sym (append-nil (symbol_findings context itself l l.kind))) refl (rw size-is (omega arith))

    pub before-done : (l : Lexeme) (context : Context) (findings findings' : List Finding) (old new : List Task) → naming form ≡ how.Prefix l → AreReady text nodes old → findings' ≡ findings ++ symbol_findings context prefixed l l.kind → new ≡ visits kids ++ old →
        IsDone text around held nodes (task.Visit node) context context findings findings' old new
    before-done l context findings findings' old new named ready are is =
        done context context findings findings' (symbol_findings context prefixed l l.kind) _ old new (subst (AreReady text nodes) (sym is) (ready-append text nodes (visits kids) old kids-ready ready)) are
        (walk-is context ∙ walk-before text around context (node_at nodes node).span parts form l named) (ap (run text around held nodes context) is ∙ each-run text around held nodes context kids old)
        (rw (is, size-is, size-append text nodes (visits kids) old) (omega (arith, visits-size text nodes kids)))

    pub behind-done : (l : Lexeme) (context : Context) (findings : List Finding) (old new : List Task) → naming form ≡ how.Postfix l → AreReady text nodes old → new ≡ visits kids ++ (task.Symbol l ∷ old) →
        IsDone text around held nodes (task.Visit node) context context findings findings old new
    behind-done l context findings old new named ready is =
        done context context findings findings [] _ old new (subst (AreReady text nodes) (sym is) (ready-append text nodes (visits kids) (task.Symbol l ∷ old) kids-ready (tt, ready))) (sym (append-nil findings))
        (walk-is context ∙ walk-behind text around context (node_at nodes node).span parts form l named)
        (ap (run text around held nodes context) is ∙ each-run text around held nodes context kids (task.Symbol l ∷ old) ∙ sym (emit-append (walk_each text around context (trees_at nodes kids)) (symbol_findings context itself l l.kind) (run text around held nodes context old)))
        (rw (is, size-is, size-append text nodes (visits kids) (task.Symbol l ∷ old)) (omega (arith, visits-size text nodes kids)))

  between-run : (l : Lexeme) (context : Context) (numbers : List ℕ) (old : List Task) → run text around held nodes context (between_tasks l numbers old) ≡ emit (walk_round text around context l (trees_at nodes numbers)) (run text around held nodes context old)
  between-run l context [] old = refl
  between-run l context (x ∷ numbers) old =
      ap (λ z. emit (walk text around context (tree_at nodes x)) (emit (symbol_findings context itself l l.kind) z)) (each-run text around held nodes context numbers old)
      ∙ sym (emit-append (walk text around context (tree_at nodes x) ++ symbol_findings context itself l l.kind) (walk_each text around context (trees_at nodes numbers)) (run text around held nodes context old)
      ∙ emit-append (walk text around context (tree_at nodes x)) (symbol_findings context itself l l.kind) (emit (walk_each text around context (trees_at nodes numbers)) (run text around held nodes context old)))

  between-ready : (l : Lexeme) (numbers : List ℕ) (old : List Task) → AreReady text nodes (visits numbers) → AreReady text nodes old → AreReady text nodes (between_tasks l numbers old)
  between-ready l [] old all ready = (tt, ready)
  between-ready l (x ∷ numbers) old all ready = (all.0, (tt, ready-append text nodes (visits numbers) old all.1 ready))

  between-size : (l : Lexeme) (numbers : List ℕ) (old : List Task) → all_size text nodes (between_tasks l numbers old) ≤ 1 + (sizes text nodes (trees_at nodes numbers) + all_size text nodes old)
  between-size l [] old = omega arith
  between-size l (x ∷ numbers) old = rw (size-append text nodes (visits numbers) old) (omega (arith, visits-size text nodes numbers))

  module _ (node : ℕ) (one : IsNode text nodes node) (whole : IsWhole nodes node) (there : AreThere nodes (node_at nodes node).children) where
    pub between-done : (l : Lexeme) (context : Context) (findings : List Finding) (old new : List Task) → naming (form_at nodes node) ≡ how.Infix l → AreReady text nodes old → new ≡ between_tasks l (node_at nodes node).children old →
        IsDone text around held nodes (task.Visit node) context context findings findings old new
    between-done l context findings old new named ready is =
        done node one whole there context context findings findings [] _ old new (subst (AreReady text nodes) (sym is) (between-ready l (node_at nodes node).children old (kids-ready node one whole there) ready)) (sym (append-nil findings))
        (walk-is node one whole there context ∙ walk-between text around context (node_at nodes node).span (parts_at nodes node) (form_at nodes node) l named)
        (ap (run text around held nodes context) is ∙ between-run l context (node_at nodes node).children old)
        (rw (is, size-is node one whole there) (omega (arith, between-size l (node_at nodes node).children old)))

    pub path-done : (context : Context) (findings findings' : List Finding) (old new : List Task) → naming (form_at nodes node) ≡ how.Path → AreReady text nodes old → AreFound text around held nodes (node_at nodes node).children (segments text around context (parts_at nodes node)) context findings findings' old new →
        IsDone text around held nodes (task.Visit node) context context findings findings' old new
    path-done context findings findings' old new named ready found = record {
      ready = found.ready ready;
      run_on = found.run_on ∙ ap (λ z. emit findings (emit z (run text around held nodes context old))) (sym (walk-is node one whole there context ∙ walk-path text around context (node_at nodes node).span (parts_at nodes node) (form_at nodes node) named));
      less = rw (size-is node one whole there) (omega (arith, found.less));
    }

pub function-lies : (text : Text) (form : Form.the_data) (l : Lexeme) → naming form ≡ how.Function l → AllByRecursion (LiesIn text.source) (form_lexemes form) → LiesIn text.source l
function-lies text form l e lie = (subst (AllByRecursion (LiesIn text.source)) (function-name form l e) lie).0

pub instance-lies : (text : Text) (form : Form.the_data) (l : Lexeme) → naming form ≡ how.Instance l → AllByRecursion (LiesIn text.source) (form_lexemes form) → LiesIn text.source l
instance-lies text form l e lie = (subst (AllByRecursion (LiesIn text.source)) (instance-name form l e) lie).0

-- the other tasks
module _ (text : Text) (around : Surroundings) (held : Held → Behind) (nodes : List ArenaNode) where
  pub found-done : (next : Task) (context : Context) (findings findings' more : List Finding) (old : List Task) → AreReady text nodes old → findings' ≡ findings ++ more → run text around held nodes context (next ∷ old) ≡ emit more (run text around held nodes context old) →
      size_of text nodes next ≡ 1 → IsDone text around held nodes next context context findings findings' old old
  found-done next context findings findings' more old ready are onward one = record {
    ready = ready;
    run_on = ap (λ z. emit z (run text around held nodes context old)) are ∙ emit-append findings more (run text around held nodes context old) ∙ ap (emit findings) (sym onward);
    less = rw one (omega arith);
  }

  pub bound-done : (node : ℕ) (context context' : Context) (findings findings' : List Finding) (old : List Task) → AreReady text nodes old → context' ≡ bind_all text context (binders_at nodes node) → findings' ≡ findings ++ all_refused text context (binders_at nodes node) →
      IsDone text around held nodes (task.Bind node) context context' findings findings' old old
  bound-done node context context' findings findings' old ready inner are = record {
    ready = ready;
    run_on = ap (λ z. emit z (run text around held nodes context' old)) are ∙ ap (λ z. emit (findings ++ all_refused text context (binders_at nodes node)) (run text around held nodes z old)) inner
        ∙ emit-append findings (all_refused text context (binders_at nodes node)) (run text around held nodes (bind_all text context (binders_at nodes node)) old);
    less = omega arith;
  }

  pub moved-done : (next : Task) (context context' : Context) (findings : List Finding) (old : List Task) → AreReady text nodes old → run text around held nodes context (next ∷ old) ≡ run text around held nodes context' old → size_of text nodes next ≡ 1 → IsDone text around held nodes next context context' findings findings old old
  moved-done next context context' findings old ready onward one = record {
    ready = ready;
    run_on = ap (emit findings) (sym onward);
    less = rw one (omega arith);
  }
