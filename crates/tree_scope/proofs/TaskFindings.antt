-- What is found by what is due.
use Rattle.std.proofs.Common.{◌≡◌, ℕ, ◌<◌, List, [], ◌∷◌, ◌++◌, Bool, true, false, length, append_assoc, refl, ap, sym, ◌∙◌}
use Rattle.std.specs.Prelude.{map, filter, if◌then◌else◌}
use Rattle.tla_tree.specs.Arena.{Node as ArenaNode, AreThere, tree_at}
use Rattle.tla_tree.specs.Syntax.{Tree, Trees, Node, Cons, trees}
use Rattle.tla_tree.proofs.Nodes.{tree_at-form}
use Rattle.tla_symbols.specs.declared.lexeme.Lexeme.{Lexeme}
use Rattle.tla_model.specs.declared.names.Binder.{Binder}
use Rattle.tla_model.specs.declared.names.Binding.TheVariants as binding
use Rattle.tla_model.specs.Contexts.{Context, bind, bind_all}
use Rattle.tla_model.specs.Entities.{Text, entity_of}
use Rattle.tla_model.specs.Scopes.{Finding, all_refused, behind, has_set}
use Rattle.tla_model.specs.Scopes.{definition}
use Rattle.module_model.specs.Exports.{Behind}
use Rattle.module_model.specs.TreeFindings.{Surroundings, walk, walk_chain, walk_each, walk_rest, walk_sets}
use Rattle.tree_tasks.specs.declared.held.Held.{Held}
use Rattle.tree_tasks.specs.declared.tasks.Task.TheVariants as task
use Rattle.name_context.specs.AsTables.{mark_of}
use Rattle.declared_names.specs.Nodes.{binders_at, form_at}
use Rattle.tree_scope.specs.TasksDone.{Outcome, emit, run}
use Rattle.tree_tasks.specs.WalkTasks.{Task, chain, is_chosen, visits}
use Rattle.tree_scope.proofs.Scoping.{Grows, cut-grown, grows-bind, grows-bind_all, grows-refl, grows-trans}

pub emit-append : (a b : List Finding) (o : Outcome) → emit (a ++ b) o ≡ emit a (emit b o)
emit-append a b o = let e = append_assoc a b o.findings in λ i. record { findings = e i; context = o.context }

module _ (text : Text) (around : Surroundings) (held : Held → Behind) (nodes : List ArenaNode) where
  abbrev at : List ℕ → Trees
  at numbers = trees (map (tree_at nodes) numbers)

  abbrev go : Context → List Task → Outcome
  go context tasks = run text around held nodes context tasks

  pub each-run : (context : Context) (numbers : List ℕ) (more : List Task) → go context (visits numbers ++ more) ≡ emit (walk_each text around context (at numbers)) (go context more)
  each-run context [] more = refl
  each-run context (x ∷ numbers) more =
      ap (emit (walk text around context (tree_at nodes x))) (each-run context numbers more) ∙ sym (emit-append (walk text around context (tree_at nodes x)) (walk_each text around context (at numbers)) (go context more))

  -- those with a set, and those without
  set-one : (context : Context) (x : ℕ) (rest : Trees) (b : Bool) → x < length nodes → has_set (form_at nodes x) ≡ b → walk_sets text around context (Cons (tree_at nodes x) rest) ≡ (if b then walk text around context (tree_at nodes x) else []) ++ walk_sets text around context rest
  set-one context x rest b there e = let found = tree_at-form nodes x there in rw (found.1, e) refl

  rest-one : (context : Context) (x : ℕ) (rest : Trees) (b : Bool) → x < length nodes → has_set (form_at nodes x) ≡ b → walk_rest text around context (Cons (tree_at nodes x) rest) ≡ (if b then [] else walk text around context (tree_at nodes x)) ++ walk_rest text around context rest
  rest-one context x rest b there e = let found = tree_at-form nodes x there in rw (found.1, e) refl

  sets-step : (context : Context) (x : ℕ) (numbers : List ℕ) (more : List Task) (b : Bool) → has_set (form_at nodes x) ≡ b → x < length nodes →
      go context (visits (filter (is_chosen nodes true) numbers) ++ more) ≡ emit (walk_sets text around context (at numbers)) (go context more) → go context (visits (filter (is_chosen nodes true) (x ∷ numbers)) ++ more) ≡ emit (walk_sets text around context (at (x ∷ numbers))) (go context more)
  sets-step context x numbers more true e there onward =
      rw e
      (ap (emit (walk text around context (tree_at nodes x))) onward
      ∙ sym (emit-append (walk text around context (tree_at nodes x)) (walk_sets text around context (at numbers)) (go context more))
      ∙ ap (λ z. emit z (go context more)) (sym (set-one context x (at numbers) true there e)))
  sets-step context x numbers more false e there onward = rw e (onward ∙ ap (λ z. emit z (go context more)) (sym (set-one context x (at numbers) false there e)))

  pub sets-run : (context : Context) (numbers : List ℕ) (more : List Task) → AreThere nodes numbers → go context (visits (filter (is_chosen nodes true) numbers) ++ more) ≡ emit (walk_sets text around context (at numbers)) (go context more)
  sets-run context [] more there = refl
  sets-run context (x ∷ numbers) more there = sets-step context x numbers more (has_set (form_at nodes x)) refl there.0 (sets-run context numbers more there.1)

  rest-step : (context : Context) (x : ℕ) (numbers : List ℕ) (more : List Task) (b : Bool) → has_set (form_at nodes x) ≡ b → x < length nodes →
      go context (visits (filter (is_chosen nodes false) numbers) ++ more) ≡ emit (walk_rest text around context (at numbers)) (go context more) → go context (visits (filter (is_chosen nodes false) (x ∷ numbers)) ++ more) ≡ emit (walk_rest text around context (at (x ∷ numbers))) (go context more)
  rest-step context x numbers more false e there onward =
      rw e
      (ap (emit (walk text around context (tree_at nodes x))) onward
      ∙ sym (emit-append (walk text around context (tree_at nodes x)) (walk_rest text around context (at numbers)) (go context more))
      ∙ ap (λ z. emit z (go context more)) (sym (rest-one context x (at numbers) false there e)))
  rest-step context x numbers more true e there onward = rw e (onward ∙ ap (λ z. emit z (go context more)) (sym (rest-one context x (at numbers) true there e)))

  pub rest-run : (context : Context) (numbers : List ℕ) (more : List Task) → AreThere nodes numbers → go context (visits (filter (is_chosen nodes false) numbers) ++ more) ≡ emit (walk_rest text around context (at numbers)) (go context more)
  rest-run context [] more there = refl
  rest-run context (x ∷ numbers) more there = rest-step context x numbers more (has_set (form_at nodes x)) refl there.0 (rest-run context numbers more there.1)

  -- the context behind definitions
  abbrev behind_all : Context → List ℕ → Context
  behind_all context [] = context
  behind_all context (x ∷ numbers) = behind_all (bind_all text context (definition (tree_at nodes x))) numbers

  behind-is : (context : Context) (t : Tree) → behind text context t ≡ bind_all text context (definition t)
  behind-is context (Node f s parts) = refl

  chain-run : (context : Context) (numbers : List ℕ) (more : List Task) → go context (chain numbers ++ more) ≡ emit (walk_chain text around context (at numbers)) (go (behind_all context numbers) more)
  chain-run context [] more = refl
  chain-run context (x ∷ numbers) more =
      let next = bind_all text context (definition (tree_at nodes x)) in
      ap (emit (walk text around context (tree_at nodes x))) (chain-run next numbers more)
      ∙ sym (emit-append (walk text around context (tree_at nodes x)) (walk_chain text around next (at numbers)) (go (behind_all next numbers) more))
      ∙ ap (λ z. emit (walk text around context (tree_at nodes x) ++ walk_chain text around z (at numbers)) (go (behind_all next numbers) more)) (sym (behind-is context (tree_at nodes x)))

  grows-behind : (context : Context) (numbers : List ℕ) → Grows context (behind_all context numbers)
  grows-behind context [] = grows-refl context
  grows-behind context (x ∷ numbers) =
      let next = bind_all text context (definition (tree_at nodes x)) in
      grows-trans context next (behind_all next numbers) (grows-bind_all text context (definition (tree_at nodes x))) (grows-behind next numbers)

  -- definitions, and out of their scope
  pub order-run : (context : Context) (numbers : List ℕ) (more : List Task) → go context (chain numbers ++ task.Leave (mark_of context) ∷ more) ≡ emit (walk_chain text around context (at numbers)) (go context more)
  order-run context numbers more =
      chain-run context numbers (task.Leave (mark_of context) ∷ more)
      ∙ ap (λ z. emit (walk_chain text around context (at numbers)) (go z more)) (cut-grown context (behind_all context numbers) (grows-behind context numbers))

  -- names that are bound, what is in their scope, and out of it
  pub scope-run : (before context : Context) (node : ℕ) (numbers : List ℕ) (more : List Task) → AreThere nodes numbers → Grows before context →
      go context (task.Bind node ∷ (visits (filter (is_chosen nodes false) numbers) ++ task.Leave (mark_of before) ∷ more))
      ≡ emit (all_refused text context (binders_at nodes node)) (emit (walk_rest text around (bind_all text context (binders_at nodes node)) (at numbers)) (go before more))
  scope-run before context node numbers more there grown =
      let within = bind_all text context (binders_at nodes node) in
      ap (emit (all_refused text context (binders_at nodes node)))
      (rest-run within numbers (task.Leave (mark_of before) ∷ more) there
      ∙ ap (λ z. emit (walk_rest text around within (at numbers)) (go z more)) (cut-grown before within (grows-trans before context within grown (grows-bind_all text context (binders_at nodes node)))))

  -- sets first, then the scope
  pub first-run : (before context : Context) (node : ℕ) (numbers : List ℕ) (more : List Task) → AreThere nodes numbers → Grows before context →
      go context (visits (filter (is_chosen nodes true) numbers) ++ task.Bind node ∷ (visits (filter (is_chosen nodes false) numbers) ++ task.Leave (mark_of before) ∷ more))
      ≡ emit (walk_sets text around context (at numbers) ++ all_refused text context (binders_at nodes node) ++ walk_rest text around (bind_all text context (binders_at nodes node)) (at numbers)) (go before more)
  first-run before context node numbers more there grown =
      let sets = walk_sets text around context (at numbers) in
      let names = all_refused text context (binders_at nodes node) in
      let rest = walk_rest text around (bind_all text context (binders_at nodes node)) (at numbers) in
      sets-run context numbers _ there ∙ ap (emit sets) (scope-run before context node numbers more there grown)
      ∙ sym (emit-append (sets ++ names) rest (go before more) ∙ emit-append sets names (emit rest (go before more)))

  -- the same of a function, whose name is a bound name in the scope
  pub function-run : (before context : Context) (node : ℕ) (name : Lexeme) (numbers : List ℕ) (more : List Task) → AreThere nodes numbers → Grows before context →
      let within : Context = bind text before (record { name = name; entity = entity_of (binding.Bound false) 0 }) in
      go context (visits (filter (is_chosen nodes true) numbers) ++ task.Leave (mark_of before) ∷ (task.Function name ∷ (task.Bind node ∷ (visits (filter (is_chosen nodes false) numbers) ++ task.Leave (mark_of before) ∷ more))))
      ≡ emit (walk_sets text around context (at numbers) ++ all_refused text within (binders_at nodes node) ++ walk_rest text around (bind_all text within (binders_at nodes node)) (at numbers)) (go before more)
  function-run before context node name numbers more there grown =
      let binder : Binder = record { name = name; entity = entity_of (binding.Bound false) 0 } in
      let within = bind text before binder in
      let sets = walk_sets text around context (at numbers) in
      let names = all_refused text within (binders_at nodes node) in
      let rest = walk_rest text around (bind_all text within (binders_at nodes node)) (at numbers) in
      let onward = task.Function name ∷ (task.Bind node ∷ (visits (filter (is_chosen nodes false) numbers) ++ task.Leave (mark_of before) ∷ more)) in
      sets-run context numbers _ there ∙ ap (λ z. emit sets (go z onward)) (cut-grown before context grown)
      ∙ ap (emit sets) (scope-run before within node numbers more there (grows-bind text before binder))
      ∙ sym (emit-append (sets ++ names) rest (go before more) ∙ emit-append sets names (emit rest (go before more)))
