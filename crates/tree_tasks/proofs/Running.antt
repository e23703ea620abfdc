-- What is due, done.
use Rattle.std.proofs.Common.{◌≡◌, ℕ, List, [], ◌∷◌, ◌++◌, reverse, refl, ap, ◌∙◌}
use Rattle.std.proofs.lemmas.List.{map-append, reverse-append}
use Rattle.tree_tasks.specs.declared.tasks.Task.TheVariants as task
use Rattle.tree_tasks.specs.WalkTasks.{Task, chain, chain_back, stack, visits}

pub chain-append : (a b : List ℕ) → chain_back (a ++ b) ≡ chain_back a ++ chain_back b
chain-append [] b = refl
chain-append (x ∷ a) b = ap (λ z. task.Define x ∷ (task.Visit x ∷ z)) (chain-append a b)

chain-reverse : (nodes : List ℕ) → reverse (chain_back (reverse nodes)) ≡ chain nodes
chain-reverse [] = refl
chain-reverse (x ∷ nodes) =
    ap reverse (ap chain_back (reverse-append (x ∷ []) nodes) ∙ chain-append (reverse nodes) (x ∷ []))
    ∙ reverse-append (chain_back (reverse nodes)) (task.Define x ∷ (task.Visit x ∷ [])) ∙ ap (λ z. task.Visit x ∷ (task.Define x ∷ z)) (chain-reverse nodes)

visits-reverse : (nodes : List ℕ) → reverse (visits (reverse nodes)) ≡ visits nodes
visits-reverse [] = refl
visits-reverse (x ∷ nodes) =
    ap reverse (ap visits (reverse-append (x ∷ []) nodes) ∙ map-append _ (reverse nodes) (x ∷ []))
    ∙ reverse-append (visits (reverse nodes)) (visits (x ∷ [])) ∙ ap (λ z. task.Visit x ∷ z) (visits-reverse nodes)

pub each-pushed : (nodes : List ℕ) (old new : List Task) → new ≡ old ++ visits (reverse nodes) → stack new ≡ visits nodes ++ stack old
each-pushed nodes old new is = ap reverse is ∙ reverse-append old (visits (reverse nodes)) ∙ ap (λ z. z ++ reverse old) (visits-reverse nodes)

pub chain-pushed : (nodes : List ℕ) (old new : List Task) → new ≡ old ++ chain_back (reverse nodes) → stack new ≡ chain nodes ++ stack old
chain-pushed nodes old new is = ap reverse is ∙ reverse-append old (chain_back (reverse nodes)) ∙ ap (λ z. z ++ reverse old) (chain-reverse nodes)

pub one-pushed : (t : Task) (old new : List Task) → new ≡ old ++ t ∷ [] → stack new ≡ t ∷ stack old
one-pushed t old new is = ap reverse is ∙ reverse-append old (t ∷ [])
