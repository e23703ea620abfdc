use Rattle.std.proofs.Common.{◌≡◌, ◌∙◌, ℕ, List, [], ◌∷◌, Option, None, ap, length, refl, subst, sym}
use Rattle.std.proofs.lemmas.Bool.{false≢true}
use Rattle.std.proofs.lemmas.List.{nil_from_length}
use Rattle.front_laws.specs.Fronts.{IsFront, Tree}
use Rattle.unit_grammar.specs.UnitNodes.{module_of}
use Rattle.module_model.specs.Exports.{face_outside}
use Rattle.indexmap.specs.IndexMap.{get_by_text}
use Rattle.tla_model.specs.declared.Diagnostic.{Diagnostic}
use Rattle.tla_tree.specs.declared.unit.ModuleTree.{ModuleTree}
use Rattle.module_model.specs.Imports.{Imports}
use Rattle.module_facts.specs.Checks.{CheckedModule}
use Rattle.leveled_modules.specs.Leveled.{LevelTables}
use Rattle.family_tables.specs.declared.outcome.Outcome.TheVariants as outcome
use Rattle.family_levels.specs.declared.«module».Found.{Found}
use Rattle.family_levels.specs.Judging.{HasFaults, IsJudgedFrom, names_of}
use Rattle.family_levels.proofs.Steps.{face-outside}
use Rattle.family_levels.proofs.module.judge.Goals as goal

-- a module that is refused with the faults of its names and arities is judged so
refused-so : (tree : ModuleTree) (imports : Imports) (files : List ℕ → Option ℕ) (old : LevelTables) (checked : CheckedModule) (faults : List Diagnostic) (found : Found)
    → (faults ≡ [] → ⊥) → found.outcome ≡ outcome.Refused faults → found.number ≡ None → found.names ≡ names_of checked → IsJudgedFrom tree imports files old old checked faults found
refused-so tree imports files old checked [] found some is number names = absurd (some refl)
refused-so tree imports files old checked (fault ∷ faults) found some is number names =
    (record { outcome = subst (HasFaults (λ all. all ≡ fault ∷ faults)) (sym is) refl; number = number; names = names }, refl)

pub level_module-requires-clause-front : goal.level_module-requires-clause-front
level_module-requires-clause-front g c =
    let tree = c.requires.tree.1 in
    (c.args.name.now, subst (λ bytes. IsFront c.args.name.now bytes (Tree (module_of c.args.tree.now))) (sym tree.source) tree.front)

pub level_module-requires-clause-face : goal.level_module-requires-clause-face
level_module-requires-clause-face g c =
    let none = sym c.faults-faults.ensures ∙ nil_from_length c.faults-faults.result.now (c.if-not-is_empty.ensures.0 refl) in
    ap face_outside (c.deref.ensures ∙ c.face-face.ensures) ∙ face-outside c.args.imports.now c.args.tree.now.source (module_of c.args.tree.now) c.in_ok-checked.checked c.in_ok-checked.ensures.facts none

pub level_module-requires-clause-names : goal.level_module-requires-clause-names
level_module-requires-clause-names g c =
    c.in_ok-checked.ensures.names (sym c.faults-faults.ensures ∙ nil_from_length c.faults-faults.result.now (c.if-not-is_empty.ensures.0 refl))

pub returns-clause-judged : goal.returns-clause-judged
returns-clause-judged g c =
    let none = sym c.faults-faults.ensures ∙ nil_from_length c.faults-faults.result.now (c.if-not-is_empty.ensures.0 refl) in
    record {
      checked = c.in_ok-checked.checked;
      facts = c.in_ok-checked.ensures.facts;
      face = c.in_ok-checked.ensures.face;
      so = subst (λ faults. IsJudgedFrom c.args.tree.now c.args.imports.now (get_by_text c.args.files.now) c.args.known c.in_ok-known.known c.in_ok-checked.checked faults c.in_ok-found.found) (sym none)
          (c.in_ok-known.levels, record { over = c.in_ok-known.ensures.leveled }, c.in_ok-found.ensures);
    }

pub returns-then-not-is_empty-clause-judged : goal.returns-then-not-is_empty-clause-judged
returns-then-not-is_empty-clause-judged g c =
    let checked = c.in_ok-checked.checked in
    let same = c.in_ok-faults.ensures ∙ (c.as_slice.ensures ∙ c.faults-faults.ensures) in
    record {
      checked = checked;
      facts = c.in_ok-checked.ensures.facts;
      face = c.in_ok-checked.ensures.face;
      so = refused-so c.args.tree.now c.args.imports.now (get_by_text c.args.files.now) c.args.known checked checked.faults c.refused.result
          (λ none. false≢true (c.if-not-is_empty.ensures.1 (ap length (c.faults-faults.ensures ∙ none))))
          (c.refused.ensures.outcome ∙ ap outcome.Refused same) c.refused.ensures.number
          (c.refused.ensures.names ∙ (c.in_ok-names.ensures ∙ (λ i. record { uses = c.of.ensures.uses i; decls = c.of.ensures.decls i })));
    }
