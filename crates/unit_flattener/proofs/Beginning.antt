-- Walking on behind the begin of a nested module, and behind what it extends.
use Rattle.std.proofs.Common.{◌≡◌, List, [], ◌∷◌, ◌++◌, refl, sym, ap, subst, ◌∙◌}
use Rattle.tla_symbols.specs.declared.lexeme.Lexeme.{Lexeme}
use Rattle.tla_tree.specs.declared.unit.Unit.TheVariants as code
use Rattle.unit_grammar.specs.UnitNodes.{unit_at}
use Rattle.unit_grammar.specs.Units.{ModuleBegin, UnitTree}
use Rattle.tla_model.specs.Lexemes.{spelled}
use Rattle.module_scope.specs.Environments.{begun}
use Rattle.kind_text.specs.FlatModule.{Extends, FlatModule}
use Rattle.flattened_units.specs.Units.{AreExtended, IsUnitMade, Reader}
use Rattle.tree_flattener.specs.Worlds.{implied_of, means_of}
use Rattle.tree_flattener.specs.declared.written.Written.{Written}
use Rattle.tree_flattener.proofs.Stepping.{steps-on}
use Rattle.unit_flattener.specs.Walked.{AreBrought, BeginsOver, Enters, ExtendsAll, IsBegin, IsEntered, IsUnitWalked, Walks, entered, leading_with}
use Rattle.unit_flattener.specs.Walking.{IsWalking, Walk, over_in, state_at}
use Rattle.unit_flattener.specs.declared.flattener.UnitFlattener.{UnitFlattener}
use Rattle.unit_flattener.proofs.Stepping.{state-next}

module _ (written : Written) (walk : Walk) (before rest : List UnitTree) (dashes name : Lexeme) (extends : List Lexeme) (old mid new : UnitFlattener) (reader : Reader)
    (at : IsWalking written.text.now walk before (ModuleBegin dashes name extends ∷ rest) old reader)
    (enters : IsEntered written walk before (ModuleBegin dashes name extends) name rest old mid reader)
    (brought : AreBrought written walk (before ++ ModuleBegin dashes name extends ∷ []) extends rest mid new (entered written.text.now reader name enters.own)) where
  abbrev inner : Reader
  inner = entered written.text.now reader name enters.own

  -- the modules that can be named in it
  modules-are : (state_at walk (before ++ ModuleBegin dashes name extends ∷ [])).modules ≡ begun (state_at walk before).modules (spelled written.text.now.source name)
  modules-are =
      ap (λ state. state.modules) (state-next walk before (ModuleBegin dashes name extends))
      ∙ ap (λ t. begun (state_at walk before).modules (spelled t.source name)) (sym at.same)

  made : (more : FlatModule) → Extends new.state.flat more
      → IsUnitMade more written.text.now (means_of written) (implied_of written) walk.files walk.outsides (over_in walk).words (state_at walk before) reader (ModuleBegin dashes name extends) (leading_with inner brought.leads) []
  made more grows = (
    (
      enters.own,
      brought.leads,
      (
        subst (λ modules. AreExtended more written.text.now (means_of written) (implied_of written) walk.files walk.outsides (over_in walk).words modules inner.faces inner.setting inner.setting.leads extends brought.leads)
            modules-are (brought.holds more grows),
        refl,
      ),
    ),
    refl,
  )

  -- the begin of a nested module is walked
  pub begins : IsUnitWalked written walk before (ModuleBegin dashes name extends) rest old new reader
  begins =
      record {
        next = leading_with inner brought.leads;
        asked = [];
        at = brought.at;
        steps = steps-on old.state mid.state new.state [] [] enters.steps brought.steps;
        holds = made;
      }

-- ---- the same of units in code

module _ (written : Written) (old mid new : UnitFlattener) where
  -- wherever code walked, it walks behind the begin and what it extends then
  pub begins-there : (x : code.the_data) (title : Lexeme) (names : List Lexeme) → BeginsOver x title names → Enters written (unit_at written.tree.now x) old mid → ExtendsAll written names mid new → Walks written (unit_at written.tree.now x) old new
  begins-there (code.ModuleBegin dashes name extends) title ls is enters brings = λ walk before rest reader at.
      let entry = enters walk before rest reader at in
      begins written walk before rest dashes name extends old mid new reader at entry
      (subst (λ modules. AreBrought written walk (before ++ ModuleBegin dashes name extends ∷ []) modules rest mid new (entered written.text.now reader name entry.own)) is.1
      (brings walk (before ++ ModuleBegin dashes name extends ∷ []) rest (entered written.text.now reader name entry.own) entry.at))
  begins-there (code.Variables names) title ls is enters brings = absurd is
  begins-there (code.Constants declarations) title ls is enters brings = absurd is
  begins-there (code.OperatorDefinition local node) title ls is enters brings = absurd is
  begins-there (code.FunctionDefinition local node) title ls is enters brings = absurd is
  begins-there (code.ModuleDefinition local node) title ls is enters brings = absurd is
  begins-there (code.Instance local node) title ls is enters brings = absurd is
  begins-there (code.Assumption word name node) title ls is enters brings = absurd is
  begins-there (code.Theorem word name node) title ls is enters brings = absurd is
  begins-there (code.Line dashes) title ls is enters brings = absurd is
  begins-there (code.ModuleEnd closing) title ls is enters brings = absurd is

-- what a begin extends it begins over
pub begins-so : (x : code.the_data) (title : Lexeme) (names : List Lexeme) → BeginsOver x title names → IsBegin x title
begins-so (code.ModuleBegin dashes name extends) title ls is = is.0
begins-so (code.Variables names) title ls is = is
begins-so (code.Constants declarations) title ls is = is
begins-so (code.OperatorDefinition local node) title ls is = is
begins-so (code.FunctionDefinition local node) title ls is = is
begins-so (code.ModuleDefinition local node) title ls is = is
begins-so (code.Instance local node) title ls is = is
begins-so (code.Assumption word name node) title ls is = is
begins-so (code.Theorem word name node) title ls is = is
begins-so (code.Line dashes) title ls is = is
begins-so (code.ModuleEnd closing) title ls is = is
