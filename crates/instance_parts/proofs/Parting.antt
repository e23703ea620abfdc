-- What was gathered, as parts of a face.
use Rattle.std.proofs.Common.{◌≡◌, Bool, true, false, List, [], ◌∷◌, Some, is_some, refl, ap, sym, subst, ◌∙◌}
use Rattle.std.specs.Option.{option_or}
use mathlib.Core.Path.{fun_ext}
use Rattle.std.specs.Str.{bytes_eq}
use Rattle.tla_model.specs.declared.ids.DeclId.{DeclId}
use Rattle.module_model.specs.Exports.{Exports, Instances, entries_along, instances_in, standing}
use Rattle.module_model.specs.Given.{AreReached, ComesFrom, Reached, Text}
use Rattle.module_model.specs.Parts.{ByText, InText, reached}
use Rattle.instance_scope.specs.declared.scope.Scope.{Scope}
use Rattle.instance_parts.specs.Gathering.{AreGathered, AreRoots, IsForeign, IsOwn, told_by}
use Rattle.instance_parts.specs.Parts.{AreParts}
use Rattle.instance_scope.specs.Scoped.{IsSound}
use Rattle.instance_parts.proofs.Reaching.{AreDone, reached-at, roots-along, told-reached}

-- of the text of the module, or of another one
either : (b : Bool) (P : Type 0) → (b ≡ true → P) → (b ≡ false → P) → P
either true P own other = own refl
either false P own other = other refl

module _ (scope : Scope) (sound : IsSound scope) (mine : InText) (parts : ByText) (seen : List Bool) (gathered : AreGathered scope mine parts seen) (shown : Exports) where
  abbrev told : Instances
  told = told_by scope.title.now mine parts

  behind-told : AreDone scope told seen → (decl : DeclId) (entries : Exports) → told decl ≡ Some entries → AreReached told entries
  behind-told done decl entries is = either (bytes_eq decl.«module» scope.title.now) (AreReached told entries)
      (λ mine. let own : IsOwn scope told seen decl entries = gathered.own decl entries mine is in
      subst (AreReached told) (sym own.same) (reached-at scope sound told seen done own.held (sound.known decl own.held own.known) own.closed))
      (λ other. let foreign : IsForeign scope told decl entries = gathered.foreign decl entries other is in
      told-reached told foreign.face foreign.all entries ((sound.faces.whole foreign.name foreign.face foreign.import).behind decl entries foreign.stands))

  from-told : (decl : DeclId) (entries : Exports) → told decl ≡ Some entries → ComesFrom scope.imported.now scope.title.now decl entries
  from-told decl entries is = either (bytes_eq decl.«module» scope.title.now) (ComesFrom scope.imported.now scope.title.now decl entries)
      (λ mine. Text mine)
      (λ other. let foreign : IsForeign scope told decl entries = gathered.foreign decl entries other is in Reached foreign.name foreign.face foreign.import foreign.stands)

  -- with the part of the text
  pub are-parts : AreDone scope told seen → AreRoots scope told seen shown → (all : ByText) → ((decl : DeclId) → reached all decl ≡ option_or (reached parts decl) (reached ((scope.title.now, mine) ∷ []) decl)) → AreParts scope shown all
  are-parts done roots all joined =
      let same : instances_in all ≡ told = fun_ext (λ decl. ap standing (joined decl)) in
      record {
        along = λ path. ap (λ instances. entries_along instances shown path) same ∙ roots-along scope sound told seen done shown roots path;
        first = subst (λ instances. AreReached instances shown) (sym same) (λ name entity callee is instance. ap is_some (roots name entity callee is instance).gained.is);
        behind = λ decl entries is. subst (λ instances. AreReached instances entries) (sym same) (behind-told done decl entries (ap (λ instances. instances decl) (sym same) ∙ is));
        from = λ decl entries is. from-told decl entries (ap (λ instances. instances decl) (sym same) ∙ is);
      }
