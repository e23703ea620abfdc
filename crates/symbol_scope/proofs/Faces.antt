-- The face of a module that was read.
use Rattle.std.proofs.Common.{◌≡◌, ap, subst, sym, ◌∙◌}
use Rattle.std.specs.Arc.{arc_value}
use mathlib.Core.Path.{fun_ext}
use Rattle.tla_model.specs.Entities.{Meaning, Text}
use Rattle.tla_model.specs.Tables.{Table}
use Rattle.module_model.specs.declared.face.Face.{Face}
use Rattle.module_model.specs.Exports.{entries_along, entries_from, exports_of, instances_in, parameters_in}
use Rattle.module_model.specs.Given.{AreReached, ComesFrom}
use Rattle.module_model.specs.Modules.{Reading}
use Rattle.module_model.specs.Resolution.{ReadState}
use Rattle.instance_parts.specs.Parts.{AreParts}
use Rattle.unit_scope.specs.EnclosingReadings.{IsAt}
use Rattle.symbol_scope.specs.Exporting.{IsFaceOf}
use Rattle.unit_scope.specs.Readings.{Over}
use Rattle.unit_scope.specs.Steps.{outside_at}
use Rattle.unit_scope.specs.declared.reader.ModuleReader.{ModuleReader}

pub is-face : (text : Text) (over : Over) (read : ModuleReader) (state : ReadState) → IsAt text over read state → (face : Face) → face.«module» ≡ text.file → (table : Table Meaning) → arc_value face.exports ≡ table → table ≡ read.here.names.exports
    → AreParts read.scope (exports_of table) face.parts → IsFaceOf over.imports text.file (outside_at state) face
is-face text over read state at face named table shares lists parts =
    let shown = lists ∙ ap (λ (r : Reading). r.exports) at.here in
    let entries = ap (λ t. entries_along (instances_in face.parts) (exports_of t)) shares ∙ fun_ext parts.along ∙ (λ i. entries_from (at.known i) (exports_of (shown i))) in
    let all = shares ∙ shown in
    record {
      outside = λ i. record { entries = entries i; parameters = parameters_in (exports_of (all i)) };
      over = record {
        named = named;
        whole = record {
          exports = subst (λ t. AreReached (instances_in face.parts) (exports_of t)) (sym shares) parts.first;
          behind = parts.behind;
        };
        from = λ decl others says.
            subst (λ title. ComesFrom over.imports title decl others) at.title
            (subst (λ imports. ComesFrom imports read.scope.title.now decl others) (ap (λ (o : Over). o.imports) at.kept) (parts.from decl others says));
      };
    }
