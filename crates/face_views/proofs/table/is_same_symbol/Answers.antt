use Rattle.std.proofs.Common.{◌≡◌, ap, sym, ◌∙◌}
use denote.Enum.Bare.{same_true}
use Rattle.tla_symbols.specs.contracts.op.Op as op
use Rattle.tla_symbols.specs.declared.op.Op.{Op}
use Rattle.tla_model.specs.Entities.{Meaning}
use Rattle.face_views.proofs.Exactly.{tells-as}
use Rattle.face_views.proofs.table.is_same_symbol.Goals as goal

pub returns-then-eq : goal.returns-then-eq
returns-then-eq c =
    let one : Op × Meaning = c.args.one.now in
    let other : Op × Meaning = c.args.other.now in
    let ops : one.0 ≡ other.0 =
    same_true op.the_type tt one.0 other.0 (sym c.eq.ensures ∙ c.if-eq.true) in
    tells-as c.is_same_meaning.result (one.1 ≡ other.1) (one ≡ other) (λ same i. (ops i, same i))
    (λ same. ap (λ (symbol : Op × Meaning). symbol.1) same) c.is_same_meaning.ensures
