use Rattle.std.proofs.Common.{◌++◌, sym, subst, append-nil, arith}
use Rattle.expr_grammar.specs.declared.wait.Conversion.TheVariants as Conversion
use Rattle.expr_stack.specs.StackMeaning.{Opens}
use Rattle.tree_parts.proofs.Growing.{grows-same}
use Rattle.expr_stack.proofs.Growing.{opens-grow}
use Rattle.expr_stack.proofs.Stacking.{opens-read}
use Rattle.expr_parse.proofs.Renaming.{converts-by}
use Rattle.expr_parse.proofs.convert.convert.Goals as goal

pub returns-in_ok-more-in-Keep : goal.returns-in_ok-more-in-Keep
returns-in_ok-more-in-Keep c parts read below last spelled opens part =
    converts-by c.args.tree.now _ c.hold.new.self _ _ Conversion.Keep parts read spelled below last c.in-Keep.is
    (record { grows = grows-same c.args.tree.now; few = omega arith; opens = c.in_ok-more-in-Keep.ensures.more c.args.tree.now parts read below last spelled opens part })

pub returns-in-Drop : goal.returns-in-Drop
returns-in-Drop c parts read below last spelled opens part =
    converts-by c.args.tree.now _ c.args.stack.now _ _ Conversion.Drop parts read spelled below last c.in-Drop.is
    (record {
      grows = grows-same c.args.tree.now;
      few = omega arith;
      opens =
          subst (λ ps. Opens c.args.tree.now c.args.stack.now c.reads.result ps (read ++ spelled) below) (sym (append-nil parts))
          (opens-read c.args.tree.now c.args.stack.now c.args.opening _ c.args.part.span parts read below spelled c.reads.ensures part.span opens);
    })

pub returns-in_ok-more-in-AsBound : goal.returns-in_ok-more-in-AsBound
returns-in_ok-more-in-AsBound c parts read below last spelled opens part =
    let b = c.in_ok-bound-in-AsBound.ensures last spelled part in
    converts-by c.args.tree.now c.as_bound.new.tree c.hold-in-AsBound.new.self _ _ Conversion.AsBound parts read spelled below last c.in-AsBound.is
    (record {
      grows = b.grows;
      few = b.few;
      opens = c.in_ok-more-in-AsBound.ensures.more c.as_bound.new.tree parts read below _ spelled (opens-grow _ _ c.args.stack.now _ parts read below b.grows opens) b.is;
    })

pub returns-in_ok-more-in-AsField : goal.returns-in_ok-more-in-AsField
returns-in_ok-more-in-AsField c parts read below last spelled opens part =
    let b = c.in_ok-field-in-AsField.ensures last spelled part in
    converts-by c.args.tree.now c.as_field.new.tree c.hold-in-AsField.new.self _ _ (Conversion.AsField c.in-AsField.name c.in-AsField.mark) parts read spelled below last c.in-AsField.is
    (record {
      grows = b.grows;
      few = b.few;
      opens = c.in_ok-more-in-AsField.ensures.more c.as_field.new.tree parts read below _ spelled (opens-grow _ _ c.args.stack.now _ parts read below b.grows opens) b.is;
    })
