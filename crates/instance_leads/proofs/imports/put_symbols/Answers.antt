use Rattle.std.proofs.Common.{arith}
use Rattle.tla_symbols.specs.declared.op.Op.{Op}
use Rattle.tla_model.specs.Entities.{Meaning}
use Rattle.instance_leads.specs.Leading.{known_in}
use Rattle.instance_leads.proofs.FaceLeads.{here-all, here-next}
use Rattle.instance_leads.proofs.imports.put_symbols.Goals as goal

pub loop-meaning-preserved : goal.loop-meaning-preserved
loop-meaning-preserved c = record {
  led = c.in_ok-put_meant.ensures.led;
  known = λ nested.
      here-next c.args.face.now (λ (entry : Op × Meaning). entry.1) c.args.symbols.now c.loop-meaning.meaning-index c.loop-meaning-item.result (known_in nested c.args.more.now) (known_in nested c.loop-meaning.more) (known_in nested c.put_meant.new.more) (omega arith)
      c.loop-meaning-item.is (c.in_ok-put_meant.ensures.known nested) (c.loop-meaning.invariant.known nested);
}

pub returns-clause-known : goal.returns-clause-known
returns-clause-known c = λ nested.
    here-all c.args.face.now (λ (entry : Op × Meaning). entry.1) c.args.symbols.now c.loop-meaning.meaning-index (known_in nested c.args.more.now) (known_in nested c.loop-meaning.more) (omega arith) (c.loop-meaning.invariant.known nested)
