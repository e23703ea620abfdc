use Rattle.std.proofs.Common.{◌∙◌, ap}
use Rattle.family_facts.specs.declared.verdict.File.{File}
use Rattle.family_read.proofs.ModulesRead.{file-fresh, file-more}
use Rattle.family_read.proofs.read.read_files.Goals as goal

pub add-requires : goal.add-requires
add-requires c =
    file-fresh c.args.files.now c.loop-file.file-index c.file-item.result c.loop-file.modules c.as_str-name.result.now c.requires.distinct c.loop-file-test.true c.loop-file.invariant
    (c.as_str-name.ensures ∙ ap (λ (f : File). f.name) c.file-item.is)

pub loop-file-preserved : goal.loop-file-preserved
loop-file-preserved c =
    file-more c.args.files.now c.loop-file.file-index c.file-item.result c.loop-file.modules c.add.new.self c.as_str-name.result.now c.as_slice.result.now c.in_ok-module.module c.loop-file-test.true c.loop-file.invariant
    (c.as_str-name.ensures ∙ ap (λ (f : File). f.name) c.file-item.is) (c.as_slice.ensures ∙ ap (λ (f : File). f.bytes) c.file-item.is) c.in_ok-module.ensures c.in_ok-add.ensures
