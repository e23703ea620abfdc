use Rattle.std.proofs.Common.{◌≡◌, ◌∙◌, ◌+◌, ◌-◌, ◌^◌, ◌++◌, [], min, ap, arith, sym}
use Rattle.sany_files.specs.Files.{with_read}
use Rattle.sany_files.proofs.CallLemmas.{on-err, part-call, part-read, told-all, told-over}
use Rattle.sany_files.proofs.NamedLemmas.{named-more, distinct-more}
use Rattle.sany_files.proofs.ReadingLemmas.{reads-more, reads-over, told-more, count-more}
use Rattle.sany_files.proofs.files.read_files.Goals as goal

pub returns-then-total-gt-MOST_BYTES-clause-files : goal.returns-then-total-gt-MOST_BYTES-clause-files
returns-then-total-gt-MOST_BYTES-clause-files g c =
    let inv = c.loop-name.invariant in
    let read = c.in_ok-bytes.ensures in
    reads-over (g.F.Folder.told c.args.folder.now) (g.F.Folder.told c.loop-name.folder) (g.F.Folder.told c.read_module.new.folder) c.args.path.now c.args.names.now
    c.loop-name.name-index c.name-item.result c.as_str.result.now c.in_ok-bytes.bytes c.loop-name.files c.loop-name.total c.saturating_add-total.result
    c.loop-name-test.true (c.as_str.ensures ∙ c.name-item.is) inv.told read.goes inv.files read.bytes inv.total
    (c.saturating_add-total.ensures ∙ ap (λ n. min (c.loop-name.total + n) (2 ^ 64 - 1)) c.read_len.ensures) c.if-total-gt-MOST_BYTES.true

pub loop-name-preserved : goal.loop-name-preserved
loop-name-preserved g c =
    let inv = c.loop-name.invariant in
    let read = c.in_ok-bytes.ensures in
    let added : c.add_file.new.files ≡ c.loop-name.files ++ with_read c.as_str.result.now c.in_ok-bytes.bytes [] =
    c.in_ok-add_file.ensures.files ∙ ap (λ n. c.loop-name.files ++ with_read n c.in_ok-bytes.bytes []) (c.as_str-in-loop-name.ensures ∙ sym c.as_str.ensures) in record {
      told = told-more (g.F.Folder.told c.args.folder.now) (g.F.Folder.told c.loop-name.folder) (g.F.Folder.told c.read_module.new.folder) c.loop-name.name-index inv.told read.goes;
      files =
          reads-more (g.F.Folder.told c.args.folder.now) (g.F.Folder.told c.loop-name.folder) (g.F.Folder.told c.read_module.new.folder) c.args.path.now c.args.names.now
          c.loop-name.name-index c.name-item.result c.as_str.result.now c.in_ok-bytes.bytes c.loop-name.files c.add_file.new.files c.loop-name-test.true
          (c.as_str.ensures ∙ c.name-item.is) inv.told read.goes inv.files read.bytes added;
      named =
          named-more c.args.names.now c.loop-name.name-index c.name-item.result c.as_str.result.now c.in_ok-bytes.bytes c.loop-name.files c.add_file.new.files c.loop-name-test.true
          (c.as_str.ensures ∙ c.name-item.is) added inv.named;
      distinct =
          distinct-more c.args.names.now c.loop-name.name-index c.name-item.result c.as_str.result.now c.in_ok-bytes.bytes c.loop-name.files c.add_file.new.files c.loop-name-test.true
          (c.as_str.ensures ∙ c.name-item.is) added inv.named c.requires inv.distinct;
      total =
          count-more c.loop-name.files c.add_file.new.files c.as_str.result.now c.in_ok-bytes.bytes c.loop-name.total c.saturating_add-total.result added inv.total
          (c.saturating_add-total.ensures ∙ ap (λ n. min (c.loop-name.total + n) (2 ^ 64 - 1)) c.read_len.ensures) c.if-total-gt-MOST_BYTES.false;
      small = c.if-total-gt-MOST_BYTES.false;
      count = read.cause ∙ inv.count;
    }

pub returns-in_err-bytes-clause-part : goal.returns-in_err-bytes-clause-part
returns-in_err-bytes-clause-part g c =
    let inv = c.loop-name.invariant in
    on-err c.from_residual.result _
    (part-read (g.F.Folder.told c.args.folder.now) (g.F.Folder.told c.loop-name.folder) (g.F.Folder.told c.read_module.new.folder) c.args.path.now c.args.names.now
    c.loop-name.name-index c.loop-name.files c.loop-name.total c.loop-name-test.true inv.told c.in_err-bytes.ensures.part inv.files inv.total inv.small)

pub returns-in_err-add_file-clause-part : goal.returns-in_err-add_file-clause-part
returns-in_err-add_file-clause-part g c =
    let inv = c.loop-name.invariant in
    on-err c.from_residual-in_err-add_file.result _
    (part-read (g.F.Folder.told c.args.folder.now) (g.F.Folder.told c.loop-name.folder) (g.F.Folder.told c.read_module.new.folder) c.args.path.now c.args.names.now
    c.loop-name.name-index c.loop-name.files c.loop-name.total c.loop-name-test.true inv.told
    (part-call (g.F.Folder.told c.loop-name.folder) (g.F.Folder.told c.read_module.new.folder) c.in_ok-bytes.ensures.goes) inv.files inv.total inv.small)

pub returns-then-total-gt-MOST_BYTES-clause-told : goal.returns-then-total-gt-MOST_BYTES-clause-told
returns-then-total-gt-MOST_BYTES-clause-told g c =
    let inv = c.loop-name.invariant in
    let read = c.in_ok-bytes.ensures in
    told-over (g.F.Folder.told c.args.folder.now) (g.F.Folder.told c.loop-name.folder) (g.F.Folder.told c.read_module.new.folder) c.args.path.now c.args.names.now
    c.loop-name.name-index c.name-item.result c.as_str.result.now c.in_ok-bytes.bytes c.loop-name.files c.loop-name.total c.saturating_add-total.result
    c.loop-name-test.true (c.as_str.ensures ∙ c.name-item.is) inv.told read.goes inv.files read.bytes inv.total inv.small
    (c.saturating_add-total.ensures ∙ ap (λ n. min (c.loop-name.total + n) (2 ^ 64 - 1)) c.read_len.ensures) c.if-total-gt-MOST_BYTES.true

pub returns-clause-told : goal.returns-clause-told
returns-clause-told g c =
    let inv = c.loop-name.invariant in
    told-all (g.F.Folder.told c.args.folder.now) (g.F.Folder.told c.loop-name.folder) c.args.path.now c.args.names.now c.loop-name.name-index c.loop-name.files c.loop-name.total
    (omega (arith, c.loop-name.auto.name-index-end, c.loop-name-test.false)) inv.told inv.files inv.total inv.small
