use Rattle.std.proofs.Common.{rules}
use Rattle.std.specs.BTreeMap.{values}
use Rattle.std.proofs.lemmas.Iterator.Consumers.{YieldsList-at, YieldsList-from_rest, sum_by_from_yields_List}
use Rattle.std.proofs.lemmas.Iterator.{YieldsList-from_map}
use Rattle.server_documents.specs.Held.{held_len}
use Rattle.server_documents.proofs.documents.byte_count.Goals as goal

pub returns : goal.returns
returns c =
    sum_by_from_yields_List held_len (values c.args.texts.now) c.map.result c.sum.result c.sum.ensures.ran
    (YieldsList-from_map _ held_len (YieldsList-at c.map.ensures.source (YieldsList-from_rest {shows = λ held. held.now} (values c.args.texts.now) c.values.ensures.rest)) c.map.ensures.closure (λ x r q k. search (rules)))
