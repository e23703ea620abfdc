use Rattle.std.proofs.Common.{refl}
use Rattle.std.specs.Str.{chars, is_utf8}
use Rattle.percent_encoding.specs.Percent.{percent_decode}
use Rattle.url.proofs.OnLiterals.{url_on_literals}
use Rattle.server_uris.proofs.laws.small_roots.Goals as goal

pub returns-clause-query : goal.returns-clause-query
unfolding url_on_literals percent_decode is_utf8 chars
returns-clause-query c = refl

pub returns-clause-twice : goal.returns-clause-twice
unfolding url_on_literals percent_decode is_utf8 chars
returns-clause-twice c = refl

pub returns-clause-decoded : goal.returns-clause-decoded
unfolding url_on_literals percent_decode is_utf8 chars
returns-clause-decoded c = refl

pub returns-clause-web : goal.returns-clause-web
unfolding url_on_literals percent_decode is_utf8 chars
returns-clause-web c = refl

pub returns-clause-document : goal.returns-clause-document
unfolding url_on_literals percent_decode is_utf8 chars
returns-clause-document c = refl
