-- Each content is one message.
use Rattle.std.proofs.Common.{◌≡◌, ℕ, cond, List, Option, Some, None, inl, inr, refl, sym, ap, ◌∙◌, ⊎_elim}
use Rattle.std.specs.Prelude.{IsUtf8}
use Rattle.std.specs.Str.{is_utf8}
use Rattle.std.proofs.lemmas.Bool.{cond_both, false≢true}
use Rattle.std.proofs.lemmas.Str.{IsUtf8-from_is_utf8, is_utf8-from_IsUtf8}
use Rattle.serde_json.specs.Data.{Data}
use Rattle.serde_json.specs.Read.{read}
use Rattle.lsp_wire.specs.declared.types.Id.TheVariants.{Null}
use Rattle.lsp_wire.specs.declared.types.Incoming.{Incoming}
use Rattle.lsp_wire.specs.declared.types.Incoming.TheVariants.{Invalid}
use Rattle.lsp_wire.specs.Errors.{parse_error}
use Rattle.lsp_wire.specs.Messages.{IsRead, IsMessage, read_as, message_in}

abbrev unread : Incoming
unread = Invalid parse_error Null

by_read : (content : List ℕ) → IsUtf8 content → (found : Option Data) → read content ≡ found → IsMessage content (read_as found)
by_read content utf8 None e = inr (λ u. e, refl)
by_read content utf8 (Some value) e = inl (record { value = value; utf8 = utf8; reads = e; is = refl })

pub is_message : (content : List ℕ) → IsMessage content (message_in content)
is_message content =
    cond_both (is_utf8 content) (read_as (read content)) unread (IsMessage content)
    (λ t. by_read content (IsUtf8-from_is_utf8 content t) (read content) refl)
    (λ f. inr (λ u. absurd (false≢true (sym f ∙ is_utf8-from_IsUtf8 content u)), refl))

was_read : (content : List ℕ) (message : Incoming) → IsRead content message → message ≡ message_in content
was_read content message r =
    r.is ∙ sym (ap (λ b. cond b (read_as (read content)) unread) (is_utf8-from_IsUtf8 content r.utf8) ∙ ap read_as r.reads)

was_not : (content : List ℕ) (message : Incoming) → (IsUtf8 content → read content ≡ None) → message ≡ unread → message ≡ message_in content
was_not content message none is =
    cond_both (is_utf8 content) (read_as (read content)) unread (λ m. message ≡ m)
    (λ t. is ∙ sym (ap read_as (none (IsUtf8-from_is_utf8 content t)))) (λ f. is)

pub no_other : (content : List ℕ) (message : Incoming) → IsMessage content message → message ≡ message_in content
no_other content message m =
    ⊎_elim (λ r. was_read content message r) (λ n. was_not content message n.0 n.1) m
