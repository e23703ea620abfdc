use Rattle.std.proofs.Common.{false, Some, sym, ap, ◌∙◌, map}
use Rattle.std.specs.Prelude.{string_bytes}
use Rattle.serde_json.specs.Written.{compact_text, members_text}
use Rattle.lsp_wire.specs.declared.types.Symbol.{out-Symbol}
use Rattle.lsp_wire.specs.Written.{symbol_data, symbol_members}
use Rattle.lsp_wire.proofs.Texts.{so_far-more, single_from, nested_from, symbol_nested, symbol_single}
use Rattle.lsp_wire.proofs.symbols.+symbols.Goals as goal

pub symbols_text-symbols-preserved : goal.symbols_text-symbols-preserved
symbols_text-symbols-preserved t c =
    so_far-more symbol_data c.args.symbols.now c.symbols.symbol-index c.symbol-item.result c.symbols.later (string_bytes c.symbols.text) (string_bytes c.push_item.new.text) c.as_str.result.now c.symbols-test.true (c.as_str.ensures.value ∙ c.in_ok-item.ensures ∙ ap (λ x. compact_text (symbol_data x)) c.symbol-item.is) c.in_ok-push_item.ensures c.symbols.invariant

pub symbol_text-returns-in-Some : goal.symbol_text-returns-in-Some
symbol_text-returns-in-Some t c =
    let s = out-Symbol c.args.symbol.now in let inside = map symbol_data c.as_slice.result.now in
    nested_from inside s.name s.kind s.area s.name_area (string_bytes c.in_ok-text-in-Some.text) c.as_str.result.now c.as_str-in-Some.result.now (c.as_str.ensures.value ∙ c.in_ok-children-in-Some.ensures)
    (c.as_str-in-Some.ensures.value ∙ c.in_ok-members.ensures ∙ ap (λ n. members_text false (symbol_members n s.kind s.area s.name_area)) c.as_str-name.ensures) c.in_ok-text-in-Some.ensures
    ∙ ap compact_text (sym (symbol_nested c.args.symbol.now c.as_slice.result.now (c.in-Some.is ∙ ap Some (sym c.as_slice.ensures))))

pub symbol_text-returns : goal.symbol_text-returns
symbol_text-returns t c =
    let s = out-Symbol c.args.symbol.now in
    single_from s.name s.kind s.area s.name_area (string_bytes c.in_ok-text-in-None.text) c.as_str-in-None.result.now
    (c.as_str-in-None.ensures.value ∙ c.in_ok-members.ensures ∙ ap (λ n. members_text false (symbol_members n s.kind s.area s.name_area)) c.as_str-name.ensures) c.in_ok-text-in-None.ensures
    ∙ ap compact_text (sym (symbol_single c.args.symbol.now c.in-None.is))
