use Rattle.std.proofs.Common.{sym, ◌∙◌, arith}
use Rattle.tablelines.proofs.ItemLaws.{of_nothing, of_layout, of_header, of_form, of_report, of_entry, of_row, told, no_more, some_more}
use Rattle.tablelines.proofs.item_by.Goals as goal

pub returns-then-is_empty : goal.returns-then-is_empty
returns-then-is_empty c = let z = no_more _ c.is_empty.ensures c.if-is_empty.true in sym (of_nothing _ _ _ _ (omega arith))

pub returns-then-same_word : goal.returns-then-same_word
returns-then-same_word c =
    let z = some_more _ c.is_empty.ensures c.if-is_empty.false in
    c.layout_item.ensures ∙ sym (of_layout _ _ _ _ (λ e. omega arith) (told c.same_word.ensures c.if-same_word.true))

pub returns-then-same_word-2 : goal.returns-then-same_word-2
returns-then-same_word-2 c =
    let z = some_more _ c.is_empty.ensures c.if-is_empty.false in
    c.header_item.ensures ∙ sym (of_header _ _ _ _ (λ e. omega arith) (told c.same_word.ensures c.if-same_word.false) (told c.same_word-2.ensures c.if-same_word-2.true))

pub returns-then-same_word-3 : goal.returns-then-same_word-3
returns-then-same_word-3 c =
    let z = some_more _ c.is_empty.ensures c.if-is_empty.false in
    c.plain_scope_item.ensures
    ∙ sym
    (of_form _ _ _ _ (λ e. omega arith) (told c.same_word.ensures c.if-same_word.false) (told c.same_word-2.ensures c.if-same_word-2.false)
    (told c.same_word-3.ensures c.if-same_word-3.true))

pub returns-then-same_word-4 : goal.returns-then-same_word-4
returns-then-same_word-4 c =
    let z = some_more _ c.is_empty.ensures c.if-is_empty.false in
    c.plain_scope_item-then-same_word-4.ensures
    ∙ sym
    (of_report _ _ _ _ (λ e. omega arith) (told c.same_word.ensures c.if-same_word.false) (told c.same_word-2.ensures c.if-same_word-2.false)
    (told c.same_word-3.ensures c.if-same_word-3.false) (told c.same_word-4.ensures c.if-same_word-4.true))

pub returns-then-same_word-5 : goal.returns-then-same_word-5
returns-then-same_word-5 c =
    let z = some_more _ c.is_empty.ensures c.if-is_empty.false in
    c.entry_item.ensures
    ∙ sym
    (of_entry _ _ _ _ (λ e. omega arith) (told c.same_word.ensures c.if-same_word.false) (told c.same_word-2.ensures c.if-same_word-2.false)
    (told c.same_word-3.ensures c.if-same_word-3.false) (told c.same_word-4.ensures c.if-same_word-4.false) (told c.same_word-5.ensures c.if-same_word-5.true))

pub returns : goal.returns
returns c =
    let z = some_more _ c.is_empty.ensures c.if-is_empty.false in
    c.row_item.ensures
    ∙ sym
    (of_row _ _ _ _ (λ e. omega arith) (told c.same_word.ensures c.if-same_word.false) (told c.same_word-2.ensures c.if-same_word-2.false)
    (told c.same_word-3.ensures c.if-same_word-3.false) (told c.same_word-4.ensures c.if-same_word-4.false) (told c.same_word-5.ensures c.if-same_word-5.false))
