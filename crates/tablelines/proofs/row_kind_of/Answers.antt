use Rattle.std.proofs.Common.{sym, ap}
use Rattle.tablelines.specs.Items.{below}
use Rattle.tablelines.proofs.ItemLaws.{a_number, a_text, a_guid, a_double, some_bytes, no_kind, told}
use Rattle.tablelines.proofs.row_kind_of.Goals as goal

pub returns-then-same_word : goal.returns-then-same_word
returns-then-same_word c = ap (below 5) (sym (a_number _ (told c.same_word.ensures c.if-same_word.true)))

pub returns-then-same_word-2 : goal.returns-then-same_word-2
returns-then-same_word-2 c =
    ap (below 5) (sym (a_text _ (told c.same_word.ensures c.if-same_word.false) (told c.same_word-2.ensures c.if-same_word-2.true)))

pub returns-then-same_word-3 : goal.returns-then-same_word-3
returns-then-same_word-3 c =
    ap (below 5)
    (sym
    (a_guid _ (told c.same_word.ensures c.if-same_word.false) (told c.same_word-2.ensures c.if-same_word-2.false)
    (told c.same_word-3.ensures c.if-same_word-3.true)))

pub returns-then-same_word-4 : goal.returns-then-same_word-4
returns-then-same_word-4 c =
    ap (below 5)
    (sym
    (a_double _ (told c.same_word.ensures c.if-same_word.false) (told c.same_word-2.ensures c.if-same_word-2.false)
    (told c.same_word-3.ensures c.if-same_word-3.false) (told c.same_word-4.ensures c.if-same_word-4.true)))

pub returns-then-same_word-5 : goal.returns-then-same_word-5
returns-then-same_word-5 c =
    ap (below 5)
    (sym
    (some_bytes _ (told c.same_word.ensures c.if-same_word.false) (told c.same_word-2.ensures c.if-same_word-2.false)
    (told c.same_word-3.ensures c.if-same_word-3.false) (told c.same_word-4.ensures c.if-same_word-4.false) (told c.same_word-5.ensures c.if-same_word-5.true)))

pub returns : goal.returns
returns c =
    ap (below 5)
    (sym
    (no_kind _ (told c.same_word.ensures c.if-same_word.false) (told c.same_word-2.ensures c.if-same_word-2.false)
    (told c.same_word-3.ensures c.if-same_word-3.false) (told c.same_word-4.ensures c.if-same_word-4.false) (told c.same_word-5.ensures c.if-same_word-5.false)))
