use Rattle.std.proofs.Common.{arith}
use Rattle.rules.proofs.CodeTableLaws.{formed}
use Rattle.coderows.proofs.Scopes.{ScopeSought, missing_rows, listed-rows}
use Rattle.coderows.proofs.Lookup.{finds}
use Rattle.coderows.proofs.ScopeList.{listed-words}
use Rattle.coderows.proofs.scope_near.Goals as goal

pub returns-then-listed-gt-MOST_SCOPES : goal.returns-then-listed-gt-MOST_SCOPES
returns-then-listed-gt-MOST_SCOPES c = λ L. finds _ _ _ _ (λ F. absurd (omega (arith, (formed c.args.table.now F).few-scopes)))

pub returns-in_default : goal.returns-in_default
returns-in_default c = λ L.
    let sought : ScopeSought c.args.table.now c.args.scope_kind c.args.code c.u16_number-listed.result c.find_index.result =
    record { bytes = λ i. (c.type_inv.table i).fits; code_fits = omega arith; scopes-is = c.u16_number-listed.ensures.is; found = c.find_index.ensures.is L c.u16_number-listed.ensures.is } in
    finds _ _ _ _ (λ F. rw c.missing-in_default.ensures (missing_rows sought F c.in_default.is))

pub returns : goal.returns
returns c = λ L.
    let sought : ScopeSought c.args.table.now c.args.scope_kind c.args.code c.u16_number-listed.result c.find_index.result =
    record { bytes = λ i. (c.type_inv.table i).fits; code_fits = omega arith; scopes-is = c.u16_number-listed.ensures.is; found = c.find_index.ensures.is L c.u16_number-listed.ensures.is } in
    let words = listed-words L c.u16_number-listed.ensures.is c.in-Some.index (c.find_index.ensures.inside c.in-Some.index c.in-Some.is) (omega arith) in
    finds _ _ _ _ (λ F. rw (words.start, words.count) (listed-rows sought F c.in-Some.index c.in-Some.is))
