use Rattle.std.proofs.Common.{sym, ◌∙◌, arith}
use Rattle.codetable.proofs.Steps.{formed-headers, formed-scopes, formed_codes, formed-rest}
use Rattle.codetable.proofs.well_formed.Goals as goal

pub returns-then-headers-gt-MOST_HEADERS : goal.returns-then-headers-gt-MOST_HEADERS
returns-then-headers-gt-MOST_HEADERS c =
    sym (formed-headers (record { headers-is = c.byte_number-headers.ensures.is; scopes-is = c.u16_number-scopes.ensures.is }) (omega arith))

pub returns-then-scopes-gt-MOST_SCOPES : goal.returns-then-scopes-gt-MOST_SCOPES
returns-then-scopes-gt-MOST_SCOPES c =
    sym (formed-scopes (record { headers-is = c.byte_number-headers.ensures.is; scopes-is = c.u16_number-scopes.ensures.is }) (omega arith) (omega arith))

pub returns-then-not-codes_ascend : goal.returns-then-not-codes_ascend
returns-then-not-codes_ascend c =
    sym (formed_codes (record { headers-is = c.byte_number-headers.ensures.is; scopes-is = c.u16_number-scopes.ensures.is }) (omega arith) (omega arith) (sym c.if-not-codes_ascend.ensures))

pub returns : goal.returns
returns c =
    c.scopes_fit.ensures ∙ sym (formed-rest (record { headers-is = c.byte_number-headers.ensures.is; scopes-is = c.u16_number-scopes.ensures.is }) (omega arith) (omega arith) (sym c.if-not-codes_ascend.ensures))
