use Rattle.std.proofs.Common.{sym, refl, ◌∙◌, arith}
use Rattle.tablebreak.proofs.Turns.{told_broken, told_as, here, later, Counted, head-short, many-headers, many-scopes, contents-short, contents-there, next-is}
use Rattle.tablebreak.proofs.search.Goals as goal

pub returns-then-size-lt-HEADER_AT : goal.returns-then-size-lt-HEADER_AT
returns-then-size-lt-HEADER_AT c = told_broken (λ z. omega arith) c.broken.ensures (head-short c.args.table.now c.if-size-lt-HEADER_AT.true)

pub returns-then-headers-gt-MOST_HEADERS : goal.returns-then-headers-gt-MOST_HEADERS
returns-then-headers-gt-MOST_HEADERS c =
    told_broken (λ z. omega arith) c.broken-then-headers-gt-MOST_HEADERS.ensures
    (many-headers c.args.table.now c.if-size-lt-HEADER_AT.false c.byte_number-headers.ensures.is c.if-headers-gt-MOST_HEADERS.true)

pub returns-then-scopes-gt-MOST_SCOPES : goal.returns-then-scopes-gt-MOST_SCOPES
returns-then-scopes-gt-MOST_SCOPES c =
    told_broken (λ z. omega arith) c.broken-then-scopes-gt-MOST_SCOPES.ensures
    (many-scopes c.args.table.now c.if-size-lt-HEADER_AT.false c.byte_number-headers.ensures.is c.if-headers-gt-MOST_HEADERS.false c.u16_number-scopes.ensures.is c.if-scopes-gt-MOST_SCOPES.true)

pub returns-then-size-bodies : goal.returns-then-size-bodies
returns-then-size-bodies c =
    let n : Counted c.args.table.now c.byte_number-headers.result c.u16_number-scopes.result = record {
      head = c.if-size-lt-HEADER_AT.false;
      headers-are = c.byte_number-headers.ensures.is;
      few = c.if-headers-gt-MOST_HEADERS.false;
      scopes-are = c.u16_number-scopes.ensures.is;
      some = c.if-scopes-gt-MOST_SCOPES.false;
    } in
    told_broken (λ z. omega arith) c.broken-then-size-bodies.ensures (contents-short n c.if-size-bodies.true)

pub returns-in-Some : goal.returns-in-Some
returns-in-Some c =
    let n : Counted c.args.table.now c.byte_number-headers.result c.u16_number-scopes.result = record {
      head = c.if-size-lt-HEADER_AT.false;
      headers-are = c.byte_number-headers.ensures.is;
      few = c.if-headers-gt-MOST_HEADERS.false;
      scopes-are = c.u16_number-scopes.ensures.is;
      some = c.if-scopes-gt-MOST_SCOPES.false;
    } in
    let h = c.in-Some.ensures in
    record { is = sym (contents-there n c.if-size-bodies.false h.is ∙ here c.in-Some.found _ h.some); some = h.some }

pub scope_break-requires : goal.scope_break-requires
scope_break-requires c = omega (arith, c.if-headers-gt-MOST_HEADERS.false, c.if-scopes-gt-MOST_SCOPES.false)

pub returns-in-Some-scope_break : goal.returns-in-Some-scope_break
returns-in-Some-scope_break c =
    let n : Counted c.args.table.now c.byte_number-headers.result c.u16_number-scopes.result = record {
      head = c.if-size-lt-HEADER_AT.false;
      headers-are = c.byte_number-headers.ensures.is;
      few = c.if-headers-gt-MOST_HEADERS.false;
      scopes-are = c.u16_number-scopes.ensures.is;
      some = c.if-scopes-gt-MOST_SCOPES.false;
    } in
    let s = c.in-Some-scope_break.ensures in
    record {
      is = sym (contents-there n c.if-size-bodies.false (sym c.in_default.ensures) ∙ later _ _ refl ∙ next-is _ s.is ∙ here c.in-Some-scope_break.found _ s.some);
      some = s.some;
    }

pub body_break-requires : goal.body_break-requires
body_break-requires c =
    let h = c.byte_number-headers.ensures.is in
    let s = c.u16_number-scopes.ensures.is in
    record {
      contents-are = omega (arith, h);
      bodies_are = omega (arith, h, s);
      scopes-are = s;
      few = c.if-scopes-gt-MOST_SCOPES.false;
      there = c.if-size-bodies.false;
      short = c.requires;
    }

pub returns : goal.returns
returns c =
    let n : Counted c.args.table.now c.byte_number-headers.result c.u16_number-scopes.result = record {
      head = c.if-size-lt-HEADER_AT.false;
      headers-are = c.byte_number-headers.ensures.is;
      few = c.if-headers-gt-MOST_HEADERS.false;
      scopes-are = c.u16_number-scopes.ensures.is;
      some = c.if-scopes-gt-MOST_SCOPES.false;
    } in
    told_as _
    (contents-there n c.if-size-bodies.false (sym c.in_default.ensures) ∙ later _ _ refl ∙ next-is _ (sym c.in_default-scope_break.ensures) ∙ later _ _ refl)
    c.body_break.ensures
