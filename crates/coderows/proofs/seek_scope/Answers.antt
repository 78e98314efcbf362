use Rattle.std.proofs.Common.{◌+◌, ◌*◌, ◌/◌, ◌≡◌, sym, ap, arith}
use Rattle.rules.specs.Told.{told}
use Rattle.coderows.specs.Look.{key_at}
use Rattle.coderows.proofs.Halves.{Turn, hit, not_there, go_up, go_down}
use Rattle.coderows.proofs.seek_scope.Goals as goal

pub returns-then-key-wanted : goal.returns-then-key-wanted
returns-then-key-wanted c =
    let turn : Turn (λ i. i) (key_at c.args.table.now c.args.contents) 1 0 c.args.n c.args.wanted c.loop-scopes.first c.loop-scopes.scopes (c.loop-scopes.scopes / 2) (c.loop-scopes.first + c.loop-scopes.scopes / 2) (c.byte_number.result * 65536 + c.u16_number.result) =
    record { so_far = c.loop-scopes.invariant.narrowed; fits = omega arith; middle = omega arith; reads = omega arith } in
    record {
      is = λ a. ap told (sym (hit turn c.if-key-wanted.true a));
      inside = λ i e.
          let q : c.loop-scopes.first + c.loop-scopes.scopes / 2 ≡ i = cc in
          omega arith;
    }

pub loop-scopes-preserved-then-key-wanted-2 : goal.loop-scopes-preserved-then-key-wanted-2
loop-scopes-preserved-then-key-wanted-2 c =
    let turn : Turn (λ i. i) (key_at c.args.table.now c.args.contents) 1 0 c.args.n c.args.wanted c.loop-scopes.first c.loop-scopes.scopes (c.loop-scopes.scopes / 2) (c.loop-scopes.first + c.loop-scopes.scopes / 2) (c.byte_number.result * 65536 + c.u16_number.result) =
    record { so_far = c.loop-scopes.invariant.narrowed; fits = omega arith; middle = omega arith; reads = omega arith } in
    record { narrowed = go_up turn (omega arith); inside = omega arith }

pub loop-scopes-preserved : goal.loop-scopes-preserved
loop-scopes-preserved c =
    let turn : Turn (λ i. i) (key_at c.args.table.now c.args.contents) 1 0 c.args.n c.args.wanted c.loop-scopes.first c.loop-scopes.scopes (c.loop-scopes.scopes / 2) (c.loop-scopes.first + c.loop-scopes.scopes / 2) (c.byte_number.result * 65536 + c.u16_number.result) =
    record { so_far = c.loop-scopes.invariant.narrowed; fits = omega arith; middle = omega arith; reads = omega arith } in
    record { narrowed = go_down turn (omega arith); inside = omega arith }

pub returns : goal.returns
returns c = record { is = λ a. ap told (sym (not_there c.loop-scopes.invariant.narrowed (omega arith) a)); inside = λ i e. cc }
