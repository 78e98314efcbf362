use Rattle.std.proofs.Common.{◌≡◌, ◌*◌, get_or, sym, ap, arith}
use Rattle.rules.specs.CodeTable.{contents_at}
use Rattle.rules.specs.Told.{told}
use Rattle.coderows.specs.Look.{key_at}
use Rattle.coderows.proofs.Halves.{begin, Turn, hit}
use Rattle.coderows.proofs.ScopeList.{listed-words}
use Rattle.coderows.proofs.find_index.Goals as goal

pub returns-then-scopes-near : goal.returns-then-scopes-near
returns-then-scopes-near c = record {
  is = λ L e a.
      let turn : Turn (λ i. i) (key_at c.args.table.now (contents_at c.args.table.now)) 1 0 c.args.n c.args.wanted 0 c.args.n c.args.near c.args.near (get_or c.args.scopes.now (3 * c.args.near) 0) =
      record { so_far = begin (λ i. i) _ 1 0 _ _; fits = omega arith; middle = omega arith; reads = (listed-words L e c.args.near (omega arith) (omega arith)).key } in
      ap told (sym (hit turn (omega arith) a));
  inside = λ i e.
      let q : c.args.near ≡ i = cc in
      omega arith;
}

pub returns : goal.returns
returns c = record { is = λ L e. rw (← c.byte_number.ensures.is) c.seek_scope.ensures.is; inside = c.seek_scope.ensures.inside }
