use native.Mathlib.Omega.{arith}
use mathlib.Core.Path.{sym, ap, ◌∙◌}
use mathlib.Core.List.{List, ◌++◌}
use Prim.Native.Nat.{ℕ}
use Rattle.rules.specs.Lists.{text}
use Rattle.rules.specs.Bytes.{part}
use Rattle.rules.specs.Csv.{hex_text}
use Rattle.text.proofs.Chain.{nothing, ◌⨟◌, wrote_as}
use Rattle.showtext.specs.Shown.{cut_mark}
use Rattle.showtext.proofs.ShownLaws.{no_bytes, some_bytes}
use Rattle.showtext.proofs.put_first.Goals as goal

pub returns-then-size-eq0 : goal.returns-then-size-eq0
returns-then-size-eq0 c =
    let a = c.args in
    wrote_as nothing (sym (no_bytes a.size a.stream.now a.start (omega arith)))

pub returns : goal.returns
returns c =
    let a = c.args in
    wrote_as (c.put_byte-p.ensures ⨟ c.put_hexes-p.ensures ⨟ c.put_cut.ensures)
    (ap (λ (l : List ℕ). text " " ++ (hex_text l ++ cut_mark a.size)) (c.value_bytes.ensures ∙ ap (λ (n : ℕ). part a.stream.now a.start n) c.min.ensures)
    ∙ sym (some_bytes a.size a.stream.now a.start (λ e. omega arith)))
