-- The bytes by the words of the slice.
use native.Mathlib.Omega.{arith}
use Rattle.std.proofs.Common.{refl}
use Rattle.panel.proofs.NameLaws.{start_is, size_is, bytes_are}
use Rattle.panel.proofs.Reading.name_of.Goals as goal

pub slice_bounds-result-end : goal.slice_bounds-result-end
slice_bounds-result-end c =
    let r = c.args.self in
    omega (arith, c.requires.inside c.args.n (omega arith), start_is r.stream.now r.controls.now c.args.n, size_is r.stream.now r.controls.now c.args.n)

pub returns : goal.returns
returns c = bytes_are c.args.self.stream.now c.args.self.controls.now c.args.n _ _ refl refl
