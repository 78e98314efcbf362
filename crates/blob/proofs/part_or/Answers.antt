-- The part, or nothing where the slice doesn't have it; and where that stands.
use native.Mathlib.Omega.{arith}
use Rattle.blob.proofs.PartLaws.{outside, inside, outside_at, inside-at}
use Rattle.blob.proofs.part_or.Goals as goal

pub returns-then-s-start : goal.returns-then-s-start
returns-then-s-start c =
    let a = c.args in record {
      result_value = outside a.s.now a.start a.length (omega arith);
      ref_ptr_value = outside_at a.s.now a.s.ref_ptr a.start a.length a.other.ref_ptr (omega arith);
    }

pub returns : goal.returns
returns c =
    let a = c.args in record {
      result_value = inside a.s.now a.start a.length (omega arith);
      ref_ptr_value = inside-at a.s.now a.s.ref_ptr a.start a.length a.other.ref_ptr (omega arith);
    }
