-- The part by the mark: its bytes and its place.
use native.Mathlib.Omega.{arith}
use Rattle.std.proofs.Common.{◌∙◌, rules}
use Rattle.blob.proofs.PartLaws.{either, by-stream, by-label, by-none, at-stream, at_label, at_none}
use Rattle.blob.proofs.control_name.Goals as goal

pub returns-in-0 : goal.returns-in-0
returns-in-0 c =
    let a = c.args in
    let m = either a.mark c.in-0.is in
    record {
      result_value = c.part_or.ensures.result_value ∙ by-stream a.stream.now a.label.now a.start a.length a.mark m;
      place = c.part_or.ensures.ref_ptr_value ∙ at-stream a.stream.now a.label.now a.start a.length a.stream.ref_ptr a.label.ref_ptr a.mark m;
    }

pub returns-in-1 : goal.returns-in-1
returns-in-1 c =
    let a = c.args in record {
      result_value = c.part_or-in-1.ensures.result_value ∙ by-label a.stream.now a.label.now a.start a.length a.mark (omega arith);
      place = c.part_or-in-1.ensures.ref_ptr_value ∙ at_label a.stream.now a.label.now a.start a.length a.stream.ref_ptr a.label.ref_ptr a.mark (omega arith);
    }

pub returns-in_default : goal.returns-in_default
returns-in_default c =
    let a = c.args in record {
      result_value = by-none a.stream.now a.label.now a.start a.length a.mark (search rules) (search rules) (search rules);
      place = at_none a.stream.now a.label.now a.start a.length a.stream.ref_ptr a.label.ref_ptr a.mark (search rules) (search rules) (search rules);
    }
