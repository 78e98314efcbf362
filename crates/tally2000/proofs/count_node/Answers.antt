use Rattle.tally2000.proofs.RunLaws.{node-run, node_done}
use Rattle.tally2000.proofs.count_node.Goals as goal

pub count_run-end-requires : goal.count_run-end-requires
count_run-end-requires c = rw c.find-body.ensures.same (node-run c.requires c.u16_at-entry_type.ensures c.find-body.ensures.rows)

pub returns : goal.returns
returns c = record {
  same = c.find-body.ensures.same;
  counted = node_done c.requires c.u16_at-entry_type.ensures c.find-body.ensures.rows (rw c.find-body.ensures.same at c.count_run-end.ensures) c.is_report.ensures
      (rw c.find-body.ensures.same at c.type_code.ensures) c.count_type.ensures;
}
