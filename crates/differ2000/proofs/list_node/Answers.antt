use Rattle.differ2000.proofs.RunLaws.{node-run, node_done}
use Rattle.differ2000.proofs.list_node.Goals as goal

pub list_run-requires : goal.list_run-requires
list_run-requires c = rw (c.find.ensures.same, c.find-2.ensures.same) (node-run c.requires c.u16_at-code.ensures c.find.ensures.rows c.find-2.ensures.rows)

pub returns : goal.returns
returns c = record {
  same = record { older-same = c.find.ensures.same; newer-same = c.find-2.ensures.same };
  listed = node_done c.requires c.u16_at-code.ensures c.find.ensures.rows c.find-2.ensures.rows (rw (c.find.ensures.same, c.find-2.ensures.same) at c.list_run.ensures);
}
