use Rattle.csv2000.proofs.RunRoom.{node_done}
use Rattle.csv2000.proofs.node_left.Goals as goal

pub run_left-requires : goal.run_left-requires
run_left-requires c =
    rw c.find-body.ensures.same
    (record { small = c.requires.known.small; sorted = c.find-body.ensures.rows.sorted c.requires.known.formed; there = c.requires.there; lent = c.requires.lent })

pub returns : goal.returns
returns c = record {
  same = c.find-body.ensures.same;
  left = node_done c.requires c.args.n c.args.all c.u16_at-entry_type.ensures c.find-body.ensures.rows c.is_report.ensures (rw c.find-body.ensures.same at c.type_code.ensures) c.owner_size-owner.ensures
      (rw c.find-body.ensures.same at c.run_left.ensures);
}
