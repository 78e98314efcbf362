use Rattle.std.proofs.Common.{arith}
use Rattle.node2000.proofs.NodeLaws.{node-inside, node-run-ready, node-rows, node-row-room, node_done}
use Rattle.node2000.proofs.put_node.Goals as goal

pub overflow_add-from : goal.overflow_add-from
overflow_add-from c = omega (arith, node-inside c.requires)

pub properties-own-requires : goal.properties-own-requires
properties-own-requires c = node-run-ready c.requires c.u16_at-entry_type.ensures (c.find_scope-body.ensures c.requires.ready.known.listed) c.name_id.ensures

pub overflow_cast-own : goal.overflow_cast-own
overflow_cast-own c =
    omega (arith, node-rows c.requires c.u16_at-entry_type.ensures (c.find_scope-body.ensures c.requires.ready.known.listed) c.name_id.ensures c.properties-own.ensures)

pub put_control-requires : goal.put_control-requires
put_control-requires c = node-row-room c.requires

pub returns : goal.returns
returns c =
    node_done c.requires c.u16_at-entry_type.ensures (c.find_scope-body.ensures c.requires.ready.known.listed) c.name_id.ensures c.properties-own.ensures c.is_report.ensures c.type_code.ensures c.control_row-row.ensures c.put_control.ensures
