use Rattle.later.proofs.ReadLaws.{blob-tree-ready, blob-tree-done, blob-scan-ready, blob-scan-done}
use Rattle.later.proofs.write_blob.Goals as goal

pub write_tree-requires : goal.write_tree-requires
write_tree-requires c = blob-tree-ready c.requires c.write_group-w.ensures c.if-tree.true

pub write_scanned-requires : goal.write_scanned-requires
write_scanned-requires c = blob-scan-ready c.requires c.write_group-w.ensures c.if-tree.false

pub returns-then-tree : goal.returns-then-tree
returns-then-tree c = blob-tree-done c.requires c.write_group-w.ensures c.if-tree.true c.write_tree.ensures

pub returns-else-tree : goal.returns-else-tree
returns-else-tree c = blob-scan-done c.requires c.write_group-w.ensures c.if-tree.false c.write_scanned.ensures
