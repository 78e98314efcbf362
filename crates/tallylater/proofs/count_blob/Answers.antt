use Rattle.tallylater.proofs.ReadLaws.{blob-tree-ready, blob-tree-done, blob-scan-ready, blob-scan-done}
use Rattle.tallylater.proofs.count_blob.Goals as goal

pub count_tree-requires : goal.count_tree-requires
count_tree-requires c = blob-tree-ready c.requires c.count_group-g.ensures c.if-tree.true

pub count_scanned-requires : goal.count_scanned-requires
count_scanned-requires c = blob-scan-ready c.requires c.count_group-g.ensures

pub returns-then-tree : goal.returns-then-tree
returns-then-tree c = blob-tree-done c.requires c.count_group-g.ensures c.if-tree.true c.count_tree.ensures

pub returns-else-tree : goal.returns-else-tree
returns-else-tree c = blob-scan-done c.requires c.count_group-g.ensures c.if-tree.false c.count_scanned.ensures
