use Rattle.csvlater.proofs.Whole.{blob-tree-ready, blob-tree-done, blob-scan-ready, blob-scan-done}
use Rattle.csvlater.proofs.blob_left.Goals as goal

pub tree_left-requires : goal.tree_left-requires
tree_left-requires c = blob-tree-ready c.requires c.owner_size-owner.ensures c.group_left-g.ensures c.if-tree.true

pub returns-then-tree : goal.returns-then-tree
returns-then-tree c = blob-tree-done c.requires c.owner_size-owner.ensures c.group_left-g.ensures c.if-tree.true c.tree_left.ensures

pub scanned_left-requires : goal.scanned_left-requires
scanned_left-requires c = blob-scan-ready c.requires c.owner_size-owner.ensures c.group_left-g.ensures c.if-tree.false

pub returns : goal.returns
returns c = blob-scan-done c.requires c.owner_size-owner.ensures c.group_left-g.ensures c.if-tree.false c.scanned_left.ensures
