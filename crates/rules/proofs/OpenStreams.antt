-- Both layouts of a Blob: to a tree or a scan, to a reading, to its answer and rows.
use Prim.Native.Nat.{ℕ}
use Rattle.rules.specs.Tree.{many_at, levels_at, reported, preorder1, preorder, nodes_of}
use Rattle.rules.specs.Access2000 as old
use Rattle.rules.specs.Later as new
use Rattle.rules.specs.Reading.{properties, control_row, control_rows_from, control_rows, property_rows}
use Rattle.rules.specs.Read2000 as read2000
use Rattle.rules.specs.ReadLater as read_later_lem
use Rattle.rules.specs.Blob.{is2000, reading_of, outcome, exit, outcome2000, exit2000, outcome_later, exit_later, spots}
use Rattle.rules.proofs.OpenBytes.{bytes_open}
use Rattle.rules.proofs.OpenTexts.{texts_open}
use Rattle.rules.proofs.OpenTables.{tables_open}

unfoldable pub trees_open : ℕ
unfolding many_at levels_at reported preorder1 preorder nodes_of old.length_at old.extent_at old.property_at old.goes_on_lem old.run_of old.run_at old.head_at_lem old.close_at old.entry_at old.entries_at old.stream_of new.property_at new.is_inside new.group_of new.group_at new.children_at new.node_at new.nodes_at new.tree_of new.match_at new.matches_of new.matches_from new.groups_of new.scan_from new.later_of_lem
trees_open = 0

unfoldable pub readings_open : ℕ
unfolding properties control_row control_rows_from control_rows property_rows read2000.is_report read2000.object_key read2000.property_in read2000.type_code read2000.name_of read2000.control_of read2000.read2000 read2000.spots_of read_later_lem.property_of read_later_lem.name_of read_later_lem.scanned_name read_later_lem.control_of read_later_lem.read_later_lem is2000 reading_of outcome exit outcome2000 exit2000 outcome_later exit_later spots
readings_open = 0

unfoldable pub blob_open : ℕ
unfolding bytes_open texts_open tables_open trees_open readings_open
blob_open = 0
