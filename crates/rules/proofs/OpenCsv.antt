-- Comma-separated text, written and read.
use Prim.Native.Nat.{ℕ}
use Rattle.rules.specs.Utf8.{utf8_of, utf8}
use Rattle.rules.specs.Csv as csv
use Rattle.rules.proofs.Open.{rules_open}

unfoldable pub csv_open : ℕ
unfolding rules_open utf8_of utf8 csv.is_data csv.all_fields csv.doubled csv.field_text csv.record_text csv.sheet_text csv.quotes_in csv.field_length csv.record_length csv.sheet_length csv.header csv.or_id csv.hex_text csv.value_text csv.property_record csv.property_records csv.control_records csv.sheet_of csv.csv_of csv.countable csv.csv_exit csv.field_end csv.step csv.at_end csv.read_from csv.fields_of csv.spans_from csv.fields_exit
csv_open = 0
