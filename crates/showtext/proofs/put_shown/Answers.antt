use mathlib.Core.Path.{ap}
use Rattle.rules.specs.Listing.{value_column}
use Rattle.text.proofs.Chain.{◌⨟◌, wrote_as}
use Rattle.text.proofs.Arms.{past, last_arm}
use Rattle.showtext.specs.Shown.{quoted, loose_text, shown_values, value_by}
use Rattle.showtext.proofs.ShownLaws.{a_value}
use Rattle.showtext.proofs.put_shown.Goals as goal

pub returns-in-0 : goal.returns-in-0
unfolding value_column
returns-in-0 c =
    a_value 0 c.in-0.is _ _ _ _ _ c.put_value.ensures

pub returns-in-1 : goal.returns-in-1
returns-in-1 c =
    let p = c.args.p in
    a_value 1 c.in-1.is c.args.stream.now p.value.low p.value.high p.start p.size c.put_text.ensures

pub returns-in-2 : goal.returns-in-2
unfolding value_column
returns-in-2 c =
    a_value 2 c.in-2.is _ _ _ _ _ c.put_value-in-2.ensures

pub returns-in-3 : goal.returns-in-3
unfolding value_column
returns-in-3 c =
    a_value 3 c.in-3.is _ _ _ _ _ c.put_value-in-3.ensures

pub returns-in-4 : goal.returns-in-4
unfolding value_column
returns-in-4 c =
    let p = c.args.p in
    a_value 4 c.in-4.is c.args.stream.now p.value.low p.value.high p.start p.size (c.put_text-q.ensures ⨟ c.put_value-in-4.ensures)

pub returns-in-5 : goal.returns-in-5
unfolding value_column
returns-in-5 c =
    a_value 5 c.in-5.is _ _ _ _ _ c.put_value-in-5.ensures

pub returns-in-6 : goal.returns-in-6
returns-in-6 c =
    let p = c.args.p in
    a_value 6 c.in-6.is c.args.stream.now p.value.low p.value.high p.start p.size (wrote_as c.put_quoted.ensures (ap quoted c.value_bytes.ensures))

pub returns-in-7 : goal.returns-in-7
returns-in-7 c =
    let p = c.args.p in
    a_value 7 c.in-7.is c.args.stream.now p.value.low p.value.high p.start p.size (c.put_text-q-in-7.ensures ⨟ c.put_bytes.ensures)

pub returns-in_default : goal.returns-in_default
unfolding value_by
returns-in_default c =
    let s = c.args.stream.now in
    let p = c.args.p in
    last_arm p.value.mark (shown_values s p.value.low p.value.high p.start p.size) (loose_text s p.start p.size) (past 8 _ c.in_default.in_default-own.rest) c.put_loose.ensures
