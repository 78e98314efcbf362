use mathlib.Core.Path.{sym}
use Rattle.text.proofs.Chain.{wrote_as}
use Rattle.showtext.proofs.ShownLaws.{named, quote-named, backslash_named, feed_named, return_named, tab_named, other}
use Rattle.showtext.proofs.put_spelled.Goals as goal

pub returns-in-34 : goal.returns-in-34
returns-in-34 c = named 0x22 _ quote-named c.in-34.is c.put_text.ensures

pub returns-in-92 : goal.returns-in-92
returns-in-92 c = named 0x5C _ backslash_named c.in-92.is c.put_text-in-92.ensures

pub returns-in-10 : goal.returns-in-10
returns-in-10 c = named 0x0A _ feed_named c.in-10.is c.put_text-in-10.ensures

pub returns-in-13 : goal.returns-in-13
returns-in-13 c = named 0x0D _ return_named c.in-13.is c.put_text-in-13.ensures

pub returns-in-9 : goal.returns-in-9
returns-in-9 c = named 0x09 _ tab_named c.in-9.is c.put_text-in-9.ensures

pub returns-in_default : goal.returns-in_default
returns-in_default c =
    wrote_as c.put_written.ensures (sym (other _ c.in_default.in_default-own.rest))
