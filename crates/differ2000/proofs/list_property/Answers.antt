use Rattle.differ2000.proofs.PropertyLaws.{property-tied, property-untied}
use Rattle.differ2000.proofs.list_property.Goals as goal

pub list_untied-requires : goal.list_untied-requires
list_untied-requires c = record { stored = c.requires.stored; formed = c.requires.found.tables.newer-formed; newer-rows = c.requires.found.newer-rows }

pub returns-in-Some : goal.returns-in-Some
returns-in-Some c = property-tied c.requires.found _ _ c.args.p c.find_row.ensures _ c.in-Some.is

pub returns-in-None : goal.returns-in-None
returns-in-None c = property-untied c.requires.found _ _ c.args.p c.find_row.ensures _ _ _ c.in-None.is c.list_untied.ensures
