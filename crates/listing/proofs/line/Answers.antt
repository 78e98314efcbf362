use Rattle.listing.proofs.line.Goals as goal

pub returns-in-Control : goal.returns-in-Control
returns-in-Control c = rw c.in-Control.is c.control_line.ensures

pub returns-in-Property : goal.returns-in-Property
returns-in-Property c = rw c.in-Property.is c.property_line.ensures

pub returns-in-Info : goal.returns-in-Info
returns-in-Info c = rw c.in-Info.is c.info_line.ensures
