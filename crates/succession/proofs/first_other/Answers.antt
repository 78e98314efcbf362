use Rattle.succession.proofs.first_other.Goals as goal

pub scopes_other-requires : goal.scopes_other-requires
scopes_other-requires c = record { listed = c.list_scopes.ensures; formed = c.requires }
