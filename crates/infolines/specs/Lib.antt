-- What the writers of a TypeInfo stream's listing say.
pub mod Infos
