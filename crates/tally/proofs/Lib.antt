-- Laws of counting place by place, for the crates that count a layout and for the one that adds.
pub mod BumpLaws
pub mod TypeTable
pub mod TypeLaws
pub mod Walk
