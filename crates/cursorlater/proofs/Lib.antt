-- That a walk by steps goes over the nodes that the definition reads.
pub mod StepLaws
