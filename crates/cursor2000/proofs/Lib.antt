-- That a walk by steps goes over the entries that the definition reads.
pub mod StepLaws
pub mod Skipping
