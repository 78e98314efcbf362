-- What the walk that lists differences asks of its callers and leaves.
pub mod Listing
