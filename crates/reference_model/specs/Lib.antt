pub mod JobOutcomes
