pub mod BridgeLemmas
