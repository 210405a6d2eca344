mod PortLemmas
mod NameLemmas
mod PlaceLemmas
mod ChainLemmas
mod SiteLemmas
mod FitLemmas
