mod FitLemmas
mod TextLemmas
mod WriteLemmas
