mod FitLemmas
mod TextLemmas
