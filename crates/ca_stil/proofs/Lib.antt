mod Appending
mod CellLemmas
mod FitLemmas
mod PairLemmas
