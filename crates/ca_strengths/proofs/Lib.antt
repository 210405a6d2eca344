mod NumberLemmas
mod RatioLemmas
mod ReadLemmas
mod AscendingLemmas
