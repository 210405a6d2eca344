pub mod DefectLemmas
