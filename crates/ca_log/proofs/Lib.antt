mod NumberLemmas
mod FieldLemmas
mod LookupLemmas
mod LogLemmas
mod KeptLemmas
