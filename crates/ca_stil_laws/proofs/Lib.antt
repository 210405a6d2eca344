mod ListLemmas
mod SymbolLemmas
mod NameLemmas
mod PortLemmas
mod ChipLemmas
pub mod ValueLemmas
