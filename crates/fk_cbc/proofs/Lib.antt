mod KeyLemmas
mod ChainLemmas
mod PaddingLemmas
pub mod SealLemmas
mod Examples
pub mod OpenLemmas
pub mod SealedBytes
