pub mod CertText
pub mod CertFault
pub mod Laws
pub mod code
