pub mod CertifiedUpTo
pub mod Passing
pub mod Going
