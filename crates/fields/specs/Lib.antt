pub mod Primes
pub mod Fields
pub mod Modular
pub mod Scalars
pub mod Sizes
pub mod ScalarLaws
pub mod Residual
pub mod Inverses
