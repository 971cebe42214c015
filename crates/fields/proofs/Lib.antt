pub mod Primality
pub mod Euclid
