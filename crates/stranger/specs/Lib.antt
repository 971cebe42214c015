pub mod Multiples
pub mod Joined
pub mod MultiplesLaws
pub mod Numbers
