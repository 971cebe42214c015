pub mod Grammar
pub mod Tables
pub mod Faults
pub mod Views
pub mod Texts
pub mod ReaderSteps
pub mod WriterSteps
