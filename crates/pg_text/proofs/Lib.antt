pub mod Common
pub mod Verdict
pub mod OneFault
pub mod OneSolutionFault
pub mod FirstFaults
pub mod Numerals
pub mod WrittenReads
pub mod Exact
