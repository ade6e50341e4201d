pub mod Counting
pub mod Report
pub mod Tickets
pub mod TicketFields
pub mod KnownRegions
pub mod Outcomes
pub mod private
