-- What the search in solitaire subgames keeps.
pub mod Solitaire
pub mod Leading
