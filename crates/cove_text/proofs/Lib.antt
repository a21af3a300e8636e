pub mod HexDigits
pub mod JoinedWords
pub mod Numerals
pub mod Splits
