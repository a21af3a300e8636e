pub mod EventsRead
pub mod HexRead
pub mod JournalsRead
pub mod WordsAfter
