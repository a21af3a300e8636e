pub mod AreaLemmas
pub mod RowLemmas
mod CutLemmas
mod KindLemmas
mod JoinLemmas
mod ListedLemmas
mod SharingLemmas
pub mod StandingLemmas
