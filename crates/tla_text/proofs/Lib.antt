mod LineLemmas
mod SpliceLemmas
mod PlaceLemmas
mod ColumnLemmas
mod FurtherLemmas
mod OffsetLemmas
