mod FramesLemmas
mod HeadersLemmas
mod ReadingLemmas
mod SumsLemmas
