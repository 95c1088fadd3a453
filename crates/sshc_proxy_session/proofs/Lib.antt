mod UserauthLemmas
mod WayLemmas
mod AnswerLemmas
mod RowLemmas
mod HistoryLemmas
