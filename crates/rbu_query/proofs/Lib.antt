mod Lines
mod Records
mod Answering
mod Loans
mod CatalogAnswers
mod CheckAnswers
