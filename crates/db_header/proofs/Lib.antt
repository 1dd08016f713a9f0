mod Answering
mod PageSizes
mod Putting
