mod FileReads
mod LogCalls
