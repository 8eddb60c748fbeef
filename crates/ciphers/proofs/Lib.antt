mod Published
mod SpeckRounds
